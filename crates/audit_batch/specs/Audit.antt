-- Which checks of a batch proof are asked where all that fail are to be named, and what is named. After `verify_batch` of Plonky3's p3-batch-stark, whose
-- checks in order `checks` lists.
use Rattle.std.specs.Prelude.{◌≡◌, ℕ, zero, suc, Bool, true, is_some, List, [], ◌∷◌, ◌++◌, length, Option}
use Rattle.std.specs.Option.{unwrap_or}
use Rattle.p3_field.specs.Checks.{check}
use Rattle.batch_transcript.specs.declared.failure.BatchTranscriptFailure.TheVariants.{LookupPowWitness, MissingLookupPowWitness, NonCanonicalLookupPowWitness}
use Rattle.batch_config.specs.Setting.{Setting, Backend}
use Rattle.batch_statement.specs.Proof.{ProofData}
use Rattle.batch_statement.specs.Statement.{Statement}
use Rattle.batch_statement.specs.declared.error.BatchVerificationError.{BatchVerificationError}
use Rattle.batch_statement.specs.declared.error.BatchVerificationError.TheVariants.{Transcript}
use Rattle.verifier_draws.specs.Draws.{lookup_grinding, ood_grinding, script_shape}
use Rattle.verifier_claims.specs.Claims.{claims, matrix_tables}
use Rattle.verifier_batch.specs.OpeningChecks.{claimed, domain_checks, metadata_check, opens_check, shape_bounds_of}
use Rattle.verifier_identity.specs.TableIdentity.{terminal_check}
use Rattle.verifier_batch.specs.BatchChecks.{all_lookup_challenges, domains_of, drawn_of, identities_at}
use Rattle.audit_batch.specs.Asked.{AreNamed, Asked, always, only}
use Rattle.audit_batch.specs.Parts.{Parts, all_asked}
use Rattle.audit_batch.specs.Shape.{shape_parts}

-- the grinding value before the lookups' pair: where one is missing, nothing else is asked of it
abbrev pub lookup_asked : {F R : Type 0} → (z : F) → (tables bits : ℕ) → Option F → (passed : Bool) → List (Asked (BatchVerificationError R))
lookup_asked z zero bits w passed = always (lookup_grinding z zero bits w passed)
lookup_asked z (suc n) bits w passed =
    always (check (Transcript (MissingLookupPowWitness bits)) (is_some w ≡ true) ∷ [])
    ++ only (is_some w ≡ true)
    (always (check (Transcript NonCanonicalLookupPowWitness) (bits ≡ 0 → unwrap_or w z ≡ z) ∷ check (Transcript (LookupPowWitness bits)) (passed ≡ true) ∷ []))

-- the value that the script needs is there
abbrev pub HasWitness : {F : Type 0} → (tables : ℕ) → Option F → Type 0
HasWitness zero w = Unit {0}
HasWitness (suc n) w = is_some w ≡ true

module _ {S F E C P R : Type 0} (c : Setting S F E C) (b : Backend S F E C P R) (s : Statement F C) (p : ProofData F E C P) where
  -- how many tables have lookups
  abbrev pub tables_with_lookups : ℕ
  tables_with_lookups = (script_shape c.version c.zk c.lookup_bits c.ood_bits s).num_lookup_instances

  -- the parts of a verifier's checks
  abbrev pub parts_of : Parts (BatchVerificationError R)
  parts_of = record {
    shape = shape_parts c.field.ring (shape_bounds_of c) s p;
    lookup_grinding = lookup_asked c.field.ring.zero tables_with_lookups c.lookup_bits p.lookup_pow_witness (drawn_of c s p).lookup_passed;
    has_witness = HasWitness tables_with_lookups p.lookup_pow_witness;
    ood_grinding = ood_grinding c.field.ring.zero c.ood_bits p.ood_pow_witness (drawn_of c s p).ood_passed;
    domain = domain_checks c s p;
    matrices = length (matrix_tables s.common.preprocessed);
    metadata = metadata_check c s p;
    opens = opens_check b (drawn_of c s p).opening (claims c (claimed c s p) (drawn_of c s p).zeta) p.opening_proof;
    identity = identities_at c s p (all_lookup_challenges c s p) (domains_of c s p) (drawn_of c s p).alpha (drawn_of c s p).zeta;
    terminals = terminal_check c.extension.ring p.lookup_terminals;
  }

  -- the checks that are asked, in the order in which they are named
  unfoldable pub audit : List (Asked (BatchVerificationError R))
  audit = all_asked parts_of

  -- these are the refusals of all that are asked and fail, in that order
  abbrev pub NamesFaults : List (BatchVerificationError R) → Type 0
  NamesFaults faults = AreNamed audit faults
