-- All checks of a batch proof, in a verifier's order, as one list. After Plonky3's p3-batch-stark (verify_batch).
use Rattle.std.specs.Prelude.{ℕ, List, ◌++◌, length}
use Rattle.p3_field.specs.Checks.{Check, NoneFails, FirstFails, in_turn}
use Rattle.p3_field.specs.Domain.{CosetData}
use Rattle.p3_field.specs.Poly.{tabulate}
use Rattle.batch_transcript.specs.BatchScript.{Draws}
use Rattle.batch_config.specs.Domains.{chunk_domains}
use Rattle.batch_config.specs.Setting.{Setting, Backend, masks}
use Rattle.batch_statement.specs.Proof.{ProofData}
use Rattle.batch_statement.specs.Statement.{Statement}
use Rattle.batch_statement.specs.declared.error.BatchVerificationError.{BatchVerificationError}
use Rattle.verifier_shape.specs.ShapeChecks.{shape_checks}
use Rattle.verifier_draws.specs.Draws.{drawn, grinding_checks, table_challenges}
use Rattle.batch_statement.specs.Words.{bits_at}
use Rattle.verifier_batch.specs.OpeningChecks.{shape_bounds_of, log_chunks_of_table, opening_checks}
use Rattle.verifier_identity.specs.TableIdentity.{identity_at, terminal_check}

-- of a configuration with its backend, and of a statement and a proof
module _ {S F E C P : Type 0} (c : Setting S F E C) (s : Statement F C) (p : ProofData F E C P) where
  -- what the challenger draws along the proof's script, from the configuration's state on
  abbrev pub drawn_of : Draws S E
  drawn_of = drawn c.challenger c.field.ring c.extension.ring c.extension.dimension c.initial c.version c.zk c.lookup_bits c.ood_bits s p

  -- the challenges of table i's lookups, and of all tables
  abbrev pub table_challenges_of : ℕ → List E
  table_challenges_of i = table_challenges c.extension.ring drawn_of s i

  abbrev pub all_lookup_challenges : List (List E)
  all_lookup_challenges = tabulate (length s.tables) table_challenges_of

  -- the domains of the chunks of each table's quotient
  abbrev pub domains_of : List (List (CosetData F))
  domains_of = tabulate (length s.tables) (λ i. chunk_domains c (bits_at p.degree_bits i) (log_chunks_of_table c s p i))

  -- the checks of the grinding values
  abbrev pub draw_part : {R : Type 0} → List (Check (BatchVerificationError R))
  draw_part = grinding_checks c.challenger c.field.ring c.extension.ring c.extension.dimension c.initial c.version c.zk c.lookup_bits c.ood_bits s p

  -- the checks of table i's identity, with these challenges of all tables' lookups and these domains of their chunks
  abbrev pub identities_at : {R : Type 0} → (challenges : List (List E)) → (domains : List (List (CosetData F))) → (alpha zeta : E) → ℕ → List (Check (BatchVerificationError R))
  identities_at challenges domains alpha zeta i =
      identity_at c.field c.extension (masks c) s p.instances p.lookup_terminals p.degree_bits challenges domains alpha zeta i

  -- those of each table at the drawn point
  abbrev pub identity_part : {R : Type 0} → List (Check (BatchVerificationError R))
  identity_part = in_turn (length s.tables) (identities_at all_lookup_challenges domains_of drawn_of.alpha drawn_of.zeta)

-- All checks in order: the proof's shape; the grinding values; what is opened, at the drawn point and in the challenger's state there; each table's
-- identity; and the terminals' sum.
unfoldable pub checks : {S F E C P R : Type 0} → Setting S F E C → Backend S F E C P R → Statement F C → ProofData F E C P → List (Check (BatchVerificationError R))
checks c b s p =
    shape_checks c.field.ring (shape_bounds_of c) s p
    ++ draw_part c s p
    ++ opening_checks c b s p (drawn_of c s p).zeta (drawn_of c s p).opening
    ++ identity_part c s p
    ++ terminal_check c.extension.ring p.lookup_terminals

-- the proof is accepted: no check fails
abbrev pub Accepted : {S F E C P R : Type 0} → Setting S F E C → Backend S F E C P R → Statement F C → ProofData F E C P → Type 0
Accepted c b s p = NoneFails (checks c b s p)

-- the refusal of the first check that fails
abbrev pub FirstFault : {S F E C P R : Type 0} → Setting S F E C → Backend S F E C P R → Statement F C → ProofData F E C P → BatchVerificationError R → Type 0
FirstFault c b s p e = FirstFails (checks c b s p) e
