-- What is named of a batch proof's openings, where the script is played.
use Rattle.std.specs.Prelude.{slice_index_or as get_or}
use Rattle.std.specs.Prelude.{ℕ, List, [], ◌∷◌, ◌⊎◌, length, Option}
use Rattle.p3_field.specs.Checks.{NoneFails}
use Rattle.batch_statement.specs.Statement.{PreprocessedTracesData, entry_of}
use Rattle.batch_statement.specs.declared.error.BatchVerificationError.{BatchVerificationError}
use Rattle.verifier_claims.specs.ClaimChecks.{bits_listed}
use Rattle.verifier_claims.specs.Claims.{matrix_tables}
use Rattle.audit_batch.specs.Asked.{Asked, always, in_order, of_each}
use Rattle.audit_batch.specs.Named.{AreNamedAfter}
use Rattle.audit_batch.specs.Parts.{Parts, claims_list}

-- each preprocessed matrix was committed for its table's height
abbrev pub metadata_named : {C R : Type 0} → Option (PreprocessedTracesData C) → (bits : List ℕ) → List (Asked (BatchVerificationError R))
metadata_named g bits =
    of_each (length (matrix_tables g)) (λ m. always (bits_listed (entry_of g (get_or (matrix_tables g) m 0)) bits (get_or (matrix_tables g) m 0) ∷ []))

module _ {R : Type 0} (p : Parts R) where
  -- each table's quotient has a domain; each preprocessed matrix was committed for its table's height; each table's identity holds
  abbrev pub domains_of_all : List (Asked R)
  domains_of_all = of_each p.shape.tables (λ i. in_order (p.domain i))

  abbrev pub metadata_of_all : List (Asked R)
  metadata_of_all = of_each p.matrices (λ m. always (p.metadata m))

  abbrev pub identities_of_all : List (Asked R)
  identities_of_all = of_each p.shape.tables (λ i. in_order (p.identity i))

  -- after these refusals those of the claims
  abbrev pub AreClaimsNamed : List R → List R → Type 0
  AreClaimsNamed before after = (m : List R) × AreNamedAfter before domains_of_all m × AreNamedAfter m metadata_of_all after

  -- Where a claim fails those of the claims, and where none does those of the backend and of the identities.
  abbrev pub AreOpened : List R → List R → Type 0
  AreOpened before after =
      ((NoneFails (claims_list p) → ⊥) × AreClaimsNamed before after)
      ⊎ (NoneFails (claims_list p) × ((m : List R) × AreNamedAfter before (always p.opens) m × AreNamedAfter m identities_of_all after))
