-- The swap tables of a batch whose tables hold.
use Rattle.std.proofs.Common.{◌≡◌, ℕ, ◌<◌, ◌≤◌, ◌⊎◌, inl, inr, List, [], length, get_or, ap, subst, sym}
use Rattle.std.specs.Prelude.{All}
use Rattle.std.proofs.lemmas.List.{get_or-map, length-map}
use Rattle.air_core.specs.Laws.Lists.{all_of_tabulate}
use Rattle.air_core.specs.Shape.{Declaration}
use Rattle.air_core.specs.Tree.{Tree}
use Rattle.p3_lookup.specs.Trees.{lookup_trees}
use Rattle.plain_pcs.specs.Scheme.{PlainCommitmentData}
use Rattle.air_tables.specs.Swap.{swap_trees}
use Rattle.law_committed.specs.Batch.{AllHold, DividedTable}
use Rattle.law_committed.specs.Committed.{Holds}
use Rattle.law_committed.specs.Fields.{FieldsLaws}
use Rattle.batch_config.specs.Setting.{Setting}
use Rattle.batch_statement.specs.Proof.{ProofData}
use Rattle.batch_statement.specs.Statement.{Statement, AirTable, WrittenCommon, tables_of, statement_with}
use Rattle.batch_statement.specs.Words.{no_table, bits_at}
use Rattle.law_soundness.specs.CommittedBatch.{committed_at, committed_batch, committed_table_at, lookups_at, stated_table}
use Rattle.law_soundness.specs.Laws.Swap.{holds_before, swap_ends}
use Rattle.law_soundness.specs.Swapped.{EndsSwapped, swap_publics}

-- one of two things, where the other can't be
pub first_of : {A B C : Type 0} → A ⊎ (B ⊎ C) → (B → ⊥) → (C → ⊥) → A
first_of h b c = elim h [ inl x ↦ x | inr r ↦ elim r [ inl y ↦ absurd (b y) | inr z ↦ absurd (c z) ] ]

-- the constraints of the table of an AIR
pub own_trees : {A F C : Type 0} (declaration : A → Declaration F) (trees : A → List (Tree F)) (airs : List A) (publics : List (List F)) (common : WrittenCommon F C) (i : ℕ) (air : A)
    → i < length airs → (stated_table (statement_with (tables_of declaration trees airs) publics common) i).trees ≡ trees (get_or airs i air)
own_trees {F = F} declaration trees airs publics common i air below =
    ap (λ (t : AirTable F). t.trees) (get_or-map (λ a. record { declaration = declaration a; trees = trees a }) airs i air no_table below)

-- a table of a batch that holds, with the constraints of its AIR alone
pub own_hold : {S F E P A : Type 0} (c : Setting S F E (PlainCommitmentData F)) (log_blowup : ℕ) (declaration : A → Declaration F) (trees : A → List (Tree F)) (airs : List A)
    (publics : List (List F)) (common : WrittenCommon F (PlainCommitmentData F)) (p : ProofData F E (PlainCommitmentData F) P)
    → AllHold c.field c.extension (committed_batch c log_blowup (statement_with (tables_of declaration trees airs) publics common) p) → (i : ℕ) (air : A) → i < length airs
    → Holds c.field c.extension (committed_table_at c log_blowup (statement_with (tables_of declaration trees airs) publics common) p i) (trees (get_or airs i air))
own_hold {F = F} {E = E} c log_blowup declaration trees airs publics common p holds i air below =
    let s = statement_with (tables_of declaration trees airs) publics common in
    let t = committed_table_at c log_blowup s p i in
    let n = length-map {B = AirTable F} airs (λ a. record { declaration = declaration a; trees = trees a }) in
    let own = all_of_tabulate (λ (t : DividedTable F E). Holds c.field c.extension t.table t.trees) (length s.tables) (committed_at c log_blowup s p) holds i (subst (λ m. i < m) (sym n) below) in
    subst (Holds c.field c.extension t) (own_trees declaration trees airs publics common i air below)
    (holds_before c.field c.extension t (stated_table s i).trees (lookup_trees c.field.ring (lookups_at s i)) own)

module _ {S F E P : Type 0} (c : Setting S F E (PlainCommitmentData F)) (log_blowup : ℕ) (s : Statement F (PlainCommitmentData F)) (p : ProofData F E (PlainCommitmentData F) P)
    (inverse : E → E) (L : FieldsLaws c.field c.extension c.two_adicity inverse) where
  -- a swap table of a batch that holds ends as it should
  pub swaps_end : AllHold c.field c.extension (committed_batch c log_blowup s p) → All (λ (t : DividedTable F E). t.table.log_height ≤ c.two_adicity) (committed_batch c log_blowup s p)
      → (i : ℕ) (a b x : F) → i < length s.tables → (stated_table s i).trees ≡ swap_trees → get_or s.publics i [] ≡ swap_publics a b x → EndsSwapped (bits_at p.degree_bits i) a b x
  swaps_end holds fit i a b x below are publics =
      let n = length s.tables in
      let t = committed_table_at c log_blowup s p i in
      let own = all_of_tabulate (λ (t : DividedTable F E). Holds c.field c.extension t.table t.trees) n (committed_at c log_blowup s p) holds i below in
      let fits = all_of_tabulate (λ (t : DividedTable F E). t.table.log_height ≤ c.two_adicity) n (committed_at c log_blowup s p) fit i below in
      swap_ends c.field c.extension c.two_adicity inverse L t fits a b x publics
      (subst (Holds c.field c.extension t) are (holds_before c.field c.extension t (stated_table s i).trees (lookup_trees c.field.ring (lookups_at s i)) own))
