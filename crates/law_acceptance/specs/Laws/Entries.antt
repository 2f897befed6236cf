-- The preprocessed matrices of a batch are those of the tables that have an entry, in order.
use Rattle.std.proofs.Common.{◌≡◌, ℕ, zero, suc, List, [], ◌∷◌, length, get_or, map, take, Option, None, Some, refl, sym, ◌∙◌, ap}
use Rattle.std.proofs.Math.Seq.{take-length}
use Rattle.p3_field.specs.Laws.SubgroupSelectors.{map_tabulate}
use Rattle.p3_field.specs.Laws.Tabulate.{tabulate_items}
use Rattle.p3_field.specs.Poly.{tabulate}
use Rattle.verifier_claims.specs.Claims.{matrix_tables}
use Rattle.verifier_shape.specs.ShapeChecks.{HasEntries}
use Rattle.batch_statement.specs.Statement.{ListsEntries, PreprocessedTracesData, entry_of, with_entry}
use Rattle.batch_statement.specs.declared.preprocessed.PreprocessedInstanceMeta.{PreprocessedInstanceMeta}

no_entries : (n i : ℕ) (o : ℕ → Option PreprocessedInstanceMeta) → ((j : ℕ) → o j ≡ None) → with_entry i (tabulate n o) ≡ []
no_entries zero i o none = refl
no_entries (suc n) i o none = ap (λ e. with_entry i (e ∷ tabulate n (λ j. o (suc j)))) (none zero) ∙ no_entries n (suc i) (λ j. o (suc j)) (λ j. none (suc j))

pub listed_is : {C : Type 0} (g : Option (PreprocessedTracesData C)) (n : ℕ) → HasEntries n g → ListsEntries n g → matrix_tables g ≡ with_entry 0 (tabulate n (entry_of g))
listed_is {C} None n long l = sym (no_entries n 0 (entry_of {C = C} None) (λ j. refl))
listed_is (Some g) n long l = l ∙ ap (with_entry 0) ((λ i. take (sym long i) g.instances) ∙ (take-length g.instances ∙ tabulate_items None g.instances n long))

-- what there is for each of some tables, one by one
pub map_items : {Y : Type 0} (v : ℕ → Y) (ms : List ℕ) → map v ms ≡ tabulate (length ms) (λ m. v (get_or ms m 0))
map_items v ms = ap (map v) (tabulate_items 0 ms (length ms) refl) ∙ map_tabulate v (length ms) (λ m. get_or ms m 0)
