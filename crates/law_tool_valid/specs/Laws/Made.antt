-- What is made for a job's AIRs is what is stated of the job.
use Rattle.std.proofs.Common.{◌≡◌, ℕ, List, [], ◌∷◌, length, get_or, map, refl, sym, ◌∙◌, ap}
use Rattle.std.proofs.lemmas.List.{get_or-map, length-map}
use Rattle.p3_field.specs.Poly.{tabulate}
use Rattle.p3_field.specs.Ring.{Ring}
use Rattle.p3_field.specs.Laws.Tabulate.{tabulate_items, tabulate_same}
use Rattle.batch_setup.specs.Packed.{Source, no_source, packed_at, packed_lookups, source_of}
use Rattle.batch_statement.specs.Statement.{tables_of}
use Rattle.tool_tables.specs.Tool.{tool_declaration, tool_interactions, tool_trees}
use Rattle.air_tables.specs.Wheel.{wheel_over, wheel_trees}
use Rattle.tool_tables.specs.declared.tool.ToolAir.{ToolAir}
use Rattle.tool_tables.specs.declared.tool.ToolAir.TheVariants.{Swap, Wheel, Words, Hash}
use Rattle.tool_tables.specs.declared.words.WordsAir.TheVariants.{Take, Give}
use Rattle.law_tool_valid.specs.Job.{AreAirsOf, IsAirOf, JobTable, swap_of, wheel_of, take_of, give_of, hash_of, job_table, source_of_job}
use Rattle.law_tool_valid.specs.Laws.Messages.{own_lookups}

module _ {F : Type 0} (r : Ring F) where
  abbrev pub sources : List (ToolAir F) → List (Source F)
  sources airs = map (source_of (tool_declaration r) (tool_trees r) (tool_interactions r)) airs

  air_source : (j : JobTable F) (air : ToolAir F) → IsAirOf r j air → source_of (tool_declaration r) (tool_trees r) (tool_interactions r) air ≡ source_of_job r j
  air_source (swap_of k a b) (Swap air) h = refl
  air_source (wheel_of k) (Wheel air) h = λ i. record { declaration = wheel_over r (h.0 i) (h.1 i); trees = wheel_trees; interactions = [] }
  air_source (take_of words) (Words Take) h = refl
  air_source (give_of pairs) (Words Give) h = refl
  air_source (hash_of rows) (Hash air) h = refl
  air_source j air h = absurd h

  pub sources_are : (job : List (JobTable F)) (airs : List (ToolAir F)) → AreAirsOf r job airs → sources airs ≡ map (source_of_job r) job
  sources_are [] [] h = refl
  sources_are [] (air ∷ airs) h = absurd h
  sources_are (j ∷ job) [] h = absurd h
  sources_are (j ∷ job) (air ∷ airs) h = λ i. air_source j air h.0 i ∷ sources_are job airs h.1 i

  pub tables_are : (job : List (JobTable F)) (airs : List (ToolAir F)) → AreAirsOf r job airs → tables_of (tool_declaration r) (tool_trees r) airs ≡ map (job_table r) job
  tables_are [] [] h = refl
  tables_are [] (air ∷ airs) h = absurd h
  tables_are (j ∷ job) [] h = absurd h
  tables_are (j ∷ job) (air ∷ airs) h = λ i. record { declaration = (air_source j air h.0 i).declaration; trees = (air_source j air h.0 i).trees } ∷ tables_are job airs h.1 i

  pub as_many : (job : List (JobTable F)) (airs : List (ToolAir F)) → AreAirsOf r job airs → length airs ≡ length job
  as_many job airs h =
      sym (length-map airs (source_of (tool_declaration r) (tool_trees r) (tool_interactions r))) ∙ (ap length (sources_are job airs h) ∙ length-map job (source_of_job r))

  -- one lookup at most is packed as it is
  own_packed : (j : JobTable F) (masks bits asked : ℕ) → packed_lookups r masks bits asked (source_of_job r j) ≡ own_lookups r j
  own_packed (swap_of k a b) masks bits asked = refl
  own_packed (wheel_of k) masks bits asked = refl
  own_packed (take_of words) masks bits asked = refl
  own_packed (give_of pairs) masks bits asked = refl
  own_packed (hash_of rows) masks bits asked = refl

  pub packed_are : (job : List (JobTable F)) (airs : List (ToolAir F)) (masks : ℕ) (bits budgets : List ℕ) → AreAirsOf r job airs
      → tabulate (length airs) (packed_at r masks (sources airs) bits budgets) ≡ map (own_lookups r) job
  packed_are job airs masks bits budgets h =
      let d : JobTable F = take_of [] in
      (λ i. tabulate (as_many job airs h i) (packed_at r masks (sources_are job airs h i) bits budgets))
      ∙ (tabulate_same (length job) (packed_at r masks (map (source_of_job r) job) bits budgets) (λ i. get_or (map (own_lookups r) job) i []) (λ i l.
      ap (packed_lookups r masks (get_or bits i 0) (get_or budgets i 0)) (get_or-map (source_of_job r) job i d no_source l)
      ∙ (own_packed (get_or job i d) masks (get_or bits i 0) (get_or budgets i 0) ∙ sym (get_or-map (own_lookups r) job i d [] l)))
      ∙ sym (tabulate_items [] (map (own_lookups r) job) (length job) (length-map job (own_lookups r))))
