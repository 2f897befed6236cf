-- The layout of the lookups' challenges, table by table.
use Rattle.std.proofs.Common.{◌≡◌, ℕ, List, [], ◌∷◌, length, get_or, ◌∙◌}
use Rattle.std.proofs.lemmas.List.{length-map}
use Rattle.p3_field.specs.Poly.{tabulate}
use Rattle.p3_field.specs.Ring.{Ring}
use Rattle.p3_field.specs.Laws.Tabulate.{length-tabulate, tabulate_items}
use Rattle.p3_lookup.specs.Lookup.{LookupData}
use Rattle.p3_lookup.specs.Bus.{bus_count, batch_buses, widest}
use Rattle.p3_lookup.specs.Challenge.{challenges_with}
use Rattle.batch_transcript.specs.Buses.{batch_layout, instance_challenges}

pub length-batch_layout : {F E : Type 0} (e : Ring E) (drawn : List E) (tables : List (List (LookupData F))) → length (batch_layout e drawn tables) ≡ length tables
length-batch_layout {E = E} e [] tables = length-map {B = List E} tables (λ _. [])
length-batch_layout {E = E} e (x ∷ []) tables = length-map {B = List E} tables (λ _. [])
length-batch_layout e (alpha ∷ beta ∷ rest) tables =
    length-tabulate (length tables) (instance_challenges e (challenges_with e alpha beta (widest tables) (bus_count (batch_buses tables))) tables)

-- as many lists of challenges as tables with lookups are listed for, each read at its place
pub laid_out_by_table : {F E : Type 0} (e : Ring E) (drawn : List E) (tables : List (List (LookupData F))) (n : ℕ) → length tables ≡ n
    → batch_layout e drawn tables ≡ tabulate n (λ i. get_or (batch_layout e drawn tables) i [])
laid_out_by_table e drawn tables n h = tabulate_items [] (batch_layout e drawn tables) n (length-batch_layout e drawn tables ∙ h)
