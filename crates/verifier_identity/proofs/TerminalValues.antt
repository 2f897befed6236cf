-- Terminals as a proof holds them.
use Rattle.std.proofs.Common.{◌≡◌, List, [], ◌∷◌, map, Option, Some, None, refl, ◌∙◌, ap}
use Rattle.std.specs.Prelude.{flat_map, option_map, option_to_list, unwrap_or}
use Rattle.p3_lookup.specs.declared.terminal.LookupTerminal.{LookupTerminal}
use Rattle.p3_lookup.specs.Terminal.{present}

-- those that are there
present_values : {E : Type 0} (ts : List (Option (LookupTerminal E))) → present ts ≡ flat_map option_to_list (map (option_map (λ t. t.0)) ts)
present_values [] = refl
present_values (None ∷ ts) = present_values ts
present_values (Some t ∷ ts) = ap (λ l. t.0 ∷ l) (present_values ts)

pub present_are : {E : Type 0} (ts : List (Option (LookupTerminal E))) (seen : List (Option E)) → map (option_map (λ t. t.0)) ts ≡ seen → present ts ≡ flat_map option_to_list seen
present_are ts seen e = present_values ts ∙ ap (flat_map option_to_list) e

-- one that may be there, as a list
pub held_values : {E : Type 0} (t : Option (LookupTerminal E)) → unwrap_or (option_map (λ u. u.0 ∷ []) t) [] ≡ option_to_list (option_map (λ u. u.0) t)
held_values None = refl
held_values (Some t) = refl
