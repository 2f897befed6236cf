-- The terminals of a batch's tables.
use Rattle.std.specs.Prelude.{List, [], ◌∷◌, Option, Some, None}
use Rattle.p3_lookup.specs.declared.terminal.LookupTerminal.{LookupTerminal}

-- the terminals that are there, in order
abbrev pub present : {E : Type 0} → List (Option (LookupTerminal E)) → List E
present [] = []
present (None ∷ ts) = present ts
present (Some t ∷ ts) = t.0 ∷ present ts
