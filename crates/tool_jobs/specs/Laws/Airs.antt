-- An AIR that declares what a job's table declares is the one that the program makes for it.
use Rattle.std.proofs.Common.{◌≡◌, ℕ, ◌^◌, List, [], ◌∷◌, length, map, Option, None, Some, sym, ◌∙◌, ap, arith}
use Rattle.air_core.specs.Shape.{Declaration}
use Rattle.p3_field.specs.Laws.Tabulate.{length-tabulate}
use Rattle.p3_field.specs.Ring.{Ring}
use Rattle.p3_matrix.specs.Laws.Powers.{power_cancel}
use Rattle.p3_matrix.specs.Matrix.{Rows}
use Rattle.tool_tables.specs.Tool.{tool_declaration, tool_interactions, tool_trees}
use Rattle.air_tables.specs.Wheel.{number_in, numbers_to, wheel_declaration, wheel_over}
use Rattle.tool_tables.specs.declared.tool.ToolAir.{ToolAir}
use Rattle.tool_tables.specs.declared.tool.ToolAir.TheVariants.{Swap, Wheel, Words, Hash}
use Rattle.tool_tables.specs.declared.words.WordsAir.TheVariants.{Take, Give}
use Rattle.law_tool_valid.specs.Job.{AreAirsOf, IsAirOf, JobTable, swap_of, wheel_of, take_of, give_of, hash_of, source_of_job}
use Rattle.batch_setup.specs.Packed.{Source, source_of}

-- whether there is a preprocessed trace, and how many values it has
present : {F : Type 0} → Option (Rows F) → ℕ
present None = 0
present (Some m) = 1

cells : {F : Type 0} → Option (Rows F) → ℕ
cells None = 0
cells (Some m) = length m.values

module _ {F : Type 0} (r : Ring F) where
  abbrev pub source_of_air : ToolAir F → Source F
  source_of_air = source_of (tool_declaration r) (tool_trees r) (tool_interactions r)

  same-width : {a b : Source F} → a ≡ b → a.declaration.width ≡ b.declaration.width
  same-width e = ap (λ (s : Source F). s.declaration.width) e

  same-publics : {a b : Source F} → a ≡ b → a.declaration.public_values ≡ b.declaration.public_values
  same-publics e = ap (λ (s : Source F). s.declaration.public_values) e

  same-present : {a b : Source F} → a ≡ b → present a.declaration.preprocessed ≡ present b.declaration.preprocessed
  same-present e = ap (λ (s : Source F). present s.declaration.preprocessed) e

  -- a wheel's declaration tells its height
  wheel-height : (n k : ℕ) (periodic : List (List F)) → wheel_over r n periodic ≡ wheel_declaration r k → n ≡ k
  unfolding cells
  wheel-height n k periodic e =
      let long : length (numbers_to r (2 ^ n)) ≡ length (numbers_to r (2 ^ k)) = ap (λ (d : Declaration F). cells d.preprocessed) e in
      power_cancel n k (sym (length-tabulate (2 ^ n) (number_in r)) ∙ (long ∙ length-tabulate (2 ^ k) (number_in r)))

  pub is-air : (j : JobTable F) (air : ToolAir F) → source_of_air air ≡ source_of_job r j → IsAirOf r j air
  unfolding present
  is-air (swap_of k a b) (Swap air) e = tt
  is-air (swap_of k a b) (Wheel air) e = absurd (let h = same-width e in omega (arith, h))
  is-air (swap_of k a b) (Words Take) e = absurd (let h = same-width e in omega (arith, h))
  is-air (swap_of k a b) (Words Give) e = absurd (let h = same-publics e in omega (arith, h))
  is-air (swap_of k a b) (Hash air) e = absurd (let h = same-width e in omega (arith, h))
  is-air (wheel_of k) (Swap air) e = absurd (let h = same-width e in omega (arith, h))
  is-air (wheel_of k) (Wheel air) e =
      let d = ap (λ (s : Source F). s.declaration) e in
      (wheel-height air.log_height k (map (λ v. v.items) air.periodic.items) d, ap (λ (x : Declaration F). x.periodic) d)
  is-air (wheel_of k) (Words Take) e = absurd (let h = same-present e in omega (arith, h))
  is-air (wheel_of k) (Words Give) e = absurd (let h = same-width e in omega (arith, h))
  is-air (wheel_of k) (Hash air) e = absurd (let h = same-width e in omega (arith, h))
  is-air (take_of words) (Swap air) e = absurd (let h = same-width e in omega (arith, h))
  is-air (take_of words) (Wheel air) e = absurd (let h = same-present e in omega (arith, h))
  is-air (take_of words) (Words Take) e = tt
  is-air (take_of words) (Words Give) e = absurd (let h = same-width e in omega (arith, h))
  is-air (take_of words) (Hash air) e = absurd (let h = same-width e in omega (arith, h))
  is-air (give_of pairs) (Swap air) e = absurd (let h = same-publics e in omega (arith, h))
  is-air (give_of pairs) (Wheel air) e = absurd (let h = same-width e in omega (arith, h))
  is-air (give_of pairs) (Words Take) e = absurd (let h = same-width e in omega (arith, h))
  is-air (give_of pairs) (Words Give) e = tt
  is-air (give_of pairs) (Hash air) e = absurd (let h = same-width e in omega (arith, h))
  is-air (hash_of rows) (Swap air) e = absurd (let h = same-width e in omega (arith, h))
  is-air (hash_of rows) (Wheel air) e = absurd (let h = same-width e in omega (arith, h))
  is-air (hash_of rows) (Words Take) e = absurd (let h = same-width e in omega (arith, h))
  is-air (hash_of rows) (Words Give) e = absurd (let h = same-width e in omega (arith, h))
  is-air (hash_of rows) (Hash air) e = tt

  pub are-airs : (job : List (JobTable F)) (airs : List (ToolAir F)) → map source_of_air airs ≡ map (source_of_job r) job → AreAirsOf r job airs
  are-airs [] [] e = tt
  are-airs [] (air ∷ airs) e = absurd (cc)
  are-airs (j ∷ job) [] e = absurd (cc)
  are-airs (j ∷ job) (air ∷ airs) e =
      let first : source_of_air air ≡ source_of_job r j = cc in
      let rest : map source_of_air airs ≡ map (source_of_job r) job = cc in
      (is-air j air first, are-airs job airs rest)
