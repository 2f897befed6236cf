-- Layouts: how many cells of each kind an AIR's builder declares, and where its constraints stand among all.
use Rattle.std.specs.Prelude.{◌≡◌, ℕ, ◌+◌, ◌-◌, ◌<◌, ◌==◌, ◌++◌, true, List, length, map, All, count_by}
use Rattle.std.specs.Prelude.{slice_index_or as get_or}
use Rattle.p3_field.specs.Ring.{Ring, pow}
use Rattle.air_core.specs.declared.layout.AirLayout.{AirLayout}
use Rattle.air_core.specs.Shape.{Shape, Declaration, width_of}

-- the layout of an AIR alone, without lookups
abbrev pub layout_of : {F : Type 0} → Declaration F → AirLayout
layout_of d = record {
  preprocessed_width = width_of d.preprocessed;
  main_width = d.width;
  num_public_values = d.public_values;
  num_periodic_columns = length d.periodic;
  permutation_width = 0;
  num_permutation_challenges = 0;
  num_permutation_values = 0;
}

-- the cells that a builder of this layout declares: in each column the next row may be read
abbrev pub layout_shape : AirLayout → Shape
layout_shape l = record {
  main = l.main_width;
  main_next = λ _. true;
  preprocessed = l.preprocessed_width;
  preprocessed_next = λ _. true;
  periodic = l.num_periodic_columns;
  public = l.num_public_values;
  permutation = l.permutation_width;
  challenges = l.num_permutation_challenges;
  terminals = l.num_permutation_values;
}

-- the places, among all constraints in the order in which they are asserted, of those over the base field and of
-- those over the extension
pub record Places : Type 0 where
  pub base_indices : List ℕ
  pub ext_indices : List ℕ

abbrev pub place_count : Places → ℕ
place_count p = length p.base_indices + length p.ext_indices

-- Each listed place's power of the challenge: constraint i of n has the power n - 1 - i, so that the sum of the
-- constraints times their powers is the value that Horner's rule gives.
abbrev pub folding_powers : {E : Type 0} → Ring E → E → ℕ → List ℕ → List E
folding_powers r alpha n places = map (λ i. pow r alpha (n - 1 - i)) places

-- the list has each number below n once, and no other
pub record HasEachOnce (n : ℕ) (is : List ℕ) : Type 0 where
  pub below : All (λ i. i < n) is
  pub once : (i : ℕ) → i < n → count_by (λ j. j == i) is ≡ 1

-- each constraint has its place once, in one of both lists
abbrev pub ListsEachOnce : Places → Type 0
ListsEachOnce p = HasEachOnce (place_count p) (p.base_indices ++ p.ext_indices)

-- each number of the list is above those before it
abbrev pub Ascends : List ℕ → Type 0
Ascends is = (i j : ℕ) → i < j → j < length is → get_or is i 0 < get_or is j 0
