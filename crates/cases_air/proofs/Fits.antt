-- What has a cell of each kind that the sending table reads, and columns and challenges for some lookups.
use Rattle.std.proofs.Common.{◌≡◌, ℕ, ◌+◌, ◌*◌, ◌<◌, ◌≤◌, List, length, arith}
use Rattle.air_core.specs.Shape.{Shape, Fits, declared_shape}
use Rattle.air_core.specs.Laws.Reads.{not_true}
use Rattle.air_tables.specs.Sending.{sending_declaration}

pub sending_fits : {F : Type 0} (steps : List F) (periodic : List (List F)) (s : Shape) → length periodic ≡ 1
    → 0 < s.main → 0 < s.preprocessed → 0 < s.periodic → 0 < s.public → Fits (declared_shape (sending_declaration steps periodic)) s
sending_fits steps periodic s one main preprocessed turns public = record {
  main = omega (arith, main);
  main_next = λ column h. absurd (not_true h);
  preprocessed = omega (arith, preprocessed);
  preprocessed_next = λ column h. absurd (not_true h);
  periodic = omega (arith, one, turns);
  public = omega (arith, public);
}

-- so few lookups have their columns and challenges among eight
pub few_columns : (n : ℕ) → n ≤ 3 → n < 8
few_columns n h = omega arith

pub few_challenges : (n : ℕ) → n ≤ 3 → 2 * n ≤ 8
few_challenges n h = omega arith

-- as many as a count that is one, or twice one
pub some_of_one : (n m : ℕ) → n ≡ m → m ≡ 1 → 0 < n
some_of_one n m e h = omega arith

pub room_for_more : (n m k : ℕ) → n ≡ m → m ≡ k + 1 → k < n
room_for_more n m k e h = omega arith

pub room_for_twice : (n m k : ℕ) → n ≡ m → m ≡ 2 * k → 2 * k ≤ n
room_for_twice n m k e h = omega arith
