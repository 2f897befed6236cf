-- How many lookup challenges may be unlucky (not in Plonky3). Nothing is said of how likely such a challenge is drawn.
use Rattle.std.specs.Prelude.{◌≡◌, ℕ, ◌+◌, ◌-◌, ◌*◌, ◌/◌, ◌<◌, ◌≤◌, Bool, List, [], length, All}
use Rattle.std.specs.Prelude.{slice_index_or as get_or}
use Rattle.p3_field.specs.Ring.{Ring, of_nat}
use Rattle.p3_field.specs.Poly.{Apart}
use Rattle.p3_lookup.specs.Batch.{AreOfOneWidth}
use Rattle.p3_lookup.specs.Challenge.{bus_base}
use Rattle.p3_lookup.specs.Messages.{Message, IsBalanced}
use Rattle.stark_balance.specs.Nets.{nets}
use Rattle.stark_balance.specs.Unlucky.{HasZeroDenominator, IsPairUnlucky, DoPairsMeet}

-- the items of the list differ from each other; z, which no place in range reads, stands past the end
abbrev AreApart : {E : Type 0} → E → List E → Type 0
AreApart z xs = Apart (length xs) (λ i. get_or xs i z)

-- The messages are as those of a batch: on each bus their tuples have one width, none is wider than `width`, and the buses' numbers are told apart in the field.
pub record AreTold {F : Type 0} (f : Ring F) (width : ℕ) (ms : List (Message F)) : Type 0 where
  pub one_width : AreOfOneWidth ms
  pub widths : All (λ m. length m.tuple ≤ width) ms
  pub buses : All (λ m. All (λ n. of_nat f (m.bus + 1) ≡ of_nat f (n.bus + 1) → m.bus ≡ n.bus) ms) ms

module _ {F E : Type 0} (f : Ring F) (eq : F → F → Bool) (e : Ring E) (inv : E → E) (embed : F → E) (width : ℕ) (ms : List (Message F)) where
  -- how many pairs of bus and tuple are sent
  abbrev pub pair_count : ℕ
  pair_count = length (nets f eq ms)

  -- distinct betas that make two pairs meet are at most W n (n - 1) / 2, for n pairs and tuples of at most W values
  abbrev pub HasFewMeetings : Type 0
  HasFewMeetings = (betas : List E) → AreApart e.zero betas → All (DoPairsMeet f eq e inv embed width ms) betas → length betas ≤ width * (pair_count * (pair_count - 1) / 2)

  -- with any other beta fewer than 2 n alphas make the pair of challenges unlucky
  abbrev pub HasFewAlphas : Type 0
  HasFewAlphas = (beta : E) → (DoPairsMeet f eq e inv embed width ms beta → ⊥) → 0 < pair_count → (alphas : List E) → AreApart e.zero alphas
      → All (λ alpha. IsPairUnlucky f eq e inv embed width ms alpha beta) alphas → length alphas < 2 * pair_count

  -- where nothing is left over, a pair of challenges is unlucky only where it makes a denominator zero
  abbrev pub OnlyZerosAreUnlucky : Type 0
  OnlyZerosAreUnlucky = IsBalanced f eq ms → (alpha beta : E) → IsPairUnlucky f eq e inv embed width ms alpha beta → HasZeroDenominator f eq e inv embed (bus_base e alpha beta width) beta ms

-- without messages no pair is unlucky
abbrev pub NoneIsUnlucky : {F E : Type 0} → Ring F → (F → F → Bool) → Ring E → (E → E) → (F → E) → Type 0
NoneIsUnlucky {E = E} f eq e inv embed = (width : ℕ) (alpha beta : E) → IsPairUnlucky f eq e inv embed width [] alpha beta → ⊥
