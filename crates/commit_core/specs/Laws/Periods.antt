-- That a column fits has one proof at most, so a struct can keep it; columns that fit fail no check; and the longest of
-- periods is one that each divides.
use Rattle.std.proofs.Common.{◌≡◌, ℕ, ◌+◌, ◌-◌, ◌*◌, ◌^◌, ◌<◌, ◌≤◌, List, length, get_or, map, sym, ◌∙◌, ap, subst, arith}
use Rattle.std.proofs.lemmas.List.{get_or-map, length-map}
use Rattle.std.proofs.lemmas.List.Elements.{All-map}
use Rattle.std.proofs.lemmas.Nat.{pow-add, pow_pos}
use Rattle.std.proofs.lemmas.Nat.Gcd.{le_of_dvd}
use Rattle.std.proofs.lemmas.Option.{slice_get_within, get_or_from_slice_get}
use Rattle.std.specs.Int.{IsPowerOfTwo, ◌∣◌}
use Rattle.std.specs.List.{All}
use Rattle.std.proofs.Math.Nat.{ℕ_set, ∣_prop, dvd-mul_left}
use mathlib.Core.HLevel.{Π_prop, ×_prop, Σ_prop_path}
use Rattle.p3_matrix.specs.Laws.Powers.{power_cancel, power_le_cancel}
use Rattle.p3_field.specs.Checks.{NoneFails, of_items}
use Rattle.p3_field.specs.Laws.Checks.{none_of_items}
use Rattle.commit_core.specs.Periodic.{IsGreatest, IsPeriod, period_checks}

power_prop : (n : ℕ) → IsProp (IsPowerOfTwo n)
power_prop n = λ p q. Σ_prop_path (λ k. ℕ_set n (2 ^ k)) (power_cancel p.0 q.0 (sym p.1 ∙ q.1))

pub period_prop : (height length : ℕ) → IsProp (IsPeriod height length)
period_prop height length = ×_prop (power_prop length) (∣_prop length height)

pub all_periods_prop : {V : Type 0} (f : V → ℕ) (height : ℕ) (columns : List V) → IsProp (All (λ c. IsPeriod height (f c)) columns)
all_periods_prop f height columns = Π_prop (λ k. Π_prop (λ d. Π_prop (λ h. period_prop height (f (get_or columns k d)))))

-- a length that can be laid over the rows fails no check
pub periods_pass : (height index n : ℕ) → IsPeriod height n → NoneFails (period_checks height index n)
unfolding NoneFails
periods_pass height index n p = (p.0, (p.1, tt))

-- so where all can, none is named
pub all_pass : (height : ℕ) (lengths : List ℕ) → All (IsPeriod height) lengths → NoneFails (of_items (period_checks height) lengths)
all_pass height lengths fit = none_of_items (period_checks height) lengths (λ i n q.
    let here : IsPeriod height n = subst (IsPeriod height) (get_or_from_slice_get lengths i n n q) (fit i n (slice_get_within lengths i n q)) in
    periods_pass height i n here)

-- a period isn't longer than the domain
pub period_below : (k n length : ℕ) → length ≡ 2 ^ k → length ∣ 2 ^ n → k ≤ n
period_below k n length e h =
    let low : 2 ^ k ≤ 2 ^ n = omega (arith, le_of_dvd (pow_pos n) h, e) in
    power_le_cancel k n low

-- the smaller of two powers of two divides the greater
power_divides : (n m : ℕ) → IsPowerOfTwo n → IsPowerOfTwo m → n ≤ m → n ∣ m
power_divides n m (a, e) (b, f) h =
    let low : 2 ^ a ≤ 2 ^ b = omega (arith, e, f, h) in
    let less : a ≤ b = power_le_cancel a b low in
    let sum : b - a + a ≡ b = omega arith in
    let split : m ≡ 2 ^ (b - a) * 2 ^ a = f ∙ (ap (λ k. 2 ^ k) (sym sum) ∙ pow-add 2 (b - a) a) in
    let P : ℕ → Type 0 = λ k. k ∣ m in
    let Q : ℕ → Type 0 = λ k. 2 ^ a ∣ k in
    subst P (sym e) (subst Q (sym split) (dvd-mul_left (2 ^ a) (2 ^ (b - a))))

-- the longest of periods is a period
pub longest_is : {V : Type 0} (f : V → ℕ) (n : ℕ) (columns : List V) (p : ℕ) → All (λ c. IsPeriod n (f c)) columns → IsGreatest (map f columns) p → IsPeriod n p
longest_is f n columns p fit G =
    let (i, inside, at) = G.is_one in
    subst (IsPeriod n) at (All-map (IsPeriod n) f columns fit i p inside)

-- and a multiple of each
pub longest_divided : {V : Type 0} (f : V → ℕ) (n : ℕ) (columns : List V) (p : ℕ) → All (λ c. IsPeriod n (f c)) columns → IsGreatest (map f columns) p → All (λ c. IsPeriod p (f c)) columns
longest_divided f n columns p fit G = λ k d h.
    let all : k < length (map f columns) = omega (arith, h, length-map columns f) in
    let below : f (get_or columns k d) ≤ p = subst (λ m. m ≤ p) (get_or-map f columns k d 0 h) (G.none_greater k 0 all) in
    ((fit k d h).0, power_divides (f (get_or columns k d)) p (fit k d h).0 (longest_is f n columns p fit G).0 below)
