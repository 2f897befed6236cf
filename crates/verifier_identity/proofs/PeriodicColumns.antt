-- The values of periodic columns that fit a domain are those of the columns' interpolants.
use Rattle.std.proofs.Common.{◌≡◌, ℕ, suc, ◌+◌, ◌-◌, ◌*◌, ◌^◌, ◌<◌, ◌≤◌, List, [], ◌∷◌, Some, length, get_or, map, refl, sym, ◌∙◌, ap, subst, arith}
use Rattle.std.specs.Prelude.{slice_get, IfOk, Result}
use Rattle.std.proofs.lemmas.Result.{IfOk-weaker}
use Rattle.std.specs.List.{All}
use Rattle.std.proofs.lemmas.List.{length-map}
use Rattle.std.proofs.lemmas.Nat.{pow-add, pow_pos}
use Rattle.std.proofs.lemmas.Nat.Gcd.{le_of_dvd}
use Rattle.std.proofs.lemmas.Option.{slice_get_within, slice_get-map, get_or_from_slice_get}
use Rattle.std.specs.Option.{option_map}
use Rattle.p3_field.specs.Ring.{RingLaws}
use Rattle.p3_field.specs.Field.{TwoAdic, Extension, FieldLaws, TwoAdicLaws}
use Rattle.p3_field.specs.Poly.{Apart, eval_poly_in}
use Rattle.p3_field.specs.Newton.{newton}
use Rattle.p3_field.specs.Domain.{CosetData, point}
use Rattle.p3_field.specs.Laws.Interpolants.{interpolant_exists, interpolant_unique, points_apart}
use Rattle.p3_matrix.specs.Laws.Powers.{power_le_cancel}
use Rattle.commit_core.specs.Periodic.{IsPeriod, IsPeriodicAt, EachFrom, over_rows}
use Rattle.commit_core.specs.Laws.Repeated.{length_over_rows}
use Rattle.verifier_identity.specs.PeriodicValues.{periodic_value}

-- a column that fits fills the rows
over_all_rows : {A : Type 0} (log : ℕ) (column : List A) → IsPeriod (2 ^ log) (length column) → length (over_rows (2 ^ log) column) ≡ 2 ^ log
over_all_rows log column P =
    let (power, divides) = P in
    let (k, size) = power in
    let n = 2 ^ log in
    let low : 2 ^ k ≤ n = subst (λ z. z ≤ n) size (le_of_dvd (pow_pos log) divides) in
    let less : k ≤ log = power_le_cancel k log low in
    let a = log - k in
    let sum : a + k ≡ log = omega (arith, less) in
    let pos : 0 < length column = let p : 0 < 2 ^ k = pow_pos k in omega (arith, size, p) in
    let whole : n ≡ 2 ^ a * length column = ap (λ z. 2 ^ z) (sym sum) ∙ (pow-add 2 a k ∙ ap (λ z. 2 ^ a * z) (sym size)) in
    length_over_rows n (2 ^ a) column whole pos

-- items that are the images of those at their places
images : {X Y : Type 0} (h : X → Y) (xs : List X) (ys : List Y) → length ys ≡ length xs → ((i : ℕ) (x : X) (y : Y) → slice_get xs i ≡ Some x → slice_get ys i ≡ Some y → y ≡ h x) → ys ≡ map h xs
images h [] [] e f = refl
images h [] (y ∷ ys) e f = absurd (omega (arith, e))
images h (x ∷ xs) [] e f = absurd (omega (arith, e))
images {X} {Y} h (x ∷ xs) (y ∷ ys) e f =
    ap (λ (z : Y). z ∷ ys) (f 0 x y refl refl) ∙ ap (λ (l : List Y). h x ∷ l) (images h xs ys (omega (arith, e)) (λ i a b p q. f (suc i) a b p q))

module _ {F E : Type 0} (f : TwoAdic F) (e : Extension F E) (L : RingLaws f.ring) (W : FieldLaws f.ring f.inv) (top : ℕ) (T : TwoAdicLaws f.ring top f.root) where
  -- the value of a column's interpolant is that of Newton's
  value_is : (d : CosetData F) (zeta y : E) (column : List F) → d.log_size ≤ top → (d.shift ≡ f.ring.zero → ⊥) → IsPeriod (2 ^ d.log_size) (length column)
      → IsPeriodicAt f.ring e.ring e.embed (2 ^ d.log_size) (point f.ring f.root d) zeta column y → y ≡ periodic_value f e d zeta column
  unfolding periodic_value
  value_is d zeta y column fits nz P I =
      let n = 2 ^ d.log_size in
      let p = point f.ring f.root d in
      let v = over_rows n column in
      let long : length v ≡ n = over_all_rows d.log_size column P in
      let apart = subst (λ m. Apart m p) (sym long) (points_apart f.ring L f.inv W top f.root T d fits nz) in
      let same = interpolant_unique f.ring L f.inv W p v I.interpolant (newton f.ring f.inv (length v) p (λ i. get_or v i f.ring.zero)) apart I.interpolates (interpolant_exists f.ring L f.inv W p v apart) in
      I.value_is ∙ (ap (λ g. eval_poly_in e g zeta) same ∙ ap (λ m. eval_poly_in e (newton f.ring f.inv m p (λ i. get_or v i f.ring.zero)) zeta) long)

  -- and so of all columns
  pub values_are : {V : Type 0} (items : V → List F) (d : CosetData F) (zeta : E) (columns : List V) (height : ℕ) (ys : List E) → d.log_size ≤ top → (d.shift ≡ f.ring.zero → ⊥)
      → height ≡ 2 ^ d.log_size → All (λ c. IsPeriod height (length (items c))) columns
      → EachFrom (map items columns) ys (IsPeriodicAt f.ring e.ring e.embed (2 ^ d.log_size) (point f.ring f.root d) zeta) → ys ≡ map (λ c. periodic_value f e d zeta (items c)) columns
  values_are {V} items d zeta columns height ys fits nz high fit E =
      images (λ c. periodic_value f e d zeta (items c)) columns ys (E.count ∙ length-map columns items)
      (λ i x y p q.
      let within = slice_get_within columns i x p in
      let here : IsPeriod height (length (items x)) = subst (λ (c : V). IsPeriod height (length (items c))) (get_or_from_slice_get columns i x x p) (fit i x within) in
      let laid : IsPeriod (2 ^ d.log_size) (length (items x)) = subst (λ m. IsPeriod m (length (items x))) high here in
      value_is d zeta y (items x) fits nz laid (E.each i y q (items x) (slice_get-map items columns i ∙ ap (option_map items) p)))

  -- where there is memory for them
  pub values_on_ok : {V O Er : Type 0} (items : V → List F) (out : O → List E) (d : CosetData F) (zeta : E) (columns : List V) (height : ℕ) (answer : Result O Er) → d.log_size ≤ top
      → (d.shift ≡ f.ring.zero → ⊥) → height ≡ 2 ^ d.log_size → All (λ c. IsPeriod height (length (items c))) columns
      → IfOk answer (λ v. EachFrom (map items columns) (out v) (IsPeriodicAt f.ring e.ring e.embed (2 ^ d.log_size) (point f.ring f.root d) zeta))
      → IfOk answer (λ v. out v ≡ map (λ c. periodic_value f e d zeta (items c)) columns)
  values_on_ok items out d zeta columns height answer fits nz high fit h =
      IfOk-weaker answer (λ v. EachFrom (map items columns) (out v) (IsPeriodicAt f.ring e.ring e.embed (2 ^ d.log_size) (point f.ring f.root d) zeta))
      (λ v. out v ≡ map (λ c. periodic_value f e d zeta (items c)) columns) (λ v k. values_are items d zeta columns height (out v) fits nz high fit k) h
