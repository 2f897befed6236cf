-- Items of one list for those of another, place by place.
use Rattle.std.proofs.Common.{◌≡◌, ℕ, ◌+◌, ◌<◌, inl, inr, List, Option, None, Some, length, map, get_or, refl, sym, ◌∙◌, ap, subst, arith, Vec}
use Rattle.std.specs.Prelude.{slice_get, option_map, All}
use Rattle.std.proofs.lemmas.Bool.{cases_lt}
use Rattle.std.proofs.lemmas.List.{length-map}
use Rattle.std.proofs.lemmas.List.{get_or-map as read_map, get_or_default}
use Rattle.std.proofs.lemmas.Option.{slice_get_within, slice_get-get_or, get_or_from_slice_get, slice_get-map}
use Rattle.commit_core.specs.Periodic.{EachFrom}
use Rattle.commit_rows.specs.Batches.{lists}

-- the item of which f gives what is read
pub source : {V Y : Type 0} (f : V → Y) (o : Option V) (y : Y) → option_map f o ≡ Some y → (v : V) × (o ≡ Some v) × (f v ≡ y)
source f None y e = cc
source f (Some v) y e = (v, refl, cc)

-- the second list's items are read by f
pub each_read : {X V Y : Type 0} (xs : List X) (vs : List V) (f : V → Y) (R : X → Y → Type 0) → length vs ≡ length xs
    → ((j : ℕ) (x : X) (v : V) → j < length xs → R (get_or xs j x) (f (get_or vs j v))) → EachFrom xs (map f vs) R
each_read xs vs f R n h = record {
  count = length-map vs f ∙ n;
  each = λ i y q x p.
      let (v, at, same) = source f (slice_get vs i) y (sym (slice_get-map f vs i) ∙ q) in
      let a = get_or_from_slice_get xs i x x p in
      let b = ap f (get_or_from_slice_get vs i v v at) ∙ same in
      subst (λ w. R w y) a (subst (λ w. R (get_or xs i x) w) b (h i x v (slice_get_within xs i x p)));
}

pub read_at : {X V Y : Type 0} (xs : List X) (vs : List V) (f : V → Y) (R : X → Y → Type 0) → EachFrom xs (map f vs) R → length vs ≡ length xs
    → (j : ℕ) (x : X) (v : V) → j < length xs → j < length vs → R (get_or xs j x) (f (get_or vs j v))
read_at xs vs f R E n j x v h k = E.each j (f (get_or vs j v)) (slice_get-map f vs j ∙ ap (option_map f) (slice_get-get_or vs j v k)) (get_or xs j x) (slice_get-get_or xs j x h)

-- what holds of each item, at one that is read
pub read_all : {X : Type 0} (P : X → Type 0) (xs : List X) (i : ℕ) (x : X) → i < length xs → x ≡ get_or xs i x → All P xs → P x
read_all P xs i x h e all = subst P (sym e) (all i x h)

pub read_list : {X A : Type 0} (vs : List (Vec X A)) (i : ℕ) (v : Vec X A) (d : List X) → i < length vs → v ≡ get_or vs i v → get_or (lists vs) i d ≡ v.items
read_list vs i v d h e = read_map (λ w. w.items) vs i v d h ∙ ap (λ w. w.items) (sym e)

-- the second list is read from the first
pub each_mapped : {X Y : Type 0} (xs : List X) (f : X → Y) (R : X → Y → Type 0) → ((j : ℕ) (x : X) → j < length xs → R (get_or xs j x) (f (get_or xs j x))) → EachFrom xs (map f xs) R
each_mapped xs f R h = each_read xs xs f R refl (λ j x v k. subst (λ w. R (get_or xs j x) (f w)) (get_or_default xs j x v k) (h j x k))

-- an item and what is read beside it
pub one_of_each : {X Y A : Type 0} (xs : List X) (vs : List (Vec Y A)) (R : X → List Y → Type 0) → EachFrom xs (lists vs) R → length vs ≡ length xs
    → (k : ℕ) (x : X) (v : Vec Y A) → k < length xs → x ≡ get_or xs k x → v ≡ get_or vs k v → R x v.items
one_of_each xs vs R E n k x v h p q =
    let a = read_at xs vs (λ w. w.items) R E n k x v h (omega (arith, n, h)) in
    subst (λ z. R z v.items) (sym p) (subst (λ w. R (get_or xs k x) w.items) (sym q) a)

-- what holds of the items below i, and of those at i, holds of those below i + 1
pub below_and_here : {X V : Type 0} (xs : List X) (vs : List V) (R : X → V → Type 0) (i : ℕ) (x : X) (v : V) → i < length xs → i < length vs → x ≡ get_or xs i x → v ≡ get_or vs i v → R x v
    → ((j : ℕ) (y : X) (w : V) → j < i → R (get_or xs j y) (get_or vs j w)) → (j : ℕ) (y : X) (w : V) → j < i + 1 → R (get_or xs j y) (get_or vs j w)
below_and_here xs vs R i x v h k p q r before j y w b = elim (cases_lt j i) [
  | inl a ↦ before j y w a
  | inr a ↦
      let e : i ≡ j = omega arith in
      let s : x ≡ get_or xs j y = p ∙ (get_or_default xs i x y h ∙ ap (λ n. get_or xs n y) e) in
      let t : v ≡ get_or vs j w = q ∙ (get_or_default vs i v w k ∙ ap (λ n. get_or vs n w) e) in
      subst (λ z. R z (get_or vs j w)) s (subst (λ z. R x z) t r)
]

pub mapped_at : {V Y : Type 0} (P : Y → Type 0) (f : V → Y) (vs : List V) (k : ℕ) (v : V) → k < length vs → v ≡ get_or vs k v → All P (map f vs) → P (f v)
mapped_at P f vs k v h q all =
    let inside : k < length (map f vs) = omega (arith, h, length-map vs f) in
    subst P (read_map f vs k v (f v) h ∙ ap f (sym q)) (all k (f v) inside)
