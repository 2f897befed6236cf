-- Lists side by side, and the first item without a property.
use Rattle.std.proofs.Common.{◌≡◌, ℕ, zero, suc, ◌+◌, ◌<◌, inl, inr, List, [], ◌∷◌, ◌++◌, Some, length, get_or, map, refl, subst, sym, ◌∙◌, ap, arith}
use Rattle.std.specs.Prelude.{slice_get, zip}
use Rattle.std.specs.List.{All}
use Rattle.std.proofs.lemmas.Bool.{cases_lt}
use Rattle.std.proofs.lemmas.List.{length-map, length_push}
use Rattle.std.proofs.lemmas.Option.{slice_get_within, slice_get-get_or, get_or_from_slice_get}
use Rattle.commit_core.specs.Space.{EachOf}
use Rattle.commit_core.specs.Periodic.{EachFrom}
use Rattle.commit_core.specs.Laws.Each.{one_more}
use Rattle.commit_core.specs.Laws.Pairs.{length-zip, slice_get-zip}
use Rattle.p3_field.specs.Checks.{IsFirstWithout}
use Rattle.plain_pcs.specs.Laws.Listed.{item_at, item_has, lacking, first_lacking}

pub same_item : {X : Type 0} (xs : List X) (i : ℕ) (x y : X) → slice_get xs i ≡ Some x → slice_get xs i ≡ Some y → x ≡ y
same_item xs i x y e f = sym (get_or_from_slice_get xs i x x e) ∙ get_or_from_slice_get xs i y x f

-- an item of a list that was mapped
pub mapped_item : {X Y : Type 0} (f : X → Y) (xs : List X) (i : ℕ) (y : Y) → slice_get (map f xs) i ≡ Some y → (x : X) × (slice_get xs i ≡ Some x) × (y ≡ f x)
mapped_item f [] i y e = cc
mapped_item f (x ∷ xs) zero y e = (x, refl, cc)
mapped_item f (x ∷ xs) (suc i) y e = mapped_item f xs i y e

-- a list whose items come from those of another is the other, mapped
pub each_is_map : {X Y : Type 0} (f : X → Y) (xs : List X) (ys : List Y) → EachFrom xs ys (λ x y. y ≡ f x) → ys ≡ map f xs
each_is_map f [] [] E = refl
each_is_map f [] (y ∷ ys) E = absurd (let n = E.count in omega arith)
each_is_map f (x ∷ xs) [] E = absurd (let n = E.count in omega arith)
each_is_map f (x ∷ xs) (y ∷ ys) E =
    let rest : EachFrom xs ys (λ x y. y ≡ f x) = record { count = let n = E.count in omega arith; each = λ i w q v h. E.each (suc i) w q v h } in
    cc (E.each zero y refl x refl, each_is_map f xs ys rest)

-- where the items of zs come from those of xs, the items of xs mapped do
pub each_mapped : {X Y Z : Type 0} (f : X → Y) (xs : List X) (zs : List Z) (E : X → Z → Type 0) (R : X → Y → Type 0) → EachFrom xs zs E → ((x : X) (z : Z) → E x z → R x (f x)) → EachFrom xs (map f xs) R
each_mapped f xs zs E R h step = record {
  count = length-map xs f;
  each = λ i y q x e.
      let (v, a, b) = mapped_item f xs i y q in
      let same : v ≡ x = same_item xs i v x a e in
      let within : i < length zs = omega (arith, slice_get_within xs i x e, h.count) in
      let (z, g) = item_at zs i within in
      subst (R x) (sym (b ∙ ap f same)) (step x z (h.each i z g x e));
}

-- the items of xs mapped, beside those of two lists of its length
pub each_zipped : {X Y Z D : Type 0} (f : X → Y) (xs : List X) (ds : List D) (zs : List Z) (R : D × Z → Y → Type 0) → length zs ≡ length xs → length ds ≡ length zs
    → ((i : ℕ) (x : X) (d : D) (z : Z) → slice_get xs i ≡ Some x → slice_get ds i ≡ Some d → slice_get zs i ≡ Some z → R (d, z) (f x)) → EachFrom (zip ds zs) (map f xs) R
each_zipped f xs ds zs R m n step = record {
  count = length-map xs f ∙ (sym m ∙ sym (length-zip ds zs (omega arith)));
  each = λ i y q p e.
      let (x, a, b) = mapped_item f xs i y q in
      let (c, g) = slice_get-zip ds zs i p e in
      subst (R p) (sym b) (step i x p.0 p.1 a c g);
}

-- the items before the first that lacks a property
abbrev pub Earlier : {X : Type 0} → (X → Type 0) → List X → ℕ → Type 0
Earlier {X} P xs i = (j : ℕ) (x : X) → j < i → slice_get xs j ≡ Some x → P x

pub one_earlier : {X : Type 0} (P : X → Type 0) (xs : List X) (i : ℕ) (x : X) → i < length xs → x ≡ get_or xs i x → Earlier P xs i → P x → Earlier P xs (i + 1)
one_earlier P xs i x h e before p = λ j y b q. elim (cases_lt j i) [
  | inl a ↦ before j y a q
  | inr a ↦
      let at : j ≡ i = omega arith in
      let same : y ≡ x = sym (get_or_from_slice_get xs j y x q) ∙ (ap (λ k. get_or xs k x) at ∙ sym e) in
      subst P (sym same) p
]

pub first_without : {X : Type 0} (P : X → Type 0) (xs : List X) (i : ℕ) (x : X) → i < length xs → x ≡ get_or xs i x → Earlier P xs i → (P x → ⊥) → IsFirstWithout P xs i
first_without P xs i x h e before lacks = first_lacking P xs i x (slice_get-get_or xs i x h ∙ ap Some (sym e)) lacks before

pub all_earlier : {X : Type 0} (P : X → Type 0) (xs : List X) (n : ℕ) → n ≡ length xs → Earlier P xs n → All P xs
all_earlier P xs n e before = λ k d h. before k (get_or xs k d) (omega arith) (slice_get-get_or xs k d h)

pub none_first : {X : Type 0} (P : X → Type 0) (xs : List X) (i : ℕ) → All P xs → IsFirstWithout P xs i → ⊥
none_first P xs i all F = let (x, q, lacks) = lacking P xs i F in lacks (item_has P xs i x all q)

-- one item more, of one that is made from the next of xs
pub each_step : {X Y : Type 0} (R : X → Y → Type 0) (xs : List X) (n : ℕ) (x : X) (ys zs : List Y) (y : Y) → n < length xs → x ≡ get_or xs n x
    → EachOf n ys (λ i y. (v : X) → slice_get xs i ≡ Some v → R v y) → R x y → zs ≡ ys ++ y ∷ [] → EachOf (n + 1) zs (λ i y. (v : X) → slice_get xs i ≡ Some v → R v y)
each_step {X} R xs n x ys zs y h at E p e =
    one_more n ys zs y (λ i y. (v : X) → slice_get xs i ≡ Some v → R v y) E
    (λ v q. subst (λ (u : X). R u y) (at ∙ get_or_from_slice_get xs n v x q) p) e

-- the same, where the items so far are counted by a list
pub each_yielded : {X Y : Type 0} (R : X → Y → Type 0) (xs done : List X) (x : X) (ys zs : List Y) (y : Y) → length done < length xs → x ≡ get_or xs (length done) x
    → EachOf (length done) ys (λ i y. (v : X) → slice_get xs i ≡ Some v → R v y) → R x y → zs ≡ ys ++ y ∷ [] → EachOf (length (done ++ x ∷ [])) zs (λ i y. (v : X) → slice_get xs i ≡ Some v → R v y)
each_yielded {X} R xs done x ys zs y h at E p e =
    subst (λ (k : ℕ). EachOf k zs (λ i y. (v : X) → slice_get xs i ≡ Some v → R v y)) (sym (length_push done x)) (each_step R xs (length done) x ys zs y h at E p e)

pub each_done : {X Y : Type 0} (R : X → Y → Type 0) (xs : List X) (n : ℕ) (ys : List Y) → n ≡ length xs → EachOf n ys (λ i y. (v : X) → slice_get xs i ≡ Some v → R v y) → EachFrom xs ys R
each_done R xs n ys e E = record { count = E.count ∙ e; each = E.each }
