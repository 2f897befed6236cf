-- One turn of Horner's rule on trees, packed bits from another place on, and expressions that represent trees.
use Rattle.std.proofs.Common.{◌≡◌, ℕ, zero, suc, ◌+◌, ◌-◌, ◌<◌, ◌≤◌, List, [], ◌∷◌, length, take, drop, get_or, refl, sym, ◌∙◌, ap, subst, arith, length-drop}
use Rattle.std.proofs.lemmas.List.{get_or-take, get_or-drop, length-take}
use Rattle.p3_field.specs.Ring.{Ring}
use Rattle.p3_field.specs.Poly.{tabulate}
use Rattle.p3_field.specs.Laws.Tabulate.{length-tabulate, get_or-tabulate}
use Rattle.air_core.specs.Tree.{Tree, Represent, sum, product}
use Rattle.air_gadgets.specs.Gadgets.{RepresentAt, number, packed_bits}

pub packed_none : {F : Type 0} (r : Ring F) (t : ℕ → Tree F) (k m : ℕ) → m ≡ 0 → number r 0 ≡ packed_bits r t k m
unfolding packed_bits
packed_none r t k m e = ap (λ j. packed_bits r t k j) (sym e)

pub packed_turn : {F : Type 0} (r : Ring F) (t : ℕ → Tree F) (k l n m : ℕ) → l ≡ suc k → m ≡ suc n → sum (t k) (product (number r 2) (packed_bits r t l n)) ≡ packed_bits r t k m
unfolding packed_bits
packed_turn {F = F} r t k l n m e f =
    ap (λ j. sum (t k) (product (number r 2) (packed_bits r t j n))) e ∙ ap (λ j. packed_bits r t k j) (sym f)

pub packed_from : {F : Type 0} (r : Ring F) (t : ℕ → Tree F) (m k n : ℕ) → packed_bits r (λ i. t (m + i)) k n ≡ packed_bits r t (m + k) n
unfolding packed_bits
packed_from r t m k zero = refl
packed_from {F = F} r t m k (suc n) =
    let e : m + suc k ≡ suc (m + k) = omega arith in
    ap (λ (u : Tree F). sum (t (m + k)) (product (number r 2) u)) (packed_from r t m (suc k) n ∙ ap (λ j. packed_bits r t j n) e)

-- an item of the list represents the tree of its place
pub stand_item : {E T : Type 0} (P : E → T → Type 0) (es : List E) (t : ℕ → T) → RepresentAt P es t → (k : ℕ) (x : E) → k < length es → x ≡ get_or es k x → P x (t k)
stand_item {E = E} P es t h k x lt e = let Q : E → Type 0 = λ y. P y (t k) in subst Q (sym e) (h.each k x lt)

pub stand_take : {E T : Type 0} (P : E → T → Type 0) (es : List E) (t : ℕ → T) → RepresentAt P es t → (n : ℕ) → n ≤ length es → RepresentAt P (take n es) t
stand_take {E = E} P es t h n b = record {
  each = λ k d lt.
      let long : length (take n es) ≡ n = omega (arith, length-take n es) in
      let Q : E → Type 0 = λ y. P y (t k) in
      subst Q (sym (get_or-take n es k d (omega (arith, long, lt)))) (h.each k d (omega (arith, long, lt)));
}

pub stand_drop : {E T : Type 0} (P : E → T → Type 0) (es : List E) (t : ℕ → T) → RepresentAt P es t → (n : ℕ) → RepresentAt P (drop n es) (λ i. t (n + i))
stand_drop {E = E} P es t h n = record {
  each = λ k d lt.
      let long = length-drop n es in
      let Q : E → Type 0 = λ y. P y (t (n + k)) in
      subst Q (sym (get_or-drop n es k d)) (h.each (n + k) d (omega (arith, long, lt)));
}

pub represent_tabulate : {E T : Type 0} (P : E → T → Type 0) (es : List E) (t : ℕ → T) (n : ℕ) → RepresentAt P es t → length es ≡ n → Represent P es (tabulate n t)
represent_tabulate {T = T} P es t n h e = record {
  long = length-tabulate n t ∙ sym e;
  each = λ k d u lt. let Q : T → Type 0 = λ v. P (get_or es k d) v in subst Q (sym (get_or-tabulate n t k u (omega (arith, e, lt)))) (h.each k d lt);
}

pub represent_later : {E T : Type 0} (P Q : E → T → Type 0) (es : List E) (t : ℕ → T) → ((e : E) (u : T) → P e u → Q e u) → RepresentAt P es t → RepresentAt Q es t
represent_later P Q es t f h = record { each = λ k d lt. f (get_or es k d) (t k) (h.each k d lt) }

-- the packed bits of the two halves of a word
pub packed_low : {E F : Type 0} (r : Ring F) (t : ℕ → Tree F) (es : List E) → length es ≡ 32 → packed_bits r t 0 (length (take 16 es)) ≡ packed_bits r t 0 16
packed_low r t es e =
    let long : length (take 16 es) ≡ 16 = omega (arith, length-take 16 es, e) in
    ap (λ j. packed_bits r t 0 j) long

pub packed_high : {E F : Type 0} (r : Ring F) (t : ℕ → Tree F) (es : List E) → length es ≡ 32 → packed_bits r (λ i. t (16 + i)) 0 (length (take (length es - 16) (drop 16 es))) ≡ packed_bits r t 16 16
packed_high r t es e =
    let long : length (take (length es - 16) (drop 16 es)) ≡ 16 = omega (arith, length-take (length es - 16) (drop 16 es), length-drop 16 es, e) in
    ap (λ j. packed_bits r (λ i. t (16 + i)) 0 j) long ∙ packed_from r t 16 0 16

-- the expressions of a tail, as a slice from a place to the end has them
pub stand_tail : {E T : Type 0} (P : E → T → Type 0) (es : List E) (t : ℕ → T) → RepresentAt P es t → (n : ℕ) → RepresentAt P (take (length es - n) (drop n es)) (λ i. t (n + i))
stand_tail P es t h n = stand_take P (drop n es) (λ i. t (n + i)) (stand_drop P es t h n) (length es - n) (omega (arith, length-drop n es))

-- two expressions and the trees of their places
pub stand_pair : {E T : Type 0} (P : E → T → Type 0) (x y : E) (t : ℕ → T) → P x (t 0) → P y (t 1) → (k : ℕ) (d : E) → k < length (x ∷ y ∷ []) → P (get_or (x ∷ y ∷ []) k d) (t k)
stand_pair P x y t a b zero d lt = a
stand_pair P x y t a b (suc zero) d lt = b
stand_pair P x y t a b (suc (suc k)) d lt = absurd (omega (arith, lt))
