-- Numbers pushed one after another.
use Rattle.std.proofs.Common.{◌≡◌, ℕ, zero, suc, ◌+◌, ◌<◌, length, refl, List, ◌++◌, map, sym, ◌∙◌, ap, subst, arith, append_assoc, append-nil}
use Rattle.std.proofs.lemmas.List.{map-append}
use Rattle.p3_field.specs.Ring.{Ring, of_nat}
use Rattle.std.specs.Int.{bit_at}
use Rattle.p3_field.specs.Poly.{tabulate}
use Rattle.p3_field.specs.Laws.Tabulate.{get_or-tabulate}
use Rattle.air_gadgets.specs.Words.{limb}
use Rattle.air_core.specs.Joined.{joined}
use Rattle.blake3_compress.specs.TraceRow.{bit_cells, limb_cells}
use Rattle.blake3_compress.specs.Generated.{Pushed, input_of}

pub push_none : {F : Type 0} (r : Ring F) (a : List F) (t : ℕ → List ℕ) → Pushed r a a (joined 0 t)
unfolding joined
push_none r a t = record { pushed = sym (append-nil a) }

pub push_both : {F : Type 0} (r : Ring F) {a b c : List F} {s t : List ℕ} → Pushed r a b s → Pushed r b c t → Pushed r a c (s ++ t)
push_both r {a = a} {s = s} {t = t} p q = record {
  pushed = q.pushed ∙ (ap (λ xs. xs ++ map (of_nat r) t) p.pushed ∙ (append_assoc a (map (of_nat r) s) (map (of_nat r) t) ∙ ap (λ xs. a ++ xs) (sym (map-append (of_nat r) s t))));
}

pub push_more : {F : Type 0} (r : Ring F) {a b c : List F} (n : ℕ) (t : ℕ → List ℕ) → Pushed r a b (joined n t) → Pushed r b c (t n) → Pushed r a c (joined (n + 1) t)
unfolding joined
push_more r {a = a} {c = c} n t p q =
    let e : suc n ≡ n + 1 = omega arith in
    subst (λ m. Pushed r a c (joined m t)) e (push_both r {s = joined n t} {t = t n} p q)

pub push_all : {F : Type 0} (r : Ring F) (a b : List F) (n m : ℕ) (t : ℕ → List ℕ) → n ≡ m → Pushed r a b (joined n t) → Pushed r a b (joined m t)
push_all r a b n m t e p = subst (λ k. Pushed r a b (joined k t)) e p

-- equal lists one after another
pub joined_same : {A : Type 0} (n : ℕ) (t u : ℕ → List A) → ((i : ℕ) → i < n → t i ≡ u i) → joined n t ≡ joined n u
unfolding joined
joined_same zero t u h = refl
joined_same (suc n) t u h = λ j. joined_same n t u (λ i lt. h i (omega (arith, lt))) j ++ h n (omega arith) j

pub bits_of_row : {F : Type 0} (r : Ring F) (a b : List F) (words : List ℕ) (w : ℕ → ℕ) → words ≡ tabulate 4 w → Pushed r a b (bit_cells (length words) (input_of words)) → Pushed r a b (bit_cells 4 w)
bits_of_row r a b words w e p =
    let f : bit_cells (length words) (input_of words) ≡ bit_cells 4 w =
    ap (λ ws. bit_cells (length ws) (input_of ws)) e
    ∙ joined_same 4 (λ i. tabulate 32 (bit_at (input_of (tabulate 4 w) i))) (λ i. tabulate 32 (bit_at (w i))) (λ i lt. ap (λ m. tabulate 32 (bit_at m)) (get_or-tabulate 4 w i 0 lt)) in
    subst (Pushed r a b) f p

pub limbs_of_row : {F : Type 0} (r : Ring F) (a b : List F) (words : List ℕ) (w : ℕ → ℕ) → words ≡ tabulate 4 w → Pushed r a b (limb_cells (length words) (input_of words)) → Pushed r a b (limb_cells 4 w)
limbs_of_row r a b words w e p =
    let f : limb_cells (length words) (input_of words) ≡ limb_cells 4 w =
    ap (λ ws. limb_cells (length ws) (input_of ws)) e
    ∙ joined_same 4 (λ i. tabulate 2 (limb (input_of (tabulate 4 w) i))) (λ i. tabulate 2 (limb (w i))) (λ i lt. ap (λ m. tabulate 2 (limb m)) (get_or-tabulate 4 w i 0 lt)) in
    subst (Pushed r a b) f p

pub bits_of_all : {F : Type 0} (r : Ring F) (a b : List F) (words : List ℕ) (n : ℕ) → length words ≡ n → Pushed r a b (bit_cells (length words) (input_of words)) → Pushed r a b (bit_cells n (input_of words))
bits_of_all r a b words n e p = subst (λ k. Pushed r a b (bit_cells k (input_of words))) e p
