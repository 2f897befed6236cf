-- A list in which each item has what is asked at its place, as it grows.
use Rattle.std.proofs.Common.{◌≡◌, ℕ, ◌+◌, ◌<◌, inl, inr, List, [], ◌∷◌, ◌++◌, Some, length, get_or, subst, sym, ◌∙◌, ap, arith}
use Rattle.std.specs.Prelude.{slice_get}
use Rattle.std.proofs.lemmas.Bool.{cases_lt}
use Rattle.std.proofs.lemmas.List.{length_push, get_or_push, get_or_append_left}
use Rattle.std.proofs.lemmas.Option.{slice_get_within, slice_get-get_or, get_or_from_slice_get}
use Rattle.commit_core.specs.Space.{EachOf}

-- nothing yet
pub none_yet : {X : Type 0} (xs : List X) (P : ℕ → X → Type 0) → xs ≡ [] → EachOf 0 xs P
none_yet xs P e = record {
  count = ap length e;
  each = λ i x q. absurd (let b = slice_get_within xs i x q in omega (arith, b, ap length e));
}

-- one item more, which has what is asked at its place
pub one_more : {X : Type 0} (n : ℕ) (xs zs : List X) (y : X) (P : ℕ → X → Type 0) → EachOf n xs P → P n y → zs ≡ xs ++ y ∷ [] → EachOf (n + 1) zs P
one_more {X} n xs zs y P E p q = record {
  count = ap length q ∙ (length_push xs y ∙ ap (λ k. k + 1) E.count);
  each = all;
}
  where
    all : (i : ℕ) (x : X) → slice_get zs i ≡ Some x → P i x
    all i x h =
        let within : i < length zs = slice_get_within zs i x h in
        let item : get_or zs i y ≡ x = get_or_from_slice_get zs i x y h in
        elim (cases_lt i n) [
          | inl a ↦
              let inside : i < length xs = omega (arith, E.count) in
              let old : get_or xs i y ≡ x = sym (get_or_append_left xs (y ∷ []) y i inside) ∙ (ap (λ l. get_or l i y) (sym q) ∙ item) in
              E.each i x (slice_get-get_or xs i y inside ∙ ap Some old)
          | inr a ↦
              let long : length zs ≡ n + 1 = ap length q ∙ (length_push xs y ∙ ap (λ k. k + 1) E.count) in
              let at : i ≡ n = omega arith in
              let last : y ≡ x = sym (get_or_push xs y y i (E.count ∙ sym at)) ∙ (ap (λ l. get_or l i y) (sym q) ∙ item) in
              subst (λ j. P j x) (sym at) (subst (P n) last p)
        ]
