-- Lists of values and their coefficients: values are known by their coefficients, and a combination of the basis has the given ones.
use Rattle.std.proofs.Common.{◌≡◌, ℕ, List, [], ◌∷◌, ◌++◌, length, map, refl, sym, ◌∙◌, ap, arith}
use Rattle.std.specs.List.{flat_map}
use Rattle.std.proofs.Math.Seq.{take-append_seam, drop-append_seam}
use Rattle.std.proofs.lemmas.List.{length-append}
use Rattle.p3_field.specs.Ring.{Ring}
use Rattle.p3_field.specs.Field.{VectorLaws, combine}

module _ {A B : Type 0} (dimension : ℕ) (coefficients : B → List A) (from_coefficients : List A → B) (V : VectorLaws dimension coefficients from_coefficients) where
  -- a value is known by its coefficients
  pub coefficients_injective : (x y : B) → coefficients x ≡ coefficients y → x ≡ y
  coefficients_injective x y e = sym (V.from_coefficients_of_coefficients x) ∙ (ap from_coefficients e ∙ V.from_coefficients_of_coefficients y)

  rest_differs : (x : B) (l : List A) → coefficients x ++ l ≡ [] → ⊥
  rest_differs x l e =
      let n : length (coefficients x ++ l) ≡ 0 = ap length e in
      omega (arith, n, length-append (coefficients x) l, V.coefficients_length x, V.positive)

  first_same : (a b l m : List A) → length a ≡ length b → a ++ l ≡ b ++ m → (a ≡ b) × (l ≡ m)
  first_same a b l m n e =
      let t : a ≡ b = cc (take-append_seam a l, take-append_seam b m) in
      let u : l ≡ m = cc (drop-append_seam a l, drop-append_seam b m) in
      (t, u)

  -- so are the values of a list, by the coefficients of all
  pub flat_map_injective : (xs ys : List B) → flat_map coefficients xs ≡ flat_map coefficients ys → xs ≡ ys
  flat_map_injective [] [] e = refl
  flat_map_injective [] (y ∷ ys) e = absurd (rest_differs y (flat_map coefficients ys) (sym e))
  flat_map_injective (x ∷ xs) [] e = absurd (rest_differs x (flat_map coefficients xs) e)
  flat_map_injective (x ∷ xs) (y ∷ ys) e =
      let s = first_same (coefficients x) (coefficients y) (flat_map coefficients xs) (flat_map coefficients ys) (V.coefficients_length x ∙ sym (V.coefficients_length y)) e in
      cc (coefficients_injective x y s.0, flat_map_injective xs ys s.1)

  -- where each value is the combination of its coefficients, the combination of c has the coefficients c
  pub coefficients_of_combination : (r : Ring B) (embed : A → B) (basis : ℕ → B) → ((x : B) → combine r basis 0 (map embed (coefficients x)) ≡ x)
      → (c : List A) → length c ≡ dimension → coefficients (combine r basis 0 (map embed c)) ≡ c
  coefficients_of_combination r embed basis spans c n =
      let e : combine r basis 0 (map embed c) ≡ from_coefficients c = ap (λ l. combine r basis 0 (map embed l)) (sym (V.coefficients_of_from_coefficients c n)) ∙ spans (from_coefficients c) in
      ap coefficients e ∙ V.coefficients_of_from_coefficients c n
