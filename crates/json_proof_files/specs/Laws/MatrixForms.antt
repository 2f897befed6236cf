-- The form of matrices.
use Rattle.std.specs.Prelude.{◌≡◌, ℕ, zero, suc, ◌*◌, ◌≤◌, List, length, codes, Bool, true, false, ◌&&◌, ◌==◌, not, if◌then◌else◌, refl}
use Rattle.std.proofs.Common.{sym, ap, subst, arith}
use Rattle.std.proofs.Common.{mul-le-mul}
use Rattle.std.proofs.lemmas.Bool.{eqb-true, eq-eqb, false≢true}
use Rattle.p3_field.specs.declared.baby_bear.BabyBear.{BabyBear}
use Rattle.p3_matrix.specs.Matrix.{Rows, height}
use Rattle.tool_lines.specs.Texts.{Between, Unlimited, ListWithin}
use Rattle.tool_proof_text.specs.Matrices.{MatrixWithin}
use Rattle.tool_proof_text.specs.Laws.Matrices.{HeightWithin, matrix-fits, shape-fits, rows-of}
use Rattle.serde_json.specs.Data.{Data}
use Rattle.json_forms.specs.Trees.{number_tree, list_tree, element_tree}
use Rattle.json_forms.specs.Readings.{TreeForm}
use Rattle.json_forms.specs.Laws.Forms.{BothWithin, SameTrees, same-form, list-form, member-form, then-form, object-form, object_tree, then_members, member_of, number-form, element-form}
use Rattle.json_forms.specs.Laws.More.{kept-form}
use Rattle.json_proof_files.specs.MatrixTrees.{Shaped, fills, is_filled, shaped_reading, matrix_tree, matrix_reading}

both-true : (a b : Bool) → (a && b) ≡ true → (a ≡ true) × (b ≡ true)
both-true true true e = (refl, refl)
both-true true false e = absurd (cc)
both-true false b e = absurd (cc)

true-both : (a b : Bool) → a ≡ true → b ≡ true → (a && b) ≡ true
true-both a b p q = rw (p, q) refl

-- no rows exactly where there are no columns
abbrev pub both_or_neither : ℕ → ℕ → Bool
both_or_neither rows columns = if rows == 0 then columns == 0 else not (columns == 0)

suc-differs : (n : ℕ) (b : Bool) → (suc n == 0) ≡ b → (suc n == 0) ≡ false
suc-differs n true e = let t = eqb-true (suc n) 0 e in absurd (omega (arith, t))
suc-differs n false e = e

height-within : (rows columns : ℕ) → rows ≤ 4096 → both_or_neither rows columns ≡ true → HeightWithin columns rows
height-within zero zero most e = (omega arith, omega arith)
height-within zero (suc w) most e = let t = eqb-true (suc w) 0 e in absurd (omega (arith, t))
height-within (suc h) zero most e =
    let t : false ≡ true = subst (λ (b : Bool). (if b then true else false) ≡ true) (suc-differs h (suc h == 0) refl) e in
    absurd (false≢true t)
height-within (suc h) (suc w) most e = (omega arith, most)

within-height : (rows columns : ℕ) → HeightWithin columns rows → both_or_neither rows columns ≡ true
within-height zero zero fits = refl
within-height zero (suc w) fits = let least = fits.0 in absurd (omega (arith, least))
within-height (suc h) zero fits = let most = fits.1 in absurd (omega (arith, most))
within-height (suc h) (suc w) fits = rw (suc-differs h (suc h == 0) refl, suc-differs w (suc w == 0) refl) refl

abbrev pub ShapedWithin : Shaped → Type 0
ShapedWithin = BothWithin (Between 0 4096) (BothWithin (ListWithin 0 67108864 Unlimited) (Between 0 16384))

abbrev pub FilledWithin : Shaped → Type 0
FilledWithin p = ShapedWithin p × (is_filled p ≡ true)

abbrev pub shaped_tree : Shaped → Data
shaped_tree = object_tree (then_members (member_of (codes "height") number_tree) (then_members (member_of (codes "values") (list_tree element_tree)) (member_of (codes "width") number_tree)))

pub shaped-form : TreeForm ShapedWithin shaped_tree shaped_reading
shaped-form = object-form (then-form (member-form (codes "height") (number-form 0 4096)) (then-form (member-form (codes "values") (list-form 0 67108864 element-form)) (member-form (codes "width") (number-form 0 16384))))

-- what `fills` tells
tells : (h w : ℕ) (xs : List BabyBear) → h ≤ 4096 → fills h (length xs) w ≡ true → (length xs ≡ w * h) × HeightWithin w h
tells h w xs most e =
    let t = both-true _ _ e in
    (sym (eqb-true (w * h) (length xs) t.0), height-within h w most t.1)

to-fits : (p : Shaped) → FilledWithin p → MatrixWithin (record { values = p.1.0; width = p.1.1 })
to-fits p fits =
    let t = tells p.0 p.1.1 p.1.0 fits.0.0.1 fits.1 in
    matrix-fits ((p.1.1, p.0), p.1.0) ((fits.0.1.1, t.1), (t.0, λ k d q. tt))

to-tree : (p : Shaped) → FilledWithin p → matrix_tree (record { values = p.1.0; width = p.1.1 }) ≡ shaped_tree p
to-tree p fits =
    let t = tells p.0 p.1.1 p.1.0 fits.0.0.1 fits.1 in
    ap (λ (h : ℕ). shaped_tree (h, p.1)) (rows-of p.1.1 p.0 (length p.1.0) t.1 t.0)

at-most : (w h : ℕ) → w ≤ 16384 → h ≤ 4096 → w * h ≤ 67108864
at-most w h a b = mul-le-mul a b

whole : (m : Rows BabyBear) → MatrixWithin m → (p : Shaped) × FilledWithin p × (record { values = p.1.0; width = p.1.1 } ≡ m)
whole m fits =
    let s = shape-fits m fits in
    let count = s.1.0 in
    let most = at-most m.width (height m) fits.columns fits.rows in (
      (height m, (m.values, m.width)),
      (
        ((omega arith, fits.rows), (((omega arith, omega (arith, count, most)), λ k d q. tt), s.0.0)),
        true-both _ _ (eq-eqb (m.width * height m) (length m.values) (sym count)) (within-height (height m) m.width s.0.1),
      ),
      refl,
    )

same-matrix-tree : SameTrees FilledWithin shaped_tree MatrixWithin matrix_tree
same-matrix-tree = record { to = λ p. record { values = p.1.0; width = p.1.1 }; to_fits = to-fits; to_tree = to-tree; whole = whole }

pub matrix-form : TreeForm MatrixWithin matrix_tree matrix_reading
unfolding same-matrix-tree
matrix-form = same-form same-matrix-tree (kept-form is_filled shaped-form)
