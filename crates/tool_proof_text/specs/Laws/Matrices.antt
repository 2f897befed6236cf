-- The grammar of matrices.
use Rattle.std.specs.Prelude.{◌≡◌, ℕ, zero, suc, ◌*◌, ◌/◌, ◌≤◌, ◌↔◌, List, ◌∷◌, length, refl}
use Rattle.std.proofs.Common.{sym, ap, ◌∙◌, arith}
use Rattle.std.proofs.Math.Nat.{div-zero, mul-div_cancel_left, mul_comm}
use Rattle.p3_field.specs.declared.baby_bear.BabyBear.{BabyBear}
use Rattle.p3_matrix.specs.Matrix.{Rows, height}
use Rattle.tool_lines.specs.Texts.{Between, Grammar, Unlimited, ItemsWithin, one_number, items_numbers, element_numbers}
use Rattle.tool_lines.specs.Laws.Grammars.{PairWithin, pair_numbers, SameTexts, pair-grammar, number-grammar, items-grammar, same-grammar, element-grammar}
use Rattle.tool_proof_text.specs.Matrices.{matrix_numbers, MatrixWithin, least_height, most_height}

-- the height of a matrix of a width
abbrev pub HeightWithin : ℕ → ℕ → Type 0
HeightWithin w = Between (least_height w) (most_height w)

pub height-grammar : (w : ℕ) → Grammar (HeightWithin w) one_number
height-grammar zero = number-grammar 0 0 (omega arith) (omega arith)
height-grammar (suc w) = number-grammar 1 4096 (omega arith) (omega arith)

-- a width and a height
abbrev pub ShapeWithin : ℕ × ℕ → Type 0
ShapeWithin = PairWithin (Between 0 16384) HeightWithin

abbrev pub size_numbers : ℕ × ℕ → List ℕ
size_numbers = pair_numbers one_number one_number

pub width-grammar : Grammar (Between 0 16384) one_number
width-grammar = number-grammar 0 16384 (omega arith) (omega arith)

pub shape-grammar : Grammar ShapeWithin size_numbers
shape-grammar = pair-grammar HeightWithin width-grammar (λ w _. height-grammar w)

-- the elements of a matrix of a shape
abbrev pub ElementsWithin : ℕ × ℕ → List BabyBear → Type 0
ElementsWithin s = ItemsWithin (s.0 * s.1) Unlimited

abbrev pub elements_numbers : List BabyBear → List ℕ
elements_numbers = items_numbers element_numbers

pub elements-grammar : (s : ℕ × ℕ) → Grammar (ElementsWithin s) elements_numbers
elements-grammar s = items-grammar (s.0 * s.1) element-grammar

-- a shape, and the elements
abbrev pub ShapedWithin : (ℕ × ℕ) × List BabyBear → Type 0
ShapedWithin = PairWithin ShapeWithin ElementsWithin

abbrev pub shaped_numbers : (ℕ × ℕ) × List BabyBear → List ℕ
shaped_numbers = pair_numbers size_numbers elements_numbers

abbrev pub matrix_of : (ℕ × ℕ) × List BabyBear → Rows BabyBear
matrix_of p = record { values = p.1; width = p.0.0 }

-- so many elements are so many rows
pub rows-of : (w h n : ℕ) → HeightWithin w h → n ≡ w * h → n / w ≡ h
rows-of zero h n fits e = div-zero n ∙ omega (arith, fits)
rows-of (suc w) h n fits e = ap (λ (k : ℕ). k / suc w) e ∙ mul-div_cancel_left h (omega arith)

height-most : (w h : ℕ) → HeightWithin w h → h ≤ 4096
height-most zero h fits = omega (arith, fits)
height-most (suc w) h fits = fits.1

height-empty : (w h : ℕ) → HeightWithin w h → (h ≡ 0) ↔ (w ≡ 0)
height-empty zero h fits = (λ _. refl, λ _. omega (arith, fits))
height-empty (suc w) h fits = (λ z. absurd (omega (arith, fits, z)), λ z. absurd (omega (arith, z)))

height-within : (w h : ℕ) → h ≤ 4096 → (h ≡ 0) ↔ (w ≡ 0) → HeightWithin w h
height-within zero h most e = let none : h ≡ 0 = e.1 refl in (omega arith, omega (arith, none))
height-within (suc w) h most e =
    let some : h ≡ 0 → ⊥ = λ z. let t : suc w ≡ 0 = e.0 z in omega (arith, t) in
    (grind (arith, some), most)

-- a matrix of a shape is within the limits, and the other way round
pub matrix-fits : (p : (ℕ × ℕ) × List BabyBear) → ShapedWithin p → MatrixWithin (matrix_of p)
matrix-fits p fits =
    let rows : length p.1 / p.0.0 ≡ p.0.1 = rows-of p.0.0 p.0.1 (length p.1) fits.0.1 fits.1.0 in
    record {
      columns = fits.0.0.1;
      rows = rw rows (height-most p.0.0 p.0.1 fits.0.1);
      empty = rw rows (height-empty p.0.0 p.0.1 fits.0.1);
      fills = rw rows (mul_comm p.0.1 p.0.0 ∙ sym fits.1.0);
    }

pub shape-fits : (m : Rows BabyBear) → MatrixWithin m → ShapedWithin ((m.width, height m), m.values)
shape-fits m fits = (
  ((omega arith, fits.columns), height-within m.width (height m) fits.rows fits.empty),
  (sym fits.fills ∙ mul_comm (height m) m.width, λ k d q. tt),
)

-- a matrix is seen as its shape and its elements
unfoldable pub same-matrix : SameTexts ShapedWithin shaped_numbers MatrixWithin matrix_numbers
same-matrix = record {
  to = matrix_of;
  to_fits = matrix-fits;
  to_numbers = λ p fits. ap (λ (h : ℕ). p.0.0 ∷ h ∷ elements_numbers p.1) (rows-of p.0.0 p.0.1 (length p.1) fits.0.1 fits.1.0);
  whole = λ m fits. (((m.width, height m), m.values), shape-fits m fits, refl);
}

pub matrix-grammar : Grammar MatrixWithin matrix_numbers
matrix-grammar = same-grammar same-matrix (pair-grammar ElementsWithin shape-grammar (λ s _. elements-grammar s))
