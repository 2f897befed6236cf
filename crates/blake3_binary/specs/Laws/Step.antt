-- The law of one step in characteristic 2, and how many constraints there are.
use Rattle.std.proofs.Common.{◌≡◌, ℕ, suc, ◌∷◌, length, ap, arith, length-append}
use Rattle.std.proofs.lemmas.List.Elements.{All-append}
use Rattle.p3_field.specs.Ring.{Ring, RingLaws}
use Rattle.p3_field.specs.Poly.{tabulate}
use Rattle.p3_field.specs.Laws.Tabulate.{length-tabulate}
use Rattle.air_core.specs.declared.cells.Cell.{Cell}
use Rattle.air_core.specs.declared.cells.ExtCell.{ExtCell}
use Rattle.air_core.specs.Tree.{Tree, eval_tree, constant, sum, product, bool_tree}
use Rattle.air_gadgets.specs.Words.{cells_reading}
use Rattle.blake3_compress.specs.Compress.{half_quarter_round}
use Rattle.blake3_binary.specs.Trees.{from_column, bits_trees, half_step_trees, binary_steps_trees, binary_trees}
use Rattle.blake3_binary.specs.Sums.{carries_trees, majority, carry_in, with_carries, sum2_trees, sum3_trees, turned, binary_half_trees}
use Rattle.blake3_binary.specs.Meanings.{RepresentBits, BinaryStepMeans, ConstraintCounts}
use Rattle.air_core.specs.Laws.Lists.{all_left, all_right}
use Rattle.blake3_binary.specs.Laws.Words.{half_words}
use Rattle.blake3_binary.specs.Laws.Sums.{half_means}
use Rattle.blake3_binary.specs.Laws.Cells.{long_laid}

pub step_means : {A : Type 0} (r : Ring A) (L : RingLaws r) → r.add r.one r.one ≡ r.zero → (at : Cell → A) (at_ext : ExtCell → A) → BinaryStepMeans r (cells_reading r at at_ext)
step_means {A} r L two at at_ext a b c d m n k d' b' l d'' b'' q x y Q h hm hn =
    let Zero : Tree A → Type 0 = λ t. eval_tree (cells_reading r at at_ext) t ≡ r.zero in
    let one = binary_half_trees 16 12 a b c d m k d' b' in
    let other = binary_half_trees 8 7 (turned d d' 16) b' (turned b b' 12) d' n l d'' b'' in
    let p = half_means r L two at at_ext 16 12 a b c d m k d' b' q x Q h hm in
    let then = λ (s : RepresentBits r (cells_reading r at at_ext) (turned d d' 16) b' (turned b b' 12) d' (half_quarter_round 16 12 q x)). half_means r L two at at_ext 8 7 (turned d d' 16) b' (turned b b' 12) d' n l d'' b'' (half_quarter_round 16 12 q x) y (half_words 16 12 q x Q) s hn in (
      λ z.
          let u = p.0 (all_left Zero one other z) in
          let v = (then u.1).0 (all_right Zero one other z) in
          record { carries1 = u.0; words1 = u.1; carries2 = v.0; words2 = v.1 },
      λ s. All-append Zero one other (p.1 (s.carries1, s.words1)) ((then s.words1).1 (s.carries2, s.words2)),
    )

module _ {F : Type 0} (r : Ring F) where
  long_sum2 : (x y s : ℕ → Tree F) → length (sum2_trees x y s) ≡ 32
  unfolding sum2_trees
  long_sum2 x y s =
      ap suc (length-tabulate 31 (λ i. sum (majority (x i) (y i) (carry_in x y s i)) (carry_in x y s (suc i))))

  long_sum3 : (x y z k s : ℕ → Tree F) → length (sum3_trees x y z k s) ≡ 63
  unfolding sum3_trees carries_trees
  long_sum3 x y z k s =
      let first = sum (product (x 0) (y 0)) (k 0) in
      let later = tabulate 30 (λ i. sum (majority (x (suc i)) (y (suc i)) (k i)) (k (suc i))) in
      omega (arith, length-append (first ∷ later) (sum2_trees (with_carries x y k) z s), length-tabulate 30 (λ i. sum (majority (x (suc i)) (y (suc i)) (k i)) (k (suc i))), long_sum2 (with_carries x y k) z s)

  long_half2 : (s t : ℕ) (a b c d m k d' b' : ℕ → Tree F) → length (binary_half_trees s t a b c d m k d' b') ≡ 95
  unfolding binary_half_trees
  long_half2 s t a b c d m k d' b' =
      omega (arith, length-append (sum3_trees a b m k (turned d d' s)) (sum2_trees c d' (turned b b' t)), long_sum3 a b m k (turned d d' s), long_sum2 c d' (turned b b' t))

  long_step : (n g : ℕ) → length (half_step_trees r n g) ≡ 95
  unfolding half_step_trees
  long_step n g = long_half2 _ _ _ _ _ _ _ _ _ _

  pub long_steps : length (binary_steps_trees r) ≡ 10640
  unfolding binary_steps_trees
  long_steps = long_laid (constant r.zero) (half_step_trees r) long_step

  pub counted : ConstraintCounts r
  unfolding binary_trees bits_trees
  counted = record {
    all = omega (arith, length-append (bits_trees r 0 896) (binary_steps_trees r), length-tabulate 896 (λ i. bool_tree r.one (from_column 0 i)), long_steps);
    steps = long_steps;
  }
