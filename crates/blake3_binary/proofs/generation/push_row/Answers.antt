use Rattle.std.proofs.Common.{◌≡◌, ℕ, ◌+◌, refl, arith, subst}
use Rattle.blake3_compress.specs.TraceRow.{bit_cells}
use Rattle.blake3_compress.specs.Generated.{Pushed, input_of}
use Rattle.blake3_binary.specs.Row.{binary_cells}
use Rattle.blake3_compress.specs.Laws.Pushing.{push_both}
use Rattle.blake3_binary.proofs.generation.push_row.Goals as goal

from_first : (x : ℕ → ℕ) → bit_cells 16 (λ i. x (0 + i)) ≡ bit_cells 16 x
from_first x =
    let e : (i : ℕ) → 0 + i ≡ i = λ i. omega arith in
    λ j. bit_cells 16 (λ i. x (e i j))

pub returns : goal.returns
unfolding binary_cells
returns g c =
    let r = g.F.RingCore.ring in
    let x = input_of c.args.words.now in
    let block = subst (Pushed r _ _) (from_first x) c.in_ok-push_words-2.ensures in
    push_both r (push_both r (push_both r c.in_ok-push_words.ensures block) c.in_ok-push_words-3.ensures) (c.in_ok-push_steps.ensures x (λ i lt. refl) c.first_words.ensures)
