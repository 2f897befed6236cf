use Rattle.std.proofs.Common.{◌≡◌, ℕ, ◌+◌, ◌*◌, ◌++◌, ◌∙◌, ap, subst, arith}
use Rattle.blake3_compress.specs.Compress.{half_quarter_round}
use Rattle.blake3_compress.specs.TraceRow.{message_of}
use Rattle.blake3_binary.specs.Row.{quarter_cells}
use Rattle.blake3_packed.specs.Lanes.{PushedLanes}
use Rattle.blake3_packed.specs.States.{AreQuarter, made, made_twice}
use Rattle.blake3_packed.specs.Laws.Lanes.{pushed_both}
use Rattle.blake3_packed.specs.Laws.Steps.{first_message, second_message, first_made, second_made}
use Rattle.blake3_packed.proofs.steps.push_step.Goals as goal

pub returns : goal.returns
returns c x q hw hq =
    let p = c.args.p in
    let g = c.args.g in
    let m1 = c.scheduled_word-first.result in
    let m2 = c.scheduled_word-second.result in
    let e1 : m1 ≡ message_of (2 * p) g = c.scheduled_word-first.ensures.word ∙ first_message p g in
    let e2 : m2 ≡ message_of (2 * p + 1) g = c.scheduled_word-second.ensures.word ∙ second_message p g in
    let one = c.in_ok-push_half.ensures q (λ j. x j m1) hq (hw m1 (omega (arith, c.scheduled_word-first.ensures.below))) in
    let q1 = λ (j : ℕ). half_quarter_round 16 12 (q j) (x j m1) in
    let two = c.in_ok-push_half-2.ensures q1 (λ j. x j m2) one.1 (hw m2 (omega (arith, c.scheduled_word-second.ensures.below))) in
    let f1 : (j : ℕ) → half_quarter_round 16 12 (q j) (x j m1) ≡ made (x j) (2 * p) g (q j) = λ j. first_made (x j) p g m1 (q j) e1 in
    let f2 : (j : ℕ) → half_quarter_round 8 7 (half_quarter_round 16 12 (q j) (x j m1)) (x j m2) ≡ made_twice (x j) p g (q j) =
    λ j. second_made (x j) p g m2 (half_quarter_round 16 12 (q j) (x j m1)) e2 ∙ ap (made (x j) (2 * p + 1) g) (f1 j) in (
      subst (PushedLanes c.args.values.now.items c.push_half-2.new.values.items 190) (λ i j. quarter_cells (q j) (f1 j i) ++ quarter_cells (f1 j i) (f2 j i)) (pushed_both one.0 two.0),
      subst (AreQuarter c.push_half-2.new.taken) (λ i j. f2 j i) two.1,
    )
