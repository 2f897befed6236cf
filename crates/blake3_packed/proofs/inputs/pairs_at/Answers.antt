use Rattle.std.proofs.Common.{◌+◌, ◌*◌, ◌<◌, ◌≢◌, get_or-set_other, length, inl, inr, ◌∙◌, arith, length-set}
use Rattle.std.proofs.lemmas.Bool.{cases_lt}
use Rattle.blake3_packed.specs.Laws.Inputs.{zeros_at, past_end, no_pair}
use Rattle.blake3_packed.specs.Laws.Written.{written}
use Rattle.blake3_packed.specs.Inputs.{IsPair}
use Rattle.blake3_binary.specs.Rows.{compression}
use Rattle.blake3_packed.proofs.inputs.pairs_at.Goals as goal

pub loop-j-init : goal.loop-j-init
loop-j-init c = record {
  long = omega arith;
  so_far = λ j lj. absurd (omega (arith, lj));
  rest = λ j le. zeros_at 64 j;
}

pub loop-j-preserved : goal.loop-j-preserved
loop-j-preserved c =
    let I = c.loop-j.invariant in
    let j = c.loop-j.j in
    let rows = c.loop-j.rows in
    let block = c.args.block.now in
    let p = c.args.p in
    let inside : j < length rows = omega (arith, I.long) in
    record {
      long = length-set rows j _ ∙ I.long;
      so_far = written (λ j y. IsPair y (compression block j (2 * p)) (compression block j (2 * p + 1))) rows j _ inside c.pair_at.ensures I.so_far;
      rest = λ i le. let d : i ≢ j = omega (arith, le) in get_or-set_other rows j i _ 0 d ∙ I.rest i (omega (arith, le));
    }

pub returns : goal.returns
returns c j lj =
    let I = c.loop-j.invariant in
    let block = c.args.block.now in
    let p = c.args.p in
    elim (cases_lt j (length block)) [
      | inl lt ↦ I.so_far j (omega (arith, lt))
      | inr le ↦ no_pair _ _ _ (I.rest j (omega (arith, le))) (past_end block j (2 * p) le) (past_end block j (2 * p + 1) le)
    ]
