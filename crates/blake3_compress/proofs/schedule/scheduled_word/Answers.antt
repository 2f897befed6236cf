use Rattle.std.proofs.Common.{◌≡◌, ℕ, suc, ◌-◌, arith, ◌∙◌, ap, sym}
use Rattle.blake3_compress.specs.Compress.{scheduled, permuted}
use Rattle.blake3_compress.specs.Laws.Schedule.{permuted_below}
use Rattle.blake3_compress.proofs.schedule.scheduled_word.Goals as goal

no_turn : (n m i : ℕ) → n ≡ m → scheduled n i ≡ scheduled m i
no_turn n m i e = ap (λ k. scheduled k i) e

all_turned : (n i : ℕ) → n ≡ 0 → scheduled n i ≡ i
unfolding scheduled
all_turned n i e = ap (λ k. scheduled k i) e

one_turn : (n m i : ℕ) → m ≡ suc n → scheduled n (permuted i) ≡ scheduled m i
unfolding scheduled
one_turn n m i e = ap (λ k. scheduled k i) (sym e)

pub loop-turn-init : goal.loop-turn-init
loop-turn-init c = record { below = c.requires; same = no_turn _ _ c.args.i (omega arith) }

pub loop-turn-preserved : goal.loop-turn-preserved
loop-turn-preserved c = record {
  below = permuted_below c.loop-turn.word;
  same = one_turn _ (c.args.round - c.loop-turn.turn) c.loop-turn.word (omega arith) ∙ c.loop-turn.invariant.same;
}

pub returns : goal.returns
returns c = record {
  below = c.loop-turn.invariant.below;
  word = sym (all_turned (c.args.round - c.loop-turn.turn) c.loop-turn.word (omega arith)) ∙ c.loop-turn.invariant.same;
}
