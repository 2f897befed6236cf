use Rattle.std.proofs.Common.{◌≡◌, ℕ, List, [], length, ap, subst, ◌∙◌, rules}
use Rattle.p3_field.specs.BabyBear.{baby_bear_ring}
use Rattle.p3_field.specs.declared.baby_bear.BabyBear.{BabyBear}
use Rattle.blake3_compress.specs.Generated.{Pushed, input_of}
use Rattle.blake3_compress.specs.TraceRow.{limb_cells}
use Rattle.blake3_compress.specs.Laws.Pushing.{push_both}
use Rattle.chain_air.specs.Chain.{publics_of}
use Rattle.chain_air.specs.Laws.Traces.{publics_long}
use Rattle.chain_air.proofs.chaining.chain_publics.Goals as goal

-- words of which there are eight
eight : (a b : List BabyBear) (words : List ℕ) → length words ≡ 8 → Pushed baby_bear_ring a b (limb_cells (length words) (input_of words)) → Pushed baby_bear_ring a b (limb_cells 8 (input_of words))
eight a b words e p = subst (λ k. Pushed baby_bear_ring a b (limb_cells k (input_of words))) e p

both_pushed : (a b d : List BabyBear) (start end : List ℕ) → a ≡ [] → Pushed baby_bear_ring a b (limb_cells 8 (input_of start)) → Pushed baby_bear_ring b d (limb_cells 8 (input_of end)) → d ≡ publics_of baby_bear_ring (input_of start) (input_of end)
unfolding publics_of
both_pushed a b d start end e p q =
    (push_both baby_bear_ring (subst (λ (xs : List BabyBear). Pushed baby_bear_ring xs b (limb_cells 8 (input_of start))) e p) q).pushed

pub returns-clause-values : goal.returns-clause-values
returns-clause-values c =
    both_pushed _ _ _ c.args.start.now c.args.end.now c.new-values.ensures.items
    (eight _ _ c.args.start.now (search rules) c.in_ok-push_limb_words.ensures)
    (eight _ _ c.args.end.now (search rules) c.in_ok-push_limb_words-2.ensures)

pub returns-clause-count : goal.returns-clause-count
returns-clause-count c =
    let same =
    both_pushed _ _ _ c.args.start.now c.args.end.now c.new-values.ensures.items
    (eight _ _ c.args.start.now (search rules) c.in_ok-push_limb_words.ensures)
    (eight _ _ c.args.end.now (search rules) c.in_ok-push_limb_words-2.ensures) in
    ap length same ∙ publics_long baby_bear_ring (input_of c.args.start.now) (input_of c.args.end.now)
