use Rattle.std.proofs.Common.{◌≡◌, ℕ, ◌+◌, [], ◌∷◌, ◌++◌, map, get_or, refl, sym, ◌∙◌, ap, arith}
use Rattle.p3_field.specs.Laws.Checks.{none_in_turn, none_of_none}
use Rattle.p3_field.specs.Laws.Tabulate.{tabulate_push}
use Rattle.verifier_shape.specs.Laws.Verdicts.{exits, refusal_in_turn}
use Rattle.verifier_shape.proofs.sizes.check_sizes.Goals as goal

pub size_at-requires-clause-reads : goal.size_at-requires-clause-reads
size_at-requires-clause-reads g c = λ a. c.requires.reads c.loop-index.index a (omega arith)

pub loop-index-init : goal.loop-index-init
loop-index-init g c = record { none = none_of_none _; list = c.new-chunks.ensures.items }

pub returns-in_err-count-clause-verdict : goal.returns-in_err-count-clause-verdict
returns-in_err-count-clause-verdict g c =
    exits _ _ _ c.from_residual.ensures.1 (refusal_in_turn _ c.loop-index.index _ _ (omega arith) c.loop-index.invariant.none c.in_err-count.ensures.verdict)

pub loop-index-preserved : goal.loop-index-preserved
loop-index-preserved g c = record {
  none = none_in_turn _ c.loop-index.index c.loop-index.invariant.none c.in_ok-count.ensures.verdict;
  list = c.in_ok-push.ensures.items ∙ tabulate_push c.loop-index.index _ _ _ c.loop-index.invariant.list c.in_ok-count.ensures.chunks;
}
