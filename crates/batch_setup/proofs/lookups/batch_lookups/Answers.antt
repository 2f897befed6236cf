use Rattle.std.proofs.Common.{[], ◌∷◌, map, ◌∙◌, ap, arith}
use Rattle.std.proofs.lemmas.List.{map-append}
use Rattle.p3_field.specs.Laws.Checks.{none_in_turn, none_of_none}
use Rattle.p3_field.specs.Laws.Tabulate.{tabulate_push}
use Rattle.p3_lookup.specs.Written.{read_all}
use Rattle.batch_setup.specs.Laws.Verdicts.{exits, refusal_in_turn}
use Rattle.batch_setup.proofs.lookups.batch_lookups.Goals as goal

pub loop-instance-init : goal.loop-instance-init
loop-instance-init g c = record { none = none_of_none _; list = ap (map (read_all {F = g.row.F.Denot})) c.new-lookups.ensures.items }

pub returns-in_err-packed-clause-verdict : goal.returns-in_err-packed-clause-verdict
returns-in_err-packed-clause-verdict g c =
    exits _ _ _ c.from_residual.ensures.1 (refusal_in_turn _ c.loop-instance.instance _ _ (omega arith) c.loop-instance.invariant.none c.in_err-packed.ensures.verdict)

pub loop-instance-preserved : goal.loop-instance-preserved
loop-instance-preserved g c = record {
  none = none_in_turn _ c.loop-instance.instance c.loop-instance.invariant.none c.in_ok-packed.ensures.verdict;
  list = ap (map (read_all {F = g.row.F.Denot})) c.in_ok-push.ensures.items ∙ map-append (read_all {F = g.row.F.Denot}) c.loop-instance.lookups.items (c.in_ok-packed.packed ∷ [])
      ∙ tabulate_push c.loop-instance.instance _ _ _ c.loop-instance.invariant.list c.in_ok-packed.ensures.lookups;
}
