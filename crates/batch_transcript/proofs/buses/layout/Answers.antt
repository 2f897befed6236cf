use Rattle.std.proofs.Common.{◌≡◌, length, map, ap, ◌∙◌}
use Rattle.p3_field.specs.Laws.Tabulate.{length-tabulate}
use Rattle.p3_lookup.specs.Bus.{bus_count}
use Rattle.p3_lookup.specs.Written.{bus_of_kind}
use Rattle.batch_transcript.proofs.buses.layout.Goals as goal

pub each_layout-requires-clause-bases : goal.each_layout-requires-clause-bases
each_layout-requires-clause-bases g c =
    let at : c.deref.result.now ≡ c.in_ok-kinds.kinds.items = cc (c.deref.ensures.value) in
    ap (λ x. length x.bus_prefix) c.in_ok-challenges.ensures ∙ length-tabulate _ _ ∙ c.in_ok-buses.ensures.1 ∙ ap (λ l. bus_count (map bus_of_kind l)) at ∙ ap bus_count c.in_ok-kinds.ensures
