use Rattle.std.proofs.Common.{map, ap, sym, ◌∙◌}
use Rattle.p3_lookup.specs.Written.{read_all}
use Rattle.batch_transcript.specs.Buses.{batch_layout}
use Rattle.audit_script.specs.Steps.{draws_told}
use Rattle.audit_batch.proofs.Played.{pair_none, pair_some}
use Rattle.audit_batch.proofs.script.lookup_challenges.Goals as goal

pub returns-then-tables-eq0 : goal.returns-then-tables-eq0
returns-then-tables-eq0 g c =
    let lookups = map (read_all {F = g.row.F.Denot}) c.args.lookups.now in
    c.in_ok-none.ensures ∙ sym (ap (λ x. batch_layout g.EF.RingCore.ring x lookups) (pair_none c.args.tables (draws_told c.args.draws.now) c.if-tables-eq0.true))

pub returns : goal.returns
returns g c =
    let lookups = map (read_all {F = g.row.F.Denot}) c.args.lookups.now in
    c.in_ok-laid.ensures ∙ sym (ap (λ x. batch_layout g.EF.RingCore.ring x lookups) (pair_some c.args.tables (draws_told c.args.draws.now) c.if-tables-eq0.false))
