use Rattle.std.proofs.Common.{sym, subst}
use Rattle.audit_batch.specs.Audit.{lookup_asked}
use Rattle.audit_batch.specs.Named.{AreNamedAfter}
use Rattle.audit_batch.specs.Laws.Grinding.{unexpected_named, value_named}
use Rattle.audit_batch.proofs.grinding.name_lookup_grinding.Goals as goal

pub returns-then-tables-eq0 : goal.returns-then-tables-eq0
returns-then-tables-eq0 g c =
    unexpected_named g.F.RingCore.ring.zero c.args.tables c.args.bits c.args.witness c.args.passed c.is_none.result _ _ c.if-tables-eq0.true c.is_none.ensures c.in_ok-name_test.ensures

pub returns : goal.returns
returns g c =
    let z = g.F.RingCore.ring.zero in
    let a = c.args in
    subst (λ w. AreNamedAfter a.faults.now.items (lookup_asked z a.tables a.bits w a.passed) c.name_test-3.new.faults.items) (sym c.in-Some.is)
    (value_named z a.tables a.bits c.in-Some.value a.passed c.is_canonical.result _ _ _ c.if-tables-eq0.false c.is_canonical.ensures c.in_ok-name_test-2.ensures c.in_ok-name_test-3.ensures)
