use Rattle.audit_batch.specs.Laws.Grinding.{ood_named}
use Rattle.audit_batch.proofs.grinding.name_ood_grinding.Goals as goal

pub returns : goal.returns
returns g c =
    ood_named g.F.RingCore.ring.zero c.args.bits c.args.witness c.args.passed c.is_canonical.result _ _ _ c.is_canonical.ensures c.in_ok-name_test.ensures c.in_ok-name_test-2.ensures
