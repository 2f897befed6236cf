use Rattle.p3_field.specs.Laws.Roots.{field_no_zero_divisors}
use Rattle.p3_field.specs.Laws.TwoAdic.{decide_by}
use Rattle.blake3_binary.specs.Laws.Exact.{row_means, words_determined}
use Rattle.blake3_binary.proofs.meanings.row_means.Goals as goal

pub returns : goal.returns
returns g c =
    let F = g.F.RingCore.ring in
    let L = g.met.F.RingCore.ring_laws in
    let K = g.met.F.FieldCore.field_laws in
    record {
      exact = row_means F L c.requires (decide_by g.F.PartialEq.eq g.met.F.FieldCore.eq_same g.met.F.FieldCore.same_eq) (field_no_zero_divisors F L g.F.FieldCore.inv K);
      one = words_determined F L c.requires K.one_differs;
    }
