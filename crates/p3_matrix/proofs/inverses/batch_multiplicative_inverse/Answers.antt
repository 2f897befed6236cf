use Rattle.std.proofs.Common.{◌≡◌, ◌∙◌, subst, List}
use Rattle.std.specs.Prelude.{IfOk}
use Rattle.p3_matrix.proofs.ProductLaws.{map_one_times}
use Rattle.p3_matrix.proofs.inverses.batch_multiplicative_inverse.Goals as goal

pub returns : goal.returns
returns g c =
    let Q : List g.row.F.Denot → Type 0 = λ l. IfOk c.scaled_inverses.result (λ v. v.items ≡ l) in
    let one = c.ONE.ensures ∙ g.met.F.RingCore.one_is in
    subst Q (map_one_times g.F.RingCore.ring g.met.F.RingCore.ring_laws g.F.FieldCore.inv c.ONE.result c.args.values.now one) c.scaled_inverses.ensures
