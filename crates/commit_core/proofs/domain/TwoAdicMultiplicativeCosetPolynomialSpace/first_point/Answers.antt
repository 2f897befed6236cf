use Rattle.std.proofs.Common.{◌∙◌, sym}
use Rattle.p3_field.specs.Laws.Tabulate.{first_coset_point}
use Rattle.commit_core.proofs.domain.TwoAdicMultiplicativeCosetPolynomialSpace.first_point.Goals as goal

pub returns : goal.returns
returns g c =
    let d = c.args.self.now in
    c.shift.ensures ∙ sym (first_coset_point g.F.RingCore.ring g.met.F.RingCore.ring_laws d.shift (g.F.TwoAdicCore.root d.log_size))
