use Rattle.std.proofs.Common.{◌≡◌, false, subst}
use Rattle.air_core.specs.Degree.{degree}
use Rattle.air_core.specs.Reads.{strangeness}
use Rattle.air_core.specs.Shape.{Shape, declared_shape, ReadsDeclared}
use Rattle.air_core.specs.Symbolic.{tree_of}
use Rattle.air_core.specs.Laws.Reads.{is_zero, reads_declared}
use Rattle.air_core.proofs.symbolic.SymbolicExpression.reads_declared.Goals as goal

pub returns : goal.returns
returns g c =
    let d = g.A.BaseAir.declaration c.args.air.now in
    let P : Shape → Type 0 = λ s. c.degree_by.result ≡ degree (strangeness false s) (λ _. 1) (tree_of c.args.self.now) in
    is_zero c.degree_by.result _ (ReadsDeclared (declared_shape d) (tree_of c.args.self.now))
    (subst P c.new.ensures c.degree_by.ensures) (reads_declared d (tree_of c.args.self.now))
