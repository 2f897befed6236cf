use Rattle.std.proofs.Common.{◌∙◌, ap}
use Rattle.batch_transcript.specs.BatchScript.{separator, version_byte}
use Rattle.batch_transcript.specs.Laws.Shapes.{tells-shapes}
use Rattle.batch_transcript.proofs.shape.BatchShape.domain_separator.Goals as goal

pub returns-clause-value : goal.returns-clause-value
unfolding separator
returns-clause-value g c =
    let version = c.version_number-version.ensures ∙ ap (λ s. version_byte s.version) c.self.view_is in
    c.in_ok-instance.ensures.appended ∙ rw (c.in_ok-separator.ensures, version, c.in_ok-pattern.ensures, c.deref.ensures.value, c.in_ok-label.ensures)

pub returns-in_err-pattern-clause-tells : goal.returns-in_err-pattern-clause-tells
returns-in_err-pattern-clause-tells g c = tells-shapes g.EF.BasedVectorSpace.DIMENSION c.args.self.now

pub returns-in_err-separator-clause-tells : goal.returns-in_err-separator-clause-tells
returns-in_err-separator-clause-tells g c = tells-shapes g.EF.BasedVectorSpace.DIMENSION c.args.self.now

pub returns-in_err-label-clause-tells : goal.returns-in_err-label-clause-tells
returns-in_err-label-clause-tells g c = tells-shapes g.EF.BasedVectorSpace.DIMENSION c.args.self.now

pub returns-in_err-instance-clause-tells : goal.returns-in_err-instance-clause-tells
returns-in_err-instance-clause-tells g c = tells-shapes g.EF.BasedVectorSpace.DIMENSION c.args.self.now

pub returns-clause-tells : goal.returns-clause-tells
returns-clause-tells g c = tells-shapes g.EF.BasedVectorSpace.DIMENSION c.args.self.now
