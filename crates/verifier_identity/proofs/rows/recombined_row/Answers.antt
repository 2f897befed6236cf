use Rattle.std.proofs.Common.{◌≡◌, ℕ, ◌+◌, ◌*◌}
use Rattle.std.specs.Prelude.{slice_range}
use Rattle.p3_field.specs.Field.{combine}
use Rattle.verifier_identity.proofs.Pushed.{pushed}
use Rattle.verifier_identity.proofs.rows.recombined_row.Goals as goal

pub loop-j-preserved : goal.loop-j-preserved
loop-j-preserved g c =
    let n = g.E.BasedVectorSpace.DIMENSION in
    let value_at = λ (j : ℕ). combine g.E.RingCore.ring g.E.ExtensionField.basis 0 (slice_range c.args.row.now (j * n) (j * n + n)) in
    let own : c.in-Some.value ≡ value_at c.loop-j.j = cc (c.in-Some.ensures.1, c.DIMENSION.ensures, c.DIMENSION-in-loop-j.ensures) in
    pushed c.loop-j.j value_at c.loop-j.values.items c.push.new.self.items c.in-Some.value c.loop-j.invariant own c.in_ok-push-in-Some.ensures.items
