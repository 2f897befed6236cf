use Rattle.std.proofs.Common.{◌≡◌, ◌<◌, ℕ, Some}
use Rattle.std.specs.Prelude.{slice_get, zip}
use Rattle.plain_pcs.specs.Scheme.{scheme}
use Rattle.p3_field.specs.Checks.{NoneFails}
use Rattle.plain_pcs.specs.Checks.{matrix_checks}
use Rattle.plain_pcs.proofs.verifying.matrices_fault.Given as goal

abbrev pub invariant-loop-number : goal.invariant-loop-number
invariant-loop-number g l =
    let s = scheme g.F.RingCore.ring g.F.FieldCore.inv g.F.TwoAdicCore.root g.F.FieldCore.GENERATOR g.F.TwoAdicCore.TWO_ADICITY (record { log_blowup = l.log_blowup }) in
    (i : ℕ) (x : _) → i < l.number → slice_get (zip l.matrices l.claims) i ≡ Some x
    → NoneFails (matrix_checks s g.E.RingCore.ring g.E.ExtensionField.embed l.round i x)
