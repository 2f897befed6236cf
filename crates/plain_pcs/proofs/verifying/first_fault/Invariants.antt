use Rattle.std.proofs.Common.{◌≡◌, ◌<◌, ℕ, Some}
use Rattle.std.specs.Prelude.{slice_get}
use Rattle.plain_pcs.specs.Scheme.{scheme}
use Rattle.p3_field.specs.Checks.{NoneFails}
use Rattle.plain_pcs.specs.Checks.{round_checks}
use Rattle.plain_pcs.proofs.verifying.first_fault.Given as goal

abbrev pub invariant-loop-round : goal.invariant-loop-round
invariant-loop-round g l =
    let s = scheme g.F.RingCore.ring g.F.FieldCore.inv g.F.TwoAdicCore.root g.F.FieldCore.GENERATOR g.F.TwoAdicCore.TWO_ADICITY (record { log_blowup = l.log_blowup }) in
    (i : ℕ) (x : _) → i < l.round → slice_get l.claims i ≡ Some x
    → NoneFails (round_checks s g.E.RingCore.ring g.E.ExtensionField.embed i x)
