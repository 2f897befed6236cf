use Rattle.std.proofs.Common.{◌≡◌, Some, length}
use Rattle.std.specs.Prelude.{slice_get}
use Rattle.commit_core.specs.Space.{EachOf}
use Rattle.plain_pcs.specs.Scheme.{scheme}
use Rattle.plain_pcs.specs.Extension.{Extends}
use Rattle.plain_pcs.proofs.extending.extensions_from.Given as goal

abbrev pub invariant-loop-evaluated : goal.invariant-loop-evaluated
invariant-loop-evaluated g l =
    EachOf (length l.yielded) l.extensions.items (λ i y. (x : _) → slice_get l.fn.evaluations.items i ≡ Some x
    → Extends (scheme g.F.RingCore.ring g.F.FieldCore.inv g.F.TwoAdicCore.root g.F.FieldCore.GENERATOR g.F.TwoAdicCore.TWO_ADICITY (record { log_blowup = l.log_blowup })) x.0 x.1 y)
