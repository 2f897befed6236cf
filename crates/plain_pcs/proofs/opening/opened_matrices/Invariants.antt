use Rattle.std.proofs.Common.{◌≡◌, List, map, take}
use Rattle.std.specs.Prelude.{zip}
use Rattle.commit_core.specs.Commitments.{Committed, values_of}
use Rattle.plain_pcs.specs.Opening.{EachHasValues}
use Rattle.plain_pcs.proofs.opening.opened_matrices.Given as goal

abbrev pub invariant-loop-index : goal.invariant-loop-index
invariant-loop-index g l = (cs : List (Committed g.row.F.Denot)) → EachHasValues g.F.RingCore.ring g.F.TwoAdicCore.root l.log_blowup l.prover_data cs
    → map (λ m. map (λ v. v.items) m.items) l.matrices.items ≡ map (λ p. map (values_of g.E.RingCore.ring g.E.ExtensionField.embed p.0) p.1) (take l.index (zip cs (map (λ v. v.items) l.points)))
