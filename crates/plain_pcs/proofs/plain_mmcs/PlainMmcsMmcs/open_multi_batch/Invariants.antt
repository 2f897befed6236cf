use Rattle.std.proofs.Common.{◌≡◌, ℕ, Some, length, map}
use Rattle.std.specs.Prelude.{slice_get}
use Rattle.commit_core.specs.Space.{EachOf}
use Rattle.commit_rows.specs.Batches.{lists, AreRowsAt}
use Rattle.plain_pcs.proofs.plain_mmcs.PlainMmcsMmcs.open_multi_batch.Given as goal

abbrev pub invariant-loop-index : goal.invariant-loop-index
invariant-loop-index g l =
    EachOf l.index-index (map (λ rows. lists rows.items) l.openings.items) (λ i rows. (x : ℕ) → slice_get l.indices i ≡ Some x
    → AreRowsAt l.prover_data x rows × (map (λ row. length row) rows ≡ map (λ m. m.width) l.prover_data))
