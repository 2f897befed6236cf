use Rattle.std.proofs.Common.{◌≡◌, map}
use Rattle.p3_field.specs.Poly.{tabulate}
use Rattle.p3_field.specs.Checks.{NoneFails, in_turn}
use Rattle.batch_setup.specs.Packed.{source_of}
use Rattle.batch_setup.specs.Preprocessed.{height_at, entry_at, committed_below}
use Rattle.batch_setup.proofs.preprocessed.batch_traces.Given as goal

abbrev pub invariant-loop-instance : goal.invariant-loop-instance
invariant-loop-instance g l =
    let sources = map (source_of g.A.BaseAir.declaration g.A.Air.trees g.A.Air.interactions) l.airs in
    record {
      none : NoneFails (in_turn l.instance (height_at {E = g.row.R.Denot} l.masks sources l.degree_bits));
      entries : l.entries.items ≡ tabulate l.instance (entry_at g.SC.Val.RingCore.ring.one sources l.degree_bits);
      committed : l.evaluations.items ≡ committed_below g.SC.Val.RingCore.ring.one sources l.degree_bits l.instance;
    }
