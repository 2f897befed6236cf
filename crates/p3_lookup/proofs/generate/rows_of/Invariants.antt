use Rattle.p3_lookup.specs.Written.{read_all}
use Rattle.p3_lookup.specs.RowTerms.{sizes}
use Rattle.p3_lookup.proofs.Groups.{AreRowsAt}
use Rattle.p3_lookup.proofs.generate.rows_of.Given as goal

abbrev pub invariant-loop-row : goal.invariant-loop-row
invariant-loop-row g l =
    AreRowsAt g.EF.RingCore.ring (sizes (read_all l.lookups)) l.quotients l.values.items l._row l.place l.running
