use Rattle.p3_lookup.specs.Written.{read_all}
use Rattle.p3_lookup.specs.RowTerms.{sizes}
use Rattle.p3_lookup.proofs.Groups.{IsRowAt}
use Rattle.p3_lookup.proofs.generate.push_row.Given as goal

abbrev pub invariant-loop-i : goal.invariant-loop-i
invariant-loop-i g l =
    IsRowAt g.EF.RingCore.ring (sizes (read_all l.lookups)) l.quotients l.fn.running l.fn.values.items l.values.items l.i l.start l.place l.running
