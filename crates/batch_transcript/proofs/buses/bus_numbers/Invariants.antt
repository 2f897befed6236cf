use Rattle.std.proofs.Common.{map}
use Rattle.std.specs.BTreeMap.{get_by_text}
use Rattle.p3_lookup.specs.Written.{bus_of_kind}
use Rattle.batch_transcript.proofs.Numbered.{AreNumbered, AreFirst}
use Rattle.batch_transcript.proofs.buses.bus_numbers.Given as goal

abbrev pub invariant-loop-place : goal.invariant-loop-place
invariant-loop-place l = AreNumbered (map bus_of_kind l.kinds) l.place l.numbers.items l.count × AreFirst (map bus_of_kind l.kinds) l.place (get_by_text l.openers)
