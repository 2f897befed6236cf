use Rattle.std.proofs.Common.{arith}
use Rattle.std.proofs.lemmas.List.{ext_get_or}
use Rattle.plain_pcs.proofs.evaluations.first_different.Goals as goal

pub returns : goal.returns
returns g c = ext_get_or g.E.RingCore.ring.zero c.args.claimed.now c.args.values.now c.requires (λ i h. c.loop-i.invariant i (omega (arith, c.requires, c.loop-i-test.false)))
