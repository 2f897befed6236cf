use Rattle.std.proofs.Common.{map, sym}
use Rattle.std.proofs.lemmas.List.{append-nil}
use Rattle.prover_openings.proofs.Lists.{after_push}
use Rattle.prover_openings.proofs.points.with_chunks.Goals as goal

pub loop-j-init : goal.loop-j-init
loop-j-init g c = sym (append-nil (map (λ x. x.items) c.args.points.items))

pub loop-j-preserved : goal.loop-j-preserved
loop-j-preserved g c = after_push (λ x. x.items) c.loop-j._j _ _ c.loop-j.points.items _ c.in_ok-points_where.field-0 c.loop-j.invariant c.in_ok-push.ensures.items c.in_ok-points_where.ensures
