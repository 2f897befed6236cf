use Rattle.std.proofs.Common.{◌≡◌, ◌∙◌, arith}
use Rattle.p3_matrix.specs.Matrix.{height}
use Rattle.p3_matrix.specs.Laws.Powers.{power_divides}
use Rattle.commit_core.specs.Space.{IsSplit}
use Rattle.commit_core.specs.Laws.Each.{none_yet, one_more}
use Rattle.commit_core.proofs.split.split_rows.Goals as goal

pub loop-i-init : goal.loop-i-init
loop-i-init g c = none_yet c.in_ok-parts.parts.items (IsSplit c.args.m.now c.args.num_chunks) c.in_ok-parts.ensures.items

pub rows_from-requires-clause-divides : goal.rows_from-requires-clause-divides
rows_from-requires-clause-divides g c = power_divides (height c.args.m.now) c.args.num_chunks c.requires.height c.requires.power c.requires.fits

pub loop-i-preserved : goal.loop-i-preserved
loop-i-preserved g c =
    one_more c.loop-i.i c.loop-i.parts.items c.push.new.self.items c.in_ok-rows_from.field-0 (IsSplit c.args.m.now c.args.num_chunks) c.loop-i.invariant c.in_ok-rows_from.ensures c.in_ok-push.ensures.items

pub returns : goal.returns
returns g c =
    let n : c.loop-i.i ≡ c.args.num_chunks = omega arith in
    record { count = c.loop-i.invariant.count ∙ n; each = c.loop-i.invariant.each }
