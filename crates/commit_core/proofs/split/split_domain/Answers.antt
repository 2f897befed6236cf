use Rattle.std.proofs.Common.{◌≡◌, ℕ, ◌∙◌, sym, subst, arith}
use Rattle.p3_matrix.specs.Laws.Powers.{power_le_cancel}
use Rattle.commit_core.specs.Space.{IsPart}
use Rattle.commit_core.specs.Laws.Each.{none_yet, one_more}
use Rattle.commit_core.proofs.split.split_domain.Goals as goal

pub part_from-requires : goal.part_from-requires
part_from-requires g c = power_le_cancel c.log2_strict_usize-log_chunks.result c.args.domain.now.log_size (omega (arith, c.log2_strict_usize-log_chunks.ensures, c.requires.fits))

pub loop-i-init : goal.loop-i-init
loop-i-init g c = none_yet c.in_ok-parts.parts.items (IsPart g.F.RingCore.ring g.F.TwoAdicCore.root c.args.domain.now c.args.num_chunks) c.in_ok-parts.ensures.items

pub loop-i-preserved : goal.loop-i-preserved
loop-i-preserved g c =
    let r = g.F.RingCore.ring in
    let root = g.F.TwoAdicCore.root in
    let d = c.args.domain.now in
    let n = c.args.num_chunks in
    let part : IsPart r root d n c.loop-i.i c.part_from.result = subst (λ (k : ℕ). IsPart r root d k c.loop-i.i c.part_from.result) (sym c.log2_strict_usize-log_chunks.ensures) c.part_from.ensures in
    one_more c.loop-i.i c.loop-i.parts.items c.push.new.self.items c.part_from.result (IsPart r root d n) c.loop-i.invariant part c.in_ok-push.ensures.items

pub returns : goal.returns
returns g c =
    let r = g.F.RingCore.ring in
    let root = g.F.TwoAdicCore.root in
    let n : c.loop-i.i ≡ c.args.num_chunks = omega arith in
    record { count = c.loop-i.invariant.count ∙ n; each = c.loop-i.invariant.each }
