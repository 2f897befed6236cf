use Rattle.std.proofs.Common.{◌≡◌, length, map, get_or, ◌∙◌, ap, subst, arith}
use Rattle.p3_field.specs.Poly.{tabulate}
use Rattle.p3_field.specs.Laws.Checks.{none_in_turn, none_of_none, none_until}
use Rattle.p3_field.specs.Laws.Tabulate.{tabulate_push}
use Rattle.batch_setup.specs.Packed.{source_of}
use Rattle.batch_setup.specs.Preprocessed.{entry_with, entry_at, committed_below}
use Rattle.batch_setup.specs.Laws.Verdicts.{exits, refusal_in_turn}
use Rattle.batch_setup.proofs.Committed.{committed_more}
use Rattle.batch_setup.proofs.preprocessed.batch_traces.Goals as goal

pub loop-instance-init : goal.loop-instance-init
loop-instance-init g c = record { none = none_of_none _; entries = c.new-entries.ensures.items; committed = c.new-evaluations.ensures.items }

pub returns-in_err-trace-clause-verdict : goal.returns-in_err-trace-clause-verdict
returns-in_err-trace-clause-verdict g c =
    exits _ _ _ c.from_residual.ensures.1 (refusal_in_turn _ c.loop-instance.instance _ _ (omega arith) c.loop-instance.invariant.none c.in_err-trace.ensures.verdict)

pub loop-instance-preserved : goal.loop-instance-preserved
loop-instance-preserved g c =
    let i = c.loop-instance.instance in
    let bits = c.args.degree_bits.now in
    let inv = c.loop-instance.invariant in
    let sources = map (source_of g.A.BaseAir.declaration g.A.Air.trees g.A.Air.interactions) c.args.airs.now in
    let one = g.SC.Val.RingCore.ring.one in
    let long : c.len.result ≡ length c.loop-instance.evaluations.items = omega (arith, c.len.ensures, c.loop-instance.evaluations.ok.0) in
    let count : c.len.result ≡ length (committed_below one sources bits i) = long ∙ ap length inv.committed in
    record {
      none = none_in_turn _ i inv.none c.in_ok-trace.ensures.verdict;
      entries = c.in_ok-push.ensures.items ∙ tabulate_push i (entry_at one sources bits) _ _ inv.entries
          (c.entry_of.ensures ∙ ap (λ n. entry_with n (get_or bits i 0) c.in_ok-trace.trace) count
          ∙ ap (entry_with (length (committed_below one sources bits i)) (get_or bits i 0)) c.in_ok-trace.ensures.trace);
      committed = committed_more one sources bits i c.loop-instance.evaluations.items _ c.in_ok-trace.trace inv.committed c.in_ok-trace.ensures.trace c.in_ok-evaluations.ensures;
    }

pub returns-clause-verdict : goal.returns-clause-verdict
returns-clause-verdict g c = none_until _ c.loop-instance.instance _ (omega arith) c.loop-instance.invariant.none

pub returns-clause-entries : goal.returns-clause-entries
returns-clause-entries g c =
    let all : c.loop-instance.instance ≡ length c.args.airs.now = omega arith in
    let sources = map (source_of g.A.BaseAir.declaration g.A.Air.trees g.A.Air.interactions) c.args.airs.now in
    subst (λ n. c.loop-instance.entries.items ≡ tabulate n (entry_at g.SC.Val.RingCore.ring.one sources c.args.degree_bits.now)) all c.loop-instance.invariant.entries

pub returns-clause-committed : goal.returns-clause-committed
returns-clause-committed g c =
    let all : c.loop-instance.instance ≡ length c.args.airs.now = omega arith in
    let sources = map (source_of g.A.BaseAir.declaration g.A.Air.trees g.A.Air.interactions) c.args.airs.now in
    subst (λ n. c.loop-instance.evaluations.items ≡ committed_below g.SC.Val.RingCore.ring.one sources c.args.degree_bits.now n) all c.loop-instance.invariant.committed
