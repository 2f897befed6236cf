use Rattle.std.proofs.Common.{ap, map, sym, ◌∙◌}
use Rattle.std.specs.Option.{option_copied}
use Rattle.p3_lookup.specs.Written.{read_all}
use Rattle.batch_transcript.specs.BatchScript.{Given}
use Rattle.batch_transcript.specs.Buses.{batch_layout}
use Rattle.batch_transcript.specs.Running.{lists}
use Rattle.batch_transcript.specs.Laws.Runs.{run-tells}
use Rattle.verifier_draws.proofs.Chains.{to_lookup, to_ood, run-pair}
use Rattle.verifier_draws.proofs.Decided.{lookup_refused, ood_refused, all_taken}
use Rattle.verifier_draws.proofs.phases.play_phases.Goals as goal

pub returns-in-Err : goal.returns-in-Err
returns-in-Err g c =
    let a = c.args in
    let f = g.F.RingCore.ring in
    let r = g.EF.RingCore.ring in
    let d = g.EF.BasedVectorSpace.DIMENSION in
    let v : Given g.row.F.Denot g.row.EF.Denot g.row.Com.Denot = record {
      degree_bits = a.degree_bits.now;
      main = a.main.now;
      publics = lists a.public_values.now;
      preprocessed = option_copied a.preprocessed;
      lookup_witness = a.lookup_witness;
      permutation = option_copied a.permutation;
      terminals = a.terminals.now;
      quotient = a.quotient.now;
      randomization = option_copied a.randomization;
      ood_witness = a.ood_witness;
    } in
    let x0 = c.in_ok-t.t in
    let x1 = c.instance_bindings.new.self in
    let x2 = c.main_phase.new.self in
    let x3 = c.preprocessed_phase.new.self in
    let p1 = c.instance_bindings.ensures.plays in
    let p2 = c.main_phase.ensures.plays in
    let p3 = c.preprocessed_phase.ensures.plays in
    let seed = ap (λ x. x.state) c.in_ok-t.ensures in
    let first = ap (λ x. x.shape) c.in_ok-t.ensures in
    let shape3 = p3.shape ∙ p2.shape ∙ p1.shape ∙ first in
    let q3 = to_lookup _ r d v x0 x1 x2 x3 p1 p2 p3 in
    (lookup_refused _ _ f r d a.challenger a.shape v x0 x3 seed shape3 q3 c.in-Err.error c.refused.result c.in-Err.ensures.refused c.refused.ensures, tt)

pub returns-in-Err-ood_phase : goal.returns-in-Err-ood_phase
returns-in-Err-ood_phase g c =
    let a = c.args in
    let f = g.F.RingCore.ring in
    let r = g.EF.RingCore.ring in
    let d = g.EF.BasedVectorSpace.DIMENSION in
    let v : Given g.row.F.Denot g.row.EF.Denot g.row.Com.Denot = record {
      degree_bits = a.degree_bits.now;
      main = a.main.now;
      publics = lists a.public_values.now;
      preprocessed = option_copied a.preprocessed;
      lookup_witness = a.lookup_witness;
      permutation = option_copied a.permutation;
      terminals = a.terminals.now;
      quotient = a.quotient.now;
      randomization = option_copied a.randomization;
      ood_witness = a.ood_witness;
    } in
    let x0 = c.in_ok-t.t in
    let x1 = c.instance_bindings.new.self in
    let x2 = c.main_phase.new.self in
    let x3 = c.preprocessed_phase.new.self in
    let p1 = c.instance_bindings.ensures.plays in
    let p2 = c.main_phase.ensures.plays in
    let p3 = c.preprocessed_phase.ensures.plays in
    let seed = ap (λ x. x.state) c.in_ok-t.ensures in
    let first = ap (λ x. x.shape) c.in_ok-t.ensures in
    let shape3 = p3.shape ∙ p2.shape ∙ p1.shape ∙ first in
    let q3 = to_lookup _ r d v x0 x1 x2 x3 p1 p2 p3 in
    let x4 = c.lookup_phase.new.self in
    let x5 = c.permutation_phase-alpha.new.self in
    let x6 = c.quotient_phase.new.self in
    let o4 = c.in-Ok.ensures.plays.0 in
    let p5 = c.permutation_phase-alpha.ensures.plays in
    let p6 = c.quotient_phase.ensures.plays in
    let shape6 = p6.shape ∙ p5.shape ∙ o4.shape ∙ shape3 in
    let q6 = to_ood _ r d a.shape v x0 x3 x4 x5 x6 c.permutation_phase-alpha.result shape3 q3 o4 p5 p6 in (
      ood_refused _ _ f r d a.challenger a.shape v x0 x3 x6 _ seed shape3 shape6 q3 q6 c.in-Ok.ensures.taken c.in-Err-ood_phase.failure c.in-Err-ood_phase.ensures.answer,
      tt,
    )

pub returns : goal.returns
returns g c =
    let a = c.args in
    let f = g.F.RingCore.ring in
    let r = g.EF.RingCore.ring in
    let d = g.EF.BasedVectorSpace.DIMENSION in
    let v : Given g.row.F.Denot g.row.EF.Denot g.row.Com.Denot = record {
      degree_bits = a.degree_bits.now;
      main = a.main.now;
      publics = lists a.public_values.now;
      preprocessed = option_copied a.preprocessed;
      lookup_witness = a.lookup_witness;
      permutation = option_copied a.permutation;
      terminals = a.terminals.now;
      quotient = a.quotient.now;
      randomization = option_copied a.randomization;
      ood_witness = a.ood_witness;
    } in
    let x0 = c.in_ok-t.t in
    let x1 = c.instance_bindings.new.self in
    let x2 = c.main_phase.new.self in
    let x3 = c.preprocessed_phase.new.self in
    let p1 = c.instance_bindings.ensures.plays in
    let p2 = c.main_phase.ensures.plays in
    let p3 = c.preprocessed_phase.ensures.plays in
    let seed = ap (λ x. x.state) c.in_ok-t.ensures in
    let first = ap (λ x. x.shape) c.in_ok-t.ensures in
    let shape3 = p3.shape ∙ p2.shape ∙ p1.shape ∙ first in
    let q3 = to_lookup _ r d v x0 x1 x2 x3 p1 p2 p3 in
    let x4 = c.lookup_phase.new.self in
    let x5 = c.permutation_phase-alpha.new.self in
    let x6 = c.quotient_phase.new.self in
    let o4 = c.in-Ok.ensures.plays.0 in
    let p5 = c.permutation_phase-alpha.ensures.plays in
    let p6 = c.quotient_phase.ensures.plays in
    let shape6 = p6.shape ∙ p5.shape ∙ o4.shape ∙ shape3 in
    let q6 = to_ood _ r d a.shape v x0 x3 x4 x5 x6 c.permutation_phase-alpha.result shape3 q3 o4 p5 p6 in
    let x7 = c.ood_phase.new.self in
    let o7 = c.in-Ok-ood_phase.ensures.plays in
    let k = run-tells _ f r d a.challenger a.shape v x0 x1 x2 x3 x4 x5 x6 x7 c.permutation_phase-alpha.result c.in-Ok-ood_phase.drawn seed first p1 p2 p3 o4 p5 p6 o7 in
    let pair = run-pair _ f r d a.challenger a.shape v x0 x3 x6 x7 c.permutation_phase-alpha.result c.in-Ok-ood_phase.drawn seed shape3 shape6 q6 o7 in (
      all_taken _ _ f r d a.challenger a.shape v x0 x3 x6 _ seed shape3 shape6 q3 q6 c.in-Ok.ensures.taken c.in-Ok-ood_phase.ensures.answer,
      (sym k.0, sym k.1, c.abort-left.ensures ∙ sym k.2, c.in-Ok.ensures.plays.1 ∙ ap (λ l. batch_layout r l (map (read_all {F = g.row.F.Denot}) a.lookups.now)) pair),
    )
