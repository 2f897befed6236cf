use Rattle.std.proofs.Common.{◌++◌, ◌∷◌, map, length, ap, sym, ◌∙◌}
use Rattle.std.specs.List.{fold}
use Rattle.std.proofs.Math.ListN.{drop_of_length-le}
use Rattle.std.proofs.lemmas.List.{take_all}
use Rattle.p3_challenger.specs.States.{steps_after_next}
use Rattle.batch_transcript.specs.BatchScript.{main_commitment_step, public_values_step, from_main, from_preprocessed}
use Rattle.batch_transcript.specs.Laws.Phases.{plays-main, publics-steps}
use Rattle.batch_transcript.proofs.transcript.BatchTranscript.main_phase.Goals as goal

pub loop-values-init : goal.loop-values-init
unfolding from_main
loop-values-init g c =
    let d = g.EF.BasedVectorSpace.DIMENSION in
    let s = c.args.self.now.shape in
    let v = c.self.view_is in record {
      state = ap (λ p. p.state) c.message.ensures ∙ ap (λ p. g.C.CanObserve-3.observed p.state c.args.main_commitment.now) v;
      remaining = ap (λ p. p.remaining) c.message.ensures
          ∙ ap steps_after_next (ap (λ p. p.remaining) v ∙ c.requires.turn)
          ∙ ap (λ l. l ++ from_preprocessed d s) (publics-steps c.args.public_values.now s.public_value_counts c.requires.count);
      shape = ap (λ p. p.shape) v;
    }

pub returns-clause-plays : goal.returns-clause-plays
unfolding from_main
returns-clause-plays g c =
    let d = g.EF.BasedVectorSpace.DIMENSION in
    let s = c.args.self.now.shape in
    let xs = c.args.public_values.now in
    let i = c.loop-values.invariant in
    let end = c.loop-values-test.false in
    let m = c.args.main_commitment.now in
    plays-main _ m xs c.args.self.now _
    (i.state ∙ ap (λ l. fold (λ t v. fold g.C.CanObserve-1.observed t v.items) (g.C.CanObserve-3.observed c.args.self.now.state m) l) (take_all _ xs end))
    (c.requires.turn
    ∙ ap (λ l. main_commitment_step ∷ (l ++ from_preprocessed d s)) (publics-steps xs s.public_value_counts c.requires.count)
    ∙ ap (λ l. main_commitment_step ∷ (map (λ v. public_values_step (length v.items)) xs ++ l)) (sym (i.remaining ∙ ap (λ l. map (λ v. public_values_step (length v.items)) l ++ from_preprocessed d s) (drop_of_length-le xs end))))
    i.shape
