use Rattle.std.proofs.Common.{◌++◌, ◌∷◌, map, ap, sym, subst, ◌∙◌}
use Rattle.std.specs.Prelude.{is_some}
use Rattle.std.specs.List.{fold}
use Rattle.std.specs.Option.{option_copied, option_map_or}
use Rattle.std.proofs.Math.ListN.{drop_of_length-le}
use Rattle.std.proofs.lemmas.List.{take_all}
use Rattle.p3_challenger.specs.States.{NextIs, IsStep, steps_after_next}
use Rattle.p3_challenger.specs.declared.script.InteractionKind.TheVariants.{Message}
use Rattle.batch_transcript.specs.BatchScript.{only_with, permutation_commitment_step, constraint_challenge_step, lookup_terminal_step, from_permutation, from_quotient}
use Rattle.batch_transcript.specs.Laws.Phases.{permutation-next, permutation-after, permutation-steps, copied-some, state-if, plays-permutation}
use Rattle.batch_transcript.proofs.transcript.BatchTranscript.permutation_phase.Goals as goal

pub message_if_present-requires : goal.message_if_present-requires
unfolding from_permutation
message_if_present-requires g c =
    let d = g.EF.BasedVectorSpace.DIMENSION in
    let s = c.args.self.now.shape in
    let e = sym (ap (λ p. p.remaining) c.self.view_is ∙ c.requires.turn) in
    λ t. subst (λ l. NextIs (IsStep Message) l) e (permutation-next d s.num_lookup_instances c.args.commitment (constraint_challenge_step d ∷ from_quotient d s) c.requires.present t)

pub loop-terminal-init : goal.loop-terminal-init
unfolding from_permutation
loop-terminal-init g c =
    let d = g.EF.BasedVectorSpace.DIMENSION in
    let s = c.args.self.now.shape in
    let v = c.self.view_is in
    let m = c.args.commitment in
    let o = option_copied m in
    let f = g.C.CanObserve-3.observed in record {
      state = ap (λ p. p.state) c.message_if_present.ensures ∙ state-if (f c.self.inside.state.state) o c.self.inside.state ∙ ap (λ p. option_map_or (f p.state) o p.state) v;
      remaining = ap (λ p. p.remaining) c.message_if_present.ensures
          ∙ permutation-after d s.num_lookup_instances o c.args.terminals.now (constraint_challenge_step d ∷ from_quotient d s) c.self.inside.state (f c.self.inside.state.state)
          (ap (λ p. p.remaining) v ∙ c.requires.turn) (copied-some m ∙ c.requires.present) c.requires.count;
      shape = ap (λ p. p.shape) v;
    }

pub returns-clause-plays : goal.returns-clause-plays
unfolding from_permutation
returns-clause-plays g c =
    let d = g.EF.BasedVectorSpace.DIMENSION in
    let s = c.args.self.now.shape in
    let xs = c.args.terminals.now in
    let m = c.args.commitment in
    let i = c.loop-terminal.invariant in
    let end = c.loop-terminal-test.false in
    let before = option_map_or (g.C.CanObserve-3.observed c.args.self.now.state) (option_copied m) c.args.self.now.state in
    let state = i.state ∙ ap (λ l. fold g.C.CanObserve-2.observed before l) (take_all _ xs end) in
    let left = i.remaining ∙ ap (λ l. map (λ _. lookup_terminal_step d) l ++ constraint_challenge_step d ∷ from_quotient d s) (drop_of_length-le xs end) in
    plays-permutation _ d (option_copied m) xs c.args.self.now _ c.challenge.result
    (ap (λ p. p.state) c.challenge.ensures.state ∙ ap g.C.CanSample-2.after_draw state)
    (c.challenge.ensures.answer ∙ ap g.C.CanSample-2.drawn state)
    (c.requires.turn
    ∙ permutation-steps d s.num_lookup_instances (option_copied m) xs (constraint_challenge_step d ∷ from_quotient d s) (copied-some m ∙ c.requires.present) c.requires.count
    ∙ ap (λ l. only_with (is_some (option_copied m)) permutation_commitment_step ++ (map (λ _. lookup_terminal_step d) xs ++ constraint_challenge_step d ∷ l)) (sym (ap (λ p. p.remaining) c.challenge.ensures.state ∙ ap steps_after_next left)))
    i.shape
