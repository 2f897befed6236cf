-- Phases one after the other, and what a whole run draws: prover's and verifier's transcripts are one fold.
use Rattle.std.proofs.Common.{◌≡◌, ℕ, List, ◌++◌, refl, ap, sym, ◌∙◌, append_assoc}
use Rattle.std.proofs.lemmas.List.{append-nil, map-append}
use Rattle.p3_field.specs.Ring.{Ring}
use Rattle.p3_challenger.specs.Script.{ChallengerOf, Transcript, Played, play, begun, steps_of}
use Rattle.p3_challenger.specs.Laws.Scripts.{play-append, play-after, after_all}
use Rattle.batch_transcript.specs.BatchScript.{BatchShapeData, Given, draws, draws_of, script, script_to_opening, seeded, opening_script}
use Rattle.batch_transcript.specs.Running.{IsOneFold, PlaysChain, TellsDraws}

module _ {S F E M : Type 0} (c : ChallengerOf S F E M) where
  -- a script after another starts at its state, and adds what it draws and tests
  pub play-on : (s : S) (ps qs : List (Played F E M))
      → play c (begun E s) (ps ++ qs) ≡ after_all c (play c (begun E s) ps) (play c (begun E (play c (begun E s) ps).state) qs)
  play-on s ps qs =
      let u = play c (begun E s) ps in
      let e : after_all c u (begun E u.state) ≡ u = λ i. record { state = u.state; challenges = append-nil u.challenges i; passed = append-nil u.passed i } in
      play-append c (begun E s) ps qs ∙ ap (λ t. play c t qs) (sym e) ∙ play-after c u (begun E u.state) qs

  -- two phases one after the other are one
  pub plays-chain : PlaysChain c
  plays-chain ps qs x y z ds es p q =
      let u = play c (begun E x.state) ps in
      let e = play-on x.state ps qs in record {
        state = q.state ∙ ap (λ s. (play c (begun E s) qs).state) p.state ∙ sym (ap (λ t. t.state) e);
        challenges = ap (λ l. l ++ es) p.challenges ∙ ap (λ l. u.challenges ++ l) (q.challenges ∙ ap (λ s. (play c (begun E s) qs).challenges) p.state) ∙ sym (ap (λ t. t.challenges) e);
        steps = p.steps ∙ ap (λ l. steps_of ps ++ l) q.steps ∙ sym (append_assoc (steps_of ps) (steps_of qs) z.remaining) ∙ ap (λ l. l ++ z.remaining) (sym (map-append (λ (p : Played F E M). p.step) ps qs));
        shape = q.shape ∙ p.shape;
      }

  -- from equal states one script leaves equal states and draws the same
  pub plays-same : IsOneFold c
  plays-same ps x y x' y' ds es h p q = (
    p.state ∙ ap (λ s. (play c (begun E s) ps).state) h ∙ sym q.state,
    p.challenges ∙ ap (λ s. (play c (begun E s) ps).challenges) h ∙ sym q.challenges,
  )

  -- the bracket does nothing
  play-opening : (t : Transcript S E) → play c t opening_script ≡ t
  unfolding play opening_script
  play-opening t = refl

  pub play-script : (r : Ring E) (d : ℕ) (s : BatchShapeData) (g : Given F E M) (t : Transcript S E) → play c t (script r d s g) ≡ play c t (script_to_opening r d s g)
  unfolding script
  play-script r d s g t = play-append c t (script_to_opening r d s g) opening_script ∙ play-opening (play c t (script_to_opening r d s g))

  -- whoever played the phases from the seeded state on has drawn what the fold draws, and stands at its state at the opening
  pub run-draws : (f : Ring F) (r : Ring E) (d : ℕ) → TellsDraws c f r d
  unfolding draws
  run-draws f r d initial s g x y drawn h p =
      let b = begun E (seeded c f d s initial) in
      let front = script_to_opening r d s g in
      let state : y.state ≡ (play c b front).state = p.state ∙ ap (λ z. (play c (begun E z) front).state) h in
      let challenges : drawn ≡ (play c b front).challenges = p.challenges ∙ ap (λ z. (play c (begun E z) front).challenges) h in
      let passed : (play c (begun E x.state) front).passed ≡ (play c b front).passed = ap (λ z. (play c (begun E z) front).passed) h in
      ap (draws_of r s.num_lookup_instances) (play-script r d s g b)
      ∙ (λ i. draws_of r s.num_lookup_instances (record { state = sym state i; challenges = sym challenges i; passed = sym passed i }))
