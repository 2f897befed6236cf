-- A typed transcript is one over base elements.
use Rattle.std.proofs.Common.{◌≡◌, ℕ, zero, suc, List, [], ◌∷◌, ◌++◌, map, refl, sym, ap, ◌∙◌}
use Rattle.std.specs.Prelude.{◌==◌}
use Rattle.std.specs.List.{fold}
use Rattle.std.proofs.lemmas.List.{map-append}
use Rattle.std.proofs.lemmas.List.Elements.{All-head, All-tail}
use Rattle.p3_challenger.specs.Script.{ChallengerOf, Value, NoValue, Elements, Extended, Sealed, Played, Transcript, play, play_kind, observe_value, passes, after_grinding, elements, amount}
use Rattle.p3_challenger.specs.Elements.{ElementChallenger, draw_all, after_draws, play_elements, play_elements_kind, elements_pass, after_elements, flat, flat_value, flat_transcript, IsOverElements, DrawsAt, PlaysFlat}
use Rattle.p3_challenger.specs.declared.script.InteractionKind.{InteractionKind}
use Rattle.p3_challenger.specs.declared.script.InteractionKind.TheVariants.{Message, Public, Challenge, Pow, Protocol}

-- folds of equal steps are equal
fold-same : {A B : Type 0} (f g : B → A → B) → ((b : B) (a : A) → f b a ≡ g b a) → (b : B) (xs : List A) → fold f b xs ≡ fold g b xs
fold-same f g h b [] = refl
fold-same f g h b (x ∷ xs) = ap (λ z. fold f z xs) (h b x) ∙ fold-same f g h (g b x) xs

module _ {S F E M : Type 0} (c : ChallengerOf S F E M) (b : ElementChallenger S F) (coefficients : E → List F) (opaque : M → List F) (dimension : ℕ) (over : IsOverElements c b coefficients opaque dimension) where
  value-flat : (s : S) (v : Value F E M) → observe_value c s v ≡ fold b.observe s (flat_value coefficients opaque v)
  value-flat s NoValue = refl
  value-flat s (Elements xs) = fold-same c.observe b.observe over.observes s xs
  value-flat s (Extended x) = over.observes_extension s x
  value-flat s (Sealed m) = over.observes_opaque s m

  passes-flat : (s : S) (n : ℕ) (v : Value F E M) → passes c s n v ≡ elements_pass b s n (flat_value coefficients opaque v)
  passes-flat s zero v = refl
  passes-flat s (suc n) v = ap (λ k. k == 0) (over.draws_bits (observe_value c s v) (suc n) ∙ ap (λ z. b.draw_bits z (suc n)) (value-flat s v))

  grinding-flat : (s : S) (n : ℕ) (v : Value F E M) → after_grinding c s n v ≡ after_elements b s n (flat_value coefficients opaque v)
  grinding-flat s zero v = refl
  grinding-flat s (suc n) v = over.leaves_bits (observe_value c s v) (suc n) ∙ ap (λ z. b.after_bits z (suc n)) (value-flat s v)

  step-flat : (k : InteractionKind) (t : Transcript S E) (p : Played F E M) → (k ≡ Challenge → elements p.step.value ≡ dimension)
      → flat_transcript coefficients (play_kind c k t p) ≡ play_elements_kind b k (flat_transcript coefficients t) (record { step = p.step; value = flat_value coefficients opaque p.value })
  step-flat Message t p h = ap (λ s. record { state = s; challenges = map coefficients t.challenges; passed = t.passed }) (value-flat t.state p.value)
  step-flat Public t p h = ap (λ s. record { state = s; challenges = map coefficients t.challenges; passed = t.passed }) (value-flat t.state p.value)
  step-flat Challenge t p h =
      let n : dimension ≡ elements p.step.value = sym (h refl) in
      let s : c.after_draw t.state ≡ after_draws b t.state (elements p.step.value) = over.leaves t.state ∙ ap (after_draws b t.state) n in
      let d : map coefficients (t.challenges ++ c.draw t.state ∷ []) ≡ map coefficients t.challenges ++ draw_all b t.state (elements p.step.value) ∷ [] =
      map-append coefficients t.challenges (c.draw t.state ∷ []) ∙ ap (λ x. map coefficients t.challenges ++ x ∷ []) (over.draws t.state ∙ ap (draw_all b t.state) n) in
      λ i. record { state = s i; challenges = d i; passed = t.passed }
  step-flat Pow t p h =
      let s = grinding-flat t.state (amount p.step.length) p.value in
      let a = passes-flat t.state (amount p.step.length) p.value in
      λ i. record { state = s i; challenges = map coefficients t.challenges; passed = t.passed ++ a i ∷ [] }
  step-flat Protocol t p h = refl

  pub play-flat : PlaysFlat c b coefficients opaque dimension
  unfolding play play_elements
  play-flat t [] h = refl
  play-flat t (p ∷ ps) h =
      play-flat (play_kind c p.step.kind t p) ps (All-tail (DrawsAt dimension) p ps h)
      ∙ ap (λ u. play_elements b u (flat coefficients opaque ps)) (step-flat p.step.kind t p (All-head (DrawsAt dimension) p ps h))
