-- Scripts that are played one after the other, and tests of grinding values.
use Rattle.std.proofs.Common.{◌≡◌, ℕ, zero, suc, true, false, List, [], ◌∷◌, ◌++◌, refl, ap, ◌∙◌, arith}
use Rattle.std.proofs.lemmas.Bool.Decides.{nat_tests}
use Rattle.std.proofs.Common.{append_assoc}
use Rattle.p3_challenger.specs.Grind.{PassesGrinding, checked_state}
use Rattle.p3_challenger.specs.Script.{ChallengerOf, Transcript, Played, Elements, play, play_kind, passes, after_grinding, amount}
use Rattle.p3_challenger.specs.declared.script.InteractionKind.{InteractionKind}
use Rattle.p3_challenger.specs.declared.script.InteractionKind.TheVariants.{Message, Public, Challenge, Pow, Protocol}

module _ {S F E M : Type 0} (c : ChallengerOf S F E M) where
  -- one script after another is both played in order
  pub play-append : (t : Transcript S E) (ps qs : List (Played F E M)) → play c t (ps ++ qs) ≡ play c (play c t ps) qs
  unfolding play
  play-append t [] qs = refl
  play-append t (p ∷ ps) qs = play-append (play_kind c p.step.kind t p) ps qs

  -- what was drawn and tested before a script stands before what it draws and tests, and changes nothing of it
  abbrev pub after_all : Transcript S E → Transcript S E → Transcript S E
  after_all t u = record { state = u.state; challenges = t.challenges ++ u.challenges; passed = t.passed ++ u.passed }

  step-after : (k : InteractionKind) (t u : Transcript S E) (p : Played F E M) → play_kind c k (after_all t u) p ≡ after_all t (play_kind c k u p)
  step-after Message t u p = refl
  step-after Public t u p = refl
  step-after Challenge t u p = ap (λ l. record { state = c.after_draw u.state; challenges = l; passed = t.passed ++ u.passed }) (append_assoc t.challenges u.challenges (c.draw u.state ∷ []))
  step-after Pow t u p =
      let bits = amount p.step.length in
      ap (λ l. record { state = after_grinding c u.state bits p.value; challenges = t.challenges ++ u.challenges; passed = l }) (append_assoc t.passed u.passed (passes c u.state bits p.value ∷ []))
  step-after Protocol t u p = refl

  pub play-after : (t u : Transcript S E) (ps : List (Played F E M)) → play c (after_all t u) ps ≡ after_all t (play c u ps)
  unfolding play
  play-after t u [] = refl
  play-after t u (p ∷ ps) =
      ap (λ v. play c v ps) (step-after p.step.kind t u p) ∙ play-after t (play_kind c p.step.kind u p) ps

  -- a grinding value passes the challenger's own test exactly where it is checked, and leaves the same state
  pub passes-checked : (s : S) (bits : ℕ) (w : F) → PassesGrinding c.observe c.draw_bits s bits w → passes c s bits (Elements (w ∷ [])) ≡ true
  passes-checked s zero w h = refl
  passes-checked s (suc n) w h = grind (arith, nat_tests, h)

  pub checked-passes : (s : S) (bits : ℕ) (w : F) → passes c s bits (Elements (w ∷ [])) ≡ true → PassesGrinding c.observe c.draw_bits s bits w
  checked-passes s zero w h = tt
  checked-passes s (suc n) w h = grind (arith, nat_tests, h)

  pub unchecked-fails : (s : S) (bits : ℕ) (w : F) → (PassesGrinding c.observe c.draw_bits s bits w → ⊥) → passes c s bits (Elements (w ∷ [])) ≡ false
  unchecked-fails s zero w h = absurd (h tt)
  unchecked-fails s (suc n) w h = grind (arith, nat_tests, h)

  pub grinding-state : (s : S) (bits : ℕ) (w : F) → after_grinding c s bits (Elements (w ∷ [])) ≡ checked_state c.observe c.after_bits s bits w
  grinding-state s zero w = refl
  grinding-state s (suc n) w = refl
