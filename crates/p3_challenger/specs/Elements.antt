-- Transcripts over base elements alone: each value is the list of base elements that it is observed as, and a challenge the list of those
-- drawn for it. A typed transcript is one of these, by `flat` (`Laws/Flat`).
use Rattle.std.specs.Prelude.{◌≡◌, ℕ, zero, suc, Bool, true, List, [], ◌∷◌, ◌++◌, ◌==◌, map, All}
use Rattle.std.specs.List.{fold}
use Rattle.p3_challenger.specs.declared.script.InteractionKind.{InteractionKind}
use Rattle.p3_challenger.specs.declared.script.InteractionKind.TheVariants.{Message, Public, Challenge, Pow, Protocol}
use Rattle.p3_challenger.specs.declared.script.Interaction.{Interaction}
use Rattle.p3_challenger.specs.Script.{ChallengerOf, Value, NoValue, Elements, Extended, Sealed, Played, Transcript, play, elements, amount}

-- a challenger of base elements as functions of its state
pub record ElementChallenger (S F : Type 0) : Type 0 where
  pub observe : S → F → S
  pub draw : S → F
  pub after_draw : S → S
  pub draw_bits : S → ℕ → ℕ
  pub after_bits : S → ℕ → S

-- a step with the base elements that its value is observed as
pub record PlayedElements (F : Type 0) : Type 0 where
  pub step : Interaction
  pub value : List F

-- so many draws in a row, and the state after them
unfoldable pub draw_all : {S F : Type 0} → ElementChallenger S F → S → ℕ → List F
draw_all c s zero = []
draw_all c s (suc n) = c.draw s ∷ draw_all c (c.after_draw s) n

unfoldable pub after_draws : {S F : Type 0} → ElementChallenger S F → S → ℕ → S
after_draws c s zero = s
after_draws c s (suc n) = after_draws c (c.after_draw s) n

module _ {S F : Type 0} (c : ElementChallenger S F) where
  abbrev pub observe_all : S → List F → S
  observe_all s xs = fold c.observe s xs

  abbrev pub elements_pass : S → ℕ → List F → Bool
  elements_pass s zero w = true
  elements_pass s (suc n) w = c.draw_bits (observe_all s w) (suc n) == 0

  abbrev pub after_elements : S → ℕ → List F → S
  after_elements s zero w = s
  after_elements s (suc n) w = c.after_bits (observe_all s w) (suc n)

  abbrev pub play_elements_kind : InteractionKind → Transcript S (List F) → PlayedElements F → Transcript S (List F)
  play_elements_kind Message t p = record t { state = observe_all t.state p.value }
  play_elements_kind Public t p = record t { state = observe_all t.state p.value }
  play_elements_kind Challenge t p = record t { state = after_draws c t.state (elements p.step.value); challenges = t.challenges ++ draw_all c t.state (elements p.step.value) ∷ [] }
  play_elements_kind Pow t p = record t {
    state = after_elements t.state (amount p.step.length) p.value;
    passed = t.passed ++ elements_pass t.state (amount p.step.length) p.value ∷ [];
  }
  play_elements_kind Protocol t p = t

  unfoldable pub play_elements : Transcript S (List F) → List (PlayedElements F) → Transcript S (List F)
  play_elements t [] = t
  play_elements t (p ∷ ps) = play_elements (play_elements_kind p.step.kind t p) ps

-- the base elements of a value, by those of an extension element and of an opaque value
module _ {F E M : Type 0} (coefficients : E → List F) (opaque : M → List F) where
  abbrev pub flat_value : Value F E M → List F
  flat_value NoValue = []
  flat_value (Elements xs) = xs
  flat_value (Extended x) = coefficients x
  flat_value (Sealed m) = opaque m

  abbrev pub flat : List (Played F E M) → List (PlayedElements F)
  flat ps = map (λ p. record { step = p.step; value = flat_value p.value }) ps

-- a transcript with each challenge as its base elements
abbrev pub flat_transcript : {S F E : Type 0} → (E → List F) → Transcript S E → Transcript S (List F)
flat_transcript coefficients t = record { state = t.state; challenges = map coefficients t.challenges; passed = t.passed }

-- each challenge of a script has this dimension
abbrev pub DrawsAt : {F E M : Type 0} → ℕ → Played F E M → Type 0
DrawsAt dimension p = p.step.kind ≡ Challenge → elements p.step.value ≡ dimension

-- a typed challenger observes and draws base elements: an extension element as its parts, an opaque value as its elements; a challenge
-- is so many draws
pub record IsOverElements {S F E M : Type 0} (c : ChallengerOf S F E M) (b : ElementChallenger S F) (coefficients : E → List F) (opaque : M → List F) (dimension : ℕ) : Type 0 where
  pub observes : (s : S) (x : F) → c.observe s x ≡ b.observe s x
  pub observes_extension : (s : S) (x : E) → c.observe_extension s x ≡ fold b.observe s (coefficients x)
  pub observes_opaque : (s : S) (m : M) → c.observe_opaque s m ≡ fold b.observe s (opaque m)
  pub draws : (s : S) → coefficients (c.draw s) ≡ draw_all b s dimension
  pub leaves : (s : S) → c.after_draw s ≡ after_draws b s dimension
  pub draws_bits : (s : S) (n : ℕ) → c.draw_bits s n ≡ b.draw_bits s n
  pub leaves_bits : (s : S) (n : ℕ) → c.after_bits s n ≡ b.after_bits s n

-- playing a typed script is playing its base elements
abbrev pub PlaysFlat : {S F E M : Type 0} → ChallengerOf S F E M → ElementChallenger S F → (E → List F) → (M → List F) → ℕ → Type 0
PlaysFlat {S} {F} {E} {M} c b coefficients opaque dimension =
    (t : Transcript S E) (ps : List (Played F E M)) → All (DrawsAt dimension) ps
    → flat_transcript coefficients (play c t ps) ≡ play_elements b (flat_transcript coefficients t) (flat coefficients opaque ps)
