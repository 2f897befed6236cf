-- Typed transcripts: the steps that prover and verifier play, and what a challenger draws along them.
-- The step kinds are those of Plonky3's p3-challenger (its typed states); the numbers within a step are this project's own.
use Rattle.std.specs.Prelude.{◌≡◌, ℕ, zero, suc, Bool, true, List, [], ◌∷◌, ◌++◌, ◌==◌, map}
use Rattle.std.specs.List.{fold}
use Rattle.p3_challenger.specs.declared.script.Hierarchy.{Hierarchy}
use Rattle.p3_challenger.specs.declared.script.Hierarchy.TheVariants.{Atomic, Begin, End}
use Rattle.p3_challenger.specs.declared.script.InteractionKind.{InteractionKind}
use Rattle.p3_challenger.specs.declared.script.InteractionKind.TheVariants.{Message, Public, Challenge, Pow, Protocol}
use Rattle.p3_challenger.specs.declared.script.StepValue.{StepValue}
use Rattle.p3_challenger.specs.declared.script.StepValue.TheVariants.{Marker, Opaque, Algebra}
use Rattle.p3_challenger.specs.declared.script.Length.{Length}
use Rattle.p3_challenger.specs.declared.script.Length.TheVariants.{None as NoLength, Scalar, Fixed}
use Rattle.p3_challenger.specs.declared.script.Interaction.{Interaction}

-- a challenger as functions of its state: what observing a base element, an extension element and an opaque value leave, the next
-- extension element drawn, what the draw leaves, a draw of so many bits, and what that leaves
pub record ChallengerOf (S F E M : Type 0) : Type 0 where
  pub observe : S → F → S
  pub observe_extension : S → E → S
  pub observe_opaque : S → M → S
  pub draw : S → E
  pub after_draw : S → S
  pub draw_bits : S → ℕ → ℕ
  pub after_bits : S → ℕ → S

-- what a step carries: nothing (a challenge, a bracket), base elements (public values, a grinding value), an extension element, or an
-- opaque value such as a commitment
pub data Value (F E M : Type 0) : Type 0 where
  NoValue : Value F E M
  Elements : List F → Value F E M
  Extended : E → Value F E M
  Sealed : M → Value F E M

-- a step with the value that the statement or the proof gives it
pub record Played (F E M : Type 0) : Type 0 where
  pub step : Interaction
  pub value : Value F E M

-- a transcript: the challenger's state, the challenges drawn so far, and the answers of the grinding tests so far
pub record Transcript (S E : Type 0) : Type 0 where
  pub state : S
  pub challenges : List E
  pub passed : List Bool

-- the dimension of a step's value over the base field
abbrev pub elements : StepValue → ℕ
elements Marker = 0
elements Opaque = 0
elements (Algebra dimension) = dimension

-- the number of a step's length
abbrev pub amount : Length → ℕ
amount NoLength = 0
amount Scalar = 1
amount (Fixed n) = n

module _ {S F E M : Type 0} (c : ChallengerOf S F E M) where
  -- the state after a value; base elements are observed in order
  abbrev pub observe_value : S → Value F E M → S
  observe_value s NoValue = s
  observe_value s (Elements xs) = fold c.observe s xs
  observe_value s (Extended x) = c.observe_extension s x
  observe_value s (Sealed x) = c.observe_opaque s x

  -- the challenger's own test of a grinding value; at zero bits nothing is observed, and each value passes
  abbrev pub passes : S → ℕ → Value F E M → Bool
  passes s zero w = true
  passes s (suc n) w = c.draw_bits (observe_value s w) (suc n) == 0

  -- the state after that test, also where the value fails
  abbrev pub after_grinding : S → ℕ → Value F E M → S
  after_grinding s zero w = s
  after_grinding s (suc n) w = c.after_bits (observe_value s w) (suc n)

  -- one step, by its kind: a message or a public step observes its value, a challenge is drawn, a grinding value is tested,
  -- and a bracket does nothing
  abbrev pub play_kind : InteractionKind → Transcript S E → Played F E M → Transcript S E
  play_kind Message t p = record t { state = observe_value t.state p.value }
  play_kind Public t p = record t { state = observe_value t.state p.value }
  play_kind Challenge t p = record t { state = c.after_draw t.state; challenges = t.challenges ++ c.draw t.state ∷ [] }
  play_kind Pow t p = record t {
    state = after_grinding t.state (amount p.step.length) p.value;
    passed = t.passed ++ passes t.state (amount p.step.length) p.value ∷ [];
  }
  play_kind Protocol t p = t

  -- a script played from a transcript on, step by step; a grinding test that fails doesn't end it
  unfoldable pub play : Transcript S E → List (Played F E M) → Transcript S E
  play t [] = t
  play t (p ∷ ps) = play (play_kind p.step.kind t p) ps

-- a transcript at its beginning
abbrev pub begun : {S : Type 0} (E : Type 0) → S → Transcript S E
begun E s = record { state = s; challenges = []; passed = [] }

-- the steps of a script, which the pattern lists
abbrev pub steps_of : {F E M : Type 0} → List (Played F E M) → List Interaction
steps_of ps = map (λ p. p.step) ps

-- a step leads from the labels of the open brackets to those after it: Begin opens one, End closes the one opened last
abbrev pub Leads : Hierarchy → List ℕ → List (List ℕ) → List (List ℕ) → Type 0
Leads Atomic label before after = after ≡ before
Leads Begin label before after = after ≡ label ∷ before
Leads End label before after = before ≡ label ∷ after

-- brackets match, after steps that opened these
abbrev pub AreMatched : List (List ℕ) → List Interaction → Type 0
AreMatched opened [] = opened ≡ []
AreMatched opened (s ∷ rest) = (after : List (List ℕ)) × Leads s.hierarchy s.label opened after × AreMatched after rest
