-- What a batch's transcript is while it runs, and what a phase does to it.
use Rattle.std.specs.Prelude.{◌≡◌, ℕ, true, List, [], ◌∷◌, ◌++◌, map, Vec}
use Rattle.p3_challenger.specs.Script.{Played, ChallengerOf, Elements, play, passes, begun, steps_of}
use Rattle.p3_challenger.specs.declared.script.Interaction.{Interaction}
use Rattle.batch_transcript.specs.BatchScript.{BatchShapeData, Given, seeded, ground, is_positive, script_to_lookup, script_to_ood, script_to_opening, draws, draws_of}
use Rattle.p3_field.specs.Ring.{Ring}

-- the contents of vectors
abbrev pub lists : {T A : Type 0} → List (Vec T A) → List (List T)
lists vs = map (λ v. v.items) vs

-- the challenger's state, the steps that are still to be played, and the shape
pub record Running (S : Type 0) : Type 0 where
  pub state : S
  pub remaining : List Interaction
  pub shape : BatchShapeData

-- a phase played this script, and drew these challenges
pub record Plays {S F E M : Type 0} (c : ChallengerOf S F E M) (script : List (Played F E M)) (old new : Running S) (drawn : List E) : Type 0 where
  pub state : new.state ≡ (play c (begun E old.state) script).state
  pub challenges : drawn ≡ (play c (begun E old.state) script).challenges
  pub steps : old.remaining ≡ steps_of script ++ new.remaining
  pub shape : new.shape ≡ old.shape

-- what is drawn along a script, from a state on
abbrev pub drawn_along : {S F E M : Type 0} → ChallengerOf S F E M → S → List (Played F E M) → List E
drawn_along {E = E} c s script = (play c (begun E s) script).challenges

-- two phases one after the other are one
abbrev pub PlaysChain : {S F E M : Type 0} → ChallengerOf S F E M → Type 0
PlaysChain {S} {F} {E} {M} c = (ps qs : List (Played F E M)) (x y z : Running S) (ds es : List E) → Plays c ps x y ds → Plays c qs y z es → Plays c (ps ++ qs) x z (ds ++ es)

-- from equal states one script leaves equal states and draws the same, whoever plays it
abbrev pub IsOneFold : {S F E M : Type 0} → ChallengerOf S F E M → Type 0
IsOneFold {S} {F} {E} {M} c =
    (ps : List (Played F E M)) (x y x' y' : Running S) (ds es : List E) → x.state ≡ x'.state → Plays c ps x y ds → Plays c ps x' y' es → (y.state ≡ y'.state) × (ds ≡ es)

-- who plays the script as far as the opening, from the seeded state on, has drawn what `draws` says, and stands at its state at the opening
abbrev pub TellsDraws : {S F E M : Type 0} → ChallengerOf S F E M → Ring F → Ring E → ℕ → Type 0
TellsDraws {S} {F} {E} {M} c f r d =
    (initial : S) (s : BatchShapeData) (g : Given F E M) (x y : Running S) (drawn : List E)
    → x.state ≡ seeded c f d s initial
    → Plays c (script_to_opening r d s g) x y drawn
    → draws c f r d initial s g
    ≡ draws_of r s.num_lookup_instances (record { state = y.state; challenges = drawn; passed = (play c (begun E x.state) (script_to_opening r d s g)).passed })

-- the answers that `draws` has of the two grinding tests are the challenger's own, at the states where the grinding phases begin: that of the
-- lookups' value, where instances have lookups, and that of the value before zeta
pub record TestsAreOwn {S F E M : Type 0} (c : ChallengerOf S F E M) (f : Ring F) (r : Ring E) (d : ℕ) (initial : S) (s : BatchShapeData) (g : Given F E M) : Type 0 where
  pub lookup : (x y : Running S) (drawn : List E) → x.state ≡ seeded c f d s initial → Plays c (script_to_lookup r d g) x y drawn
      → is_positive s.num_lookup_instances ≡ true → (draws c f r d initial s g).lookup_passed ≡ passes c y.state s.lookup_pow_bits (ground g.lookup_witness)
  pub ood : (x y : Running S) (drawn : List E) → x.state ≡ seeded c f d s initial → Plays c (script_to_ood r d s g) x y drawn
      → (draws c f r d initial s g).ood_passed ≡ passes c y.state s.ood_pow_bits (Elements (g.ood_witness ∷ []))

abbrev pub TellsTests : {S F E M : Type 0} → ChallengerOf S F E M → Ring F → Ring E → ℕ → Type 0
TellsTests {S} {F} {E} {M} c f r d = (initial : S) (s : BatchShapeData) (g : Given F E M) → TestsAreOwn c f r d initial s g
