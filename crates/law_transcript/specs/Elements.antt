-- The transcript of a batch as one over base elements, over any configuration (not in Plonky3).
use Rattle.std.specs.Prelude.{◌≡◌, ℕ, List}
use Rattle.p3_field.specs.Ring.{Ring}
use Rattle.p3_challenger.specs.Elements.{ElementChallenger, flat, flat_transcript, play_elements}
use Rattle.p3_challenger.specs.Script.{ChallengerOf, begun, play}
use Rattle.batch_transcript.specs.BatchScript.{BatchShapeData, Given, script, seeded}

-- A batch's transcript, from the state after the separator on, is played by base elements alone: each step by those that its value is observed as, and a
-- challenge by as many draws as it has coefficients.
abbrev pub PlaysByElements : {S F E M : Type 0} → ChallengerOf S F E M → ElementChallenger S F → (coefficients : E → List F) → (opaque : M → List F) → Ring F → Ring E → (d : ℕ) → (initial : S)
    → BatchShapeData → Given F E M → Type 0
PlaysByElements {E = E} c b coefficients opaque f r d initial s g =
    let start = begun E (seeded c f d s initial) in
    flat_transcript coefficients (play c start (script r d s g)) ≡ play_elements b (flat_transcript coefficients start) (flat coefficients opaque (script r d s g))
