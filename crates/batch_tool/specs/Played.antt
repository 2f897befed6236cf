-- The transcript of a batch of the program as one over base elements.
use Rattle.std.specs.Prelude.{◌≡◌, List}
use Rattle.p3_field.specs.BabyBear.{baby_bear_ring}
use Rattle.p3_field.specs.Quartic.{quartic_coefficients}
use Rattle.p3_field.specs.declared.baby_bear.BabyBear.{BabyBear}
use Rattle.p3_field.specs.declared.quartic.QuarticExtension.{QuarticExtension}
use Rattle.p3_challenger.specs.Elements.{flat, flat_transcript, play_elements}
use Rattle.p3_challenger.specs.Script.{Played, Transcript, begun, play}
use Rattle.p3_challenger.specs.Sha256Functions.{sha256_elements}
use Rattle.p3_challenger.specs.declared.sha256_challenger.Sha256Challenger.{Sha256Challenger}
use Rattle.batch_transcript.specs.BatchScript.{Given, BatchShapeData, script, seeded}
use Rattle.plain_pcs.specs.Observing.{commitment_elements}
use Rattle.plain_pcs.specs.Scheme.{PlainCommitmentData}
use Rattle.tool_statement.specs.Config.{tool_setting}

-- what statement and proof of a batch give to its steps
abbrev pub BatchGiven : Type 0
BatchGiven = Given BabyBear QuarticExtension (PlainCommitmentData BabyBear)

-- the transcript after the separator, before the first step
abbrev pub seeded_transcript : BatchShapeData → Transcript Sha256Challenger QuarticExtension
seeded_transcript shape =
    let c = tool_setting shape.version in
    begun QuarticExtension (seeded c.challenger c.field.ring c.extension.dimension shape c.initial)

-- the steps of a batch of this shape with their values
abbrev pub batch_steps : BatchShapeData → BatchGiven → List (Played BabyBear QuarticExtension (PlainCommitmentData BabyBear))
batch_steps shape given = script (tool_setting shape.version).extension.ring (tool_setting shape.version).extension.dimension shape given

-- A batch's transcript is played by base elements alone: each step by those that its value is observed as, and a challenge by four draws.
abbrev pub PlaysByElements : BatchShapeData → BatchGiven → Type 0
PlaysByElements shape given =
    flat_transcript quartic_coefficients (play (tool_setting shape.version).challenger (seeded_transcript shape) (batch_steps shape given))
    ≡ play_elements sha256_elements (flat_transcript quartic_coefficients (seeded_transcript shape)) (flat quartic_coefficients (commitment_elements baby_bear_ring) (batch_steps shape given))
