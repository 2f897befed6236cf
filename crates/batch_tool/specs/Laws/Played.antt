-- The transcript of a batch of the program is one over base elements.
use Rattle.p3_field.specs.BabyBear.{baby_bear_ring}
use Rattle.p3_field.specs.Quartic.{quartic_coefficients}
use Rattle.p3_challenger.specs.Laws.Sha256Flat.{sha256-over}
use Rattle.p3_challenger.specs.Sha256Functions.{sha256_elements, sha256_functions}
use Rattle.plain_pcs.specs.Observing.{commitment_elements}
use Rattle.batch_transcript.specs.BatchScript.{BatchShapeData}
use Rattle.law_transcript.specs.Laws.Elements as every
use Rattle.batch_tool.specs.Played.{BatchGiven, PlaysByElements}
use Rattle.tool_statement.specs.Config.{tool_setting}

pub plays_by_elements : (s : BatchShapeData) (g : BatchGiven) → PlaysByElements s g
unfolding tool_setting
plays_by_elements s g =
    let c = tool_setting s.version in
    let opaque = commitment_elements baby_bear_ring in
    every.plays_by_elements (sha256_functions opaque) sha256_elements quartic_coefficients opaque c.field.ring c.extension.ring 4 c.initial s g (sha256-over opaque)
