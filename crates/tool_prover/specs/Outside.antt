-- When a point lies on the rows of no table.
use Rattle.std.specs.Prelude.{ℕ}
use Rattle.p3_field.specs.Domain.{subgroup}
use Rattle.p3_field.specs.declared.quartic.QuarticExtension.{QuarticExtension}
use Rattle.verifier_identity.specs.Identity.{IsInDomain}
use Rattle.transcript_version.specs.declared.TranscriptVersion.TheVariants.{V1}
use Rattle.tool_statement.specs.Config.{tool_setting}

-- the point is none of the subgroup of size 2^k; the transcript's version has no part in it
abbrev pub AvoidsRows : QuarticExtension → ℕ → Type 0
AvoidsRows point k = IsInDomain (tool_setting V1).field (tool_setting V1).extension (subgroup (tool_setting V1).field.ring k) point → ⊥
