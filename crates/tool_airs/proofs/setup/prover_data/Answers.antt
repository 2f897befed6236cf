use Rattle.std.proofs.Common.{◌-◌, ◌<◌, sym, subst, arith}
use Rattle.plain_pcs.specs.Scheme.{Blowup}
use Rattle.batch_setup.specs.SetupChecks.{AreWithinBounds}
use Rattle.batch_setup.specs.Verdict.{IsSetupRefusal}
use Rattle.tool_airs.proofs.Granted.{none_refused_of}
use Rattle.tool_airs.proofs.Made.{common_is, kept_is}
use Rattle.tool_airs.proofs.setup.prover_data.Goals as goal

pub from_airs_and_degrees-requires-clause-bits : goal.from_airs_and_degrees-requires-clause-bits
from_airs_and_degrees-requires-clause-bits g c = subst (λ (s : Blowup). AreWithinBounds 0 (27 - s.log_blowup) c.args.log_heights.now) (sym c.requires.scheme) c.requires.bits

pub returns-in-Ok-clause-common : goal.returns-in-Ok-clause-common
returns-in-Ok-clause-common g c = common_is g.A.BaseAir.declaration g.A.Air.trees g.A.Air.interactions c.args.airs.now c.args.log_heights.now _ _ _ _ c.requires.scheme c.in-Ok.ensures.lookups c.in-Ok.ensures.preprocessed

pub returns-in-Ok-clause-prover_data : goal.returns-in-Ok-clause-prover_data
returns-in-Ok-clause-prover_data g c = kept_is g.A.BaseAir.declaration g.A.Air.trees g.A.Air.interactions c.args.airs.now c.args.log_heights.now _ _ _ c.requires.scheme c.in-Ok.ensures.preprocessed

pub unreachable-requires : goal.unreachable-requires
unreachable-requires g c =
    none_refused_of g.A.BaseAir.declaration g.A.Air.trees g.A.Air.interactions g.met.A.BaseAir.has_columns c.args.airs.now c.args.log_heights.now (λ i h. (c.requires.bits i (let n = c.requires.counted in omega (arith, h, n))).1) c.requires.heights c.requires.counted _ c.requires.scheme _
    (subst (IsSetupRefusal _) c.in-Err-LengthMismatch.field-0-is c.in-Err-LengthMismatch.ensures.verdict)

pub unreachable-requires-in-Err-PreprocessedHeight : goal.unreachable-requires-in-Err-PreprocessedHeight
unreachable-requires-in-Err-PreprocessedHeight g c =
    none_refused_of g.A.BaseAir.declaration g.A.Air.trees g.A.Air.interactions g.met.A.BaseAir.has_columns c.args.airs.now c.args.log_heights.now (λ i h. (c.requires.bits i (let n = c.requires.counted in omega (arith, h, n))).1) c.requires.heights c.requires.counted _ c.requires.scheme _
    (subst (IsSetupRefusal _) c.in-Err-PreprocessedHeight.field-0-is c.in-Err-PreprocessedHeight.ensures.verdict)

pub unreachable-requires-in-Err-Pcs : goal.unreachable-requires-in-Err-Pcs
unreachable-requires-in-Err-Pcs g c =
    none_refused_of g.A.BaseAir.declaration g.A.Air.trees g.A.Air.interactions g.met.A.BaseAir.has_columns c.args.airs.now c.args.log_heights.now (λ i h. (c.requires.bits i (let n = c.requires.counted in omega (arith, h, n))).1) c.requires.heights c.requires.counted _ c.requires.scheme _
    (subst (IsSetupRefusal _) c.in-Err-Pcs.field-0-is c.in-Err-Pcs.ensures.verdict)

pub unreachable-requires-in-Err-LookupBudget : goal.unreachable-requires-in-Err-LookupBudget
unreachable-requires-in-Err-LookupBudget g c =
    none_refused_of g.A.BaseAir.declaration g.A.Air.trees g.A.Air.interactions g.met.A.BaseAir.has_columns c.args.airs.now c.args.log_heights.now (λ i h. (c.requires.bits i (let n = c.requires.counted in omega (arith, h, n))).1) c.requires.heights c.requires.counted _ c.requires.scheme _
    (subst (IsSetupRefusal _) c.in-Err-LookupBudget.field-0-is c.in-Err-LookupBudget.ensures.verdict)
