use Rattle.std.proofs.Common.{subst}
use Rattle.batch_setup.specs.Setup.{airs_of, bits_of}
use Rattle.batch_setup.specs.Verdict.{IsSetupRefusal}
use Rattle.tool_airs.proofs.Granted.{none_refused}
use Rattle.tool_airs.proofs.Joined.{bounds, high, low, powers}
use Rattle.tool_airs.proofs.Made.{common_is, kept_is}
use Rattle.tool_airs.proofs.setup.instances_data.Goals as goal

pub from_instances-requires-clause-powers : goal.from_instances-requires-clause-powers
from_instances-requires-clause-powers g c = powers g.A.BaseAir.declaration g.A.Air.trees g.A.Air.interactions c.args.instances.now c.requires.shaped

pub from_instances-requires-clause-bits : goal.from_instances-requires-clause-bits
from_instances-requires-clause-bits g c = bounds g.A.BaseAir.declaration g.A.Air.trees g.A.Air.interactions c.args.instances.now c.requires.shaped _ c.requires.scheme

pub returns-in-Ok-clause-common : goal.returns-in-Ok-clause-common
returns-in-Ok-clause-common g c = common_is g.A.BaseAir.declaration g.A.Air.trees g.A.Air.interactions (airs_of c.args.instances.now) (bits_of 0 c.args.instances.now) _ _ _ _ c.requires.scheme c.in-Ok.ensures.lookups c.in-Ok.ensures.preprocessed

pub returns-in-Ok-clause-prover_data : goal.returns-in-Ok-clause-prover_data
returns-in-Ok-clause-prover_data g c = kept_is g.A.BaseAir.declaration g.A.Air.trees g.A.Air.interactions (airs_of c.args.instances.now) (bits_of 0 c.args.instances.now) _ _ _ c.requires.scheme c.in-Ok.ensures.preprocessed

pub unreachable-requires : goal.unreachable-requires
unreachable-requires g c =
    none_refused g.A.BaseAir.declaration g.A.Air.trees g.A.Air.interactions g.met.A.BaseAir.has_columns (airs_of c.args.instances.now) (bits_of 0 c.args.instances.now) (low g.A.BaseAir.declaration g.A.Air.trees g.A.Air.interactions c.args.instances.now c.requires.shaped) (high g.A.BaseAir.declaration g.A.Air.trees g.A.Air.interactions c.args.instances.now c.requires.shaped) _ c.requires.scheme _
    (subst (IsSetupRefusal _) c.in-Err-LengthMismatch.field-0-is c.in-Err-LengthMismatch.ensures.verdict)

pub unreachable-requires-in-Err-PreprocessedHeight : goal.unreachable-requires-in-Err-PreprocessedHeight
unreachable-requires-in-Err-PreprocessedHeight g c =
    none_refused g.A.BaseAir.declaration g.A.Air.trees g.A.Air.interactions g.met.A.BaseAir.has_columns (airs_of c.args.instances.now) (bits_of 0 c.args.instances.now) (low g.A.BaseAir.declaration g.A.Air.trees g.A.Air.interactions c.args.instances.now c.requires.shaped) (high g.A.BaseAir.declaration g.A.Air.trees g.A.Air.interactions c.args.instances.now c.requires.shaped) _ c.requires.scheme _
    (subst (IsSetupRefusal _) c.in-Err-PreprocessedHeight.field-0-is c.in-Err-PreprocessedHeight.ensures.verdict)

pub unreachable-requires-in-Err-Pcs : goal.unreachable-requires-in-Err-Pcs
unreachable-requires-in-Err-Pcs g c =
    none_refused g.A.BaseAir.declaration g.A.Air.trees g.A.Air.interactions g.met.A.BaseAir.has_columns (airs_of c.args.instances.now) (bits_of 0 c.args.instances.now) (low g.A.BaseAir.declaration g.A.Air.trees g.A.Air.interactions c.args.instances.now c.requires.shaped) (high g.A.BaseAir.declaration g.A.Air.trees g.A.Air.interactions c.args.instances.now c.requires.shaped) _ c.requires.scheme _
    (subst (IsSetupRefusal _) c.in-Err-Pcs.field-0-is c.in-Err-Pcs.ensures.verdict)

pub unreachable-requires-in-Err-LookupBudget : goal.unreachable-requires-in-Err-LookupBudget
unreachable-requires-in-Err-LookupBudget g c =
    none_refused g.A.BaseAir.declaration g.A.Air.trees g.A.Air.interactions g.met.A.BaseAir.has_columns (airs_of c.args.instances.now) (bits_of 0 c.args.instances.now) (low g.A.BaseAir.declaration g.A.Air.trees g.A.Air.interactions c.args.instances.now c.requires.shaped) (high g.A.BaseAir.declaration g.A.Air.trees g.A.Air.interactions c.args.instances.now c.requires.shaped) _ c.requires.scheme _
    (subst (IsSetupRefusal _) c.in-Err-LookupBudget.field-0-is c.in-Err-LookupBudget.ensures.verdict)
