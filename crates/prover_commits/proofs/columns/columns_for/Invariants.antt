use Rattle.std.proofs.Common.{List, map}
use Rattle.batch_config.specs.Setting.{Setting}
use Rattle.batch_setup.specs.Setup.{Instance}
use Rattle.batch_statement.specs.Statement.{WrittenCommon}
use Rattle.law_honest.specs.HonestProof.{Prover}
use Rattle.prover_answer.specs.Batch.{Batch, batch_of}
use Rattle.prover_commits.specs.Columns.{ArePermutationsMade}
use Rattle.prover_commits.proofs.columns.columns_for.Given as goal

-- the configuration and its prover as plain data, and the batch
module _ (g : goal.Over) (config : g.row.SC.Denot) where
  abbrev pub setting : Setting g.row.SC-Challenger.Denot g.row.SC-Val.Denot g.row.SC-Challenge.Denot g.row.SC-Pcs-Commitment.Denot
  setting = record {
    field = record { ring = g.SC.Val.RingCore.ring; inv = g.SC.Val.FieldCore.inv; root = g.SC.Val.TwoAdicCore.root; generator = g.SC.Val.FieldCore.GENERATOR };
    two_adicity = g.SC.Val.TwoAdicCore.TWO_ADICITY;
    order = g.SC.Val.PrimeCore64.ORDER_U64;
    extension = record { ring = g.SC.Challenge.RingCore.ring; embed = g.SC.Challenge.ExtensionField.embed; dimension = g.SC.Challenge.BasedVectorSpace.DIMENSION; basis = g.SC.Challenge.ExtensionField.basis; coefficients = g.SC.Challenge.BasedVectorSpace.coefficients; from_coefficients = g.SC.Challenge.BasedVectorSpace.from_coefficients };
    challenger = record {
      observe = g.SC.Challenger.CanObserve-2.observed;
      observe_extension = g.SC.Challenger.CanObserve-1.observed;
      observe_opaque = g.SC.Challenger.CanObserve-3.observed;
      draw = g.SC.Challenger.CanSample-1.drawn;
      after_draw = g.SC.Challenger.CanSample-1.after_draw;
      draw_bits = g.SC.Challenger.CanSampleBits.bits_drawn;
      after_bits = g.SC.Challenger.CanSampleBits.after_bits;
    };
    initial = g.SC.StarkGenericConfig.initial_of config;
    zk = g.SC-Pcs-UnivariateStarkPcs.ZK;
    log_min = g.SC-Pcs-UnivariateStarkPcs.log_min (g.SC.StarkGenericConfig.pcs_of config);
    log_max = g.SC-Pcs-UnivariateStarkPcs.log_max (g.SC.StarkGenericConfig.pcs_of config);
    lookup_bits = g.SC.StarkGenericConfig.lookup_bits config;
    ood_bits = g.SC.StarkGenericConfig.ood_bits config;
    version = g.SC.StarkGenericConfig.version config;
  }

  abbrev pub prover : Prover g.row.SC-Val.Denot g.row.SC-Challenge.Denot g.row.SC-Pcs-Commitment.Denot
  prover = record { inverse = g.SC.Challenge.FieldCore.inv; canonical = g.SC.Val.PrimeCore64.canonical; commitment_of = g.SC-Pcs-UnivariateStarkPcs.commitment_of (g.SC.StarkGenericConfig.pcs_of config) }

  abbrev pub batch : List (Instance g.row.A.Denot g.row.SC-Val.Denot) → WrittenCommon g.row.SC-Val.Denot g.row.SC-Pcs-Commitment.Denot → Batch g.row.SC-Challenger.Denot g.row.SC-Val.Denot g.row.SC-Challenge.Denot g.row.SC-Pcs-Commitment.Denot
  batch instances common = batch_of setting prover g.A.BaseAir.declaration g.A.Air.trees instances common

abbrev pub invariant-loop-place : goal.invariant-loop-place
invariant-loop-place g l = ArePermutationsMade (batch g l.fn.config l.fn.instances l.fn.common) (map (λ v. v.items) l.fn.challenges) l.place l.made.columns.items l.made.terminals.items
