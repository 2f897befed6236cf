use Rattle.std.proofs.Common.{map}
use Rattle.prover_answer.specs.Batch.{batch_of}
use Rattle.batch_config.specs.Setting.{Setting}
use Rattle.law_honest.specs.HonestProof.{Prover}
use Rattle.prover_quotients.proofs.Extended.{AreExtended}
use Rattle.prover_quotients.proofs.batch.all_extensions.Given as goal

abbrev pub invariant-loop-index : goal.invariant-loop-index
invariant-loop-index g l =
    let config = g.SC.StarkGenericConfig in
    let pcs = config.pcs_of l.config in
    let c : Setting g.row.SC-Challenger.Denot g.row.SC-Val.Denot g.row.SC-Challenge.Denot g.row.SC-Pcs-Commitment.Denot = record {
      field = record { ring = g.SC.Val.RingCore.ring; inv = g.SC.Val.FieldCore.inv; root = g.SC.Val.TwoAdicCore.root; generator = g.SC.Val.FieldCore.GENERATOR };
      two_adicity = g.SC.Val.TwoAdicCore.TWO_ADICITY;
      order = g.SC.Val.PrimeCore64.ORDER_U64;
      extension = record {
        ring = g.SC.Challenge.RingCore.ring;
        embed = g.SC.Challenge.ExtensionField.embed;
        dimension = g.SC.Challenge.BasedVectorSpace.DIMENSION;
        basis = g.SC.Challenge.ExtensionField.basis;
        coefficients = g.SC.Challenge.BasedVectorSpace.coefficients;
        from_coefficients = g.SC.Challenge.BasedVectorSpace.from_coefficients;
      };
      challenger = record {
        observe = g.SC.Challenger.CanObserve-2.observed;
        observe_extension = g.SC.Challenger.CanObserve-1.observed;
        observe_opaque = g.SC.Challenger.CanObserve-3.observed;
        draw = g.SC.Challenger.CanSample-1.drawn;
        after_draw = g.SC.Challenger.CanSample-1.after_draw;
        draw_bits = g.SC.Challenger.CanSampleBits.bits_drawn;
        after_bits = g.SC.Challenger.CanSampleBits.after_bits;
      };
      initial = config.initial_of l.config;
      zk = g.SC-Pcs-UnivariateStarkPcs.ZK;
      log_min = g.SC-Pcs-UnivariateStarkPcs.log_min pcs;
      log_max = g.SC-Pcs-UnivariateStarkPcs.log_max pcs;
      lookup_bits = config.lookup_bits l.config;
      ood_bits = config.ood_bits l.config;
      version = config.version l.config;
    } in
    let p : Prover g.row.SC-Val.Denot g.row.SC-Challenge.Denot g.row.SC-Pcs-Commitment.Denot = record {
      inverse = g.SC.Challenge.FieldCore.inv;
      canonical = g.SC.Val.PrimeCore64.canonical;
      commitment_of = g.SC-Pcs-UnivariateStarkPcs.commitment_of pcs;
    } in
    AreExtended (g.SC-Pcs-UnivariateStarkPcs.extension_fault pcs) (g.SC-Pcs-UnivariateStarkPcs.extends pcs) (batch_of c p g.A.BaseAir.declaration g.A.Air.trees l.instances l.common) (map (λ v. v.items) l.challenges)
    l.alpha l.index l.ldes.items
