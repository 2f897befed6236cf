use Rattle.std.proofs.Common.{◌≡◌, ◌+◌, ◌≤◌, cond, List, length, sym, ◌∙◌, ap, subst}
use Rattle.std.specs.Prelude.{flat_map}
use Rattle.std.proofs.lemmas.List.{length-map}
use Rattle.p3_lookup.specs.Bus.{HaveOneWidth}
use Rattle.p3_lookup.specs.Lookup.{lookups_of}
use Rattle.p3_matrix.specs.Matrix.{height}
use Rattle.batch_setup.specs.Setup.{airs_of, bits_of, log_of}
use Rattle.batch_setup.specs.Laws.Verdicts.{answer_past, none_here}
use Rattle.batch_setup.specs.declared.error.SetupError.TheVariants.{LengthMismatch}
use Rattle.batch_setup.proofs.Masks.{mask_small}
use Rattle.batch_setup.proofs.prover_data.SetupData.from_instances.Goals as goal

pub degree_bits-requires-clause-masks : goal.degree_bits-requires-clause-masks
degree_bits-requires-clause-masks g c = subst (λ m. m ≤ 1) (sym c.is_zk.ensures) (mask_small g.SC-Pcs-UnivariateStarkPcs.ZK)

pub from_airs_and_degrees-requires-clause-widths : goal.from_airs_and_degrees-requires-clause-widths
from_airs_and_degrees-requires-clause-widths g c =
    subst (λ (xs : List g.row.A.Denot). HaveOneWidth (flat_map (λ a. lookups_of (g.A.Air.interactions a)) xs)) (sym (c.deref.ensures.value ∙ c.in_ok-airs.ensures)) c.requires.widths

pub returns-clause-verdict : goal.returns-clause-verdict
returns-clause-verdict g c =
    let instances = c.args.instances.now in
    let z = cond g.SC-Pcs-UnivariateStarkPcs.ZK 1 0 in
    let airs_are : c.deref.result.now ≡ airs_of instances = c.deref.ensures.value ∙ c.in_ok-airs.ensures in
    let bits_are : c.deref-2.result.now ≡ bits_of z instances = c.deref-2.ensures.value ∙ c.in_ok-bits.ensures ∙ ap (λ m. bits_of m instances) c.is_zk.ensures in
    let long : length (bits_of z instances) ≡ length (airs_of instances) = length-map instances (λ i. log_of (height i.trace) + z) ∙ sym (length-map instances (λ i. i.air)) in
    answer_past _ _ _ (none_here LengthMismatch (length (bits_of z instances) ≡ length (airs_of instances)) long) (rw (airs_are, bits_are) at c.from_airs_and_degrees.ensures.verdict)

pub returns-clause-lookups : goal.returns-clause-lookups
returns-clause-lookups g c =
    let instances = c.args.instances.now in
    let z = cond g.SC-Pcs-UnivariateStarkPcs.ZK 1 0 in
    let airs_are : c.deref.result.now ≡ airs_of instances = c.deref.ensures.value ∙ c.in_ok-airs.ensures in
    let bits_are : c.deref-2.result.now ≡ bits_of z instances = c.deref-2.ensures.value ∙ c.in_ok-bits.ensures ∙ ap (λ m. bits_of m instances) c.is_zk.ensures in
    rw (airs_are, bits_are) at c.from_airs_and_degrees.ensures.lookups

pub returns-clause-preprocessed : goal.returns-clause-preprocessed
returns-clause-preprocessed g c =
    let instances = c.args.instances.now in
    let z = cond g.SC-Pcs-UnivariateStarkPcs.ZK 1 0 in
    let airs_are : c.deref.result.now ≡ airs_of instances = c.deref.ensures.value ∙ c.in_ok-airs.ensures in
    let bits_are : c.deref-2.result.now ≡ bits_of z instances = c.deref-2.ensures.value ∙ c.in_ok-bits.ensures ∙ ap (λ m. bits_of m instances) c.is_zk.ensures in
    rw (airs_are, bits_are) at c.from_airs_and_degrees.ensures.preprocessed

pub returns-clause-formed : goal.returns-clause-formed
returns-clause-formed g c =
    let airs_are : c.deref.result.now ≡ airs_of c.args.instances.now = c.deref.ensures.value ∙ c.in_ok-airs.ensures in
    rw airs_are at c.from_airs_and_degrees.ensures.formed

pub returns-clause-chunks : goal.returns-clause-chunks
returns-clause-chunks g c =
    let instances = c.args.instances.now in
    let z = cond g.SC-Pcs-UnivariateStarkPcs.ZK 1 0 in
    let airs_are : c.deref.result.now ≡ airs_of instances = c.deref.ensures.value ∙ c.in_ok-airs.ensures in
    let bits_are : c.deref-2.result.now ≡ bits_of z instances = c.deref-2.ensures.value ∙ c.in_ok-bits.ensures ∙ ap (λ m. bits_of m instances) c.is_zk.ensures in
    rw (airs_are, bits_are) at c.from_airs_and_degrees.ensures.chunks
