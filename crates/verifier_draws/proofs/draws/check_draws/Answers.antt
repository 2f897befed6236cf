use Rattle.std.proofs.Common.{◌≡◌, length, map, sym, ◌∙◌, ap}
use Rattle.std.specs.Prelude.{is_some}
use Rattle.std.specs.List.{filter_map}
use Rattle.std.specs.Option.{option_copied}
use Rattle.std.proofs.lemmas.List.{length-map}
use Rattle.p3_lookup.specs.Written.{read_all}
use Rattle.batch_transcript.specs.BatchScript.{Given, is_positive}
use Rattle.batch_statement.specs.Statement.{AirTable, tables_of, statement_with}
use Rattle.verifier_shape.specs.ShapeChecks.{bounds_with}
use Rattle.verifier_draws.specs.Draws.{given_of}
use Rattle.verifier_draws.proofs.Fitting.{counts_right, fits}
use Rattle.verifier_draws.proofs.HandedOut.{handed_out}
use Rattle.verifier_draws.proofs.draws.check_draws.Goals as goal

pub play_phases-requires-clause-degree_bits : goal.play_phases-requires-clause-degree_bits
play_phases-requires-clause-degree_bits g c =
    let a = c.args in
    let s = statement_with (tables_of g.A.BaseAir.declaration g.A.Air.trees a.airs.now) (map (λ v. v.items) a.public_values.now) a.common.now in
    let p = a.proof.now in
    let b = bounds_with g.F.PrimeCore64.ORDER_U64 a.bounds in
    let fit = fits g.row.R.Denot g.F.RingCore.ring b s p a.version a.lookup_bits a.ood_bits c.requires.shape in
    ap length (c.deref.ensures.value ∙ ap (λ q. q.degree_bits) c.proof.view_is) ∙ fit.degree_bits ∙ sym (ap (λ z. length z.trace_widths) c.in_ok-shape.ensures)

pub play_phases-requires-clause-publics : goal.play_phases-requires-clause-publics
play_phases-requires-clause-publics g c =
    let a = c.args in
    let s = statement_with (tables_of g.A.BaseAir.declaration g.A.Air.trees a.airs.now) (map (λ v. v.items) a.public_values.now) a.common.now in
    let p = a.proof.now in
    let b = bounds_with g.F.PrimeCore64.ORDER_U64 a.bounds in
    let fit = fits g.row.R.Denot g.F.RingCore.ring b s p a.version a.lookup_bits a.ood_bits c.requires.shape in
    fit.publics ∙ sym (ap (λ z. z.public_value_counts) c.in_ok-shape.ensures)

pub play_phases-requires-clause-permutation : goal.play_phases-requires-clause-permutation
play_phases-requires-clause-permutation g c =
    let a = c.args in
    let s = statement_with (tables_of g.A.BaseAir.declaration g.A.Air.trees a.airs.now) (map (λ v. v.items) a.public_values.now) a.common.now in
    let p = a.proof.now in
    let b = bounds_with g.F.PrimeCore64.ORDER_U64 a.bounds in
    let fit = fits g.row.R.Denot g.F.RingCore.ring b s p a.version a.lookup_bits a.ood_bits c.requires.shape in
    c.as_ref.ensures.variant ∙ ap (λ q. is_some q.commitments.permutation) c.proof.view_is ∙ fit.permutation ∙ sym (ap (λ z. is_positive z.num_lookup_instances) c.in_ok-shape.ensures)

pub play_phases-requires-clause-terminals : goal.play_phases-requires-clause-terminals
play_phases-requires-clause-terminals g c =
    let a = c.args in
    let s = statement_with (tables_of g.A.BaseAir.declaration g.A.Air.trees a.airs.now) (map (λ v. v.items) a.public_values.now) a.common.now in
    let p = a.proof.now in
    let b = bounds_with g.F.PrimeCore64.ORDER_U64 a.bounds in
    let fit = fits g.row.R.Denot g.F.RingCore.ring b s p a.version a.lookup_bits a.ood_bits c.requires.shape in
    ap length (c.deref-3.ensures.value ∙ c.in_ok-terminals.ensures ∙ ap (filter_map (λ t. t)) c.terminals.ensures) ∙ fit.terminals ∙ sym (ap (λ z. z.num_lookup_instances) c.in_ok-shape.ensures)

pub play_phases-requires-clause-randomization : goal.play_phases-requires-clause-randomization
play_phases-requires-clause-randomization g c =
    let a = c.args in
    let s = statement_with (tables_of g.A.BaseAir.declaration g.A.Air.trees a.airs.now) (map (λ v. v.items) a.public_values.now) a.common.now in
    let p = a.proof.now in
    let b = bounds_with g.F.PrimeCore64.ORDER_U64 a.bounds in
    let fit = fits g.row.R.Denot g.F.RingCore.ring b s p a.version a.lookup_bits a.ood_bits c.requires.shape in
    c.as_ref-2.ensures.variant ∙ ap (λ q. is_some q.commitments.random) c.proof.view_is ∙ fit.randomization ∙ sym (ap (λ z. z.has_randomization_commitment) c.in_ok-shape.ensures)

pub returns : goal.returns
returns g c =
    let a = c.args in
    let f = g.F.RingCore.ring in
    let s = statement_with (tables_of g.A.BaseAir.declaration g.A.Air.trees a.airs.now) (map (λ v. v.items) a.public_values.now) a.common.now in
    let p = a.proof.now in
    let b = bounds_with g.F.PrimeCore64.ORDER_U64 a.bounds in
    let q = c.proof.inside in
    let v : Given g.row.F.Denot g.row.EF.Denot g.row.Com.Denot = record {
      degree_bits = c.deref.result.now;
      main = q.commitments.main;
      publics = s.publics;
      preprocessed = option_copied c.preprocessed_commitment.result;
      lookup_witness = q.lookup_pow_witness;
      permutation = option_copied c.as_ref.result;
      terminals = c.deref-3.result.now;
      quotient = q.commitments.quotient_chunks;
      randomization = option_copied c.as_ref-2.result;
      ood_witness = q.ood_pow_witness;
    } in
    let degree_bits = c.deref.ensures.value ∙ ap (λ x. x.degree_bits) c.proof.view_is in
    let permutation = c.as_ref.ensures.value ∙ ap (λ x. x.commitments.permutation) c.proof.view_is in
    let terminals = c.deref-3.ensures.value ∙ c.in_ok-terminals.ensures ∙ ap (filter_map (λ t. t)) c.terminals.ensures in
    let randomization = c.as_ref-2.ensures.value ∙ ap (λ x. x.commitments.random) c.proof.view_is in
    let given : v ≡ given_of s p = λ i. record {
      degree_bits = degree_bits i;
      main = ap (λ x. x.commitments.main) c.proof.view_is i;
      publics = s.publics;
      preprocessed = c.preprocessed_commitment.ensures.value i;
      lookup_witness = ap (λ x. x.lookup_pow_witness) c.proof.view_is i;
      permutation = permutation i;
      terminals = terminals i;
      quotient = ap (λ x. x.commitments.quotient_chunks) c.proof.view_is i;
      randomization = randomization i;
      ood_witness = ap (λ x. x.ood_pow_witness) c.proof.view_is i;
    } in
    let lookups = ap (map (read_all {F = g.row.F.Denot})) (c.deref-2.ensures.value ∙ ap (λ x. x.lookups) c.common.view_is) in
    let counts = counts_right g.row.R.Denot f b s p c.requires.shape in
    let tables = length-map {B = AirTable g.row.F.Denot} a.airs.now (λ x. record { declaration = g.A.BaseAir.declaration x; trees = g.A.Air.trees x }) in
    let k = handed_out _ _ f g.EF.RingCore.ring g.EF.BasedVectorSpace.DIMENSION a.challenger a.version a.bounds.zk a.lookup_bits a.ood_bits s p c.in_ok-shape.shape v _ _ c.in_ok-shape.ensures given lookups (counts.lookups ∙ tables) c.play_phases.result c.play_phases.ensures in
    record { verdict = k.verdict; challenges = k.challenges; alpha = k.alpha; zeta = k.zeta; state = k.state }
