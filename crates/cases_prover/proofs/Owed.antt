-- What a prover asks for, of tables of the declared shapes, over any configuration of the program's type.
use Rattle.std.proofs.Common.{◌≡◌, ℕ, ◌+◌, ◌-◌, ◌^◌, ◌<◌, ◌≤◌, List, [], ◌∷◌, length, get_or, map, replicate, Option, false, refl, sym, ◌∙◌, ap, subst, arith}
use Rattle.std.specs.Prelude.{All}
use Rattle.std.proofs.lemmas.List.{get_or-map, length-map}
use Rattle.p3_field.specs.BabyBear.{baby_bear_inv, baby_bear_ring, baby_bear_root, reduce}
use Rattle.p3_field.specs.Domain.{CosetData}
use Rattle.p3_field.specs.Laws.Algebra.{one_mul}
use Rattle.p3_field.specs.Laws.BabyBearField.{baby_bear_31, baby_bear_31_power}
use Rattle.p3_field.specs.Laws.BabyBearLaws.{baby_bear_laws}
use Rattle.p3_field.specs.Poly.{tabulate}
use Rattle.p3_field.specs.Quartic.{of_baby_bear_value, quartic_basis, quartic_coefficients, quartic_from_coefficients, quartic_inv, quartic_ring}
use Rattle.p3_field.specs.Ring.{pow}
use Rattle.p3_field.specs.declared.baby_bear.BabyBear.{BabyBear}
use Rattle.p3_field.specs.declared.quartic.QuarticExtension.{QuarticExtension}
use Rattle.p3_challenger.specs.Sha256Functions.{sha256_functions}
use Rattle.p3_challenger.specs.declared.sha256_challenger.Sha256Challenger.{Sha256Challenger}
use Rattle.p3_matrix.specs.Matrix.{Rows, height}
use Rattle.air_core.specs.Shape.{Declaration}
use Rattle.air_core.specs.Tree.{Interaction, Tree}
use Rattle.plain_pcs.specs.Observing.{commitment_elements}
use Rattle.plain_pcs.specs.Scheme.{Blowup, PlainCommitmentData, Scheme, scheme}
use Rattle.batch_config.specs.Setting.{Setting}
use Rattle.batch_setup.specs.Packed.{packed_at, source_of}
use Rattle.batch_setup.specs.Preprocessed.{IsPrepared, committed_below, entry_at}
use Rattle.batch_setup.specs.Setup.{ArePowers, Instance, airs_of, bits_of, log_of}
use Rattle.batch_setup.specs.SetupChecks.{AreWithinBounds}
use Rattle.batch_statement.specs.Statement.{WellFormed, WrittenCommon, read_common}
use Rattle.law_committed.specs.Fields.{FieldsLaws, baby_bear_field, quartic_extension}
use Rattle.law_joining.specs.Laws.Joined.{batch_kept, batch_traced}
use Rattle.law_joining.specs.Shaped.{IsShaped, IsWhole, Serves, source_of_instance}
use Rattle.prover_answer.specs.Batch.{Batch, HasProverData, IsTracedAll, batch_of, preprocessed_all}
use Rattle.prover_answer.specs.PlainBackend.{baby_bear_prover, plain_commits}
use Rattle.transcript_version.specs.declared.TranscriptVersion.{TranscriptVersion}

abbrev ToolSetting : Type 0
ToolSetting = Setting Sha256Challenger BabyBear QuarticExtension (PlainCommitmentData BabyBear)

-- the configuration with these parts, and its scheme
abbrev setting_with : Blowup → Sha256Challenger → (lookup_bits ood_bits : ℕ) → TranscriptVersion → ToolSetting
setting_with b challenger lookup_bits ood_bits version = record {
  field = record { ring = baby_bear_ring; inv = baby_bear_inv; root = baby_bear_root; generator = reduce 31 };
  two_adicity = 27;
  order = 2013265921;
  extension = record { ring = quartic_ring; embed = of_baby_bear_value; dimension = 4; basis = quartic_basis; coefficients = quartic_coefficients; from_coefficients = quartic_from_coefficients };
  challenger = sha256_functions (commitment_elements baby_bear_ring);
  initial = challenger;
  zk = false;
  log_min = 0;
  log_max = 27 - b.log_blowup;
  lookup_bits = lookup_bits;
  ood_bits = ood_bits;
  version = version;
}

abbrev scheme_with : Blowup → Scheme BabyBear
scheme_with b = scheme baby_bear_ring baby_bear_inv baby_bear_root (reduce 31) 27 b

module _ (b : Blowup) (challenger : Sha256Challenger) (lookup_bits ood_bits : ℕ) (version : TranscriptVersion) where
  abbrev c : ToolSetting
  c = setting_with b challenger lookup_bits ood_bits version

  serves : FieldsLaws baby_bear_field quartic_extension 27 quartic_inv → Serves c quartic_inv
  serves L =
      let shift_is = sym (one_mul baby_bear_ring baby_bear_laws (reduce 31)) in
      record {
        fields = L;
        plain = refl;
        shift = subst (λ x. x ≡ baby_bear_ring.zero → ⊥) shift_is baby_bear_31;
        shifted = λ k h. subst (λ x. pow baby_bear_ring x (2 ^ k) ≡ baby_bear_ring.one → ⊥) shift_is (baby_bear_31_power k h);
      }

  module _ {A : Type 0} (declaration : A → Declaration BabyBear) (trees : A → List (Tree BabyBear)) (interactions : A → List (Interaction BabyBear)) (instances : List (Instance A BabyBear))
      (shaped : All (IsShaped c declaration trees interactions) instances) where
    pub powers : ArePowers instances
    powers i d h = (shaped i d h).power

    many : length (bits_of 0 instances) ≡ length instances
    many = length-map instances (λ (j : Instance A BabyBear). log_of (height j.trace) + 0)

    pub bounds : AreWithinBounds 0 (27 - b.log_blowup) (bits_of 0 instances)
    bounds i h = from instances refl
      where
        from : (xs : List (Instance A BabyBear)) → xs ≡ instances → (0 ≤ get_or (bits_of 0 instances) i 0) × (get_or (bits_of 0 instances) i 0 ≤ 27 - b.log_blowup)
        from [] e = let n : length instances ≡ 0 = ap length (sym e) in let m = many in absurd (omega (arith, h, m, n))
        from (d ∷ xs) e =
            let l : i < length instances = let m = many in omega (arith, h, m) in
            let none : log_of (height (get_or instances i d).trace) + 0 ≡ log_of (height (get_or instances i d).trace) = omega arith in
            let bit : get_or (bits_of 0 instances) i 0 ≡ log_of (height (get_or instances i d).trace) = get_or-map (λ (j : Instance A BabyBear). log_of (height j.trace) + 0) instances i d 0 l ∙ none in
            (omega arith, subst (λ n. n ≤ 27 - b.log_blowup) (sym bit) (shaped i d l).most)

    module _ (L : FieldsLaws baby_bear_field quartic_extension 27 quartic_inv) (whole : All (λ i. IsWhole (source_of_instance c declaration trees interactions i)) instances)
        (written : WrittenCommon BabyBear (PlainCommitmentData BabyBear)) (kept : Option (List (CosetData BabyBear × Rows BabyBear)))
        (lookups_are : (read_common written).lookups ≡ tabulate (length (airs_of instances)) (packed_at baby_bear_ring 0 (map (source_of declaration trees interactions) (airs_of instances)) (bits_of 0 instances) (replicate (length (airs_of instances)) 0)))
        (prepared : IsPrepared (plain_commits (scheme_with b)) (tabulate (length (airs_of instances)) (entry_at baby_bear_ring.one (map (source_of declaration trees interactions) (airs_of instances)) (bits_of 0 instances)))
        (committed_below baby_bear_ring.one (map (source_of declaration trees interactions) (airs_of instances)) (bits_of 0 instances) (length (airs_of instances))) written.preprocessed kept) where
      pub kept_there : HasProverData (plain_commits (scheme_with b)) (preprocessed_all (batch_of c (baby_bear_prover (scheme_with b)) declaration trees instances written)) written.preprocessed kept
      kept_there =
          batch_kept c quartic_inv (serves L) (baby_bear_prover (scheme_with b)) declaration trees interactions instances whole shaped (plain_commits (scheme_with b)) (λ es w K. K.commitment_is) (read_common written) kept
          lookups_are prepared

      pub traced_there : WellFormed (map declaration (airs_of instances)) (read_common written) → IsTracedAll (batch_of c (baby_bear_prover (scheme_with b)) declaration trees instances written)
      traced_there formed =
          batch_traced c quartic_inv (serves L) (baby_bear_prover (scheme_with b)) declaration trees interactions instances whole shaped (plain_commits (scheme_with b)) (λ es w K. K.commitment_is) (read_common written) kept
          lookups_are prepared formed
