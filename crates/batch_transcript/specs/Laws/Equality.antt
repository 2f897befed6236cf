-- Equality of shapes, number by number, is an equivalence, and decides whether they are equal.
use Rattle.std.specs.Prelude.{◌≡◌, ◌↔◌, true}
use Rattle.std.proofs.Common.{ap}
use Rattle.std.proofs.lemmas.Bool.Decides.{Decides-and, Decides-like}
use Rattle.std.specs.Cmp.{IsEquivalence, IsPartialEquivalence, partial_equiv_from_equiv, and_equiv, on_equiv, nat_eq_equiv, bool_eq_equiv}
use Rattle.std.specs.Cmp.{unsigned_Decides, booleans_Decides}
use Rattle.std.specs.Cmp.Lexicographic.{nat_list_eq_equiv, pointwise_decides}
use Rattle.batch_transcript.specs.BatchScript.{BatchShapeData, version_byte}
use Rattle.batch_transcript.specs.Laws.Encoded.{version-tells}
use Rattle.batch_transcript.specs.Shapes.{shape_eq}

pub shape_eq_equiv : IsEquivalence shape_eq
shape_eq_equiv =
    and_equiv (on_equiv (λ (s : BatchShapeData). s.trace_widths) nat_list_eq_equiv)
    (and_equiv (on_equiv (λ (s : BatchShapeData). s.public_value_counts) nat_list_eq_equiv)
    (and_equiv (on_equiv (λ (s : BatchShapeData). s.preprocessed_widths) nat_list_eq_equiv)
    (and_equiv (on_equiv (λ (s : BatchShapeData). s.has_preprocessed_commitment) bool_eq_equiv)
    (and_equiv (on_equiv (λ (s : BatchShapeData). s.num_lookup_instances) nat_eq_equiv)
    (and_equiv (on_equiv (λ (s : BatchShapeData). s.lookup_pow_bits) nat_eq_equiv)
    (and_equiv (on_equiv (λ (s : BatchShapeData). s.has_randomization_commitment) bool_eq_equiv)
    (and_equiv (on_equiv (λ (s : BatchShapeData). s.ood_pow_bits) nat_eq_equiv)
    (and_equiv (on_equiv (λ (s : BatchShapeData). version_byte s.version) nat_eq_equiv) (on_equiv (λ (s : BatchShapeData). s.lookup_counts) nat_list_eq_equiv)))))))))

pub shape_eq_per : IsPartialEquivalence shape_eq
shape_eq_per = partial_equiv_from_equiv shape_eq_equiv

pub shape_eq-tells : (s t : BatchShapeData) → (shape_eq s t ≡ true) ↔ (s ≡ t)
shape_eq-tells s t =
    Decides-like (shape_eq s t)
    (λ h.
    let v = version-tells s.version t.version h.1.1.1.1.1.1.1.1.0 in
    λ i. record {
      trace_widths = h.0 i;
      public_value_counts = h.1.0 i;
      preprocessed_widths = h.1.1.0 i;
      has_preprocessed_commitment = h.1.1.1.0 i;
      num_lookup_instances = h.1.1.1.1.0 i;
      lookup_pow_bits = h.1.1.1.1.1.0 i;
      has_randomization_commitment = h.1.1.1.1.1.1.0 i;
      ood_pow_bits = h.1.1.1.1.1.1.1.0 i;
      version = v i;
      lookup_counts = h.1.1.1.1.1.1.1.1.1 i;
    })
    (λ e. (
      ap (λ (u : BatchShapeData). u.trace_widths) e,
      (
        ap (λ (u : BatchShapeData). u.public_value_counts) e,
        (
          ap (λ (u : BatchShapeData). u.preprocessed_widths) e,
          (
            ap (λ (u : BatchShapeData). u.has_preprocessed_commitment) e,
            (
              ap (λ (u : BatchShapeData). u.num_lookup_instances) e,
              (
                ap (λ (u : BatchShapeData). u.lookup_pow_bits) e,
                (
                  ap (λ (u : BatchShapeData). u.has_randomization_commitment) e,
                  (
                    ap (λ (u : BatchShapeData). u.ood_pow_bits) e,
                    (ap (λ (u : BatchShapeData). version_byte u.version) e, ap (λ (u : BatchShapeData). u.lookup_counts) e),
                  ),
                ),
              ),
            ),
          ),
        ),
      ),
    ))
    (Decides-and _ _ (pointwise_decides unsigned_Decides s.trace_widths t.trace_widths)
    (Decides-and _ _ (pointwise_decides unsigned_Decides s.public_value_counts t.public_value_counts)
    (Decides-and _ _ (pointwise_decides unsigned_Decides s.preprocessed_widths t.preprocessed_widths)
    (Decides-and _ _ (booleans_Decides s.has_preprocessed_commitment t.has_preprocessed_commitment)
    (Decides-and _ _ (unsigned_Decides s.num_lookup_instances t.num_lookup_instances)
    (Decides-and _ _ (unsigned_Decides s.lookup_pow_bits t.lookup_pow_bits)
    (Decides-and _ _ (booleans_Decides s.has_randomization_commitment t.has_randomization_commitment)
    (Decides-and _ _ (unsigned_Decides s.ood_pow_bits t.ood_pow_bits)
    (Decides-and _ _ (unsigned_Decides (version_byte s.version) (version_byte t.version)) (pointwise_decides unsigned_Decides s.lookup_counts t.lookup_counts))))))))))
