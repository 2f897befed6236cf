-- When the encodings of two separators tell their shapes apart.
use Rattle.std.specs.Prelude.{◌≡◌, ◌↔◌, ℕ, ◌<◌, ◌^◌, Bool, true, List, [], length, All, count_by, nat_eq}
use Rattle.std.specs.Bool.{beq}
use Rattle.std.specs.Ordering.{on, eq_of_both}
use Rattle.std.specs.Cmp.Lexicographic.{pointwise}
use Rattle.p3_challenger.specs.Separator.{encoding}
use Rattle.transcript_version.specs.declared.TranscriptVersion.{TranscriptVersion}
use Rattle.transcript_version.specs.declared.TranscriptVersion.TheVariants.{V1, V2}
use Rattle.batch_transcript.specs.BatchScript.{BatchShapeData, separator, version_byte, is_positive}

-- the numbers of lookups that a shape of a version has: none in version 1; in version 2 one for each instance, and so many of them not
-- zero as instances have lookups
abbrev pub HasCounts : TranscriptVersion → (instances with_lookups : ℕ) → List ℕ → Type 0
HasCounts V1 instances with_lookups counts = counts ≡ []
HasCounts V2 instances with_lookups counts = (length counts ≡ instances) × (with_lookups ≡ count_by is_positive counts)

-- the shapes of batches: one of each number per instance
pub record IsShape (s : BatchShapeData) : Type 0 where
  pub publics : length s.public_value_counts ≡ length s.trace_widths
  pub preprocessed : length s.preprocessed_widths ≡ length s.trace_widths
  pub counts : HasCounts s.version (length s.trace_widths) s.num_lookup_instances s.lookup_counts

-- each number that the encoding has as 8 bytes is below 2^64
pub record FitsEightBytes (s : BatchShapeData) : Type 0 where
  pub instances : length s.trace_widths < 2 ^ 64
  pub traces : All (λ n. n < 2 ^ 64) s.trace_widths
  pub publics : All (λ n. n < 2 ^ 64) s.public_value_counts
  pub preprocessed : All (λ n. n < 2 ^ 64) s.preprocessed_widths
  pub lookup_bits : s.lookup_pow_bits < 2 ^ 64
  pub ood_bits : s.ood_pow_bits < 2 ^ 64
  pub counts : All (λ n. n < 2 ^ 64) s.lookup_counts

-- two shapes are equal, but for the bits of a grinding that isn't there
pub record AreSame (s t : BatchShapeData) : Type 0 where
  pub trace_widths : s.trace_widths ≡ t.trace_widths
  pub public_value_counts : s.public_value_counts ≡ t.public_value_counts
  pub preprocessed_widths : s.preprocessed_widths ≡ t.preprocessed_widths
  pub preprocessed : s.has_preprocessed_commitment ≡ t.has_preprocessed_commitment
  pub lookups : s.num_lookup_instances ≡ t.num_lookup_instances
  pub lookup_bits : is_positive s.num_lookup_instances ≡ true → s.lookup_pow_bits ≡ t.lookup_pow_bits
  pub randomization : s.has_randomization_commitment ≡ t.has_randomization_commitment
  pub ood_bits : s.ood_pow_bits ≡ t.ood_pow_bits
  pub version : s.version ≡ t.version
  pub counts : s.lookup_counts ≡ t.lookup_counts

-- the encodings of the separators of two shapes of batches, with numbers below 2^64, are equal exactly if the shapes are
abbrev pub TellsShapes : ℕ → BatchShapeData → Type 0
TellsShapes d s = (t : BatchShapeData) → IsShape s → FitsEightBytes s → IsShape t → FitsEightBytes t → (encoding (separator d s) ≡ encoding (separator d t)) ↔ AreSame s t

-- whether two shapes are equal, number by number
abbrev pub shape_eq : BatchShapeData → BatchShapeData → Bool
shape_eq =
    eq_of_both (on (λ s. s.trace_widths) (pointwise nat_eq))
    (eq_of_both (on (λ s. s.public_value_counts) (pointwise nat_eq))
    (eq_of_both (on (λ s. s.preprocessed_widths) (pointwise nat_eq))
    (eq_of_both (on (λ s. s.has_preprocessed_commitment) beq)
    (eq_of_both (on (λ s. s.num_lookup_instances) nat_eq)
    (eq_of_both (on (λ s. s.lookup_pow_bits) nat_eq)
    (eq_of_both (on (λ s. s.has_randomization_commitment) beq)
    (eq_of_both (on (λ s. s.ood_pow_bits) nat_eq)
    (eq_of_both (on (λ s. version_byte s.version) nat_eq) (on (λ s. s.lookup_counts) (pointwise nat_eq))))))))))
