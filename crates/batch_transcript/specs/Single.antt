-- The batch of one table without preprocessed columns, lookups and randomization: its pattern, and its script as base elements.
use Rattle.std.specs.Prelude.{◌≡◌, ℕ, List, [], ◌∷◌, length, false, None}
use Rattle.p3_field.specs.Ring.{Ring, of_nat}
use Rattle.p3_challenger.specs.Elements.{PlayedElements, flat}
use Rattle.p3_challenger.specs.declared.script.Interaction.{Interaction}
use Rattle.p3_challenger.specs.declared.script.Hierarchy.TheVariants.{Begin, End}
use Rattle.transcript_version.specs.declared.TranscriptVersion.{TranscriptVersion}
use Rattle.transcript_version.specs.declared.TranscriptVersion.TheVariants.{V1, V2}
use Rattle.batch_transcript.specs.BatchScript.{BatchShapeData, Given, pattern, script, degree_bits_step, main_commitment_step, public_values_step, constraint_challenge_step, quotient_commitment_step, ood_pow_step, zeta_step, opening_step}

-- its numbers of lookups
abbrev pub no_lookups : TranscriptVersion → List ℕ
no_lookups V1 = []
no_lookups V2 = 0 ∷ []

-- the shape of such a batch, and what its statement and proof give
abbrev pub single_shape : TranscriptVersion → (width public_values bits : ℕ) → BatchShapeData
single_shape version width public_values bits = record {
  trace_widths = width ∷ [];
  public_value_counts = public_values ∷ [];
  preprocessed_widths = 0 ∷ [];
  has_preprocessed_commitment = false;
  num_lookup_instances = 0;
  lookup_pow_bits = 0;
  has_randomization_commitment = false;
  ood_pow_bits = bits;
  version = version;
  lookup_counts = no_lookups version;
}

abbrev pub single_given : {F E M : Type 0} → ℕ → M → List F → M → F → Given F E M
single_given k main publics quotient witness = record {
  degree_bits = k ∷ [];
  main = main;
  publics = publics ∷ [];
  preprocessed = None;
  lookup_witness = None;
  permutation = None;
  terminals = [];
  quotient = quotient;
  randomization = None;
  ood_witness = witness;
}

abbrev pub with_elements : {F : Type 0} → Interaction → List F → PlayedElements F
with_elements step value = record { step = step; value = value }

-- its pattern has nine steps
abbrev pub HasNineSteps : ℕ → Type 0
HasNineSteps d = (version : TranscriptVersion) (width n bits : ℕ) → pattern d (single_shape version width n bits)
    ≡ degree_bits_step d ∷ main_commitment_step ∷ public_values_step n ∷ constraint_challenge_step d ∷ quotient_commitment_step ∷ ood_pow_step bits ∷ zeta_step d
    ∷ opening_step Begin ∷ opening_step End ∷ []

-- its script as base elements
abbrev pub HasNineValues : {F E : Type 0} → (M : Type 0) → Ring E → (E → List F) → ℕ → Type 0
HasNineValues {F} {E} M r parts d = (opaque : M → List F) (version : TranscriptVersion) (width bits k : ℕ) (main quotient : M) (publics : List F) (witness : F)
    → flat parts opaque (script r d (single_shape version width (length publics) bits) (single_given k main publics quotient witness))
    ≡ with_elements (degree_bits_step d) (parts (of_nat r k)) ∷ with_elements main_commitment_step (opaque main) ∷ with_elements (public_values_step (length publics)) publics
    ∷ with_elements (constraint_challenge_step d) [] ∷ with_elements quotient_commitment_step (opaque quotient) ∷ with_elements (ood_pow_step bits) (witness ∷ [])
    ∷ with_elements (zeta_step d) [] ∷ with_elements (opening_step Begin) [] ∷ with_elements (opening_step End) [] ∷ []
