-- The script of a batch proof: its shape, its pattern of typed steps, the separator that fixes them, and each step with the value that
-- statement and proof give it. The order is that of Plonky3's p3-batch-stark (transcript.rs); the encoding is this project's own.
use Rattle.std.specs.Prelude.{ℕ, zero, suc, Bool, true, false, List, [], ◌∷◌, ◌++◌, length, map, flat_map, codes, replicate, get_or, Option, Some, None}
use Rattle.std.specs.List.{fold}
use Rattle.p3_field.specs.Ring.{Ring, of_nat}
use Rattle.p3_challenger.specs.Script.{Played, Value, NoValue, Elements, Extended, Sealed, ChallengerOf, Transcript, play, begun}
use Rattle.p3_challenger.specs.Separator.{Separator, eight_bytes, encoding}
use Rattle.p3_challenger.specs.declared.script.Hierarchy.{Hierarchy}
use Rattle.p3_challenger.specs.declared.script.Hierarchy.TheVariants.{Atomic, Begin, End}
use Rattle.p3_challenger.specs.declared.script.InteractionKind.{InteractionKind}
use Rattle.p3_challenger.specs.declared.script.InteractionKind.TheVariants.{Message, Public, Challenge, Pow, Protocol}
use Rattle.p3_challenger.specs.declared.script.StepValue.{StepValue}
use Rattle.p3_challenger.specs.declared.script.StepValue.TheVariants.{Marker, Opaque, Algebra}
use Rattle.p3_challenger.specs.declared.script.Length.{Length}
use Rattle.p3_challenger.specs.declared.script.Length.TheVariants.{None as NoLength, Scalar, Fixed}
use Rattle.p3_challenger.specs.declared.script.Interaction.{Interaction}
use Rattle.transcript_version.specs.declared.TranscriptVersion.{TranscriptVersion}
use Rattle.transcript_version.specs.declared.TranscriptVersion.TheVariants.{V1, V2}

-- the shape of a batch: per instance the widths of its trace and preprocessed columns and its number of public values; which
-- commitments there are, how many instances have lookups, and the bits of both grindings; the version, and in version 2 the number of lookups
-- of each instance
pub record BatchShapeData : Type 0 where
  pub trace_widths : List ℕ
  pub public_value_counts : List ℕ
  pub preprocessed_widths : List ℕ
  pub has_preprocessed_commitment : Bool
  pub num_lookup_instances : ℕ
  pub lookup_pow_bits : ℕ
  pub has_randomization_commitment : Bool
  pub ood_pow_bits : ℕ
  pub version : TranscriptVersion
  pub lookup_counts : List ℕ

-- the typed steps; `dimension` is that of the challenge field over the base field
abbrev pub atomic : InteractionKind → StepValue → List ℕ → Length → Interaction
atomic kind value label length = record { hierarchy = Atomic; kind = kind; value = value; label = label; length = length }

abbrev pub degree_bits_step : ℕ → Interaction
degree_bits_step dimension = atomic Message (Algebra dimension) (codes "degree_bits") Scalar

abbrev pub main_commitment_step : Interaction
main_commitment_step = atomic Message Opaque (codes "main_commitment") Scalar

abbrev pub public_values_step : ℕ → Interaction
public_values_step count = atomic Public (Algebra 1) (codes "public_values") (Fixed count)

abbrev pub preprocessed_commitment_step : Interaction
preprocessed_commitment_step = atomic Message Opaque (codes "preprocessed_commitment") Scalar

abbrev pub lookup_pow_step : ℕ → Interaction
lookup_pow_step bits = atomic Pow (Algebra 1) (codes "lookup_pow") (Fixed bits)

abbrev pub lookup_alpha_step : ℕ → Interaction
lookup_alpha_step dimension = atomic Challenge (Algebra dimension) (codes "lookup_alpha") Scalar

abbrev pub lookup_beta_step : ℕ → Interaction
lookup_beta_step dimension = atomic Challenge (Algebra dimension) (codes "lookup_beta") Scalar

abbrev pub permutation_commitment_step : Interaction
permutation_commitment_step = atomic Message Opaque (codes "permutation_commitment") Scalar

abbrev pub lookup_terminal_step : ℕ → Interaction
lookup_terminal_step dimension = atomic Message (Algebra dimension) (codes "lookup_terminal") Scalar

abbrev pub constraint_challenge_step : ℕ → Interaction
constraint_challenge_step dimension = atomic Challenge (Algebra dimension) (codes "constraint_challenge") Scalar

abbrev pub quotient_commitment_step : Interaction
quotient_commitment_step = atomic Message Opaque (codes "quotient_commitment") Scalar

abbrev pub randomization_commitment_step : Interaction
randomization_commitment_step = atomic Message Opaque (codes "randomization_commitment") Scalar

abbrev pub ood_pow_step : ℕ → Interaction
ood_pow_step bits = atomic Pow (Algebra 1) (codes "ood_pow") (Fixed bits)

abbrev pub zeta_step : ℕ → Interaction
zeta_step dimension = atomic Challenge (Algebra dimension) (codes "zeta") Scalar

abbrev pub opening_step : Hierarchy → Interaction
opening_step side = record { hierarchy = side; kind = Protocol; value = Marker; label = codes "opening_argument"; length = NoLength }

-- a step that is there only where the flag says so
abbrev pub only_with : Bool → Interaction → List Interaction
only_with true s = s ∷ []
only_with false s = []

-- whether instances have lookups, so many having them
abbrev pub is_positive : ℕ → Bool
is_positive zero = false
is_positive (suc n) = true

-- the steps that are there only where instances have lookups: the pair's, and those of the permutation columns
abbrev pub pair_steps : ℕ → ℕ → ℕ → List Interaction
pair_steps d zero bits = []
pair_steps d (suc n) bits = lookup_pow_step bits ∷ lookup_alpha_step d ∷ lookup_beta_step d ∷ []

abbrev pub permutation_steps : ℕ → ℕ → List Interaction
permutation_steps d zero = []
permutation_steps d (suc n) = permutation_commitment_step ∷ replicate (suc n) (lookup_terminal_step d)

-- the steps from the grinding before zeta on
abbrev pub closing_steps : ℕ → ℕ → List Interaction
closing_steps d bits = ood_pow_step bits ∷ zeta_step d ∷ opening_step Begin ∷ opening_step End ∷ []

-- the pattern of a batch from each phase on
module _ (d : ℕ) (s : BatchShapeData) where
  unfoldable pub from_opening : List Interaction
  from_opening = opening_step Begin ∷ opening_step End ∷ []

  unfoldable pub from_ood : List Interaction
  from_ood = ood_pow_step s.ood_pow_bits ∷ zeta_step d ∷ from_opening

  unfoldable pub from_quotient : List Interaction
  from_quotient = quotient_commitment_step ∷ (only_with s.has_randomization_commitment randomization_commitment_step ++ from_ood)

  unfoldable pub from_permutation : List Interaction
  from_permutation = permutation_steps d s.num_lookup_instances ++ constraint_challenge_step d ∷ from_quotient

  unfoldable pub from_lookup : List Interaction
  from_lookup = pair_steps d s.num_lookup_instances s.lookup_pow_bits ++ from_permutation

  unfoldable pub from_preprocessed : List Interaction
  from_preprocessed = only_with s.has_preprocessed_commitment preprocessed_commitment_step ++ from_lookup

  unfoldable pub from_main : List Interaction
  from_main = main_commitment_step ∷ (map public_values_step s.public_value_counts ++ from_preprocessed)

  -- the whole pattern
  unfoldable pub pattern : List Interaction
  pattern = map (λ _. degree_bits_step d) s.trace_widths ++ from_main

-- a version's byte
abbrev pub version_byte : TranscriptVersion → ℕ
version_byte V1 = 1
version_byte V2 = 2

-- what the instance label has behind the widths: in version 2 each instance's number of lookups
abbrev pub counts_label : TranscriptVersion → List ℕ → List ℕ
counts_label V1 counts = []
counts_label V2 counts = flat_map eight_bytes counts

-- the instance label: the number of instances, then each trace width, each preprocessed width, and what the version has behind them
unfoldable pub instance_label : BatchShapeData → List ℕ
instance_label s =
    eight_bytes (length s.trace_widths) ++ flat_map eight_bytes s.trace_widths ++ flat_map eight_bytes s.preprocessed_widths ++ counts_label s.version s.lookup_counts

unfoldable pub separator : ℕ → BatchShapeData → Separator
separator d s = record { version = version_byte s.version; name = codes "p3-batch-stark"; steps = pattern d s; instance = instance_label s }

-- what statement and proof give to the steps; a lookup's parts are there where instances have lookups
pub record Given (F E M : Type 0) : Type 0 where
  pub degree_bits : List ℕ
  pub main : M
  pub publics : List (List F)
  pub preprocessed : Option M
  pub lookup_witness : Option F
  pub permutation : Option M
  pub terminals : List E
  pub quotient : M
  pub randomization : Option M
  pub ood_witness : F

abbrev pub with_value : {F E M : Type 0} → Interaction → Value F E M → Played F E M
with_value step value = record { step = step; value = value }

-- a step that is there only with its commitment
abbrev pub sealed : {F E M : Type 0} → Interaction → Option M → List (Played F E M)
sealed step None = []
sealed step (Some m) = with_value step (Sealed m) ∷ []

-- a grinding value as a step's value, which may be absent
abbrev pub ground : {F E M : Type 0} → Option F → Value F E M
ground None = NoValue
ground (Some w) = Elements (w ∷ [])

-- the script, phase by phase; degree bits enter as sums of ones
module _ {F E M : Type 0} where
  unfoldable pub bindings_script : Ring E → (d : ℕ) → List ℕ → List (Played F E M)
  bindings_script r d degree_bits = map (λ n. with_value (degree_bits_step d) (Extended (of_nat r n))) degree_bits

  unfoldable pub main_script : M → List (List F) → List (Played F E M)
  main_script main publics = with_value main_commitment_step (Sealed main) ∷ map (λ v. with_value (public_values_step (length v)) (Elements v)) publics

  unfoldable pub preprocessed_script : Option M → List (Played F E M)
  preprocessed_script commitment = sealed preprocessed_commitment_step commitment

  -- for so many instances with lookups
  unfoldable pub pair_script : (d n bits : ℕ) → Option F → List (Played F E M)
  pair_script d zero bits w = []
  pair_script d (suc n) bits w =
      with_value (lookup_pow_step bits) (ground w) ∷ with_value (lookup_alpha_step d) NoValue ∷ with_value (lookup_beta_step d) NoValue ∷ []

  unfoldable pub permutation_script : (d : ℕ) → Option M → List E → List (Played F E M)
  permutation_script d commitment terminals =
      sealed permutation_commitment_step commitment
      ++ map (λ t. with_value (lookup_terminal_step d) (Extended t)) terminals
      ++ with_value (constraint_challenge_step d) NoValue ∷ []

  unfoldable pub quotient_script : M → Option M → List (Played F E M)
  quotient_script quotient randomization = with_value quotient_commitment_step (Sealed quotient) ∷ sealed randomization_commitment_step randomization

  unfoldable pub ood_script : (d bits : ℕ) → F → List (Played F E M)
  ood_script d bits w = with_value (ood_pow_step bits) (Elements (w ∷ [])) ∷ with_value (zeta_step d) NoValue ∷ []

  unfoldable pub opening_script : List (Played F E M)
  opening_script = with_value (opening_step Begin) NoValue ∷ with_value (opening_step End) NoValue ∷ []

  -- the script of what statement and proof give, for a shape: as far as the lookups' grinding, as far as zeta's, and as far as the opening
  abbrev pub script_to_lookup : Ring E → (d : ℕ) → Given F E M → List (Played F E M)
  script_to_lookup r d g = bindings_script r d g.degree_bits ++ main_script g.main g.publics ++ preprocessed_script g.preprocessed

  abbrev pub script_to_ood : Ring E → (d : ℕ) → BatchShapeData → Given F E M → List (Played F E M)
  script_to_ood r d s g =
      script_to_lookup r d g
      ++ pair_script d s.num_lookup_instances s.lookup_pow_bits g.lookup_witness
      ++ permutation_script d g.permutation g.terminals
      ++ quotient_script g.quotient g.randomization

  abbrev pub script_to_opening : Ring E → (d : ℕ) → BatchShapeData → Given F E M → List (Played F E M)
  script_to_opening r d s g = script_to_ood r d s g ++ ood_script d s.ood_pow_bits g.ood_witness

  -- the whole script
  unfoldable pub script : Ring E → (d : ℕ) → BatchShapeData → Given F E M → List (Played F E M)
  script r d s g = script_to_opening r d s g ++ opening_script

-- the challenger's state after the separator's encoding, each byte observed as one base element
unfoldable pub seeded : {S F E M : Type 0} → ChallengerOf S F E M → Ring F → ℕ → BatchShapeData → S → S
seeded c r d s initial = fold c.observe initial (map (of_nat r) (encoding (separator d s)))

-- what is drawn along a script: the pair of the lookups (zeros where no instance has one), alpha, zeta, the state at the opening, and
-- the answers of the challenger's own tests of both grinding values
pub record Draws (S E : Type 0) : Type 0 where
  pub lookup_alpha : E
  pub lookup_beta : E
  pub alpha : E
  pub zeta : E
  pub lookup_passed : Bool
  pub ood_passed : Bool
  pub opening : S

abbrev pub draws_of : {S E : Type 0} → Ring E → ℕ → Transcript S E → Draws S E
draws_of r zero t = record {
  lookup_alpha = r.zero;
  lookup_beta = r.zero;
  alpha = get_or t.challenges 0 r.zero;
  zeta = get_or t.challenges 1 r.zero;
  lookup_passed = true;
  ood_passed = get_or t.passed 0 true;
  opening = t.state;
}
draws_of r (suc n) t = record {
  lookup_alpha = get_or t.challenges 0 r.zero;
  lookup_beta = get_or t.challenges 1 r.zero;
  alpha = get_or t.challenges 2 r.zero;
  zeta = get_or t.challenges 3 r.zero;
  lookup_passed = get_or t.passed 0 true;
  ood_passed = get_or t.passed 1 true;
  opening = t.state;
}

-- the draws of a statement and a proof, from this state of the challenger. A bracket observes nothing, so the state after the whole
-- script is the one at the opening.
unfoldable pub draws : {S F E M : Type 0} → ChallengerOf S F E M → Ring F → Ring E → ℕ → S → BatchShapeData → Given F E M → Draws S E
draws {E = E} c f r d initial s g = draws_of r s.num_lookup_instances (play c (begun E (seeded c f d s initial)) (script r d s g))
