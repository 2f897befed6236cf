-- That what is played tells the parts of a statement and of a proof (not in Plonky3): two that differ in a part that the script plays are played by
-- different base elements.
use Rattle.std.specs.Prelude.{◌≡◌, ℕ, ◌<◌, true, List, map}
use Rattle.p3_field.specs.Ring.{Ring, of_nat}
use Rattle.p3_challenger.specs.Elements.{flat_value}
use Rattle.p3_challenger.specs.Script.{Played}
use Rattle.batch_transcript.specs.BatchScript.{BatchShapeData, Given, is_positive, script}

-- base elements tell what they stand for: an extension element by its coefficients, a commitment by what it is observed as, and numbers below `most`
-- as sums of ones
pub record TellElements {F E M : Type 0} (r : Ring E) (coefficients : E → List F) (opaque : M → List F) (most : ℕ) : Type 0 where
  pub extension : (x y : E) → coefficients x ≡ coefficients y → x ≡ y
  pub commitments : (m n : M) → opaque m ≡ opaque n → m ≡ n
  pub numbers : (i j : ℕ) → i < most → j < most → of_nat r i ≡ of_nat r j → i ≡ j

module _ {F E M : Type 0} (coefficients : E → List F) (opaque : M → List F) where
  -- the base elements that each step is observed as
  abbrev pub played_elements : List (Played F E M) → List (List F)
  played_elements ps = map (λ p. flat_value coefficients opaque p.value) ps

  -- both are played by the same elements
  abbrev pub ArePlayedAlike : Ring E → (d : ℕ) → BatchShapeData → (g h : Given F E M) → Type 0
  ArePlayedAlike r d s g h = played_elements (script r d s g) ≡ played_elements (script r d s h)

-- they are the same in all parts for which the shape has steps
pub record HaveSameParts {F E M : Type 0} (s : BatchShapeData) (g h : Given F E M) : Type 0 where
  pub degree_bits : g.degree_bits ≡ h.degree_bits
  pub main : g.main ≡ h.main
  pub publics : g.publics ≡ h.publics
  pub preprocessed : g.preprocessed ≡ h.preprocessed
  pub lookup_witness : is_positive s.num_lookup_instances ≡ true → g.lookup_witness ≡ h.lookup_witness
  pub permutation : g.permutation ≡ h.permutation
  pub terminals : g.terminals ≡ h.terminals
  pub quotient : g.quotient ≡ h.quotient
  pub randomization : g.randomization ≡ h.randomization
  pub ood_witness : g.ood_witness ≡ h.ood_witness
