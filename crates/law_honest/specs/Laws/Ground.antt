-- The grinding values of an honest proof pass a verifier's checks; there is one honest proof at most, and none where an event comes.
use Rattle.std.proofs.Common.{◌≡◌, ℕ, zero, suc, inl, inr, Bool, true, List, [], ◌∷◌, Option, None, Some, refl, sym, ◌∙◌, ap, subst, arith}
use Rattle.std.specs.Prelude.{count_by}
use Rattle.std.proofs.lemmas.Bool.{cases_lt, false≢true}
use Rattle.p3_field.specs.Checks.{NoneFails}
use Rattle.p3_field.specs.Laws.Checks.{none_append}
use Rattle.p3_field.specs.Ring.{Ring, of_nat}
use Rattle.p3_lookup.specs.Term.{Term}
use Rattle.p3_challenger.specs.Grind.{IsLeast}
use Rattle.p3_challenger.specs.Script.{ChallengerOf, Elements, passes}
use Rattle.p3_matrix.specs.Matrix.{Rows}
use Rattle.batch_transcript.specs.BatchScript.{ground, is_positive}
use Rattle.batch_transcript.specs.Grinding.{IsGround, IsPairGround, LacksPairGround, NonePasses, number_passes}
use Rattle.batch_config.specs.Setting.{Setting}
use Rattle.batch_statement.specs.Proof.{ProofData}
use Rattle.batch_statement.specs.Statement.{Statement}
use Rattle.batch_statement.specs.Words.{has_some}
use Rattle.verifier_draws.specs.Draws.{grinding_checks, lookup_grinding, ood_grinding}
use Rattle.law_honest.specs.HonestProof.{AreCanonical, HaveFractions, IsBuilt, IsDenominatorZero, IsLookupGround, IsOodGround, LacksLookupGround, LacksOodGround, Prover, honest_proof, shape, state_at_ood, state_at_pair}
use Rattle.law_honest.specs.Laws.Draws.{drawn_along_it, same_lookup, same_ood}

-- the least number is one
one_least : (P : ℕ → Type 0) (m n : ℕ) → IsLeast P m → IsLeast P n → m ≡ n
one_least P m n a b = elim (cases_lt m n) [
  | inl less ↦ absurd (b.none_below m less a.meets)
  | inr more ↦ elim (cases_lt n m) [
    | inl less ↦ absurd (a.none_below n less b.meets)
    | inr same ↦ omega (arith, more, same)
  ]
]

module _ {S F E M : Type 0} (c : ChallengerOf S F E M) (f : Ring F) (order : ℕ) (canonical : F → ℕ) (K : AreCanonical f order canonical) where
  same_value : (x y : F) → canonical x ≡ canonical y → x ≡ y
  same_value x y e = sym (K.ones x) ∙ (ap (of_nat f) e ∙ K.ones y)

  -- two least values are one
  one_ground : (s : S) (bits : ℕ) (x y : F) → IsGround c f canonical s bits x → IsGround c f canonical s bits y → x ≡ y
  one_ground s bits x y a b = same_value x y (one_least (λ n. number_passes c f s bits n ≡ true) (canonical x) (canonical y) a b)

  one_pair_ground : (s : S) (n bits : ℕ) (x y : Option F) → IsPairGround c f canonical s n bits x → IsPairGround c f canonical s n bits y → x ≡ y
  one_pair_ground s zero bits None None a b = refl
  one_pair_ground s zero bits None (Some y) a b = absurd b
  one_pair_ground s zero bits (Some x) y a b = absurd a
  one_pair_ground s (suc n) bits None y a b = absurd a
  one_pair_ground s (suc n) bits (Some x) None a b = absurd b
  one_pair_ground s (suc n) bits (Some x) (Some y) a b = ap Some (one_ground s bits x y a b)

  -- it passes, and is zero at zero bits
  ground_passes : (s : S) (bits : ℕ) (x : F) → IsGround c f canonical s bits x → passes c s bits (Elements (x ∷ [])) ≡ true
  ground_passes s bits x a = ap (λ y. passes c s bits (Elements (y ∷ []))) (sym (K.ones x)) ∙ a.meets

  ground_zero : (s : S) (bits : ℕ) (x : F) → IsGround c f canonical s bits x → bits ≡ 0 → x ≡ f.zero
  unfolding of_nat
  ground_zero s bits x a e =
      let none : canonical x ≡ 0 = elim (cases_lt 0 (canonical x)) [
        | inl pos ↦ absurd (a.none_below 0 pos (ap (λ b. number_passes c f s b 0) e))
        | inr fine ↦ omega (arith, fine)
      ] in
      sym (K.ones x) ∙ ap (of_nat f) none

  -- where no number passes there is no least value
  none_ground : (s : S) (bits : ℕ) (x : F) → NonePasses c f order s bits → IsGround c f canonical s bits x → ⊥
  none_ground s bits x none a = false≢true (sym (none (canonical x) (K.below x)) ∙ a.meets)

  none_pair_ground : (s : S) (n bits : ℕ) (x : Option F) → LacksPairGround c f order s n bits → IsPairGround c f canonical s n bits x → ⊥
  none_pair_ground s zero bits x lacks a = lacks
  none_pair_ground s (suc n) bits None lacks a = a
  none_pair_ground s (suc n) bits (Some x) lacks a = none_ground s bits x lacks a

  -- the checks of both pass
  pair_checks : (R : Type 0) (s : S) (n bits : ℕ) (x : Option F) (passed : Bool) → IsPairGround c f canonical s n bits x → (is_positive n ≡ true → passed ≡ passes c s bits (ground x))
      → NoneFails (lookup_grinding {R = R} f.zero n bits x passed)
  unfolding NoneFails
  pair_checks R s zero bits None passed a e = (refl, tt)
  pair_checks R s zero bits (Some x) passed a e = absurd a
  pair_checks R s (suc n) bits None passed a e = absurd a
  pair_checks R s (suc n) bits (Some x) passed a e = (refl, (λ zero_bits. ground_zero s bits x a zero_bits, (e refl ∙ ground_passes s bits x a, tt)))

  ood_checks : (R : Type 0) (s : S) (bits : ℕ) (x : F) (passed : Bool) → IsGround c f canonical s bits x → passed ≡ passes c s bits (Elements (x ∷ [])) → NoneFails (ood_grinding {R = R} f.zero bits x passed)
  unfolding NoneFails
  ood_checks R s bits x passed a e = (λ zero_bits. ground_zero s bits x a zero_bits, (e ∙ ground_passes s bits x a, tt))

module _ {S F E C : Type 0} (c : Setting S F E C) (p : Prover F E C) (s : Statement F C) (traces : List (Rows F)) (degree_bits : List ℕ) (K : AreCanonical c.field.ring c.order p.canonical) where
  -- a verifier takes the grinding values of an honest proof
  pub ground_accepted : {P : Type 0} (R : Type 0) (w : Option F) (z : F) (opening : P) → IsLookupGround c p s traces degree_bits w → IsOodGround c p s traces degree_bits w z
      → NoneFails (grinding_checks c.challenger c.field.ring c.extension.ring c.extension.dimension c.initial c.version c.zk c.lookup_bits c.ood_bits s (honest_proof c p s traces degree_bits w z opening) {R = R})
  unfolding grinding_checks honest_proof
  ground_accepted R w z opening lookup ood =
      let n = count_by has_some s.common.lookups in
      let d = drawn_along_it c p s traces degree_bits w z opening in
      none_append (lookup_grinding c.field.ring.zero n c.lookup_bits w d.lookup_passed) (ood_grinding c.field.ring.zero c.ood_bits z d.ood_passed)
      (pair_checks c.challenger c.field.ring c.order p.canonical K R (state_at_pair c p s traces degree_bits) n c.lookup_bits w d.lookup_passed lookup (same_lookup c p s traces degree_bits w z opening))
      (ood_checks c.challenger c.field.ring c.order p.canonical K R (state_at_ood c p s traces degree_bits w) c.ood_bits z d.ood_passed ood (same_ood c p s traces degree_bits w z opening))

  pub one_lookup : (v w : Option F) → IsLookupGround c p s traces degree_bits v → IsLookupGround c p s traces degree_bits w → v ≡ w
  one_lookup v w a b = one_pair_ground c.challenger c.field.ring c.order p.canonical K (state_at_pair c p s traces degree_bits) (shape c p s traces degree_bits).num_lookup_instances c.lookup_bits v w a b

  pub one_ood : (v w : Option F) (x y : F) → v ≡ w → IsOodGround c p s traces degree_bits v x → IsOodGround c p s traces degree_bits w y → x ≡ y
  one_ood v w x y e a b =
      one_ground c.challenger c.field.ring c.order p.canonical K (state_at_ood c p s traces degree_bits w) c.ood_bits x y
      (subst (λ u. IsOodGround c p s traces degree_bits u x) e a) b

  -- two proofs that are built honestly, with one proof of their openings, are one
  pub one_built : {P : Type 0} (q r : ProofData F E C P) → IsBuilt c p s traces degree_bits q → IsBuilt c p s traces degree_bits r → q.opening_proof ≡ r.opening_proof → q ≡ r
  one_built q r G H e =
      let lookup = one_lookup q.lookup_pow_witness r.lookup_pow_witness G.lookup_ground H.lookup_ground in
      let ood = one_ood q.lookup_pow_witness r.lookup_pow_witness q.ood_pow_witness r.ood_pow_witness lookup G.ood_ground H.ood_ground in
      G.proof_is ∙ ((λ i. honest_proof c p s traces degree_bits (lookup i) (ood i) (e i)) ∙ sym H.proof_is)

  -- where an event comes, an earlier part of an honest proof fails
  pub lookup_event : (w : Option F) → LacksLookupGround c p s traces degree_bits → IsLookupGround c p s traces degree_bits w → ⊥
  lookup_event w lacks a =
      none_pair_ground c.challenger c.field.ring c.order p.canonical K (state_at_pair c p s traces degree_bits) (shape c p s traces degree_bits).num_lookup_instances c.lookup_bits w lacks a

  pub denominator_event : (i row : ℕ) (w : Option F) → IsDenominatorZero c p s traces degree_bits i row → IsLookupGround c p s traces degree_bits w → HaveFractions c p s traces degree_bits w → ⊥
  denominator_event i row w Z a all =
      let e = one_lookup w Z.witness a Z.is_ground in
      let here = subst (HaveFractions c p s traces degree_bits) e all i Z.within row Z.first.within in
      let none : Term E = record { count = c.extension.ring.zero; denominator = c.extension.ring.zero } in
      here Z.lookup [] Z.first.first.within Z.tuple none Z.first.first.first.within (Z.first.first.first.zero none)

  pub ood_event : (w : Option F) (z : F) → LacksOodGround c p s traces degree_bits → IsLookupGround c p s traces degree_bits w → IsOodGround c p s traces degree_bits w z → ⊥
  ood_event w z Z a b =
      let e = one_lookup w Z.witness a Z.is_ground in
      none_ground c.challenger c.field.ring c.order p.canonical K (state_at_ood c p s traces degree_bits Z.witness) c.ood_bits z Z.none
      (subst (λ u. IsOodGround c p s traces degree_bits u z) e b)
