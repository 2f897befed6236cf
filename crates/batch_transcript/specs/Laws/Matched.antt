-- The brackets of a batch's pattern match.
use Rattle.std.proofs.Common.{◌≡◌, ℕ, zero, suc, List, [], ◌∷◌, ◌++◌, map, refl, Bool, true, false, replicate, subst, sym, append_assoc}
use Rattle.p3_challenger.specs.Script.{AreMatched}
use Rattle.p3_challenger.specs.declared.script.Interaction.{Interaction}
use Rattle.batch_transcript.specs.BatchScript.{BatchShapeData, pattern, from_main, from_preprocessed, from_lookup, from_permutation, from_quotient, from_ood, from_opening, degree_bits_step, public_values_step, lookup_terminal_step, permutation_steps, pair_steps, only_with, atomic, main_commitment_step, preprocessed_commitment_step, constraint_challenge_step, quotient_commitment_step, randomization_commitment_step, closing_steps}
use Rattle.p3_challenger.specs.declared.script.InteractionKind.{InteractionKind}
use Rattle.p3_challenger.specs.declared.script.StepValue.{StepValue}
use Rattle.p3_challenger.specs.declared.script.Length.{Length}

joined : {A : Type 0} (x1 x2 x3 x4 x5 x6 x7 x8 x9 x10 a1 a3 a4 a5 a6 a9 a10 : List A) (m h q : A)
    → x1 ≡ a1 → x2 ≡ x1 ++ m ∷ [] → x3 ≡ x2 ++ a3 → x4 ≡ x3 ++ a4 → x5 ≡ x4 ++ a5 → x6 ≡ x5 ++ a6 → x7 ≡ x6 ++ h ∷ [] → x8 ≡ x7 ++ q ∷ [] → x9 ≡ x8 ++ a9 → x10 ≡ x9 ++ a10
    → x10 ≡ a1 ++ (m ∷ (a3 ++ (a4 ++ (a5 ++ (a6 ++ (h ∷ (q ∷ (a9 ++ a10))))))))
joined x1 x2 x3 x4 x5 x6 x7 x8 x9 x10 a1 a3 a4 a5 a6 a9 a10 m h q e1 e2 e3 e4 e5 e6 e7 e8 e9 e10 =
    rw (e10, e9, e8, e7, e6, e5, e4, e3, e2, e1) (simp append_assoc)

-- a step outside of brackets changes nothing of it
module _ (opened : List (List ℕ)) (rest : List Interaction) (h : AreMatched opened rest) where
  matched-degree_bits : (d : ℕ) (xs : List ℕ) → AreMatched opened (map (λ _. degree_bits_step d) xs ++ rest)
  matched-degree_bits d [] = h
  matched-degree_bits d (x ∷ xs) = (opened, refl, matched-degree_bits d xs)

  matched-publics : (xs : List ℕ) → AreMatched opened (map public_values_step xs ++ rest)
  matched-publics [] = h
  matched-publics (x ∷ xs) = (opened, refl, matched-publics xs)

  matched-terminals : (d n : ℕ) → AreMatched opened (replicate n (lookup_terminal_step d) ++ rest)
  matched-terminals d zero = h
  matched-terminals d (suc n) = (opened, refl, matched-terminals d n)

  matched-permutation : (d n : ℕ) → AreMatched opened (permutation_steps d n ++ rest)
  matched-permutation d zero = h
  matched-permutation d (suc n) = (opened, refl, matched-terminals d (suc n))

  matched-pair : (d n bits : ℕ) → AreMatched opened (pair_steps d n bits ++ rest)
  matched-pair d zero bits = h
  matched-pair d (suc n) bits = (opened, refl, (opened, refl, (opened, refl, h)))

  matched-with : (b : Bool) (k : InteractionKind) (v : StepValue) (label : List ℕ) (l : Length) → AreMatched opened (only_with b (atomic k v label l) ++ rest)
  matched-with true k v label l = (opened, refl, h)
  matched-with false k v label l = h

pub matched-pattern : (d : ℕ) (s : BatchShapeData) → AreMatched [] (pattern d s)
unfolding pattern from_main from_preprocessed from_lookup from_permutation from_quotient from_ood from_opening
matched-pattern d s =
    let closing : AreMatched [] (from_ood d s) = ([], refl, ([], refl, (_, refl, ([], refl, refl)))) in
    let quotient : AreMatched [] (from_quotient d s) = ([], refl, matched-with [] _ closing s.has_randomization_commitment _ _ _ _) in
    let permutation : AreMatched [] (from_permutation d s) = matched-permutation [] _ ([], refl, quotient) d s.num_lookup_instances in
    let lookup : AreMatched [] (from_lookup d s) = matched-pair [] _ permutation d s.num_lookup_instances s.lookup_pow_bits in
    let preprocessed : AreMatched [] (from_preprocessed d s) = matched-with [] _ lookup s.has_preprocessed_commitment _ _ _ _ in
    let main : AreMatched [] (from_main d s) = ([], refl, matched-publics [] _ preprocessed s.public_value_counts) in
    matched-degree_bits [] _ main d s.trace_widths

-- the same of a list that is the pattern
pub matched : (d : ℕ) (s : BatchShapeData) (steps : List Interaction) → steps ≡ pattern d s → AreMatched [] steps
matched d s steps e = subst (λ l. AreMatched [] l) (sym e) (matched-pattern d s)

-- a list that grew by the pattern's parts
pub grown : (d : ℕ) (s : BatchShapeData) (x1 x2 x3 x4 x5 x6 x7 x8 x9 x10 : List Interaction)
    → x1 ≡ map (λ _. degree_bits_step d) s.trace_widths
    → x2 ≡ x1 ++ main_commitment_step ∷ []
    → x3 ≡ x2 ++ map public_values_step s.public_value_counts
    → x4 ≡ x3 ++ only_with s.has_preprocessed_commitment preprocessed_commitment_step
    → x5 ≡ x4 ++ pair_steps d s.num_lookup_instances s.lookup_pow_bits
    → x6 ≡ x5 ++ permutation_steps d s.num_lookup_instances
    → x7 ≡ x6 ++ constraint_challenge_step d ∷ []
    → x8 ≡ x7 ++ quotient_commitment_step ∷ []
    → x9 ≡ x8 ++ only_with s.has_randomization_commitment randomization_commitment_step
    → x10 ≡ x9 ++ closing_steps d s.ood_pow_bits
    → x10 ≡ pattern d s
unfolding pattern from_main from_preprocessed from_lookup from_permutation from_quotient from_ood from_opening
grown d s x1 x2 x3 x4 x5 x6 x7 x8 x9 x10 =
    joined x1 x2 x3 x4 x5 x6 x7 x8 x9 x10 (map (λ _. degree_bits_step d) s.trace_widths) (map public_values_step s.public_value_counts)
    (only_with s.has_preprocessed_commitment preprocessed_commitment_step) (pair_steps d s.num_lookup_instances s.lookup_pow_bits)
    (permutation_steps d s.num_lookup_instances) (only_with s.has_randomization_commitment randomization_commitment_step) (closing_steps d s.ood_pow_bits)
    main_commitment_step (constraint_challenge_step d) quotient_commitment_step
