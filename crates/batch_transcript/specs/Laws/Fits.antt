-- The steps of a script are those of the pattern, where the values fit the shape.
use Rattle.std.proofs.Common.{◌≡◌, ℕ, zero, suc, List, [], ◌∷◌, ◌++◌, length, map, refl, ap, sym, ◌∙◌, append_assoc, Option, Some, None, Bool, true, false}
use Rattle.std.specs.Prelude.{is_some}
use Rattle.std.proofs.lemmas.List.{append-nil, map-append}
use Rattle.std.proofs.lemmas.Simd.{map-map}
use Rattle.p3_field.specs.Ring.{Ring, of_nat}
use Rattle.p3_challenger.specs.Script.{Played, NoValue, Elements, Extended, steps_of}
use Rattle.p3_challenger.specs.declared.script.Interaction.{Interaction}
use Rattle.batch_transcript.specs.BatchScript.{BatchShapeData, Given, script, pattern, from_main, from_preprocessed, from_lookup, from_permutation, from_quotient, from_ood, from_opening, bindings_script, main_script, preprocessed_script, pair_script, permutation_script, quotient_script, ood_script, opening_script, degree_bits_step, main_commitment_step, public_values_step, lookup_terminal_step, permutation_commitment_step, constraint_challenge_step, preprocessed_commitment_step, quotient_commitment_step, randomization_commitment_step, only_with, pair_steps, is_positive, with_value, sealed}
use Rattle.batch_transcript.specs.Fits.{FitsShape}
use Rattle.batch_transcript.specs.Laws.Phases.{map-const, permutation-steps}

module _ (F E M : Type 0) (d : ℕ) where
  -- steps of one script after another
  joins : (ps qs : List (Played F E M)) (x y z : List Interaction) → x ≡ steps_of ps ++ y → y ≡ steps_of qs ++ z → x ≡ steps_of (ps ++ qs) ++ z
  joins ps qs x y z e f =
      e ∙ ap (λ l. steps_of ps ++ l) f ∙ sym (append_assoc (steps_of ps) (steps_of qs) z) ∙ ap (λ l. l ++ z) (sym (map-append (λ (p : Played F E M). p.step) ps qs))

  bindings-fit : (r : Ring E) (s : BatchShapeData) (ns : List ℕ) → length ns ≡ length s.trace_widths → pattern d s ≡ steps_of (bindings_script {F = F} {M = M} r d ns) ++ from_main d s
  unfolding pattern bindings_script
  bindings-fit r s ns h = ap (λ l. l ++ from_main d s) (
      map-const (degree_bits_step d) s.trace_widths ns (sym h)
      ∙ sym (map-map (λ (p : Played F E M). p.step) (λ n. with_value (degree_bits_step d) (Extended (of_nat r n))) ns))

  main-fit : (s : BatchShapeData) (m : M) (vs : List (List F)) → map length vs ≡ s.public_value_counts → from_main d s ≡ steps_of (main_script {E = E} m vs) ++ from_preprocessed d s
  unfolding from_main main_script
  main-fit s m vs h = ap (λ l. main_commitment_step ∷ (l ++ from_preprocessed d s)) (
      ap (map public_values_step) (sym h) ∙ map-map public_values_step length vs
      ∙ sym (map-map (λ (p : Played F E M). p.step) (λ v. with_value (public_values_step (length v)) (Elements v)) vs))

  sealed-fit : (x : Interaction) (o : Option M) (b : Bool) (rest : List Interaction) → is_some o ≡ b → only_with b x ++ rest ≡ steps_of (sealed {F = F} {E = E} x o) ++ rest
  sealed-fit x None true rest h = cc
  sealed-fit x None false rest h = refl
  sealed-fit x (Some m) true rest h = refl
  sealed-fit x (Some m) false rest h = cc

  pair-fit : (n b : ℕ) (w : Option F) (rest : List Interaction)
      → pair_steps d n b ++ rest ≡ steps_of (pair_script {E = E} {M = M} d n b w) ++ rest
  unfolding pair_script
  pair-fit zero b w rest = refl
  pair-fit (suc n) b w rest = refl

  terminals-fit : (ts : List E) (rest : List Interaction)
      → map (λ _. lookup_terminal_step d) ts ++ constraint_challenge_step d ∷ rest
      ≡ steps_of (map (λ x. with_value {F = F} {M = M} (lookup_terminal_step d) (Extended x)) ts ++ with_value (constraint_challenge_step d) NoValue ∷ []) ++ rest
  terminals-fit [] rest = refl
  terminals-fit (t ∷ ts) rest = ap (λ l. lookup_terminal_step d ∷ l) (terminals-fit ts rest)

  permutation-fit : (s : BatchShapeData) (o : Option M) (ts : List E) → is_some o ≡ is_positive s.num_lookup_instances → length ts ≡ s.num_lookup_instances
      → from_permutation d s ≡ steps_of (permutation_script {F = F} d o ts) ++ from_quotient d s
  unfolding from_permutation permutation_script
  permutation-fit s o ts h l =
      permutation-steps d s.num_lookup_instances o ts (constraint_challenge_step d ∷ from_quotient d s) h l
      ∙ after-commitment o
    where
      after-commitment : (o : Option M)
          → only_with (is_some o) permutation_commitment_step ++ (map (λ _. lookup_terminal_step d) ts ++ constraint_challenge_step d ∷ from_quotient d s)
          ≡ steps_of (sealed permutation_commitment_step o ++ map (λ t. with_value {F = F} (lookup_terminal_step d) (Extended t)) ts ++ with_value (constraint_challenge_step d) NoValue ∷ []) ++ from_quotient d s
      after-commitment None = terminals-fit ts (from_quotient d s)
      after-commitment (Some m) = ap (λ l. permutation_commitment_step ∷ l) (terminals-fit ts (from_quotient d s))

  preprocessed-fit : (s : BatchShapeData) (o : Option M) → is_some o ≡ s.has_preprocessed_commitment → from_preprocessed d s ≡ steps_of (preprocessed_script {F = F} {E = E} o) ++ from_lookup d s
  unfolding from_preprocessed preprocessed_script
  preprocessed-fit s o h = sealed-fit preprocessed_commitment_step o s.has_preprocessed_commitment (from_lookup d s) h

  lookup-fit : (s : BatchShapeData) (w : Option F) → from_lookup d s ≡ steps_of (pair_script {E = E} {M = M} d s.num_lookup_instances s.lookup_pow_bits w) ++ from_permutation d s
  unfolding from_lookup
  lookup-fit s w = pair-fit s.num_lookup_instances s.lookup_pow_bits w (from_permutation d s)

  quotient-fit : (s : BatchShapeData) (q : M) (o : Option M) → is_some o ≡ s.has_randomization_commitment → from_quotient d s ≡ steps_of (quotient_script {F = F} {E = E} q o) ++ from_ood d s
  unfolding from_quotient quotient_script
  quotient-fit s q o h = ap (λ l. quotient_commitment_step ∷ l) (sealed-fit randomization_commitment_step o s.has_randomization_commitment (from_ood d s) h)

  ood-fit : (s : BatchShapeData) (w : F) → from_ood d s ≡ steps_of (ood_script {E = E} {M = M} d s.ood_pow_bits w) ++ from_opening d s
  unfolding from_ood ood_script
  ood-fit s w = refl

  opening-fit : (s : BatchShapeData) → from_opening d s ≡ steps_of (opening_script {F = F} {E = E} {M = M}) ++ []
  unfolding from_opening opening_script
  opening-fit s = refl

  pub script-fits : (r : Ring E) (s : BatchShapeData) (g : Given F E M) → FitsShape s g → steps_of (script r d s g) ≡ pattern d s
  unfolding script
  script-fits r s g h =
      let p1 = bindings_script r d g.degree_bits in
      let p2 = main_script g.main g.publics in
      let p3 = preprocessed_script g.preprocessed in
      let p4 = pair_script d s.num_lookup_instances s.lookup_pow_bits g.lookup_witness in
      let p5 = permutation_script d g.permutation g.terminals in
      let p6 = quotient_script g.quotient g.randomization in
      let p7 = ood_script d s.ood_pow_bits g.ood_witness in
      let e2 = joins p1 p2 (pattern d s) (from_main d s) (from_preprocessed d s) (bindings-fit r s g.degree_bits h.degree_bits) (main-fit s g.main g.publics h.publics) in
      let e3 = joins (p1 ++ p2) p3 (pattern d s) (from_preprocessed d s) (from_lookup d s) e2 (preprocessed-fit s g.preprocessed h.preprocessed) in
      let e4 = joins (p1 ++ p2 ++ p3) p4 (pattern d s) (from_lookup d s) (from_permutation d s) e3 (lookup-fit s g.lookup_witness) in
      let e5 = joins (p1 ++ p2 ++ p3 ++ p4) p5 (pattern d s) (from_permutation d s) (from_quotient d s) e4 (permutation-fit s g.permutation g.terminals h.permutation h.terminals) in
      let e6 = joins (p1 ++ p2 ++ p3 ++ p4 ++ p5) p6 (pattern d s) (from_quotient d s) (from_ood d s) e5 (quotient-fit s g.quotient g.randomization h.randomization) in
      let e7 = joins (p1 ++ p2 ++ p3 ++ p4 ++ p5 ++ p6) p7 (pattern d s) (from_ood d s) (from_opening d s) e6 (ood-fit s g.ood_witness) in
      let e8 = joins (p1 ++ p2 ++ p3 ++ p4 ++ p5 ++ p6 ++ p7) opening_script (pattern d s) (from_opening d s) [] e7 (opening-fit s) in
      sym (e8 ∙ append-nil (steps_of (script r d s g)))
