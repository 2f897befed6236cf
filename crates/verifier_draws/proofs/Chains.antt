-- A verifier's phases one after the other, and the lookups' pair that they draw.
use Rattle.std.proofs.Common.{◌≡◌, ℕ, zero, suc, List, [], ◌∷◌, ◌++◌, refl, ap, sym, ◌∙◌, Option, append_assoc, subst, get_or}
use Rattle.std.proofs.lemmas.List.{append-nil}
use Rattle.p3_field.specs.Ring.{Ring}
use Rattle.p3_challenger.specs.Script.{ChallengerOf, Transcript, play, begun}
use Rattle.batch_transcript.specs.BatchScript.{BatchShapeData, Given, draws, draws_of, script_to_lookup, script_to_ood, script_to_opening, seeded, bindings_script, main_script, preprocessed_script, pair_script, permutation_script, quotient_script, ood_script}
use Rattle.batch_transcript.specs.Running.{Running, Plays, drawn_along}
use Rattle.batch_transcript.specs.Laws.Draws.{plays-chain, run-draws}
use Rattle.verifier_draws.specs.Draws.{drawn_pair}

module _ {S F E M : Type 0} (c : ChallengerOf S F E M) where
  reads-pair : (r : Ring E) (d n bits : ℕ) (w : Option F) (s : S) (t : Transcript S E) (rest : List E)
      → t.challenges ≡ drawn_along c s (pair_script d n bits w) ++ rest → drawn_along c s (pair_script d n bits w) ≡ drawn_pair n (draws_of r n t)
  unfolding pair_script play
  reads-pair r d zero bits w s t rest e = refl
  reads-pair r d (suc n) bits w s t rest e = sym (ap (λ l. get_or l 0 r.zero ∷ get_or l 1 r.zero ∷ []) e)

  joined : (pair : List E) (alpha zeta : E) → pair ++ alpha ∷ [] ++ [] ++ zeta ∷ [] ≡ pair ++ alpha ∷ zeta ∷ []
  joined pair alpha zeta = rw (append-nil, append_assoc)

  -- the phases as far as the lookups' grinding
  pub to_lookup : (r : Ring E) (d : ℕ) (g : Given F E M) (x0 x1 x2 x3 : Running S)
      → Plays c (bindings_script r d g.degree_bits) x0 x1 []
      → Plays c (main_script g.main g.publics) x1 x2 []
      → Plays c (preprocessed_script g.preprocessed) x2 x3 []
      → Plays c (script_to_lookup r d g) x0 x3 []
  to_lookup r d g x0 x1 x2 x3 p1 p2 p3 =
      let s1 = bindings_script r d g.degree_bits in
      let s2 = main_script g.main g.publics in
      plays-chain c (s1 ++ s2) (preprocessed_script g.preprocessed) x0 x2 x3 [] [] (plays-chain c s1 s2 x0 x1 x2 [] [] p1 p2) p3

  -- as far as zeta's
  pub to_ood : (r : Ring E) (d : ℕ) (s : BatchShapeData) (g : Given F E M) (x0 x3 x4 x5 x6 : Running S) (alpha : E)
      → x3.shape ≡ s
      → Plays c (script_to_lookup r d g) x0 x3 []
      → (let p = pair_script d x3.shape.num_lookup_instances x3.shape.lookup_pow_bits g.lookup_witness in Plays c p x3 x4 (drawn_along c x3.state p))
      → Plays c (permutation_script d g.permutation g.terminals) x4 x5 (alpha ∷ [])
      → Plays c (quotient_script g.quotient g.randomization) x5 x6 []
      → Plays c (script_to_ood r d s g) x0 x6 (drawn_along c x3.state (pair_script d s.num_lookup_instances s.lookup_pow_bits g.lookup_witness) ++ alpha ∷ [] ++ [])
  to_ood r d s g x0 x3 x4 x5 x6 alpha shape q3 o4 p5 p6 =
      let front = script_to_lookup r d g in
      let s4 = pair_script d s.num_lookup_instances s.lookup_pow_bits g.lookup_witness in
      let s5 = permutation_script d g.permutation g.terminals in
      let pair = drawn_along c x3.state s4 in
      let p4 : Plays c s4 x3 x4 pair =
      subst (λ z. Plays c (pair_script d z.num_lookup_instances z.lookup_pow_bits g.lookup_witness) x3 x4 (drawn_along c x3.state (pair_script d z.num_lookup_instances z.lookup_pow_bits g.lookup_witness))) shape o4 in
      let q4 = plays-chain c front s4 x0 x3 x4 [] pair q3 p4 in
      let q5 = plays-chain c (front ++ s4) s5 x0 x4 x5 pair (alpha ∷ []) q4 p5 in
      plays-chain c (front ++ s4 ++ s5) (quotient_script g.quotient g.randomization) x0 x5 x6 (pair ++ alpha ∷ []) [] q5 p6

  -- a run of all phases has drawn the pair that the fold draws
  pub run-pair : (f : Ring F) (r : Ring E) (d : ℕ) (initial : S) (s : BatchShapeData) (g : Given F E M) (x0 x3 x6 x7 : Running S) (alpha zeta : E)
      → x0.state ≡ seeded c f d s initial
      → x3.shape ≡ s
      → x6.shape ≡ s
      → Plays c (script_to_ood r d s g) x0 x6 (drawn_along c x3.state (pair_script d s.num_lookup_instances s.lookup_pow_bits g.lookup_witness) ++ alpha ∷ [] ++ [])
      → Plays c (ood_script d x6.shape.ood_pow_bits g.ood_witness) x6 x7 (zeta ∷ [])
      → drawn_along c x3.state (pair_script d x3.shape.num_lookup_instances x3.shape.lookup_pow_bits g.lookup_witness) ≡ drawn_pair s.num_lookup_instances (draws c f r d initial s g)
  run-pair f r d initial s g x0 x3 x6 x7 alpha zeta h shape3 shape6 q6 o7 =
      let pair = drawn_along c x3.state (pair_script d s.num_lookup_instances s.lookup_pow_bits g.lookup_witness) in
      let s7 = ood_script d s.ood_pow_bits g.ood_witness in
      let p7 : Plays c s7 x6 x7 (zeta ∷ []) = subst (λ z. Plays c (ood_script d z.ood_pow_bits g.ood_witness) x6 x7 (zeta ∷ [])) shape6 o7 in
      let q7 = plays-chain c (script_to_ood r d s g) s7 x0 x6 x7 (pair ++ alpha ∷ [] ++ []) (zeta ∷ []) q6 p7 in
      let drawn = pair ++ alpha ∷ [] ++ [] ++ zeta ∷ [] in
      let e = run-draws c f r d initial s g x0 x7 drawn h q7 in
      let t : Transcript S E = record { state = x7.state; challenges = drawn; passed = (play c (begun E x0.state) (script_to_opening r d s g)).passed } in
      ap (λ z. drawn_along c x3.state (pair_script d z.num_lookup_instances z.lookup_pow_bits g.lookup_witness)) shape3
      ∙ reads-pair r d s.num_lookup_instances s.lookup_pow_bits g.lookup_witness x3.state t (alpha ∷ zeta ∷ []) (joined pair alpha zeta)
      ∙ ap (drawn_pair s.num_lookup_instances) (sym e)
