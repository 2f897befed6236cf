-- A run of all phases has drawn what the fold draws.
use Rattle.std.proofs.Common.{◌≡◌, ℕ, zero, suc, List, [], ◌∷◌, ◌++◌, refl, ap, sym, ◌∙◌, Option, Some, None, Bool, true, append_assoc, subst}
use Rattle.std.proofs.lemmas.List.{append-nil}
use Rattle.p3_field.specs.Ring.{Ring}
use Rattle.p3_challenger.specs.Script.{ChallengerOf, Transcript, Played, NoValue, Elements, play, begun, passes}
use Rattle.batch_transcript.specs.BatchScript.{BatchShapeData, Given, draws, draws_of, script_to_lookup, script_to_ood, script_to_opening, seeded, bindings_script, main_script, preprocessed_script, pair_script, permutation_script, quotient_script, ood_script, with_value, ground, is_positive, constraint_challenge_step}
use Rattle.batch_transcript.specs.Running.{Running, Plays, drawn_along, TellsTests}
use Rattle.batch_transcript.specs.Laws.Draws.{play-on, play-script, plays-chain, run-draws}
use Rattle.batch_transcript.specs.Laws.Phases.{play-degree_bits, play-publics, play-terminals}

module _ {S F E M : Type 0} (c : ChallengerOf S F E M) where
  -- what is read after the pair's draws
  reads-alpha : (r : Ring E) (d n bits : ℕ) (w : Option F) (s : S) (t : Transcript S E) (alpha zeta : E)
      → t.challenges ≡ drawn_along c s (pair_script d n bits w) ++ alpha ∷ zeta ∷ []
      → ((draws_of r n t).alpha ≡ alpha) × ((draws_of r n t).zeta ≡ zeta) × ((draws_of r n t).opening ≡ t.state)
  unfolding pair_script play
  reads-alpha r d zero bits w s t alpha zeta e = (
    ap (λ l. (draws_of r zero (record t { challenges = l })).alpha) e,
    ap (λ l. (draws_of r zero (record t { challenges = l })).zeta) e,
    refl,
  )
  reads-alpha r d (suc n) bits w s t alpha zeta e = (
    ap (λ l. (draws_of r (suc n) (record t { challenges = l })).alpha) e,
    ap (λ l. (draws_of r (suc n) (record t { challenges = l })).zeta) e,
    refl,
  )

  joined : (pair : List E) (alpha zeta : E) → pair ++ alpha ∷ [] ++ [] ++ zeta ∷ [] ≡ pair ++ alpha ∷ zeta ∷ []
  joined pair alpha zeta = rw (append-nil, append_assoc)

  pub run-tells : (f : Ring F) (r : Ring E) (d : ℕ) (initial : S) (s : BatchShapeData) (g : Given F E M) (x0 x1 x2 x3 x4 x5 x6 x7 : Running S) (alpha zeta : E)
      → x0.state ≡ seeded c f d s initial → x0.shape ≡ s
      → Plays c (bindings_script r d g.degree_bits) x0 x1 []
      → Plays c (main_script g.main g.publics) x1 x2 []
      → Plays c (preprocessed_script g.preprocessed) x2 x3 []
      → (let p = pair_script d x3.shape.num_lookup_instances x3.shape.lookup_pow_bits g.lookup_witness in Plays c p x3 x4 (drawn_along c x3.state p))
      → Plays c (permutation_script d g.permutation g.terminals) x4 x5 (alpha ∷ [])
      → Plays c (quotient_script g.quotient g.randomization) x5 x6 []
      → Plays c (ood_script d x6.shape.ood_pow_bits g.ood_witness) x6 x7 (zeta ∷ [])
      → ((draws c f r d initial s g).alpha ≡ alpha) × ((draws c f r d initial s g).zeta ≡ zeta) × ((draws c f r d initial s g).opening ≡ x7.state)
  run-tells f r d initial s g x0 x1 x2 x3 x4 x5 x6 x7 alpha zeta h shape p1 p2 p3 o4 p5 p6 o7 =
      let s1 = bindings_script r d g.degree_bits in
      let s2 = main_script g.main g.publics in
      let s3 = preprocessed_script g.preprocessed in
      let s4 = pair_script d s.num_lookup_instances s.lookup_pow_bits g.lookup_witness in
      let s5 = permutation_script d g.permutation g.terminals in
      let s6 = quotient_script g.quotient g.randomization in
      let s7 = ood_script d s.ood_pow_bits g.ood_witness in
      let pair = drawn_along c x3.state s4 in
      let shape3 : x3.shape ≡ s = p3.shape ∙ p2.shape ∙ p1.shape ∙ shape in
      let shape6 : x6.shape ≡ s = p6.shape ∙ p5.shape ∙ o4.shape ∙ shape3 in
      let p4 : Plays c s4 x3 x4 pair =
      subst (λ z. Plays c (pair_script d z.num_lookup_instances z.lookup_pow_bits g.lookup_witness) x3 x4 (drawn_along c x3.state (pair_script d z.num_lookup_instances z.lookup_pow_bits g.lookup_witness))) shape3 o4 in
      let p7 : Plays c s7 x6 x7 (zeta ∷ []) = subst (λ z. Plays c (ood_script d z.ood_pow_bits g.ood_witness) x6 x7 (zeta ∷ [])) shape6 o7 in
      let q2 = plays-chain c s1 s2 x0 x1 x2 [] [] p1 p2 in
      let q3 = plays-chain c (s1 ++ s2) s3 x0 x2 x3 [] [] q2 p3 in
      let q4 = plays-chain c (s1 ++ s2 ++ s3) s4 x0 x3 x4 [] pair q3 p4 in
      let q5 = plays-chain c (s1 ++ s2 ++ s3 ++ s4) s5 x0 x4 x5 pair (alpha ∷ []) q4 p5 in
      let q6 = plays-chain c (s1 ++ s2 ++ s3 ++ s4 ++ s5) s6 x0 x5 x6 (pair ++ alpha ∷ []) [] q5 p6 in
      let q7 = plays-chain c (s1 ++ s2 ++ s3 ++ s4 ++ s5 ++ s6) s7 x0 x6 x7 (pair ++ alpha ∷ [] ++ []) (zeta ∷ []) q6 p7 in
      let drawn = pair ++ alpha ∷ [] ++ [] ++ zeta ∷ [] in
      let e = run-draws c f r d initial s g x0 x7 drawn h q7 in
      let t : Transcript S E = record { state = x7.state; challenges = drawn; passed = (play c (begun E x0.state) (script_to_opening r d s g)).passed } in
      let k = reads-alpha r d s.num_lookup_instances s.lookup_pow_bits g.lookup_witness x3.state t alpha zeta (joined pair alpha zeta) in (
        ap (λ z. z.alpha) e ∙ k.0,
        ap (λ z. z.zeta) e ∙ k.1,
        ap (λ z. z.opening) e ∙ k.2,
      )

  -- the answers of the tests along one script after another
  passed-after : (ps qs : List (Played F E M)) (s : S)
      → (play c (begun E s) (ps ++ qs)).passed ≡ (play c (begun E s) ps).passed ++ (play c (begun E (play c (begun E s) ps).state) qs).passed
  passed-after ps qs s = ap (λ t. t.passed) (play-on c s ps qs)

  -- phases without a grinding test nothing
  none-bindings : (r : Ring E) (d : ℕ) (ns : List ℕ) (s : S) → (play c (begun E s) (bindings_script r d ns)).passed ≡ []
  unfolding bindings_script
  none-bindings r d ns s = ap (λ t. t.passed) (play-degree_bits c r d ns (begun E s))

  none-main : (m : M) (vs : List (List F)) (s : S) → (play c (begun E s) (main_script m vs)).passed ≡ []
  unfolding main_script play
  none-main m vs s = ap (λ t. t.passed) (play-publics c vs (record (begun E s) { state = c.observe_opaque s m }))

  none-preprocessed : (o : Option M) (s : S) → (play c (begun E s) (preprocessed_script o)).passed ≡ []
  unfolding preprocessed_script play
  none-preprocessed None s = refl
  none-preprocessed (Some m) s = refl

  none-permutation : (d : ℕ) (o : Option M) (ts : List E) (s : S) → (play c (begun E s) (permutation_script d o ts)).passed ≡ []
  unfolding permutation_script play
  none-permutation d None ts s = ap (λ t. t.passed) (play-terminals c d ts (with_value (constraint_challenge_step d) NoValue ∷ []) (begun E s))
  none-permutation d (Some m) ts s = ap (λ t. t.passed) (play-terminals c d ts (with_value (constraint_challenge_step d) NoValue ∷ []) (record (begun E s) { state = c.observe_opaque s m }))

  none-quotient : (q : M) (o : Option M) (s : S) → (play c (begun E s) (quotient_script q o)).passed ≡ []
  unfolding quotient_script play
  none-quotient q None s = refl
  none-quotient q (Some m) s = refl

  -- the test before zeta, and that before the lookups' pair, at the states where the phases began
  one-ood : (d bits : ℕ) (w : F) (s : S) → (play c (begun E s) (ood_script d bits w)).passed ≡ passes c s bits (Elements (w ∷ [])) ∷ []
  unfolding ood_script play
  one-ood d bits w s = refl

  none-first : (r : Ring E) (d : ℕ) (g : Given F E M) (s : S) → (play c (begun E s) (script_to_lookup r d g)).passed ≡ []
  none-first r d g s =
      let s1 = bindings_script r d g.degree_bits in
      let s2 = main_script g.main g.publics in
      let s3 = preprocessed_script g.preprocessed in
      let u = (play c (begun E s) s1).state in
      let v = (play c (begun E s) (s1 ++ s2)).state in
      let e2 : (play c (begun E s) (s1 ++ s2)).passed ≡ [] = passed-after s1 s2 s ∙ (λ i. none-bindings r d g.degree_bits s i ++ none-main g.main g.publics u i) in
      passed-after (s1 ++ s2) s3 s ∙ (λ i. e2 i ++ none-preprocessed g.preprocessed v i)

  -- as far as zeta's grinding the lookups' value alone is tested
  pair-first : (r : Ring E) (d : ℕ) (s : BatchShapeData) (g : Given F E M) (b : S)
      → (play c (begun E b) (script_to_ood r d s g)).passed
      ≡ (play c (begun E (play c (begun E b) (script_to_lookup r d g)).state) (pair_script d s.num_lookup_instances s.lookup_pow_bits g.lookup_witness)).passed
  pair-first r d s g b =
      let front = script_to_lookup r d g in
      let s4 = pair_script d s.num_lookup_instances s.lookup_pow_bits g.lookup_witness in
      let s5 = permutation_script d g.permutation g.terminals in
      let s6 = quotient_script g.quotient g.randomization in
      let t4 = (play c (begun E (play c (begun E b) front).state) s4).passed in
      let e4 : (play c (begun E b) (front ++ s4)).passed ≡ t4 = passed-after front s4 b ∙ ap (λ l. l ++ t4) (none-first r d g b) in
      let e5 : (play c (begun E b) (front ++ s4 ++ s5)).passed ≡ t4 =
      passed-after (front ++ s4) s5 b ∙ (λ i. e4 i ++ none-permutation d g.permutation g.terminals (play c (begun E b) (front ++ s4)).state i) ∙ append-nil t4 in
      passed-after (front ++ s4 ++ s5) s6 b ∙ (λ i. e5 i ++ none-quotient g.quotient g.randomization (play c (begun E b) (front ++ s4 ++ s5)).state i) ∙ append-nil t4

  reads-tests : (r : Ring E) (d n bits : ℕ) (w : Option F) (s : S) (t : Transcript S E) (o : Bool)
      → t.passed ≡ (play c (begun E s) (pair_script d n bits w)).passed ++ o ∷ []
      → ((draws_of r n t).ood_passed ≡ o) × (is_positive n ≡ true → (draws_of r n t).lookup_passed ≡ passes c s bits (ground w))
  unfolding pair_script play
  reads-tests r d zero bits w s t o e = (ap (λ l. (draws_of r zero (record t { passed = l })).ood_passed) e, λ h. cc)
  reads-tests r d (suc n) bits w s t o e = (
    ap (λ l. (draws_of r (suc n) (record t { passed = l })).ood_passed) e,
    λ h. ap (λ l. (draws_of r (suc n) (record t { passed = l })).lookup_passed) e,
  )

  -- both answers of the fold, at the states where the grinding phases begin
  both-tests : (f : Ring F) (r : Ring E) (d : ℕ) (initial : S) (s : BatchShapeData) (g : Given F E M) (z : S)
      → z ≡ (play c (begun E (seeded c f d s initial)) (script_to_ood r d s g)).state
      → ((draws c f r d initial s g).ood_passed ≡ passes c z s.ood_pow_bits (Elements (g.ood_witness ∷ [])))
      × (is_positive s.num_lookup_instances ≡ true → (draws c f r d initial s g).lookup_passed
      ≡ passes c (play c (begun E (seeded c f d s initial)) (script_to_lookup r d g)).state s.lookup_pow_bits (ground g.lookup_witness))
  unfolding draws
  both-tests f r d initial s g z h =
      let n = s.num_lookup_instances in
      let b = seeded c f d s initial in
      let front = script_to_ood r d s g in
      let pair = pair_script d n s.lookup_pow_bits g.lookup_witness in
      let s3 = (play c (begun E b) (script_to_lookup r d g)).state in
      let t = play c (begun E b) (script_to_opening r d s g) in
      let o = passes c z s.ood_pow_bits (Elements (g.ood_witness ∷ [])) in
      let e : t.passed ≡ (play c (begun E s3) pair).passed ++ o ∷ [] =
      passed-after front (ood_script d s.ood_pow_bits g.ood_witness) b
      ∙ (λ i. pair-first r d s g b i ++ one-ood d s.ood_pow_bits g.ood_witness (play c (begun E b) front).state i)
      ∙ ap (λ y. (play c (begun E s3) pair).passed ++ passes c y s.ood_pow_bits (Elements (g.ood_witness ∷ [])) ∷ []) (sym h) in
      let k = reads-tests r d n s.lookup_pow_bits g.lookup_witness s3 t o e in
      let p = play-script c r d s g (begun E b) in (
        ap (λ u. (draws_of r n u).ood_passed) p ∙ k.0,
        λ positive. ap (λ u. (draws_of r n u).lookup_passed) p ∙ k.1 positive,
      )

  pub tells-tests : (f : Ring F) (r : Ring E) (d : ℕ) → TellsTests c f r d
  tells-tests f r d initial s g =
      let b = seeded c f d s initial in record {
        lookup = λ x y drawn h p positive.
            (both-tests f r d initial s g (play c (begun E b) (script_to_ood r d s g)).state refl).1 positive
            ∙ ap (λ z. passes c z s.lookup_pow_bits (ground g.lookup_witness)) (sym (p.state ∙ ap (λ z. (play c (begun E z) (script_to_lookup r d g)).state) h));
        ood = λ x y drawn h p. (both-tests f r d initial s g y.state (p.state ∙ ap (λ z. (play c (begun E z) (script_to_ood r d s g)).state) h)).0;
      }
