-- The draws of a batch's script, stage by stage: each is that of its own steps, in the state after those before.
use Rattle.std.proofs.Common.{◌≡◌, ℕ, zero, suc, true, List, [], ◌∷◌, ◌++◌, get_or, Option, None, Some, refl, sym, ◌∙◌, ap, subst, arith}
use Rattle.std.proofs.lemmas.Bool.{false≢true}
use Rattle.std.proofs.lemmas.List.{append-nil}
use Rattle.p3_field.specs.Ring.{Ring}
use Rattle.p3_challenger.specs.Script.{ChallengerOf, Elements, NoValue, Played, Transcript, begun, passes, play, steps_of}
use Rattle.batch_transcript.specs.BatchScript.{Draws, Given, BatchShapeData, bindings_script, constraint_challenge_step, draws, draws_of, ground, is_positive, main_script, ood_script, pair_script, permutation_script, preprocessed_script, quotient_script, script_to_lookup, script_to_ood, script_to_opening, seeded, with_value}
use Rattle.batch_transcript.specs.Running.{Running, drawn_along}
use Rattle.batch_transcript.specs.Laws.Draws.{play-on, run-draws}
use Rattle.batch_transcript.specs.Laws.Phases.{play-degree_bits, play-publics, play-terminals}
use Rattle.batch_transcript.specs.Laws.Runs.{tells-tests}
use Rattle.law_honest.specs.HonestProof.{state_after_script, first_drawn}

-- there is a pair where instances have lookups, so many of them
abbrev pub IsPair : {E : Type 0} → ℕ → List E → Type 0
IsPair zero pair = pair ≡ []
IsPair {E = E} (suc n) pair = (a b : E) × (pair ≡ a ∷ b ∷ [])

-- what is read of the draws where so many instances have lookups: the pair, alpha, zeta, and the state at the opening
pub record ReadsDraws {S E : Type 0} (n : ℕ) (d : Draws S E) (pair : List E) (alpha zeta : E) (opening : S) : Type 0 where
  pub pair_is : is_positive n ≡ true → d.lookup_alpha ∷ d.lookup_beta ∷ [] ≡ pair
  pub none_is : n ≡ 0 → pair ≡ []
  pub alpha_is : d.alpha ≡ alpha
  pub zeta_is : d.zeta ≡ zeta
  pub opening_is : d.opening ≡ opening

read_draws : {S E : Type 0} (r : Ring E) (n : ℕ) (t : Transcript S E) (pair : List E) (alpha zeta : E) → IsPair n pair → t.challenges ≡ pair ++ alpha ∷ [] ++ [] ++ zeta ∷ []
    → ReadsDraws n (draws_of r n t) pair alpha zeta t.state
read_draws r zero t pair alpha zeta none e =
    let all : t.challenges ≡ alpha ∷ zeta ∷ [] = e ∙ ap (λ l. l ++ alpha ∷ [] ++ [] ++ zeta ∷ []) none in
    record {
      pair_is = λ h. absurd (false≢true h);
      none_is = λ h. none;
      alpha_is = ap (λ l. get_or l 0 r.zero) all;
      zeta_is = ap (λ l. get_or l 1 r.zero) all;
      opening_is = refl;
    }
read_draws r (suc n) t pair alpha zeta (a, b, two) e =
    let all : t.challenges ≡ a ∷ b ∷ alpha ∷ zeta ∷ [] = e ∙ ap (λ l. l ++ alpha ∷ [] ++ [] ++ zeta ∷ []) two in
    record {
      pair_is = λ h. (λ i. get_or (all i) 0 r.zero ∷ get_or (all i) 1 r.zero ∷ []) ∙ sym two;
      none_is = λ h. absurd (omega (arith, h));
      alpha_is = ap (λ l. get_or l 2 r.zero) all;
      zeta_is = ap (λ l. get_or l 3 r.zero) all;
      opening_is = refl;
    }

module _ {S F E M : Type 0} (c : ChallengerOf S F E M) where
  pub state_after_append : (s : S) (ps qs : List (Played F E M)) → state_after_script c s (ps ++ qs) ≡ state_after_script c (state_after_script c s ps) qs
  state_after_append s ps qs = ap (λ t. t.state) (play-on c s ps qs)

  drawn_append : (s : S) (ps qs : List (Played F E M)) → drawn_along c s (ps ++ qs) ≡ drawn_along c s ps ++ drawn_along c (state_after_script c s ps) qs
  drawn_append s ps qs = ap (λ t. t.challenges) (play-on c s ps qs)

  -- nothing is drawn before the pair, nor at the quotient
  no_bindings : (r : Ring E) (d : ℕ) (ns : List ℕ) (s : S) → drawn_along c s (bindings_script r d ns) ≡ []
  unfolding bindings_script
  no_bindings r d ns s = ap (λ t. t.challenges) (play-degree_bits c r d ns (begun E s))

  no_main : (m : M) (vs : List (List F)) (s : S) → drawn_along c s (main_script m vs) ≡ []
  unfolding main_script play
  no_main m vs s = ap (λ t. t.challenges) (play-publics c vs (record (begun E s) { state = c.observe_opaque s m }))

  no_preprocessed : (o : Option M) (s : S) → drawn_along c s (preprocessed_script o) ≡ []
  unfolding preprocessed_script play
  no_preprocessed None s = refl
  no_preprocessed (Some m) s = refl

  no_quotient : (q : M) (o : Option M) (s : S) → drawn_along c s (quotient_script q o) ≡ []
  unfolding quotient_script play
  no_quotient q None s = refl
  no_quotient q (Some m) s = refl

  none_first : (r : Ring E) (d : ℕ) (g : Given F E M) (s : S) → drawn_along c s (script_to_lookup r d g) ≡ []
  none_first r d g s =
      let s1 = bindings_script r d g.degree_bits in
      let s2 = main_script g.main g.publics in
      let s3 = preprocessed_script g.preprocessed in
      let e : drawn_along c s (s1 ++ s2) ≡ [] = drawn_append s s1 s2 ∙ (λ i. no_bindings r d g.degree_bits s i ++ no_main g.main g.publics (state_after_script c s s1) i) in
      drawn_append s (s1 ++ s2) s3 ∙ (λ i. e i ++ no_preprocessed g.preprocessed (state_after_script c s (s1 ++ s2)) i)

  -- the pair is drawn where instances have lookups
  pub one_pair : (d n bits : ℕ) (w : Option F) (s : S) → IsPair n (drawn_along c s (pair_script d n bits w))
  unfolding pair_script play
  one_pair d zero bits w s = refl
  one_pair d (suc n) bits w s = (_, _, refl)

  -- one challenge is drawn after the terminals, and one after the grinding
  one_alpha : (d : ℕ) (o : Option M) (ts : List E) (z : E) (s : S) → drawn_along c s (permutation_script d o ts) ≡ first_drawn c z s (permutation_script d o ts) ∷ []
  unfolding permutation_script play
  one_alpha d None ts z s =
      let e = ap (λ t. t.challenges) (play-terminals c d ts (with_value (constraint_challenge_step d) NoValue ∷ []) (begun E s)) in e ∙ ap (λ l. get_or l 0 z ∷ []) (sym e)
  one_alpha d (Some m) ts z s =
      let e = ap (λ t. t.challenges) (play-terminals c d ts (with_value (constraint_challenge_step d) NoValue ∷ []) (record (begun E s) { state = c.observe_opaque s m })) in e ∙ ap (λ l. get_or l 0 z ∷ []) (sym e)

  one_zeta : (d bits : ℕ) (w : F) (z : E) (s : S) → drawn_along c s (ood_script d bits w) ≡ first_drawn c z s (ood_script d bits w) ∷ []
  unfolding ood_script play
  one_zeta d bits w z s = refl

  module _ (f : Ring F) (r : Ring E) (d : ℕ) (initial : S) (s : BatchShapeData) (g : Given F E M) where
    -- the states at the pair, at the permutation, at the quotient, and at the grinding before zeta
    abbrev pub at_pair : S
    at_pair = state_after_script c (seeded c f d s initial) (script_to_lookup r d g)

    abbrev pub pair_of : List (Played F E M)
    pair_of = pair_script d s.num_lookup_instances s.lookup_pow_bits g.lookup_witness

    abbrev pub at_permutation : S
    at_permutation = state_after_script c at_pair pair_of

    abbrev pub alpha_of : List (Played F E M)
    alpha_of = permutation_script d g.permutation g.terminals

    abbrev pub at_quotient : S
    at_quotient = state_after_script c at_permutation alpha_of

    abbrev pub at_ood : S
    at_ood = state_after_script c at_quotient (quotient_script g.quotient g.randomization)

    abbrev pub zeta_of : List (Played F E M)
    zeta_of = ood_script d s.ood_pow_bits g.ood_witness

    abbrev start : S
    start = seeded c f d s initial

    state_then : state_after_script c start (script_to_ood r d s g) ≡ at_ood
    state_then =
        let s1 = script_to_lookup r d g in
        state_after_append start (s1 ++ pair_of ++ alpha_of) (quotient_script g.quotient g.randomization)
        ∙ ap (λ x. state_after_script c x (quotient_script g.quotient g.randomization)) (state_after_append start (s1 ++ pair_of) alpha_of ∙ ap (λ x. state_after_script c x alpha_of) (state_after_append start s1 pair_of))

    all_drawn : drawn_along c start (script_to_opening r d s g)
        ≡ drawn_along c at_pair pair_of ++ first_drawn c r.zero at_permutation alpha_of ∷ [] ++ [] ++ first_drawn c r.zero at_ood zeta_of ∷ []
    all_drawn =
        let s1 = script_to_lookup r d g in
        let q = quotient_script g.quotient g.randomization in
        let pair = drawn_along c at_pair pair_of in
        let alpha = first_drawn c r.zero at_permutation alpha_of in
        let e4 : drawn_along c start (s1 ++ pair_of) ≡ pair = drawn_append start s1 pair_of ∙ ap (λ l. l ++ pair) (none_first r d g start) in
        let b4 : state_after_script c start (s1 ++ pair_of) ≡ at_permutation = state_after_append start s1 pair_of in
        let e5 : drawn_along c start (s1 ++ pair_of ++ alpha_of) ≡ pair ++ alpha ∷ [] =
        drawn_append start (s1 ++ pair_of) alpha_of
        ∙ (λ i. e4 i ++ drawn_along c (b4 i) alpha_of) ∙ ap (λ l. pair ++ l) (one_alpha d g.permutation g.terminals r.zero at_permutation) in
        let e6 : drawn_along c start (script_to_ood r d s g) ≡ pair ++ alpha ∷ [] ++ [] =
        drawn_append start (s1 ++ pair_of ++ alpha_of) q ∙ (λ i. e5 i ++ no_quotient g.quotient g.randomization (state_after_script c start (s1 ++ pair_of ++ alpha_of)) i) in
        drawn_append start (script_to_ood r d s g) zeta_of
        ∙ (λ i. e6 i ++ drawn_along c (state_then i) zeta_of)
        ∙ ap (λ l. pair ++ alpha ∷ [] ++ [] ++ l) (one_zeta d s.ood_pow_bits g.ood_witness r.zero at_ood)

    -- what is read of the script's draws are the draws of the stages
    pub staged : ReadsDraws s.num_lookup_instances (draws c f r d initial s g) (drawn_along c at_pair pair_of) (first_drawn c r.zero at_permutation alpha_of) (first_drawn c r.zero at_ood zeta_of) (state_after_script c at_ood zeta_of)
    staged =
        let front = script_to_opening r d s g in
        let x : Running S = record { state = start; remaining = steps_of front; shape = s } in
        let y : Running S = record { state = state_after_script c start front; remaining = []; shape = s } in
        let t : Transcript S E = record { state = state_after_script c start front; challenges = drawn_along c start front; passed = (play c (begun E start) front).passed } in
        let e : draws c f r d initial s g ≡ draws_of r s.num_lookup_instances t =
        run-draws c f r d initial s g x y (drawn_along c start front) refl (record { state = refl; challenges = refl; steps = sym (append-nil (steps_of front)); shape = refl }) in
        let state : state_after_script c start front ≡ state_after_script c at_ood zeta_of = state_after_append start (script_to_ood r d s g) zeta_of ∙ ap (λ z. state_after_script c z zeta_of) state_then in
        let pair = drawn_along c at_pair pair_of in
        let alpha = first_drawn c r.zero at_permutation alpha_of in
        let zeta = first_drawn c r.zero at_ood zeta_of in
        subst (λ o. ReadsDraws s.num_lookup_instances (draws c f r d initial s g) pair alpha zeta o) state
        (subst (λ o. ReadsDraws s.num_lookup_instances o pair alpha zeta (state_after_script c start front)) (sym e)
        (read_draws r s.num_lookup_instances t pair alpha zeta (one_pair d s.num_lookup_instances s.lookup_pow_bits g.lookup_witness at_pair) all_drawn))

    -- and the answers to the grinding values are the challenger's in the stages' states
    pub staged_ood : (draws c f r d initial s g).ood_passed ≡ passes c at_ood s.ood_pow_bits (Elements (g.ood_witness ∷ []))
    staged_ood =
        let front = script_to_ood r d s g in
        let x : Running S = record { state = start; remaining = steps_of front; shape = s } in
        let y : Running S = record { state = state_after_script c start front; remaining = []; shape = s } in
        (tells-tests c f r d initial s g).ood x y (drawn_along c start front) refl (record { state = refl; challenges = refl; steps = sym (append-nil (steps_of front)); shape = refl })
        ∙ ap (λ z. passes c z s.ood_pow_bits (Elements (g.ood_witness ∷ []))) state_then

    pub staged_pair : is_positive s.num_lookup_instances ≡ true → (draws c f r d initial s g).lookup_passed ≡ passes c at_pair s.lookup_pow_bits (ground g.lookup_witness)
    staged_pair positive =
        let front = script_to_lookup r d g in
        let x : Running S = record { state = start; remaining = steps_of front; shape = s } in
        let y : Running S = record { state = state_after_script c start front; remaining = []; shape = s } in
        (tells-tests c f r d initial s g).lookup x y (drawn_along c start front) refl (record { state = refl; challenges = refl; steps = sym (append-nil (steps_of front)); shape = refl }) positive
