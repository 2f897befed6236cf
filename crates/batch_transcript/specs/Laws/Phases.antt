-- What each phase's script does, in closed form, and its steps.
use Rattle.std.proofs.Common.{◌≡◌, ℕ, zero, suc, List, [], ◌∷◌, ◌++◌, length, map, refl, ap, sym, ◌∙◌, Option, Some, None, Vec, replicate}
use Rattle.std.specs.Prelude.{is_some, nat_lt}
use Rattle.std.proofs.Common.{arith, ◌<◌, ◌+◌, take, get_or, append_assoc}
use Rattle.std.proofs.lemmas.List.{take_more, map-append}
use Rattle.std.proofs.lemmas.Bool.Decides.{nat_tests}
use Rattle.std.proofs.lemmas.Simd.{map-map}
use Rattle.std.proofs.lemmas.List.Folds.{fold-map}
use Rattle.std.specs.List.{fold}
use Rattle.p3_field.specs.Ring.{Ring, of_nat}
use Rattle.p3_challenger.specs.Script.{ChallengerOf, Transcript, Played, NoValue, Elements, Extended, play, begun, steps_of}
use Rattle.p3_challenger.specs.declared.script.Interaction.{Interaction}
use Rattle.batch_transcript.specs.BatchScript.{bindings_script, main_script, permutation_script, degree_bits_step, main_commitment_step, public_values_step, lookup_terminal_step, permutation_commitment_step, constraint_challenge_step, only_with, permutation_steps, with_value, is_positive, pair_steps, lookup_pow_step, lookup_alpha_step, lookup_beta_step}
use Rattle.std.specs.Option.{option_map_or, option_copied}
use Rattle.std.specs.Borrow.{Bor}
use Rattle.std.specs.Prelude.{IsTrue}
use Rattle.p3_challenger.specs.States.{Playing, NextIs, IsStep, steps_after_next, played}
use Rattle.p3_challenger.specs.declared.script.InteractionKind.TheVariants.{Message}
use Rattle.batch_transcript.specs.Running.{Running, Plays, lists}

-- the same element for each item of two lists of one length
pub map-const : {A B C : Type 0} (z : C) (xs : List A) (ys : List B) → length xs ≡ length ys → map (λ _. z) xs ≡ map (λ _. z) ys
map-const z [] [] h = refl
map-const z [] (y ∷ ys) h = cc
map-const z (x ∷ xs) [] h = cc
map-const z (x ∷ xs) (y ∷ ys) h = let e : length xs ≡ length ys = cc in ap (λ l. z ∷ l) (map-const z xs ys e)

-- one more of it
pub map-const-more : {B : Type 0} (z : B) (xs : List ℕ) (i : ℕ) (out x y : List B) → i < length xs
    → x ≡ out ++ map (λ _. z) (take i xs) → y ≡ x ++ z ∷ [] → y ≡ out ++ map (λ _. z) (take (i + 1) xs)
map-const-more z xs i out x y h p q =
    q ∙ rw (p, append_assoc) (ap (λ l. out ++ l) (sym (ap (map (λ _. z)) (take_more xs i 0 h) ∙ map-append (λ _. z) (take i xs) (get_or xs i 0 ∷ []))))

-- a number that isn't zero is the next of one
pub next_of : (n : ℕ) → (n ≡ 0 → ⊥) → (k : ℕ) × (n ≡ suc k)
next_of zero h = absurd (h refl)
next_of (suc k) h = (k, refl)

-- a number is positive where it isn't zero
pub positive_is : (n : ℕ) → is_positive n ≡ nat_lt 0 n
positive_is zero = refl
positive_is (suc n) = sym (grind (arith, nat_tests))

-- the steps of the pair where instances have lookups
pub pair_cases : (d n bits : ℕ) → (n ≡ 0 → ⊥) → pair_steps d n bits ≡ lookup_pow_step bits ∷ lookup_alpha_step d ∷ lookup_beta_step d ∷ []
pair_cases d zero bits h = absurd (h refl)
pair_cases d (suc n) bits h = refl

pub permutation_cases : (d n : ℕ) → (n ≡ 0 → ⊥) → permutation_steps d n ≡ permutation_commitment_step ∷ replicate n (lookup_terminal_step d)
permutation_cases d zero h = absurd (h refl)
permutation_cases d (suc n) h = refl

-- as many terminals' steps
pub replicate-terminals : {E : Type 0} (d n : ℕ) (ts : List E) → length ts ≡ n → replicate n (lookup_terminal_step d) ≡ map (λ _. lookup_terminal_step d) ts
replicate-terminals d zero [] h = refl
replicate-terminals d zero (t ∷ ts) h = cc
replicate-terminals d (suc n) [] h = cc
replicate-terminals d (suc n) (t ∷ ts) h = let e : length ts ≡ n = cc in ap (λ l. lookup_terminal_step d ∷ l) (replicate-terminals d n ts e)

-- the steps of the permutation columns, by the commitment's presence and the terminals
pub permutation-steps : {M E : Type 0} (d n : ℕ) (o : Option M) (ts : List E) (rest : List Interaction) → is_some o ≡ is_positive n → length ts ≡ n
    → permutation_steps d n ++ rest ≡ only_with (is_some o) permutation_commitment_step ++ (map (λ _. lookup_terminal_step d) ts ++ rest)
permutation-steps d zero (Some m) ts rest h l = cc
permutation-steps d zero None [] rest h l = refl
permutation-steps d zero None (t ∷ ts) rest h l = cc
permutation-steps d (suc n) None ts rest h l = cc
permutation-steps d (suc n) (Some m) ts rest h l = ap (λ x. permutation_commitment_step ∷ (x ++ rest)) (replicate-terminals d (suc n) ts l)

-- a value that is behind a reference is there as it is
pub copied-some : {M : Type 0} (o : Option (Bor M)) → is_some (option_copied o) ≡ is_some o
copied-some None = refl
copied-some (Some m) = refl

pub state-if : {S M : Type 0} (f : M → S) (o : Option M) (p : Playing S) → (option_map_or (λ m. played p (f m)) o p).state ≡ option_map_or f o p.state
state-if f None p = refl
state-if f (Some m) p = refl

-- where a commitment is there, it is the next step
pub permutation-next : {M : Type 0} (d n : ℕ) (o : Option M) (rest : List Interaction) → is_some o ≡ is_positive n
    → IsTrue (is_some o) → NextIs (IsStep Message) (permutation_steps d n ++ rest)
permutation-next d zero (Some m) rest h t = cc
permutation-next d (suc n) (Some m) rest h t = (refl, refl)
permutation-next d n None rest h t = cc

-- what is left after it
pub permutation-after : {S M E : Type 0} (d n : ℕ) (o : Option M) (ts : List E) (rest : List Interaction) (p : Playing S) (f : M → S)
    → p.remaining ≡ permutation_steps d n ++ rest → is_some o ≡ is_positive n → length ts ≡ n
    → (option_map_or (λ m. played p (f m)) o p).remaining ≡ map (λ _. lookup_terminal_step d) ts ++ rest
permutation-after d zero (Some m) ts rest p f e h l = cc
permutation-after d (suc n) None ts rest p f e h l = cc
permutation-after d zero None [] rest p f e h l = e
permutation-after d zero None (t ∷ ts) rest p f e h l = cc
permutation-after d (suc n) (Some m) ts rest p f e h l = ap steps_after_next e ∙ ap (λ l. l ++ rest) (replicate-terminals d (suc n) ts l)

-- the steps of public values, by their numbers
pub publics-steps : {F A : Type 0} (vs : List (Vec F A)) (counts : List ℕ) → map length (lists vs) ≡ counts
    → map public_values_step counts ≡ map (λ (v : Vec F A). public_values_step (length v.items)) vs
publics-steps vs counts h =
    ap (map public_values_step) (sym h) ∙ map-map public_values_step length (lists vs) ∙ map-map (λ v. public_values_step (length v)) (λ v. v.items) vs

module _ {S F E M : Type 0} (c : ChallengerOf S F E M) where
  -- the state after degree bits, public values and terminals
  abbrev pub after_degree_bits : Ring E → S → List ℕ → S
  after_degree_bits r s ns = fold (λ t n. c.observe_extension t (of_nat r n)) s ns

  abbrev pub after_publics : S → List (List F) → S
  after_publics s vs = fold (λ t v. fold c.observe t v) s vs

  abbrev pub after_sealed : S → Option M → S
  after_sealed s m = option_map_or (c.observe_opaque s) m s

  abbrev pub after_terminals : S → List E → S
  after_terminals s ts = fold c.observe_extension s ts

  pub play-degree_bits : (r : Ring E) (d : ℕ) (ns : List ℕ) (t : Transcript S E)
      → play c t (map (λ n. with_value (degree_bits_step d) (Extended (of_nat r n))) ns) ≡ record t { state = after_degree_bits r t.state ns }
  unfolding play
  play-degree_bits r d [] t = refl
  play-degree_bits r d (n ∷ ns) t = play-degree_bits r d ns (record t { state = c.observe_extension t.state (of_nat r n) })

  pub play-publics : (vs : List (List F)) (t : Transcript S E)
      → play c t (map (λ v. with_value (public_values_step (length v)) (Elements v)) vs) ≡ record t { state = after_publics t.state vs }
  unfolding play
  play-publics [] t = refl
  play-publics (v ∷ vs) t = play-publics vs (record t { state = fold c.observe t.state v })

  pub play-terminals : (d : ℕ) (ts : List E) (ps : List (Played F E M)) (t : Transcript S E)
      → play c t (map (λ x. with_value (lookup_terminal_step d) (Extended x)) ts ++ ps) ≡ play c (record t { state = after_terminals t.state ts }) ps
  unfolding play
  play-terminals d [] ps t = refl
  play-terminals d (x ∷ ts) ps t = play-terminals d ts ps (record t { state = c.observe_extension t.state x })

  -- a phase of degree bits, by what it left
  pub plays-bindings : (r : Ring E) (d : ℕ) (ns : List ℕ) (old new : Running S)
      → new.state ≡ after_degree_bits r old.state ns
      → old.remaining ≡ map (λ _. degree_bits_step d) ns ++ new.remaining
      → new.shape ≡ old.shape
      → Plays c (bindings_script r d ns) old new []
  unfolding bindings_script
  plays-bindings r d ns old new state steps shape = record {
    state = state ∙ sym (ap (λ t. t.state) (play-degree_bits r d ns (begun E old.state)));
    challenges = sym (ap (λ t. t.challenges) (play-degree_bits r d ns (begun E old.state)));
    steps = steps ∙ ap (λ l. l ++ new.remaining) (sym (map-map (λ (p : Played F E M). p.step) (λ n. with_value (degree_bits_step d) (Extended (of_nat r n))) ns));
    shape = shape;
  }

  -- a phase of the main commitment and public values
  pub plays-main : {A : Type 0} (m : M) (vs : List (Vec F A)) (old new : Running S)
      → new.state ≡ fold (λ t v. fold c.observe t v.items) (c.observe_opaque old.state m) vs
      → old.remaining ≡ main_commitment_step ∷ (map (λ v. public_values_step (length v.items)) vs ++ new.remaining)
      → new.shape ≡ old.shape
      → Plays c (main_script m (lists vs)) old new []
  unfolding main_script play
  plays-main m vs old new state steps shape =
      let begin = record (begun E old.state) { state = c.observe_opaque old.state m } in
      let e = play-publics (lists vs) begin in record {
        state = state ∙ sym (fold-map (λ t v. fold c.observe t v) (λ v. v.items) begin.state vs) ∙ sym (ap (λ t. t.state) e);
        challenges = sym (ap (λ t. t.challenges) e);
        steps = steps ∙ ap (λ l. main_commitment_step ∷ (l ++ new.remaining)) (
            sym (map-map (λ v. public_values_step (length v)) (λ v. v.items) vs)
            ∙ sym (map-map (λ (p : Played F E M). p.step) (λ v. with_value (public_values_step (length v)) (Elements v)) (lists vs)));
        shape = shape;
      }

  -- its steps
  terminals-steps : (d : ℕ) (ts : List E) (rest : List Interaction)
      → map (λ _. lookup_terminal_step d) ts ++ constraint_challenge_step d ∷ rest
      ≡ steps_of (map (λ x. with_value {F = F} {M = M} (lookup_terminal_step d) (Extended x)) ts ++ with_value (constraint_challenge_step d) NoValue ∷ []) ++ rest
  terminals-steps d [] rest = refl
  terminals-steps d (x ∷ ts) rest = ap (λ l. lookup_terminal_step d ∷ l) (terminals-steps d ts rest)

  -- a phase of permutation columns: a commitment where there is one, terminals, and alpha
  pub plays-permutation : (d : ℕ) (m : Option M) (ts : List E) (old new : Running S) (alpha : E)
      → new.state ≡ c.after_draw (after_terminals (after_sealed old.state m) ts)
      → alpha ≡ c.draw (after_terminals (after_sealed old.state m) ts)
      → old.remaining ≡ only_with (is_some m) permutation_commitment_step ++ (map (λ _. lookup_terminal_step d) ts ++ constraint_challenge_step d ∷ new.remaining)
      → new.shape ≡ old.shape
      → Plays c (permutation_script d m ts) old new (alpha ∷ [])
  unfolding permutation_script play
  plays-permutation d None ts old new alpha state drawn steps shape =
      let last : List (Played F E M) = with_value (constraint_challenge_step d) NoValue ∷ [] in
      let e = play-terminals d ts last (begun E old.state) in record {
        state = state ∙ sym (ap (λ t. t.state) e);
        challenges = ap (λ x. x ∷ []) drawn ∙ sym (ap (λ t. t.challenges) e);
        steps = steps ∙ terminals-steps d ts new.remaining;
        shape = shape;
      }
  plays-permutation d (Some m) ts old new alpha state drawn steps shape =
      let last : List (Played F E M) = with_value (constraint_challenge_step d) NoValue ∷ [] in
      let e = play-terminals d ts last (record (begun E old.state) { state = c.observe_opaque old.state m }) in record {
        state = state ∙ sym (ap (λ t. t.state) e);
        challenges = ap (λ x. x ∷ []) drawn ∙ sym (ap (λ t. t.challenges) e);
        steps = steps ∙ ap (λ l. permutation_commitment_step ∷ l) (terminals-steps d ts new.remaining);
        shape = shape;
      }
