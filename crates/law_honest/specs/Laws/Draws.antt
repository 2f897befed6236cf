-- What a verifier draws along an honest proof are the draws by which it was made.
use Rattle.std.proofs.Common.{◌≡◌, ℕ, zero, suc, ◌*◌, ◌<◌, true, List, [], ◌∷◌, length, get_or, Option, refl, sym, ◌∙◌, ap, arith}
use Rattle.std.specs.Prelude.{count_by}
use Rattle.p3_challenger.specs.Script.{Elements, passes}
use Rattle.p3_matrix.specs.Matrix.{Rows}
use Rattle.batch_transcript.specs.BatchScript.{Draws, ground, is_positive}
use Rattle.batch_transcript.specs.Buses.{batch_layout}
use Rattle.batch_config.specs.Setting.{Setting}
use Rattle.batch_statement.specs.Statement.{Statement}
use Rattle.batch_statement.specs.Words.{has_some}
use Rattle.verifier_draws.specs.Draws.{drawn, drawn_pair, given_of, table_challenges}
use Rattle.verifier_draws.specs.Laws.Challenges.{challenge_count}
use Rattle.law_valid.specs.Traced.{traced_at}
use Rattle.law_valid.specs.Valid.{IsTracedBatch}
use Rattle.law_honest.specs.HonestProof.{Prover, alpha, challenges_at, honest_proof, opening_state, pair, shape, state_at_ood, state_at_pair, state_at_permutation, state_at_quotient, zeta}
use Rattle.law_honest.specs.Laws.Staged.{ReadsDraws, staged, staged_ood, staged_pair}

-- the pair that is read of draws
read_pair : {S E : Type 0} (n : ℕ) (d : Draws S E) (drawn_pair_is : List E) (a b : E) (state : S) → ReadsDraws n d drawn_pair_is a b state → drawn_pair n d ≡ drawn_pair_is
read_pair zero d two a b state R = sym (R.none_is refl)
read_pair (suc n) d two a b state R = R.pair_is refl

module _ {S F E C P : Type 0} (c : Setting S F E C) (p : Prover F E C) (s : Statement F C) (traces : List (Rows F)) (degree_bits : List ℕ) (w : Option F) (z : F) (opening : P) where
  -- what a verifier draws along it
  abbrev pub drawn_along_it : Draws S E
  drawn_along_it =
      drawn c.challenger c.field.ring c.extension.ring c.extension.dimension c.initial c.version c.zk c.lookup_bits c.ood_bits s (honest_proof c p s traces degree_bits w z opening)

  pub reads_stages : ReadsDraws (count_by has_some s.common.lookups) drawn_along_it (pair c p s traces degree_bits w) (alpha c p s traces degree_bits w) (zeta c p s traces degree_bits w z) (opening_state c p s traces degree_bits w z)
  unfolding drawn honest_proof pair state_at_pair state_at_permutation alpha state_at_quotient state_at_ood zeta opening_state
  reads_stages = staged c.challenger c.field.ring c.extension.ring c.extension.dimension c.initial (shape c p s traces degree_bits) (given_of s (honest_proof c p s traces degree_bits w z opening))

  pub same_challenges : (i : ℕ) → table_challenges c.extension.ring drawn_along_it s i ≡ challenges_at c p s traces degree_bits w i
  same_challenges i =
      ap (λ l. get_or (batch_layout c.extension.ring l s.common.lookups) i [])
      (read_pair (count_by has_some s.common.lookups) drawn_along_it (pair c p s traces degree_bits w) (alpha c p s traces degree_bits w) (zeta c p s traces degree_bits w z) (opening_state c p s traces degree_bits w z) reads_stages)

  -- its answers to the grinding values are those in the states where they were found
  pub same_ood : drawn_along_it.ood_passed ≡ passes c.challenger (state_at_ood c p s traces degree_bits w) c.ood_bits (Elements (z ∷ []))
  unfolding drawn honest_proof pair state_at_pair state_at_permutation alpha state_at_quotient state_at_ood
  same_ood = staged_ood c.challenger c.field.ring c.extension.ring c.extension.dimension c.initial (shape c p s traces degree_bits) (given_of s (honest_proof c p s traces degree_bits w z opening))

  pub same_lookup : is_positive (count_by has_some s.common.lookups) ≡ true → drawn_along_it.lookup_passed ≡ passes c.challenger (state_at_pair c p s traces degree_bits) c.lookup_bits (ground w)
  unfolding drawn honest_proof state_at_pair
  same_lookup h = staged_pair c.challenger c.field.ring c.extension.ring c.extension.dimension c.initial (shape c p s traces degree_bits) (given_of s (honest_proof c p s traces degree_bits w z opening)) h

module _ {S F E C : Type 0} (c : Setting S F E C) (p : Prover F E C) (s : Statement F C) (traces : List (Rows F)) (degree_bits : List ℕ) where
  -- a table of a traced batch has two challenges for each of its lookups
  pub challenges_count : IsTracedBatch c p.commitment_of s traces degree_bits → (w : Option F) (i : ℕ) → i < length s.tables
      → length (challenges_at c p s traces degree_bits w i) ≡ 2 * length (traced_at s traces degree_bits i).lookups
  challenges_count B w i h =
      let ls = s.common.lookups in
      let d = drawn_along_it {P = Unit {0}} c p s traces degree_bits w c.field.ring.zero tt in
      ap length (sym (same_challenges {P = Unit {0}} c p s traces degree_bits w c.field.ring.zero tt i))
      ∙ challenge_count c.extension.ring d ls (count_by has_some ls) i refl (let e = B.lists.lookups_long in omega (arith, h, e))
