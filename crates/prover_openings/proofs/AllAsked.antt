-- All requests, one after the other.
use Rattle.std.proofs.Common.{◌≡◌, ℕ, List, [], ◌∷◌, ◌++◌, length, get_or, map, Some, Result, Ok, Err, sym, ◌∙◌, ap}
use Rattle.std.specs.Prelude.{IfOk, option_to_list}
use Rattle.std.specs.List.{flat_map}
use Rattle.std.proofs.lemmas.List.{length-map}
use Rattle.p3_field.specs.Poly.{tabulate}
use Rattle.air_core.specs.Shape.{Declaration}
use Rattle.commit_core.specs.Claims.{Request}
use Rattle.p3_lookup.specs.Written.{Written, read_all}
use Rattle.verifier_claims.specs.Claims.{matrix_tables}
use Rattle.batch_statement.specs.Words.{bits_at, declared_at}
use Rattle.batch_setup.specs.Setup.{Instance}
use Rattle.batch_statement.specs.Statement.{WrittenCommon}
use Rattle.law_acceptance.specs.Rounds.{points_with}
use Rattle.law_honest.specs.HonestProof.{where_some}
use Rattle.prover_openings.specs.Asked.{RoundsProverData, asked, plan_of, request_where}

pub if_ok_more : {T X : Type 0} (P Q : T → Type 0) (r : Result T X) → ((v : T) → P v → Q v) → IfOk r P → IfOk r Q
if_ok_more P Q (Ok v) more h = more v h
if_ok_more P Q (Err e) more h = tt

module _ {A F E C D : Type 0} (declaration : A → Declaration F) (instances : List (Instance A F)) (common : WrittenCommon F C) (degree_bits chunk_counts : List ℕ) (x : E) (after : ℕ → E) (kept : RoundsProverData D) where
  abbrev n : ℕ
  n = length instances

  abbrev declarations : List (Declaration F)
  declarations = map (λ i. declaration i.air) instances

  long : n ≡ length declarations
  long = sym (length-map instances (λ (i : Instance A F). declaration i.air))

  abbrev main_of : ℕ → List E
  main_of i = points_with (declared_at declarations i).main_next x (after (bits_at degree_bits i))

  abbrev preprocessed_of : List ℕ → ℕ → List E
  preprocessed_of ms m = let i = get_or ms m 0 in points_with (declared_at declarations i).preprocessed_next x (after (bits_at degree_bits i))

  abbrev chunks_of : ℕ → List (List E)
  chunks_of i = tabulate (get_or chunk_counts i 0) (λ j. x ∷ [])

  abbrev permutation_of : List (List (Written F)) → ℕ → List (List E)
  permutation_of ls i = option_to_list (where_some (get_or (map read_all ls) i []) (x ∷ after (bits_at degree_bits i) ∷ []))

  pub all_asked : (m q p l : List (List E)) (r0 r1 r2 r3 r4 : List (Request D E)) (ms : List ℕ) (ls : List (List (Written F))) → ms ≡ matrix_tables common.preprocessed → ls ≡ common.lookups → m ≡ tabulate n main_of
      → length chunk_counts ≡ n → q ≡ flat_map chunks_of (tabulate (length chunk_counts) (λ i. i)) → p ≡ tabulate (length ms) (preprocessed_of ms)
      → length common.lookups ≡ n → l ≡ flat_map (permutation_of ls) (tabulate (length ls) (λ i. i))
      → r0 ≡ [] → r1 ≡ r0 ++ request_where (Some kept.main) m → r2 ≡ r1 ++ request_where (Some kept.quotient) q → r3 ≡ r2 ++ request_where kept.preprocessed p → r4 ≡ r3 ++ request_where kept.permutation l
      → r4 ≡ asked (plan_of declaration instances common degree_bits chunk_counts) x after kept
  all_asked m q p l r0 r1 r2 r3 r4 ms ls ems els em cl eq ep ll el e0 e1 e2 e3 e4 =
      let m' = em ∙ ap (λ k. tabulate k main_of) long in
      let q' = eq ∙ ap (λ k. flat_map chunks_of (tabulate k (λ i. i))) (cl ∙ long) in
      let p' = ep ∙ (λ j. tabulate (length (ems j)) (preprocessed_of (ems j))) in
      let l' = el ∙ ((λ j. flat_map (permutation_of (els j)) (tabulate (length (els j)) (λ i. i))) ∙ ap (λ k. flat_map (permutation_of common.lookups) (tabulate k (λ i. i))) (ll ∙ long)) in
      let a1 = e1 ∙ (λ j. e0 j ++ request_where (Some kept.main) (m' j)) in
      let a2 = e2 ∙ (λ j. a1 j ++ request_where (Some kept.quotient) (q' j)) in
      let a3 = e3 ∙ (λ j. a2 j ++ request_where kept.preprocessed (p' j)) in
      e4 ∙ (λ j. a3 j ++ request_where kept.permutation (l' j))
