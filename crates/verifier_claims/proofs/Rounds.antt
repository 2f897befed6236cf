-- The rounds of claims one after another.
use Rattle.std.proofs.Common.{◌≡◌, ℕ, List, ◌++◌, Option, Some, length, sym, ◌∙◌, ap, subst}
use Rattle.std.specs.List.{flat_map}
use Rattle.p3_field.specs.Ring.{Ring}
use Rattle.p3_field.specs.Poly.{tabulate}
use Rattle.p3_field.specs.Domain.{CosetData}
use Rattle.air_core.specs.Shape.{Declaration}
use Rattle.commit_core.specs.Claims.{CommitmentClaim}
use Rattle.batch_statement.specs.declared.commitments.BatchCommitments.{BatchCommitments}
use Rattle.verifier_claims.specs.ClaimChecks.{AreSized}
use Rattle.batch_config.specs.Domains.{next_by}
use Rattle.verifier_claims.specs.Claims.{claims_of_round, random_claim, main_claim, chunk_claims, preprocessed_matrix_claim, permutation_claims, claims_by}
use Rattle.batch_statement.specs.Proof.{OpenedWithLookups}

-- lists that grow by five
pub five_joined : {X : Type 0} (a b c d e v w x y z : List X) → v ≡ a → w ≡ v ++ b → x ≡ w ++ c → y ≡ x ++ d → z ≡ y ++ e → z ≡ a ++ b ++ c ++ d ++ e
five_joined a b c d e v w x y z p q r s t = t ∙ ap (λ l. l ++ e) (s ∙ ap (λ l. l ++ d) (r ∙ ap (λ l. l ++ c) (q ∙ ap (λ l. l ++ b) p)))

-- all rounds, where the lists have these lengths
pub rounds_are : {F E C : Type 0} (r : Ring F) (zeta : E) (after : ℕ → E) (masks : ℕ) (domains : List (List (CosetData F)))
    (declarations : List (Declaration F)) (commitments : BatchCommitments C) (preprocessed : Option C) (matrices : List ℕ) (degree_bits : List ℕ) (instances : List (OpenedWithLookups E))
    (m n k : ℕ) (v w x y z : List (CommitmentClaim E C (CosetData F)))
    → m ≡ length declarations → n ≡ length declarations → k ≡ length declarations
    → v ≡ claims_of_round commitments.random (tabulate m (random_claim r zeta degree_bits instances))
    → w ≡ v ++ claims_of_round (Some commitments.main) (tabulate n (main_claim r zeta after declarations degree_bits instances))
    → x ≡ w ++ claims_of_round (Some commitments.quotient_chunks) (flat_map (chunk_claims r zeta masks domains instances) (tabulate k (λ i. i)))
    → y ≡ x ++ claims_of_round preprocessed (tabulate (length matrices) (preprocessed_matrix_claim r zeta after declarations degree_bits instances matrices))
    → z ≡ y ++ claims_of_round commitments.permutation (flat_map (permutation_claims r zeta after degree_bits instances) (tabulate m (λ i. i)))
    → z ≡ claims_by r zeta after masks domains declarations commitments preprocessed matrices degree_bits instances
unfolding claims_by
rounds_are r zeta after masks domains declarations commitments preprocessed matrices degree_bits instances m n k v w x y z a b c p q s t u =
    five_joined
    (claims_of_round commitments.random (tabulate (length declarations) (random_claim r zeta degree_bits instances)))
    (claims_of_round (Some commitments.main) (tabulate (length declarations) (main_claim r zeta after declarations degree_bits instances)))
    (claims_of_round (Some commitments.quotient_chunks) (flat_map (chunk_claims r zeta masks domains instances) (tabulate (length declarations) (λ i. i))))
    (claims_of_round preprocessed (tabulate (length matrices) (preprocessed_matrix_claim r zeta after declarations degree_bits instances matrices)))
    (claims_of_round commitments.permutation (flat_map (permutation_claims r zeta after degree_bits instances) (tabulate (length declarations) (λ i. i))))
    v w x y z
    (p ∙ ap (λ l. claims_of_round commitments.random (tabulate l (random_claim r zeta degree_bits instances))) a)
    (q ∙ ap (λ l. v ++ claims_of_round (Some commitments.main) (tabulate l (main_claim r zeta after declarations degree_bits instances))) b)
    (s ∙ ap (λ l. w ++ claims_of_round (Some commitments.quotient_chunks) (flat_map (chunk_claims r zeta masks domains instances) (tabulate l (λ i. i)))) c)
    t
    (u ∙ ap (λ l. y ++ claims_of_round commitments.permutation (flat_map (permutation_claims r zeta after degree_bits instances) (tabulate l (λ i. i)))) a)

-- the same claims, of lists that are equal
pub claims_agree : {F E C : Type 0} (r : Ring F) (zeta : E) (t : Ring E) (embed : F → E) (root : ℕ → F) (declarations : List (Declaration F)) (degree_bits : List ℕ)
    (made : List (CommitmentClaim E C (CosetData F)))
    (m n : ℕ) (d e : List (List (CosetData F))) (k l : BatchCommitments C) (s u : Option C) (x y : List ℕ) (v w : List (OpenedWithLookups E))
    → m ≡ n → d ≡ e → k ≡ l → s ≡ u → x ≡ y → v ≡ w
    → made ≡ claims_by r zeta (next_by t embed root m zeta) m d declarations k s x degree_bits v
    → made ≡ claims_by r zeta (next_by t embed root n zeta) n e declarations l u y degree_bits w
claims_agree r zeta t embed root declarations degree_bits made m n d e k l s u x y v w a b c f g h z =
    z ∙ (λ i. claims_by r zeta (next_by t embed root (a i) zeta) (a i) (b i) declarations (c i) (f i) (g i) degree_bits (h i))

-- what the checks leave, of lists that are equal
pub sized_agree : {F E : Type 0} (two n : ℕ) (degree_bits : List ℕ) (a b : ℕ) (v w : List (OpenedWithLookups E)) (d e : List (List (CosetData F)))
    → b ≡ a → w ≡ v → e ≡ d → AreSized a two n degree_bits v d → AreSized b two n degree_bits w e
sized_agree two n degree_bits a b v w d e p q r z =
    subst (λ k. AreSized k two n degree_bits w e) (sym p) (subst (λ k. AreSized a two n degree_bits k e) (sym q) (subst (λ k. AreSized a two n degree_bits v k) (sym r) z))

-- a table of as many items
pub tabulate_until : {X : Type 0} (t : ℕ → X) (n m : ℕ) (d : List X) → n ≡ m → d ≡ tabulate n t → d ≡ tabulate m t
tabulate_until t n m d e h = h ∙ ap (λ k. tabulate k t) e
