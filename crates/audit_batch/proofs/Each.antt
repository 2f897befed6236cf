-- What is named of several things, by checks that are the same.
use Rattle.std.proofs.Common.{◌≡◌, ℕ, zero, suc, ◌+◌, ◌<◌, ◌≤◌, List, [], ◌++◌, All, length, get_or, Option, Some, ◌∙◌, ap, sym, subst, arith}
use Rattle.air_core.specs.Shape.{Declaration}
use Rattle.p3_field.specs.Domain.{CosetData}
use Rattle.p3_field.specs.Laws.Tabulate.{get_or-tabulate}
use Rattle.p3_field.specs.Poly.{tabulate}
use Rattle.p3_field.specs.Ring.{Ring}
use Rattle.p3_lookup.specs.Lookup.{LookupData}
use Rattle.batch_config.specs.Domains.{chunks_over}
use Rattle.batch_statement.specs.Statement.{AirTable, PreprocessedTracesData, WellFormed, WrittenCommon, read_common}
use Rattle.batch_statement.specs.Words.{bits_at}
use Rattle.batch_statement.specs.declared.error.BatchVerificationError.{BatchVerificationError}
use Rattle.verifier_claims.specs.ClaimChecks.{domain_by}
use Rattle.verifier_claims.specs.Claims.{matrix_tables}
use Rattle.verifier_claims.specs.Laws.Listed.{listed_below}
use Rattle.verifier_shape.specs.ShapeChecks.{HasEntries, log_chunks_at}
use Rattle.audit_batch.specs.Asked.{Asked, in_order, of_each}
use Rattle.audit_batch.specs.Named.{AreNamedAfter}
use Rattle.audit_batch.specs.Opened.{metadata_named}

-- of as many things, by checks that are the same
each_agree : {R : Type 0} (f g : ℕ → List (Asked R)) (n : ℕ) → ((i : ℕ) → i < n → f i ≡ g i) → of_each n f ≡ of_each n g
unfolding of_each
each_agree f g zero h = λ j. []
each_agree f g (suc n) h = let p = each_agree f g n (λ i b. h i (omega arith)) in let q = h n (omega arith) in λ j. p j ++ q j

-- the domains of the tables' quotients, by their degree bits and the numbers of their chunks
abbrev pub domains_named : {R : Type 0} → ℕ → (bits : List ℕ) → (chunks : ℕ → ℕ) → (most two_adicity : ℕ) → List (Asked (BatchVerificationError R))
domains_named n bits chunks most two_adicity = of_each n (λ i. in_order (domain_by i (bits_at bits i) (chunks i) most two_adicity))

pub domains_agree : {R : Type 0} (n m : ℕ) (bits own chunks : List ℕ) (counts : ℕ → ℕ) (most max two_adicity : ℕ) (a b : List (BatchVerificationError R))
    → n ≡ m → bits ≡ own → chunks ≡ tabulate m counts → most ≡ max
    → AreNamedAfter a (domains_named n bits (λ i. get_or chunks i 0) most two_adicity) b → AreNamedAfter a (domains_named m own counts max two_adicity) b
domains_agree {R} n m bits own chunks counts most max two_adicity a b en eb ec em h =
    let same : (i : ℕ) → i < m → get_or chunks i 0 ≡ counts i = λ i l. ap (λ x. get_or x i 0) ec ∙ get_or-tabulate m counts i 0 l in
    let moved : AreNamedAfter a (domains_named m own (λ i. get_or chunks i 0) max two_adicity) b =
    subst (λ qs. AreNamedAfter a qs b) (λ j. domains_named {R = R} (en j) (eb j) (λ i. get_or chunks i 0) (em j) two_adicity) h in
    subst (λ qs. AreNamedAfter a qs b)
    (each_agree (λ i. in_order (domain_by {R = R} i (bits_at own i) (get_or chunks i 0) max two_adicity)) (λ i. in_order (domain_by {R = R} i (bits_at own i) (counts i) max two_adicity)) m
    (λ i l. λ j. in_order (domain_by {R = R} i (bits_at own i) (same i l j) max two_adicity))) moved

pub metadata_agree : {C R : Type 0} (g h : Option (PreprocessedTracesData C)) (bits own : List ℕ) (a b : List (BatchVerificationError R)) → g ≡ h → bits ≡ own
    → AreNamedAfter a (metadata_named g bits) b → AreNamedAfter a (metadata_named h own) b
metadata_agree {R = R} g h bits own a b eg eb k = subst (λ qs. AreNamedAfter a qs b) (λ j. metadata_named {R = R} (eg j) (eb j)) k

-- the tables that preprocessed traces list, and their entries, where there are such traces
pub listed_here : {F C : Type 0} (ds : List (Declaration F)) (w : WrittenCommon F C) (n m : ℕ) (g : PreprocessedTracesData C) → WellFormed ds (read_common w) → length ds ≡ n → m ≡ n
    → w.preprocessed ≡ Some g → All (λ t. t < m) g.matrix_to_instance
listed_here ds w n m g h l e p =
    subst (λ o. All (λ t. t < m) (matrix_tables o)) p (subst (λ k. All (λ t. t < k) (matrix_tables w.preprocessed)) (sym e) (listed_below ds (read_common w) n h l))

pub entries_here : {C : Type 0} (n m : ℕ) (o : Option (PreprocessedTracesData C)) (g : PreprocessedTracesData C) → HasEntries n o → m ≡ n → o ≡ Some g → length g.instances ≡ m
entries_here n m o g h e p = let k : HasEntries n (Some g) = subst (HasEntries n) p h in k ∙ sym e

-- what is named of the claims, by lists that are those of statement and proof
pub claims_by_lists : {C R : Type 0} (n k : ℕ) (bits again own chunks : List ℕ) (counts : ℕ → ℕ) (most max two_adicity : ℕ) (g h : Option (PreprocessedTracesData C))
    (x m y : List (BatchVerificationError R)) → k ≡ n → length own ≡ k → bits ≡ own → again ≡ own → chunks ≡ tabulate n counts → most ≡ max → g ≡ h
    → AreNamedAfter x (domains_named (length bits) bits (λ i. get_or chunks i 0) most two_adicity) m → AreNamedAfter m (metadata_named g again) y
    → (m' : List (BatchVerificationError R)) × AreNamedAfter x (domains_named k own counts max two_adicity) m' × AreNamedAfter m' (metadata_named h own) y
claims_by_lists n k bits again own chunks counts most max two_adicity g h x m y en el eb ea ec em eg d e =
    (m, domains_agree (length bits) k bits own chunks counts most max two_adicity x m (ap length eb ∙ el) eb (ec ∙ ap (λ i. tabulate i counts) (sym en)) em d, metadata_agree g h again own m y eg ea e)

-- the domains of quotients' chunks, and that they fit, by a number of masking bits that is the same
module _ {F : Type 0} (r : Ring F) (tables : List (AirTable F)) (lookups : List (List (LookupData F))) (bits : List ℕ) (n m k : ℕ) where
  pub masked_domains : (root : ℕ → F) (generator : F) (ds : List (List (CosetData F))) → m ≡ k
      → ds ≡ tabulate n (λ i. chunks_over r root generator k (get_or bits i 0) (log_chunks_at r k tables lookups bits i))
      → ds ≡ tabulate n (λ i. chunks_over r root generator m (get_or bits i 0) (log_chunks_at r m tables lookups bits i))
  masked_domains root generator ds e h =
      subst (λ (j : ℕ). ds ≡ tabulate n (λ i. chunks_over r root generator j (get_or bits i 0) (log_chunks_at r j tables lookups bits i))) (sym e) h

  pub masked_fit : (most : ℕ) → m ≡ k → ((i : ℕ) → i < n → get_or bits i 0 + log_chunks_at r k tables lookups bits i ≤ most)
      → (i : ℕ) → i < n → get_or bits i 0 + log_chunks_at r m tables lookups bits i ≤ most
  masked_fit most e h = subst (λ (j : ℕ). (i : ℕ) → i < n → get_or bits i 0 + log_chunks_at r j tables lookups bits i ≤ most) (sym e) h
