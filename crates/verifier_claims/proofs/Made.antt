-- The checks of the call that makes the claims, part by part.
use Rattle.std.proofs.Common.{◌≡◌, ℕ, ◌+◌, ◌-◌, ◌^◌, ◌<◌, ◌≤◌, List, [], ◌++◌, All, Result, Err, length, get_or, sym, ◌∙◌, ap, subst, arith}
use Rattle.std.proofs.lemmas.List.Elements.{All-from_get_or}
use Rattle.p3_field.specs.Checks.{Check, NoneFails, FirstFails, in_turn}
use Rattle.p3_field.specs.Domain.{CosetData, point, subgroup}
use Rattle.p3_field.specs.Laws.Checks.{first_stops, none_append, none_at, none_before, none_after}
use Rattle.p3_field.specs.Laws.Tabulate.{get_or-tabulate, length-tabulate}
use Rattle.p3_field.specs.Poly.{tabulate}
use Rattle.p3_field.specs.Ring.{Ring}
use Rattle.verifier_claims.specs.ClaimChecks.{HaveClaimLengths, AreSized, bits_between, degree_bits_of, chunks_counted, counts_of, first_made, listed_of, made_by, matrices_of, nexts_of, random_of, permutation_rows_of, sizes_fit, sizes_of}
use Rattle.verifier_claims.specs.Claims.{Claimed, chunk_domains_at}
use Rattle.batch_statement.specs.Words.{bits_at, instance_at}
use Rattle.batch_config.specs.Domains.{chunks_over, offered}
use Rattle.verifier_shape.specs.Laws.Verdicts.{decided_after, first_of_four, second_of_four, third_of_four, last_of_four}
use Rattle.batch_statement.specs.Verdict.{IsDecided}
use Rattle.batch_statement.specs.declared.error.BatchVerificationError.{BatchVerificationError}

-- lists of checks in turn, up to a number that is given otherwise
pub fails_until : {R : Type 0} (f : ℕ → List (Check R)) (i n : ℕ) (e : R) → i ≡ n → FirstFails (in_turn i f) e → FirstFails (in_turn n f) e
fails_until f i n e p h = subst (λ m. FirstFails (in_turn m f) e) p h

pub decided_until : {T R : Type 0} (f : ℕ → List (Check R)) (i n : ℕ) (r : Result T R) → i ≡ n → IsDecided (in_turn i f) r → IsDecided (in_turn n f) r
decided_until f i n r p h = subst (λ m. IsDecided (in_turn m f) r) p h

pub lists_fit : {F E C : Type 0} (R : Type 0) (q : Claimed F E C) (widths : List ℕ) → NoneFails (listed_of q {R = R} widths)
    → HaveClaimLengths (length q.declarations) q.preprocessed (length q.instances) (length q.degree_bits) (length widths) (length q.log_chunks)
unfolding NoneFails
lists_fit R q widths h = h.0

pub made_listed : {F E C R : Type 0} (least most : ℕ) (q : Claimed F E C) (widths : List ℕ) (e : BatchVerificationError R)
    → FirstFails (listed_of q {R = R} widths) e → FirstFails (first_made {R = R} least most q widths) e
unfolding first_made
made_listed {R = R} least most q widths e v = first_of_four (listed_of q {R = R} widths) (degree_bits_of q {R = R} least most) (random_of q {R = R}) (nexts_of q {R = R}) e v

pub made_bits : {F E C R : Type 0} (least most : ℕ) (q : Claimed F E C) (widths : List ℕ) (e : BatchVerificationError R)
    → NoneFails (listed_of q {R = R} widths) → FirstFails (degree_bits_of q {R = R} least most) e → FirstFails (first_made {R = R} least most q widths) e
unfolding first_made
made_bits {R = R} least most q widths e a v = second_of_four (listed_of q {R = R} widths) (degree_bits_of q {R = R} least most) (random_of q {R = R}) (nexts_of q {R = R}) e a v

pub made_random : {F E C R : Type 0} (least most : ℕ) (q : Claimed F E C) (widths : List ℕ) (e : BatchVerificationError R)
    → NoneFails (listed_of q {R = R} widths) → NoneFails (degree_bits_of q {R = R} least most) → FirstFails (random_of q {R = R}) e → FirstFails (first_made {R = R} least most q widths) e
unfolding first_made
made_random {R = R} least most q widths e a b v = third_of_four (listed_of q {R = R} widths) (degree_bits_of q {R = R} least most) (random_of q {R = R}) (nexts_of q {R = R}) e a b v

pub made_nexts : {T F E C R : Type 0} (least most : ℕ) (q : Claimed F E C) (widths : List ℕ) (r : Result T (BatchVerificationError R))
    → NoneFails (listed_of q {R = R} widths) → NoneFails (degree_bits_of q {R = R} least most) → NoneFails (random_of q {R = R}) → IsDecided (nexts_of q {R = R}) r → IsDecided (first_made {R = R} least most q widths) r
unfolding first_made
made_nexts {R = R} least most q widths r a b d v = last_of_four (listed_of q {R = R} widths) (degree_bits_of q {R = R} least most) (random_of q {R = R}) (nexts_of q {R = R}) r a b d v

-- what the first checks say
pub first_lists : {F E C : Type 0} (R : Type 0) (least most : ℕ) (q : Claimed F E C) (widths : List ℕ) → NoneFails (first_made {R = R} least most q widths)
    → HaveClaimLengths (length q.declarations) q.preprocessed (length q.instances) (length q.degree_bits) (length widths) (length q.log_chunks)
unfolding first_made
first_lists R least most q widths h =
    let a = listed_of q {R = R} widths in
    let b = degree_bits_of q {R = R} least most in
    let d = random_of q {R = R} in
    lists_fit R q widths (none_before a b (none_before (a ++ b) d (none_before (a ++ b ++ d) (nexts_of q {R = R}) h)))

pub first_bits : {F E C : Type 0} (R : Type 0) (least most : ℕ) (q : Claimed F E C) (widths : List ℕ) → NoneFails (first_made {R = R} least most q widths)
    → (i : ℕ) → i < length q.declarations → (least ≤ bits_at q.degree_bits i) × (bits_at q.degree_bits i ≤ most)
unfolding first_made NoneFails
first_bits R least most q widths h i l =
    let a = listed_of q {R = R} widths in
    let b = degree_bits_of q {R = R} least most in
    let d = random_of q {R = R} in
    let k = none_at (bits_between {R = R} least most q.degree_bits) (length q.declarations) i l (none_after a b (none_before (a ++ b) d (none_before (a ++ b ++ d) (nexts_of q {R = R}) h))) in
    (k.0, k.1.0)

pub sizes_at : {F E C : Type 0} (R : Type 0) (masks most two_adicity : ℕ) (q : Claimed F E C) → NoneFails (sizes_of q {R = R} masks most two_adicity)
    → (i : ℕ) → i < length q.declarations
    → (get_or q.log_chunks i 0 + masks < 64) × (bits_at q.degree_bits i + get_or q.log_chunks i 0 < 64) × (bits_at q.degree_bits i + get_or q.log_chunks i 0 ≤ two_adicity)
unfolding NoneFails
sizes_at R masks most two_adicity q h i l = let k = none_at (sizes_fit {R = R} masks most two_adicity q.degree_bits q.log_chunks) (length q.declarations) i l h in (k.0, k.1.0, k.1.1.0)

pub counts_are : {F E C : Type 0} (R : Type 0) (masks : ℕ) (q : Claimed F E C) → NoneFails (counts_of q {R = R} masks)
    → (i : ℕ) → i < length q.declarations → length (instance_at q.instances i).base.quotient_chunks ≡ 2 ^ (get_or q.log_chunks i 0 + masks)
unfolding NoneFails
counts_are R masks q h i l = let k = none_at (chunks_counted {R = R} masks q.log_chunks q.instances) (length q.declarations) i l h in k.0

-- the parts of all checks
pub part_first : {F E C R : Type 0} (masks least most two : ℕ) (q : Claimed F E C) (w : List ℕ) (e : BatchVerificationError R)
    → FirstFails (first_made {R = R} least most q w) e → FirstFails (made_by {R = R} masks least most two q w) e
unfolding made_by
part_first {R = R} masks least most two q w e v =
    let a = first_made {R = R} least most q w in
    let s = sizes_of q {R = R} masks most two in
    let c = counts_of q {R = R} masks in
    let m = matrices_of q {R = R} w in
    first_stops (a ++ s ++ c ++ m) (permutation_rows_of q {R = R}) e (first_of_four a s c m e v)

pub part_sizes : {F E C R : Type 0} (masks least most two : ℕ) (q : Claimed F E C) (w : List ℕ) (e : BatchVerificationError R)
    → NoneFails (first_made {R = R} least most q w) → FirstFails (sizes_of q {R = R} masks most two) e → FirstFails (made_by {R = R} masks least most two q w) e
unfolding made_by
part_sizes {R = R} masks least most two q w e f v =
    let a = first_made {R = R} least most q w in
    let s = sizes_of q {R = R} masks most two in
    let c = counts_of q {R = R} masks in
    let m = matrices_of q {R = R} w in
    first_stops (a ++ s ++ c ++ m) (permutation_rows_of q {R = R}) e (second_of_four a s c m e f v)

pub part_counts : {F E C R : Type 0} (masks least most two : ℕ) (q : Claimed F E C) (w : List ℕ) (e : BatchVerificationError R)
    → NoneFails (first_made {R = R} least most q w) → NoneFails (sizes_of q {R = R} masks most two) → FirstFails (counts_of q {R = R} masks) e
    → FirstFails (made_by {R = R} masks least most two q w) e
unfolding made_by
part_counts {R = R} masks least most two q w e f g v =
    let a = first_made {R = R} least most q w in
    let s = sizes_of q {R = R} masks most two in
    let c = counts_of q {R = R} masks in
    let m = matrices_of q {R = R} w in
    first_stops (a ++ s ++ c ++ m) (permutation_rows_of q {R = R}) e (third_of_four a s c m e f g v)

pub part_matrices : {F E C R : Type 0} (masks least most two : ℕ) (q : Claimed F E C) (w : List ℕ) (e : BatchVerificationError R)
    → NoneFails (first_made {R = R} least most q w) → NoneFails (sizes_of q {R = R} masks most two) → NoneFails (counts_of q {R = R} masks) → FirstFails (matrices_of q {R = R} w) e
    → FirstFails (made_by {R = R} masks least most two q w) e
unfolding made_by
part_matrices {R = R} masks least most two q w e f g h v =
    let a = first_made {R = R} least most q w in
    let s = sizes_of q {R = R} masks most two in
    let c = counts_of q {R = R} masks in
    let m = matrices_of q {R = R} w in
    first_stops (a ++ s ++ c ++ m) (permutation_rows_of q {R = R}) e (last_of_four a s c m {T = Unit {0}} (Err e) f g h v)

pub part_rows : {T F E C R : Type 0} (masks least most two : ℕ) (q : Claimed F E C) (w : List ℕ) (r : Result T (BatchVerificationError R))
    → NoneFails (first_made {R = R} least most q w) → NoneFails (sizes_of q {R = R} masks most two) → NoneFails (counts_of q {R = R} masks) → NoneFails (matrices_of q {R = R} w)
    → IsDecided (permutation_rows_of q {R = R}) r → IsDecided (made_by {R = R} masks least most two q w) r
unfolding made_by
part_rows {T = T} {R = R} masks least most two q w r f g h k v =
    let a = first_made {R = R} least most q w in
    let s = sizes_of q {R = R} masks most two in
    let c = counts_of q {R = R} masks in
    let m = matrices_of q {R = R} w in
    decided_after (a ++ s ++ c ++ m) (permutation_rows_of q {R = R}) r (none_append (a ++ s ++ c) m (none_append (a ++ s) c (none_append a s f g) h) k) v

-- what none of all checks leaves of the first, of the sizes, and of the numbers of chunks
pub made_first : {F E C : Type 0} (R : Type 0) (masks least most two : ℕ) (q : Claimed F E C) (w : List ℕ)
    → NoneFails (made_by {R = R} masks least most two q w) → NoneFails (first_made {R = R} least most q w)
unfolding made_by
made_first R masks least most two q w h =
    let a = first_made {R = R} least most q w in
    let s = sizes_of q {R = R} masks most two in
    let c = counts_of q {R = R} masks in
    let m = matrices_of q {R = R} w in
    none_before a s (none_before (a ++ s) c (none_before (a ++ s ++ c) m (none_before (a ++ s ++ c ++ m) (permutation_rows_of q {R = R}) h)))

pub made_sizes : {F E C : Type 0} (R : Type 0) (masks least most two : ℕ) (q : Claimed F E C) (w : List ℕ)
    → NoneFails (made_by {R = R} masks least most two q w) → NoneFails (sizes_of q {R = R} masks most two)
unfolding made_by
made_sizes R masks least most two q w h =
    let a = first_made {R = R} least most q w in
    let s = sizes_of q {R = R} masks most two in
    let c = counts_of q {R = R} masks in
    let m = matrices_of q {R = R} w in
    none_after a s (none_before (a ++ s) c (none_before (a ++ s ++ c) m (none_before (a ++ s ++ c ++ m) (permutation_rows_of q {R = R}) h)))

pub made_counts : {F E C : Type 0} (R : Type 0) (masks least most two : ℕ) (q : Claimed F E C) (w : List ℕ)
    → NoneFails (made_by {R = R} masks least most two q w) → NoneFails (counts_of q {R = R} masks)
unfolding made_by
made_counts R masks least most two q w h =
    let a = first_made {R = R} least most q w in
    let s = sizes_of q {R = R} masks most two in
    let c = counts_of q {R = R} masks in
    let m = matrices_of q {R = R} w in
    none_after (a ++ s) c (none_before (a ++ s ++ c) m (none_before (a ++ s ++ c ++ m) (permutation_rows_of q {R = R}) h))

-- chunk domains with masking are as large as the extended domain
pub parts_small : {F : Type 0} (r : Ring F) (root : ℕ → F) (generator : F) (masks two bits chunks : ℕ) → masks ≤ bits → bits ≤ two
    → All (λ d. d.log_size + masks ≤ two) (chunks_over r root generator masks bits chunks)
parts_small r root generator masks two bits chunks low high =
    let part : ℕ → CosetData _ = λ j. record { shift = point r root (offered r generator (subgroup r bits) chunks) j; log_size = bits + chunks - (chunks + masks) } in
    let z = subgroup r 0 in
    All-from_get_or (λ d. d.log_size + masks ≤ two) (chunks_over r root generator masks bits chunks) z
    (λ j l. subst (λ d. d.log_size + masks ≤ two) (sym (get_or-tabulate (2 ^ (chunks + masks)) part j z (subst (λ m. j < m) (length-tabulate (2 ^ (chunks + masks)) part) l))) (omega arith))

-- what the checks leave of the lists
pub are_sized : {F E C : Type 0} (R : Type 0) (r : Ring F) (root : ℕ → F) (generator : F) (masks least most two n : ℕ) (q : Claimed F E C) (w : List ℕ) (domains : List (List (CosetData F)))
    → n ≡ length q.declarations → masks ≤ least → most ≤ two
    → NoneFails (first_made {R = R} least most q w) → NoneFails (counts_of q {R = R} masks)
    → domains ≡ tabulate n (chunk_domains_at r root generator masks q.degree_bits q.log_chunks)
    → AreSized masks two n q.degree_bits q.instances domains
are_sized R r root generator masks least most two n q w domains p low high a d e =
    let L = first_lists R least most q w a in
    let B = first_bits R least most q w a in
    let here : (i : ℕ) → i < n → i < length q.declarations = λ i l. subst (λ m. i < m) p l in
    let at : (i : ℕ) → i < n → get_or domains i [] ≡ chunk_domains_at r root generator masks q.degree_bits q.log_chunks i =
    λ i l. ap (λ x. get_or x i []) e ∙ get_or-tabulate n (chunk_domains_at r root generator masks q.degree_bits q.log_chunks) i [] l in
    record {
      bits_fit = L.degree_bits_fit ∙ sym p;
      instances_fit = L.instances_fit ∙ sym p;
      domains_fit = ap length e ∙ length-tabulate n (chunk_domains_at r root generator masks q.degree_bits q.log_chunks);
      masked = λ i l. let b = (B i (here i l)).0 in omega arith;
      fits = λ i l. let b = (B i (here i l)).1 in omega arith;
      count = λ i l. counts_are R masks q d i (here i l)
          ∙ sym (length-tabulate (2 ^ (get_or q.log_chunks i 0 + masks)) (λ j. record { shift = point r root (offered r generator (subgroup r (bits_at q.degree_bits i)) (get_or q.log_chunks i 0)) j; log_size = bits_at q.degree_bits i + get_or q.log_chunks i 0 - (get_or q.log_chunks i 0 + masks) }))
          ∙ ap length (sym (at i l));
      chunks = λ i l. subst (All (λ x. x.log_size + masks ≤ two)) (sym (at i l)) (parts_small r root generator masks two (bits_at q.degree_bits i) (get_or q.log_chunks i 0) (let b = (B i (here i l)).0 in omega arith) (let b = (B i (here i l)).1 in omega arith));
    }
