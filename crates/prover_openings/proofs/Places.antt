-- The places of tables' items in lists of all items, table by table.
use Rattle.std.proofs.Common.{◌≡◌, ℕ, zero, suc, ◌+◌, ◌<◌, true, List, [], ◌∷◌, ◌++◌, length, get_or, map, Option, None, Some, refl, sym, ◌∙◌, ap, arith}
use Rattle.std.specs.List.{flat_map}
use Rattle.std.proofs.Math.ListN.{get_or-append}
use Rattle.std.proofs.lemmas.List.{get_or-append-add}
use Rattle.p3_field.specs.Poly.{tabulate}
use Rattle.verifier_claims.specs.Claims.{matrix_tables}
use Rattle.verifier_shape.specs.ShapeChecks.{HasEntries}
use Rattle.batch_statement.specs.Words.{is_there}
use Rattle.batch_statement.specs.Statement.{ListsEntries, PreprocessedTracesData, entry_of, with_entry}
use Rattle.batch_statement.specs.declared.preprocessed.PreprocessedInstanceMeta.{PreprocessedInstanceMeta}
use Rattle.prover_openings.specs.Taken.{count_below, one_where}
use Rattle.law_honest.specs.Laws.Flat.{flat_over, flat_same}
use Rattle.law_acceptance.specs.Laws.Entries.{listed_is, map_items}

-- the numbers below, of the first and of those after it
pub count_front : (f : ℕ → ℕ) (i : ℕ) → count_below f (suc i) ≡ f zero + count_below (λ k. f (suc k)) i
unfolding count_below
count_front f zero = omega arith
count_front f (suc i) = let e = count_front f i in omega (arith, e)

pub count_same : (f g : ℕ → ℕ) (i : ℕ) → ((k : ℕ) → k < i → f k ≡ g k) → count_below f i ≡ count_below g i
unfolding count_below
count_same f g zero same = refl
count_same f g (suc i) same = let e = count_same f g i (λ k l. same k (omega (arith, l))) in let h = same i (omega arith) in omega (arith, e, h)

flat_item : {Y : Type 0} (g : ℕ → List Y) (n : ℕ) (q : ℕ → ℕ) (i j : ℕ) (d : Y) → i < n → j < length (g (q i)) → get_or (flat_map g (tabulate n q)) (count_below (λ k. length (g (q k))) i + j) d ≡ get_or (g (q i)) j d
unfolding count_below
flat_item g zero q i j d b l = absurd (omega (arith, b))
flat_item g (suc n) q zero j d b l =
    let rest = flat_map g (tabulate n (λ k. q (suc k))) in
    let e : count_below (λ k. length (g (q k))) zero + j ≡ j = omega arith in
    ap (λ m. get_or (g (q zero) ++ rest) m d) e ∙ get_or-append (g (q zero)) rest d j l
flat_item g (suc n) q (suc i) j d b l =
    let rest = flat_map g (tabulate n (λ k. q (suc k))) in
    let front = count_front (λ k. length (g (q k))) i in
    let below = count_below (λ k. length (g (q (suc k)))) i in
    let e : count_below (λ k. length (g (q k))) (suc i) + j ≡ length (g (q zero)) + (below + j) = omega (arith, front) in
    ap (λ m. get_or (g (q zero) ++ rest) m d) e ∙ (get_or-append-add (g (q zero)) rest (below + j) d ∙ flat_item g n (λ k. q (suc k)) i j d (omega (arith, b)) l)

-- an item of a table stands after those of the tables before it
pub item_at : {Y : Type 0} (g : ℕ → List Y) (count : ℕ → ℕ) (n i j : ℕ) (d : Y) → ((k : ℕ) → k < n → length (g k) ≡ count k) → i < n → j < count i → get_or (flat_map g (tabulate n (λ k. k))) (count_below count i + j) d ≡ get_or (g i) j d
item_at g count n i j d long b l =
    let own = long i b in
    ap (λ m. get_or (flat_map g (tabulate n (λ k. k))) (m + j) d) (count_same count (λ k. length (g k)) i (λ k h. sym (long k (omega (arith, h, b)))))
    ∙ flat_item g n (λ k. k) i j d b (omega (arith, l, own))

pub first_item_at : {Y : Type 0} (g : ℕ → List Y) (count : ℕ → ℕ) (n i : ℕ) (d : Y) → ((k : ℕ) → k < n → length (g k) ≡ count k) → i < n → 0 < count i → get_or (flat_map g (tabulate n (λ k. k))) (count_below count i) d ≡ get_or (g i) 0 d
first_item_at g count n i d long b l =
    let e : count_below count i ≡ count_below count i + 0 = omega arith in
    ap (λ m. get_or (flat_map g (tabulate n (λ k. k))) m d) e ∙ item_at g count n i 0 d long b l

-- the item where there is an entry
abbrev pub one_of : {Y : Type 0} → Option PreprocessedInstanceMeta → Y → List Y
one_of None y = []
one_of (Some m) y = y ∷ []

pub one_long : {Y : Type 0} (o : Option PreprocessedInstanceMeta) (y : Y) → length (one_of o y) ≡ one_where (is_there o)
one_long None y = refl
one_long (Some m) y = refl

pub one_there : {Y : Type 0} (o : Option PreprocessedInstanceMeta) (y d : Y) → is_there o ≡ true → get_or (one_of o y) 0 d ≡ y
one_there None y d h = cc
one_there (Some m) y d h = refl

with_first : {Y : Type 0} (v : ℕ → Y) (o : Option PreprocessedInstanceMeta) (es : List (Option PreprocessedInstanceMeta)) (k : ℕ) → map v (with_entry k (o ∷ es)) ≡ one_of o (v k) ++ map v (with_entry (suc k) es)
with_first v None es k = refl
with_first v (Some m) es k = refl

entries_flat : {Y : Type 0} (v : ℕ → Y) (e : ℕ → Option PreprocessedInstanceMeta) (n k : ℕ) → map v (with_entry k (tabulate n e)) ≡ flat_map (λ j. one_of (e j) (v (k + j))) (tabulate n (λ j. j))
entries_flat v e zero k = refl
entries_flat v e (suc n) k =
    let g = λ (j : ℕ). one_of (e j) (v (k + j)) in
    let h = λ (j : ℕ). one_of (e (suc j)) (v (suc k + j)) in
    let here : k ≡ k + 0 = omega arith in
    with_first v (e zero) (tabulate n (λ j. e (suc j))) k
    ∙ (ap (λ m. one_of (e zero) (v m) ++ map v (with_entry (suc k) (tabulate n (λ j. e (suc j))))) here
    ∙ ap (λ l. g zero ++ l)
    (entries_flat v (λ j. e (suc j)) n (suc k)
    ∙ (flat_same h (λ j. g (suc j)) n (λ j. j) (λ j l. let q : suc k + j ≡ k + suc j = omega arith in ap (λ m. one_of (e (suc j)) (v m)) q)
    ∙ sym (flat_over g n (λ i. suc i) (λ j. j)))))

-- what there is for each preprocessed matrix stands in the order of the tables with an entry
pub by_entries : {C Y : Type 0} (g : Option (PreprocessedTracesData C)) (n : ℕ) (v : ℕ → Y) → HasEntries n g → ListsEntries n g
    → tabulate (length (matrix_tables g)) (λ m. v (get_or (matrix_tables g) m 0)) ≡ flat_map (λ i. one_of (entry_of g i) (v i)) (tabulate n (λ i. i))
by_entries g n v long listed =
    sym (map_items v (matrix_tables g))
    ∙ (ap (map v) (listed_is g n long listed)
    ∙ (entries_flat v (entry_of g) n 0 ∙ flat_same (λ j. one_of (entry_of g j) (v (0 + j))) (λ j. one_of (entry_of g j) (v j)) n (λ j. j) (λ j l. let q : 0 + j ≡ j = omega arith in ap (λ m. one_of (entry_of g j) (v m)) q)))
