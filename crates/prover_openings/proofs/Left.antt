-- What is left of the rounds after some tables, and what is taken of the next.
use Rattle.std.proofs.Common.{◌≡◌, ℕ, ◌+◌, Bool, List, [], drop, get_or, map, Option, Vec, refl, sym, ◌∙◌, ap, add-one}
use Rattle.std.proofs.lemmas.List.{drop-map, get_or-drop}
use Rattle.p3_lookup.specs.Lookup.{LookupData}
use Rattle.batch_statement.specs.Proof.{OpenedWithLookups}
use Rattle.batch_statement.specs.Statement.{PreprocessedTracesData}
use Rattle.prover_openings.specs.Rows.{first_list, matrices_in}
use Rattle.prover_openings.specs.Taken.{chunk_count_at, count_below, has_entry_at, has_lookups_at, one_where, taken_at, taken_table}
use Rattle.prover_openings.proofs.Lists.{first_left, left_more}

pub none_left : {X : Type 0} (f : ℕ → ℕ) (xs : List X) → xs ≡ drop (count_below f 0) xs
unfolding count_below
none_left f xs = refl

-- after one table more
pub left_past : {X : Type 0} (f : ℕ → ℕ) (i m : ℕ) (xs ys zs : List X) → m ≡ f i → ys ≡ drop (count_below f i) xs → zs ≡ drop m ys → zs ≡ drop (count_below f (i + 1)) xs
unfolding count_below
left_past f i m xs ys zs e h k = rw add-one (left_more (count_below f i) (f i) xs ys zs h (k ∙ ap (λ n. drop n ys) e))

-- an item that is left
pub item_left : {X Y : Type 0} (f : X → List Y) (n j : ℕ) (xs ys : List X) → ys ≡ drop n xs → get_or (map f ys) j [] ≡ get_or (map f xs) (n + j) []
item_left f n j xs ys e = ap (λ l. get_or (map f l) j []) e ∙ (ap (λ l. get_or l j []) (sym (drop-map f n xs)) ∙ get_or-drop n (map f xs) j [])

-- what is taken of the next table
module _ {F E C A : Type 0} (pre : Option (PreprocessedTracesData C)) (lookups : List (List (LookupData F))) (counts : List ℕ) (i : ℕ) (m m' q q' p p' r r' : List (Vec (Vec E A) A))
    (main : m' ≡ drop i m) (quotient : q' ≡ drop (count_below (chunk_count_at counts) i) q) (preprocessed : p' ≡ drop (count_below (λ k. one_where (has_entry_at pre k)) i) p)
    (permutation : r' ≡ drop (count_below (λ k. one_where (has_lookups_at lookups k)) i) r) where
  pub next_taken : (o : OpenedWithLookups E) (entry more : Bool) → o ≡ taken_table (chunk_count_at counts i) entry more (first_list (matrices_in m')) (λ j. get_or (matrices_in q') j []) (first_list (matrices_in p')) (first_list (matrices_in r'))
      → entry ≡ has_entry_at pre i → more ≡ has_lookups_at lookups i → o ≡ taken_at pre lookups counts (record { main = matrices_in m; quotient = matrices_in q; preprocessed = matrices_in p; permutation = matrices_in r }) i
  next_taken o entry more e here there =
      let rows = λ (x : Vec (Vec E A) A). map (λ (v : Vec E A). v.items) x.items in
      let n1 = count_below (chunk_count_at counts) i in
      let n2 = count_below (λ k. one_where (has_entry_at pre k)) i in
      let n3 = count_below (λ k. one_where (has_lookups_at lookups k)) i in
      let a = first_left rows i m m' main in
      let b = λ (j : ℕ). item_left rows n1 j q q' quotient in
      let c = first_left rows n2 p p' preprocessed in
      let d = first_left rows n3 r r' permutation in
      e ∙ (λ k. taken_table (chunk_count_at counts i) (here k) (there k) (a k) (λ j. b j k) (c k) (d k))
