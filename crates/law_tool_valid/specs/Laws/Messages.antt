-- The messages of a job's tables, and what is left over of them: nothing, where each word is taken as often as it is given.
use Rattle.std.proofs.Common.{◌≡◌, ℕ, zero, suc, ◌+◌, ◌<◌, Bool, true, false, cond, List, [], ◌∷◌, ◌++◌, length, get_or, map, refl, sym, ◌∙◌, ap, arith}
use Rattle.std.specs.Prelude.{◌&&◌, All, count_by, nat_eq, sum_by}
use Rattle.std.specs.Cmp.Lexicographic.{pointwise}
use Rattle.std.specs.List.{flat_map, position_or_len}
use Rattle.std.proofs.lemmas.List.{get_or-map, length-map, map-append}
use Rattle.std.proofs.lemmas.List.Elements.{All-append}
use Rattle.std.proofs.lemmas.List.Sums.{position_or_len_is, sum_by-cons}
use Rattle.p3_field.specs.Poly.{tabulate}
use Rattle.p3_field.specs.Ring.{Ring, RingLaws, of_nat, sub}
use Rattle.p3_field.specs.Laws.Algebra.{neg_add, neg_zero, of_nat_add, zero_add}
use Rattle.p3_field.specs.Laws.Solver.{expressions, var, solve}
use Rattle.p3_matrix.specs.Matrix.{row_at}
use Rattle.air_core.specs.Check.{table_row, table_traces}
use Rattle.air_core.specs.RowCheck.{tree_value_at_row}
use Rattle.air_core.specs.Tree.{Bus, Tree, local, global}
use Rattle.p3_lookup.specs.Batch.{SendingTable, senders_from}
use Rattle.p3_lookup.specs.Bus.{batch_buses, bus_in, bus_number, is_named, lookups_before, opened_below, opener_of}
use Rattle.p3_lookup.specs.Lookup.{LookupData, lookups_of}
use Rattle.p3_lookup.specs.Messages.{Message, Sender, batch_messages, is_of, messages_from, net, table_messages}
use Rattle.p3_lookup.specs.Term.{sum_of}
use Rattle.p3_lookup.specs.Laws.Places.{place_within}
use Rattle.p3_lookup.specs.Laws.Terms.{sum_append}
use Rattle.tool_tables.specs.Words.{words_bus}
use Rattle.law_tool_valid.specs.Job.{JobTable, swap_of, wheel_of, take_of, give_of, hash_of, give_row, job_publics_of, source_of_job, times_given, times_taken, trace_of}
use Rattle.law_valid.specs.Laws.Columns.{column_row, pieces_row}

-- rows that send one message for each item of a list
rows_are_items : {X M : Type 0} (g : ℕ → List M) (msg : X → M) (z : X) (xs : List X) (h : ℕ → ℕ)
    → ((i : ℕ) → i < length xs → g (h i) ≡ msg (get_or xs i z) ∷ []) → flat_map g (tabulate (length xs) h) ≡ map msg xs
rows_are_items g msg z [] h same = refl
rows_are_items g msg z (x ∷ xs) h same =
    λ j. same zero (omega arith) j ++ rows_are_items g msg z xs (λ i. h (suc i)) (λ i l. same (suc i) (omega (arith, l))) j

no_messages : {X M : Type 0} (xs : List X) → flat_map {X = X} {A = M} (λ x. []) xs ≡ []
no_messages [] = refl
no_messages (x ∷ xs) = no_messages xs

abbrev both_left : {A : Type 0} → Ring A → A → A → A → A → A
both_left r m n p q = r.add (r.add m (r.neg n)) (r.add p (r.neg q))

abbrev both_right : {A : Type 0} → Ring A → A → A → A → A → A
both_right r m n p q = r.add (r.add m p) (r.neg (r.add n q))

module _ {F : Type 0} (r : Ring F) where
  abbrev pub own_lookups : JobTable F → List (LookupData F)
  own_lookups j = lookups_of (source_of_job r j).interactions

  -- the value of a tree in a row
  abbrev pub own_value : JobTable F → ℕ → Tree F → F
  own_value j row tree = tree_value_at_row r r (λ x. x) (table_row r.zero (table_traces (trace_of r j) (source_of_job r j).declaration.preprocessed [] (job_publics_of j)) row) tree

  abbrev pub take_message : F → Message F
  take_message word = record { bus = 0; tuple = word ∷ []; count = r.one }

  abbrev pub give_message : F × ℕ → Message F
  give_message p = record { bus = 0; tuple = p.0 ∷ []; count = sub r r.zero (of_nat r p.1) }

  -- what a table sends, word by word
  abbrev pub own_messages : JobTable F → List (Message F)
  own_messages (swap_of k a b) = []
  own_messages (wheel_of k) = []
  own_messages (take_of words) = map take_message words
  own_messages (give_of pairs) = map give_message pairs
  own_messages (hash_of rows) = []

  abbrev pub own_sender : JobTable F → (bus : ℕ → ℕ) → (rows : ℕ) → Sender F
  own_sender j bus rows = record { lookups = own_lookups j; bus = bus; rows = rows; value = own_value j }

  -- a table of words has a row for each
  abbrev pub HasItems : JobTable F → ℕ → Type 0
  HasItems (swap_of k a b) rows = Unit {0}
  HasItems (wheel_of k) rows = Unit {0}
  HasItems (take_of words) rows = rows ≡ length words
  HasItems (give_of pairs) rows = rows ≡ length pairs
  HasItems (hash_of inputs) rows = Unit {0}

  sends_own : (j : JobTable F) (bus : ℕ → ℕ) (rows : ℕ) → (0 < length (own_lookups j) → bus 0 ≡ 0) → HasItems j rows → table_messages (own_sender j bus rows) ≡ own_messages j
  sends_own (swap_of k a b) bus rows on e = no_messages (tabulate rows (λ i. i))
  sends_own (wheel_of k) bus rows on e = no_messages (tabulate rows (λ i. i))
  sends_own (take_of words) bus rows on e =
      let j = take_of words in
      let g = λ (i : ℕ). messages_from (own_value j i) bus 0 (own_lookups j) in
      let here : bus 0 ≡ 0 = on (omega arith) in
      ap (λ n. flat_map g (tabulate n (λ i. i))) e
      ∙ rows_are_items g take_message r.zero words (λ i. i) (λ i l. λ q.
      record { bus = here q; tuple = get_or (column_row words i r.zero l q) 0 r.zero ∷ []; count = r.one } ∷ [])
  sends_own (give_of pairs) bus rows on e =
      let j = give_of pairs in
      let g = λ (i : ℕ). messages_from (own_value j i) bus 0 (own_lookups j) in
      let here : bus 0 ≡ 0 = on (omega arith) in
      ap (λ n. flat_map g (tabulate n (λ i. i))) e
      ∙ rows_are_items g give_message (r.zero, 0) pairs (λ i. i) (λ i l.
      let row : row_at (trace_of r j) i ≡ give_row r (get_or pairs i (r.zero, 0)) = pieces_row (give_row r) 2 (λ p. refl) pairs i (r.zero, 0) l in
      λ q. record { bus = here q; tuple = get_or (row q) 0 r.zero ∷ []; count = sub r r.zero (get_or (row q) 1 r.zero) } ∷ [])
  sends_own (hash_of inputs) bus rows on e = no_messages (tabulate rows (λ i. i))

  module _ (L : RingLaws r) (eq : F → F → Bool) (b : ℕ) (t : List F) where
    -- whether a word is the tuple on this bus
    abbrev pub found : F → Bool
    found x = nat_eq 0 b && pointwise eq (x ∷ []) t

    net_append : (xs ys : List (Message F)) → net r eq (xs ++ ys) b t ≡ r.add (net r eq xs b t) (net r eq ys b t)
    net_append xs ys =
        let part = λ (m : Message F). cond (is_of eq b t m) m.count r.zero in
        ap (sum_of r) (map-append part xs ys) ∙ sum_append r L (map part xs) (map part ys)

    one_taken : (p : Bool) (n : ℕ) → r.add (cond p r.one r.zero) (of_nat r n) ≡ of_nat r (cond p 1 0 + n)
    unfolding of_nat
    one_taken true n = let e : suc n ≡ 1 + n = omega arith in ap (of_nat r) e
    one_taken false n = let e : n ≡ 0 + n = omega arith in zero_add r L (of_nat r n) ∙ ap (of_nat r) e

    one_given : (p : Bool) (m n : ℕ) → r.add (cond p (sub r r.zero (of_nat r m)) r.zero) (r.neg (of_nat r n)) ≡ r.neg (of_nat r (cond p m 0 + n))
    one_given true m n =
        ap (λ x. r.add x (r.neg (of_nat r n))) (zero_add r L (r.neg (of_nat r m)))
        ∙ (sym (neg_add r L (of_nat r m) (of_nat r n)) ∙ ap r.neg (sym (of_nat_add r L m n)))
    one_given false m n = let e : n ≡ 0 + n = omega arith in zero_add r L (r.neg (of_nat r n)) ∙ ap (λ k. r.neg (of_nat r k)) e

    none : r.zero ≡ of_nat r 0
    unfolding of_nat
    none = refl

    taken : (words : List F) → net r eq (map take_message words) b t ≡ of_nat r (count_by found words)
    taken [] = none
    taken (w ∷ ws) =
        ap (r.add (cond (found w) r.one r.zero)) (taken ws)
        ∙ (one_taken (found w) (count_by found ws) ∙ ap (of_nat r) (sym (sum_by-cons (λ x. cond (found x) 1 0) w ws)))

    given : (pairs : List (F × ℕ)) → net r eq (map give_message pairs) b t ≡ r.neg (of_nat r (sum_by (λ p. cond (found p.0) p.1 0) pairs))
    given [] = sym (neg_zero r L) ∙ ap r.neg none
    given (p ∷ ps) =
        ap (r.add (cond (found p.0) (sub r r.zero (of_nat r p.1)) r.zero)) (given ps)
        ∙ (one_given (found p.0) p.1 (sum_by (λ q. cond (found q.0) q.1 0) ps)
        ∙ ap (λ n. r.neg (of_nat r n)) (sym (sum_by-cons (λ q. cond (found q.0) q.1 0) p ps)))

    -- what is left over of taking and giving so often
    abbrev left_over : ℕ → ℕ → F
    left_over m n = r.add (of_nat r m) (r.neg (of_nat r n))

    nothing : r.zero ≡ left_over 0 0
    nothing = sym (L.add_neg (of_nat r 0))

    only_taken : (m : ℕ) → of_nat r m ≡ left_over m 0
    only_taken m = sym (L.add_zero (of_nat r m)) ∙ ap (r.add (of_nat r m)) (sym (neg_zero r L) ∙ ap r.neg none)

    only_given : (n : ℕ) → r.neg (of_nat r n) ≡ left_over 0 n
    only_given n = sym (zero_add r L (r.neg (of_nat r n))) ∙ ap (λ z. r.add z (r.neg (of_nat r n))) none

    together : (m n p q : ℕ) → r.add (left_over m n) (left_over p q) ≡ left_over (m + p) (n + q)
    together m n p q =
        solve r L (of_nat r m ∷ of_nat r n ∷ of_nat r p ∷ of_nat r q ∷ [])
        (both_left expressions (var 0) (var 1) (var 2) (var 3)) (both_right expressions (var 0) (var 1) (var 2) (var 3)) refl
        ∙ sym (λ i. r.add (of_nat_add r L m p i) (r.neg (of_nat_add r L n q i)))

    own_net : (j : JobTable F) → net r eq (own_messages j) b t ≡ left_over (times_taken found j) (times_given found j)
    own_net (swap_of k a c) = nothing
    own_net (wheel_of k) = nothing
    own_net (take_of words) = taken words ∙ only_taken (count_by found words)
    own_net (give_of pairs) = given pairs ∙ only_given (sum_by (λ p. cond (found p.0) p.1 0) pairs)
    own_net (hash_of rows) = nothing

    -- the tables of a job as senders, on buses whose numbers are those from table n on, and with so many rows each
    module _ (rows : JobTable F → ℕ) where
      abbrev pub own_table : JobTable F → SendingTable F
      own_table j = record { lookups = own_lookups j; rows = rows j; value = own_value j }

      -- what is left over of a job's messages, where its lookups are on bus 0
      pub job_net : (bus : ℕ → ℕ → ℕ) (n : ℕ) (job : List (JobTable F)) → ((i : ℕ) (d : JobTable F) → i < length job → HasItems (get_or job i d) (rows (get_or job i d)))
          → ((i : ℕ) (d : JobTable F) → i < length job → 0 < length (own_lookups (get_or job i d)) → bus (n + i) 0 ≡ 0)
          → net r eq (batch_messages (senders_from bus n (map own_table job))) b t ≡ left_over (sum_by (times_taken found) job) (sum_by (times_given found) job)
      job_net bus n [] items on = nothing
      job_net bus n (j ∷ job) items on =
          let here : 0 < length (own_lookups j) → bus n 0 ≡ 0 = λ some. (let e : n ≡ n + 0 = omega arith in ap (λ m. bus m 0) e) ∙ on zero j (omega arith) some in
          let rest : net r eq (batch_messages (senders_from bus (suc n) (map own_table job))) b t ≡ left_over (sum_by (times_taken found) job) (sum_by (times_given found) job) =
          job_net bus (suc n) job (λ i d l. items (suc i) d (omega (arith, l)))
          (λ i d l some. (let e : suc n + i ≡ n + suc i = omega arith in ap (λ m. bus m 0) e) ∙ on (suc i) d (omega (arith, l)) some) in
          let first : net r eq (table_messages (own_sender j (bus n) (rows j))) b t ≡ left_over (times_taken found j) (times_given found j) =
          ap (λ ms. net r eq ms b t) (sends_own j (bus n) (rows j) here (items zero j (omega arith))) ∙ own_net j in
          net_append (table_messages (own_sender j (bus n) (rows j))) (batch_messages (senders_from bus (suc n) (map own_table job)))
          ∙ ((λ i. r.add (first i) (rest i))
          ∙ (together (times_taken found j) (times_given found j) (sum_by (times_taken found) job) (sum_by (times_given found) job)
          ∙ sym (λ i. left_over (sum_by-cons (times_taken found) j job i) (sum_by-cons (times_given found) j job i))))

  -- all of a job's lookups are on the bus of words
  abbrev IsWords : Bus → Type 0
  IsWords bus = bus ≡ global words_bus

  own_words : (j : JobTable F) → All IsWords (map (λ (l : LookupData F). l.bus) (own_lookups j))
  own_words (swap_of k a b) i d l = absurd (omega (arith, l))
  own_words (wheel_of k) i d l = absurd (omega (arith, l))
  own_words (take_of words) zero d l = refl
  own_words (take_of words) (suc i) d l = absurd (omega (arith, l))
  own_words (give_of pairs) zero d l = refl
  own_words (give_of pairs) (suc i) d l = absurd (omega (arith, l))
  own_words (hash_of rows) i d l = absurd (omega (arith, l))

  job_numbers : (job : List (JobTable F)) → All IsWords (batch_buses (map own_lookups job))
  job_numbers [] = λ i d l. absurd (omega (arith, l))
  job_numbers (j ∷ job) = All-append IsWords (map (λ (l : LookupData F). l.bus) (own_lookups j)) (batch_buses (map own_lookups job)) (own_words j) (job_numbers job)

  -- so they are all on bus 0
  bus_zero : (bs : List Bus) (p : ℕ) → All IsWords bs → p < length bs → bus_number bs p ≡ 0
  unfolding opened_below
  bus_zero bs p words h =
      let first : position_or_len (is_named words_bus) bs ≡ 0 =
      position_or_len_is (is_named words_bus) bs 0 local (omega arith) (λ k l. absurd (omega (arith, l)))
      (λ l. ap (is_named words_bus) (words 0 local l)) in
      ap (λ bus. opened_below bs (opener_of bs p bus)) (words p local h) ∙ ap (opened_below bs) first

  pub job_bus : (job : List (JobTable F)) (i : ℕ) (d : JobTable F) → i < length job → 0 < length (own_lookups (get_or job i d)) → bus_in (map own_lookups job) i 0 ≡ 0
  job_bus job i d h some =
      let there : get_or (map own_lookups job) i [] ≡ own_lookups (get_or job i d) = get_or-map own_lookups job i d [] h in
      bus_zero (batch_buses (map own_lookups job)) (lookups_before (map own_lookups job) i + 0) (job_numbers job)
      (place_within (map own_lookups job) i 0 (let l = length-map job own_lookups in omega (arith, h, l)) (let n = ap length there in omega (arith, some, n)))
