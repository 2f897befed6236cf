-- The terminals of an honest proof of a valid statement sum to zero.
use Rattle.std.proofs.Common.{◌≡◌, ℕ, zero, suc, ◌+◌, ◌^◌, ◌<◌, Bool, true, false, cond, List, [], ◌∷◌, ◌++◌, length, get_or, map, Option, None, Some, refl, sym, ◌∙◌, ap, subst, arith}
use Rattle.std.specs.Prelude.{count_by, option_to_list}
use Rattle.std.specs.List.{flat_map}
use Rattle.std.proofs.lemmas.Bool.{false≢true}
use Rattle.std.proofs.lemmas.List.Sums.{sum_by-cons}
use Rattle.p3_field.specs.Poly.{tabulate, total}
use Rattle.p3_field.specs.Ring.{Ring, RingLaws}
use Rattle.p3_field.specs.Laws.Algebra.{zero_add}
use Rattle.p3_field.specs.Laws.SubgroupSelectors.{map_tabulate}
use Rattle.p3_field.specs.Laws.Tabulate.{get_or-tabulate, tabulate_items, tabulate_same}
use Rattle.p3_field.specs.Domain.{CosetData}
use Rattle.p3_matrix.specs.Matrix.{Rows}
use Rattle.p3_lookup.specs.Batch.{SendingTable, batch_challenges, batch_lookups, laid_out, laid_out_terminal, senders_from}
use Rattle.p3_lookup.specs.Bus.{batch_buses, bus_count, bus_in, widest}
use Rattle.p3_lookup.specs.Challenge.{challenges_with}
use Rattle.p3_lookup.specs.Honest.{row_fractions, running_sum}
use Rattle.p3_lookup.specs.Lookup.{LookupData}
use Rattle.p3_lookup.specs.Messages.{Sender}
use Rattle.p3_lookup.specs.Term.{sum_of}
use Rattle.p3_lookup.specs.Laws.Batch.{balanced_batch}
use Rattle.batch_transcript.specs.Buses.{batch_layout, instance_challenges}
use Rattle.batch_config.specs.Setting.{Setting}
use Rattle.batch_statement.specs.Statement.{Statement}
use Rattle.batch_statement.specs.Words.{has_some}
use Rattle.law_committed.specs.Fields.{FieldsLaws}
use Rattle.law_committed.specs.Laws.Values.{maps}
use Rattle.law_valid.specs.Traced.{TracedTable, all_traced, log_rows, sender, traced_at}
use Rattle.law_valid.specs.Valid.{Valid}
use Rattle.law_honest.specs.HonestProof.{Prover, argument_of_table, pair, state_at_pair, honest_terminal, terminals, where_some}
use Rattle.law_honest.specs.Laws.Staged.{IsPair, one_pair}

-- a value that may be there, where one that isn't stands for zero
abbrev IsSumOf : {E : Type 0} → Ring E → E → Option E → Type 0
IsSumOf r v None = v ≡ r.zero
IsSumOf r v (Some x) = v ≡ x

module _ {E : Type 0} (r : Ring E) (L : RingLaws r) where
  one_more : (o : Option E) (v : E) (rest : List E) (all : E) → IsSumOf r v o → sum_of r rest ≡ all → sum_of r (option_to_list o ++ rest) ≡ r.add v all
  one_more None v rest all e h = h ∙ (sym (zero_add r L all) ∙ ap (λ x. r.add x all) (sym e))
  one_more (Some x) v rest all e h = λ i. r.add (sym e i) (h i)

  sum_there : (n : ℕ) (o : ℕ → Option E) (v : ℕ → E) → ((i : ℕ) → i < n → IsSumOf r (v i) (o i)) → sum_of r (flat_map option_to_list (tabulate n o)) ≡ sum_of r (tabulate n v)
  sum_there zero o v h = refl
  sum_there (suc n) o v h =
      one_more (o zero) (v zero) (flat_map option_to_list (tabulate n (λ i. o (suc i)))) (sum_of r (tabulate n (λ i. v (suc i)))) (h zero (omega arith))
      (sum_there n (λ i. o (suc i)) (λ i. v (suc i)) (λ i l. h (suc i) (omega (arith, l))))

  total_zero : (n : ℕ) (g : ℕ → E) → ((i : ℕ) → g i ≡ r.zero) → total r n g ≡ r.zero
  total_zero zero g h = refl
  total_zero (suc n) g h = (λ i. r.add (h zero i) (total_zero n (λ j. g (suc j)) (λ j. h (suc j)) i)) ∙ L.add_zero r.zero

-- tables as senders, one by one
sent_by : {F G : Type 0} (g : Sender F → G) (bus : ℕ → ℕ → ℕ) (k n : ℕ) (u : ℕ → SendingTable F)
    → map g (senders_from bus k (tabulate n u)) ≡ tabulate n (λ i. g (record { lookups = (u i).lookups; bus = bus (k + i); rows = (u i).rows; value = (u i).value }))
sent_by g bus k zero u = refl
sent_by g bus k (suc n) u =
    let z : k ≡ k + zero = omega arith in
    let next : (i : ℕ) → suc k + i ≡ k + suc i = λ i. omega arith in
    λ q.
    g (record { lookups = (u zero).lookups; bus = bus (z q); rows = (u zero).rows; value = (u zero).value })
    ∷ (sent_by g bus (suc k) n (λ i. u (suc i))
    ∙ tabulate_same n (λ i. g (record { lookups = (u (suc i)).lookups; bus = bus (suc k + i); rows = (u (suc i)).rows; value = (u (suc i)).value }))
    (λ i. g (record { lookups = (u (suc i)).lookups; bus = bus (k + suc i); rows = (u (suc i)).rows; value = (u (suc i)).value }))
    (λ i l. ap (λ m. g (record { lookups = (u (suc i)).lookups; bus = bus m; rows = (u (suc i)).rows; value = (u (suc i)).value })) (next i))) q

one_off : (b : Bool) (n : ℕ) → cond b 1 0 + n ≡ 0 → b ≡ false
one_off true n h = absurd (omega (arith, h))
one_off false n h = refl

module _ {S F E C : Type 0} (c : Setting S F E C) (p : Prover F E C) (eq : F → F → Bool) (commitment_of : List (CosetData F × Rows F) → C) (s : Statement F C) (traces : List (Rows F)) (degree_bits : List ℕ)
    (L : FieldsLaws c.field c.extension c.two_adicity p.inverse) (eq_same : (x y : F) → eq x y ≡ true → x ≡ y) (same_eq : (x : F) → eq x x ≡ true) (V : Valid c eq commitment_of s traces degree_bits) where
  abbrev n : ℕ
  n = length s.tables

  abbrev at : ℕ → TracedTable F
  at i = traced_at s traces degree_bits i

  abbrev senders_are : List (SendingTable F)
  senders_are = map (sender c) (all_traced s traces degree_bits)

  -- a table without lookups has no fractions to sum
  no_sum : (t : TracedTable F) (challenges : List E) (m : ℕ) → t.lookups ≡ [] → running_sum (argument_of_table c p t challenges) m ≡ c.extension.ring.zero
  no_sum t challenges m none =
      total_zero c.extension.ring L.above m _ (λ i. ap (λ ls. sum_of c.extension.ring (row_fractions (record (argument_of_table c p t challenges) { lookups = ls }) i)) none)

  stands : (t : TracedTable F) (challenges : List E) → IsSumOf c.extension.ring (running_sum (argument_of_table c p t challenges) (2 ^ log_rows c t)) (honest_terminal c p t challenges)
  unfolding honest_terminal
  stands t challenges = by_lookups t.lookups refl
    where
      by_lookups : (ls : List (LookupData F)) → t.lookups ≡ ls → IsSumOf c.extension.ring (running_sum (argument_of_table c p t challenges) (2 ^ log_rows c t)) (where_some ls (running_sum (argument_of_table c p t challenges) (2 ^ log_rows c t)))
      by_lookups [] e = no_sum t challenges (2 ^ log_rows c t) e
      by_lookups (l ∷ ls) e = refl

  -- the lookups of the batch
  lookups_same : batch_lookups senders_are ≡ s.common.lookups
  lookups_same =
      maps (λ (t : SendingTable F). t.lookups) (sender c) (λ (t : TracedTable F). t.lookups) (λ t. refl) (all_traced s traces degree_bits)
      ∙ (map_tabulate (λ (t : TracedTable F). t.lookups) n at ∙ sym (tabulate_items [] s.common.lookups n V.batch.lists.lookups_long))

  -- For a drawn pair each table's terminal is that of the batch's tables, which sum to zero.
  module _ (alpha beta : E) where
    abbrev layout : ℕ → List E
    layout i = get_or (batch_layout c.extension.ring (alpha ∷ beta ∷ []) s.common.lookups) i []

    abbrev batch_terminal : Sender F → E
    batch_terminal x = laid_out_terminal c.extension.ring p.inverse c.extension.embed (batch_challenges c.extension.ring alpha beta senders_are) x

    own_layout : (i : ℕ) → i < n → layout i ≡ laid_out c.extension.ring.zero (batch_challenges c.extension.ring alpha beta senders_are) (bus_in (batch_lookups senders_are) i) 0 (length (at i).lookups)
    own_layout i h =
        let e = c.extension.ring in
        let tables = s.common.lookups in
        let lay = λ (ls : List (List (LookupData F))). laid_out e.zero (challenges_with e alpha beta (widest ls) (bus_count (batch_buses ls))) (bus_in ls i) 0 (length (at i).lookups) in
        get_or-tabulate (length tables) (instance_challenges e (challenges_with e alpha beta (widest tables) (bus_count (batch_buses tables))) tables) i [] (let q = V.batch.lists.lookups_long in omega (arith, h, q))
        ∙ ap lay (sym lookups_same)

    all_sums : sum_of c.extension.ring (tabulate n (λ i. running_sum (argument_of_table c p (at i) (layout i)) (2 ^ log_rows c (at i)))) ≡ c.extension.ring.zero
    all_sums =
        let e = c.extension.ring in
        let bus = bus_in (batch_lookups senders_are) in
        let g = λ (i : ℕ). batch_terminal (record { lookups = (at i).lookups; bus = bus (0 + i); rows = 2 ^ log_rows c (at i); value = (sender c (at i)).value }) in
        ap (sum_of e)
        (tabulate_same n (λ i. running_sum (argument_of_table c p (at i) (layout i)) (2 ^ log_rows c (at i))) g (λ i h.
        ap (λ l. running_sum (argument_of_table c p (at i) l) (2 ^ log_rows c (at i))) (own_layout i h)
        ∙ (let z : i ≡ 0 + i = omega arith in
        ap (λ j. batch_terminal (record { lookups = (at i).lookups; bus = bus j; rows = 2 ^ log_rows c (at i); value = (sender c (at i)).value })) z))
        ∙ (sym (sent_by batch_terminal bus 0 n (λ i. sender c (at i)))
        ∙ ap (λ ts. map batch_terminal (senders_from bus 0 ts)) (sym (map_tabulate (sender c) n at))))
        ∙ balanced_batch c.field.ring L.below eq eq_same same_eq e L.above p.inverse c.extension.embed L.embeds senders_are V.balanced alpha beta

    -- so the terminals that are there sum to zero
    pub terminals_vanish : sum_of c.extension.ring (flat_map option_to_list (tabulate n (λ i. honest_terminal c p (at i) (layout i)))) ≡ c.extension.ring.zero
    terminals_vanish =
        sum_there c.extension.ring L.above n (λ i. honest_terminal c p (at i) (layout i)) (λ i. running_sum (argument_of_table c p (at i) (layout i)) (2 ^ log_rows c (at i))) (λ i h. stands (at i) (layout i))
        ∙ all_sums

  -- without lookups there is none
  nothing_there : (k : ℕ) (o : ℕ → Option E) → ((i : ℕ) → i < k → o i ≡ None) → flat_map option_to_list (tabulate k o) ≡ []
  nothing_there zero o h = refl
  nothing_there (suc k) o h = λ q. option_to_list (h zero (omega arith) q) ++ nothing_there k (λ i. o (suc i)) (λ i l. h (suc i) (omega (arith, l))) q

  no_terminal : (t : TracedTable F) (challenges : List E) (ls : List (LookupData F)) → t.lookups ≡ ls → has_some ls ≡ false → honest_terminal c p t challenges ≡ None
  unfolding honest_terminal
  no_terminal t challenges [] e h = ap (λ ls. where_some ls (running_sum (argument_of_table c p t challenges) (2 ^ log_rows c t))) e
  no_terminal t challenges (l ∷ ls) e h = absurd (false≢true (sym h))

  -- as many lists as there are none of them has an item
  none_some : (tables : List (List (LookupData F))) → count_by has_some tables ≡ 0 → (i : ℕ) → i < length tables → has_some (get_or tables i []) ≡ false
  none_some [] e i h = absurd (omega (arith, h))
  none_some (ls ∷ tables) e zero h = one_off (has_some ls) (count_by has_some tables) (sym (sum_by-cons (λ (x : List (LookupData F)). cond (has_some x) 1 0) ls tables) ∙ e)
  none_some (ls ∷ tables) e (suc i) h =
      let more = sum_by-cons (λ (x : List (LookupData F)). cond (has_some x) 1 0) ls tables in
      none_some tables (omega (arith, e, more)) i (omega (arith, h))

  -- with any pair, or none where no table has lookups
  pub pair_vanishes : (pair : List E) → IsPair (count_by has_some s.common.lookups) pair
      → sum_of c.extension.ring (flat_map option_to_list (tabulate n (λ i. honest_terminal c p (at i) (get_or (batch_layout c.extension.ring pair s.common.lookups) i [])))) ≡ c.extension.ring.zero
  pair_vanishes pair is = by_count (count_by has_some s.common.lookups) refl is
    where
      by_count : (m : ℕ) → count_by has_some s.common.lookups ≡ m → IsPair m pair
          → sum_of c.extension.ring (flat_map option_to_list (tabulate n (λ i. honest_terminal c p (at i) (get_or (batch_layout c.extension.ring pair s.common.lookups) i [])))) ≡ c.extension.ring.zero
      by_count zero e is =
          ap (sum_of c.extension.ring)
          (nothing_there n (λ i. honest_terminal c p (at i) (get_or (batch_layout c.extension.ring pair s.common.lookups) i []))
          (λ i h. no_terminal (at i) (get_or (batch_layout c.extension.ring pair s.common.lookups) i []) (at i).lookups refl (none_some s.common.lookups e i (let q = V.batch.lists.lookups_long in omega (arith, h, q)))))
      by_count (suc m) e (alpha, beta, two) =
          subst (λ l. sum_of c.extension.ring (flat_map option_to_list (tabulate n (λ i. honest_terminal c p (at i) (get_or (batch_layout c.extension.ring l s.common.lookups) i [])))) ≡ c.extension.ring.zero) (sym two)
          (terminals_vanish alpha beta)

  pub honest_vanish : (w : Option F) → sum_of c.extension.ring (flat_map option_to_list (terminals c p s traces degree_bits w)) ≡ c.extension.ring.zero
  unfolding pair
  honest_vanish w = pair_vanishes (pair c p s traces degree_bits w) (one_pair c.challenger c.extension.dimension (count_by has_some s.common.lookups) c.lookup_bits w (state_at_pair c p s traces degree_bits))
