-- What is laid out for the lookups of a batch, and the widths of its messages.
use Rattle.std.proofs.Common.{◌≡◌, ℕ, zero, suc, ◌+◌, ◌<◌, Bool, true, List, [], ◌∷◌, ◌++◌, length, get_or, map, refl, sym, ◌∙◌, ap, subst, arith}
use Rattle.std.specs.Prelude.{All, flat_map}
use Rattle.std.proofs.lemmas.List.{length-map, map-append, get_or-map, get_or_append_left, get_or-append-add, get_or_default}
use Rattle.std.proofs.lemmas.List.Elements.{All-cons, All-head, All-tail, All-append, All-weaker}
use Rattle.p3_field.specs.Ring.{Ring, RingLaws}
use Rattle.p3_field.specs.Field.{RingHom}
use Rattle.p3_field.specs.Poly.{tabulate}
use Rattle.p3_field.specs.Laws.Tabulate.{get_or-tabulate}
use Rattle.air_core.specs.declared.cells.Count.{Count}
use Rattle.air_core.specs.Tree.{Tree, local}
use Rattle.p3_lookup.specs.Lookup.{LookupData, pair_up, sent}
use Rattle.p3_lookup.specs.Term.{sum_of}
use Rattle.p3_lookup.specs.Honest.{running_sum}
use Rattle.p3_lookup.specs.Bus.{bus_number, bus_in, bus_count, batch_buses, lookups_before, widest}
use Rattle.p3_lookup.specs.Challenge.{bus_base, challenges_with}
use Rattle.p3_lookup.specs.Messages.{Message, Sender, message, messages_from, table_messages, batch_messages, challenges_from, argument_of, terminal_of}
use Rattle.p3_lookup.specs.Batch.{SendingTable, batch_lookups, senders_from, senders, laid_out, laid_out_terminal, BalancedBatch, WidthsPassOn}
use Rattle.p3_lookup.specs.Laws.Buses.{number_below}
use Rattle.p3_lookup.specs.Laws.Places.{place_within, place_after}
use Rattle.p3_lookup.specs.Laws.Messages.{balance_sums}

-- the lookups of the table at a place
lookups_at : {F : Type 0} (ts : List (SendingTable F)) (k : ℕ) (d : SendingTable F) → k < length ts → get_or (batch_lookups ts) k [] ≡ (get_or ts k d).lookups
lookups_at ts k d h = get_or-map (λ t. t.lookups) ts k d [] h

-- the number of a lookup's bus is one of the batch's
pub bus_below : {F : Type 0} (ts : List (SendingTable F)) (k n : ℕ) (d : SendingTable F) → k < length ts → n < length (get_or ts k d).lookups → bus_in (batch_lookups ts) k n < bus_count (batch_buses (batch_lookups ts))
bus_below ts k n d h lt =
    let tables = batch_lookups ts in
    let long : k < length tables = omega (arith, h, length-map ts (λ t. t.lookups)) in
    let inside : n < length (get_or tables k []) = omega (arith, lt, ap length (lookups_at ts k d h)) in
    number_below (batch_buses tables) (lookups_before tables k + n) (place_within tables k n long inside)

-- what is laid out by numbers below the count of the bases
laid_out_is : {E : Type 0} (e : Ring E) (alpha beta : E) (w b : ℕ) (bus : ℕ → ℕ) (n m : ℕ) → ((k : ℕ) → k < m → bus (n + k) < b)
    → laid_out e.zero (challenges_with e alpha beta w b) bus n m ≡ challenges_from (bus_base e alpha beta w) beta bus n m
laid_out_is e alpha beta w b bus n zero h = refl
laid_out_is e alpha beta w b bus n (suc m) h =
    let z : n + 0 ≡ n = omega arith in
    let here : bus n < b = subst (λ (k : ℕ). bus k < b) z (h 0 (omega arith)) in
    let base : get_or (tabulate b (bus_base e alpha beta w)) (bus n) e.zero ≡ bus_base e alpha beta w (bus n) = get_or-tabulate b (bus_base e alpha beta w) (bus n) e.zero here in
    ap (λ x. x ∷ beta ∷ laid_out e.zero (challenges_with e alpha beta w b) bus (suc n) m) base
    ∙ ap (λ l. bus_base e alpha beta w (bus n) ∷ beta ∷ l)
    (laid_out_is e alpha beta w b bus (suc n) m (λ k lt. let q : n + suc k ≡ suc n + k = omega arith in subst (λ (j : ℕ). bus j < b) q (h (suc k) (omega (arith, lt)))))

module _ {F E : Type 0} (e : Ring E) (inv : E → E) (embed : F → E) (alpha beta : E) (w b : ℕ) where
  terminals_from : (bus : ℕ → ℕ → ℕ) (t : ℕ) (ts : List (SendingTable F)) → ((k n : ℕ) (d : SendingTable F) → k < length ts → n < length (get_or ts k d).lookups → bus (t + k) n < b)
      → map (laid_out_terminal e inv embed (challenges_with e alpha beta w b)) (senders_from bus t ts) ≡ map (terminal_of e inv embed (bus_base e alpha beta w) beta) (senders_from bus t ts)
  terminals_from bus t [] h = refl
  terminals_from bus t (x ∷ xs) h =
      let s : Sender F = record { lookups = x.lookups; bus = bus t; rows = x.rows; value = x.value } in
      let z : t + 0 ≡ t = omega arith in
      let own : laid_out e.zero (challenges_with e alpha beta w b) (bus t) 0 (length x.lookups) ≡ challenges_from (bus_base e alpha beta w) beta (bus t) 0 (length x.lookups) =
      laid_out_is e alpha beta w b (bus t) 0 (length x.lookups)
      (λ k lt. let q : k ≡ 0 + k = omega arith in subst (λ (j : ℕ). bus t j < b) q (subst (λ (i : ℕ). bus i k < b) z (h 0 k x (omega arith) lt))) in
      ap (λ l. running_sum (argument_of e inv embed l s) s.rows ∷ map (laid_out_terminal e inv embed (challenges_with e alpha beta w b)) (senders_from bus (suc t) xs)) own
      ∙ ap (λ l. terminal_of e inv embed (bus_base e alpha beta w) beta s ∷ l)
      (terminals_from bus (suc t) xs (λ k n d lt in-k. let q : t + suc k ≡ suc t + k = omega arith in subst (λ (i : ℕ). bus i n < b) q (h (suc k) n d (omega (arith, lt)) in-k)))

-- where nothing is left over, the terminals sum to zero
pub balanced_batch : {F E : Type 0} (f : Ring F) (fL : RingLaws f) (eq : F → F → Bool) (eq_same : (x y : F) → eq x y ≡ true → x ≡ y) (same_eq : (x : F) → eq x x ≡ true)
    (e : Ring E) (L : RingLaws e) (inv : E → E) (embed : F → E) (H : RingHom f e embed) (ts : List (SendingTable F)) → BalancedBatch f eq e inv embed ts
balanced_batch f fL eq eq_same same_eq e L inv embed H ts h alpha beta =
    let tables = batch_lookups ts in
    let w = widest tables in
    let b = bus_count (batch_buses tables) in
    ap (sum_of e) (terminals_from e inv embed alpha beta w b (bus_in tables) 0 ts
    (λ k n d lt in-k. let q : k ≡ 0 + k = omega arith in subst (λ (i : ℕ). bus_in tables i n < b) q (bus_below ts k n d lt in-k)))
    ∙ balance_sums f fL eq eq_same same_eq e L inv embed H (bus_base e alpha beta w) beta (senders ts) h

-- The widths of messages

module _ {F : Type 0} (Q : ℕ → ℕ → Type 0) where
  abbrev HasWidth : Message F → Type 0
  HasWidth m = Q m.bus (length m.tuple)

  sent_widths : (v : Tree F → F) (b : ℕ) (ts : List (List (Tree F))) (cs : List (Count (Tree F))) → All (λ t. Q b (length t)) ts → All HasWidth (map (message v b) (pair_up ts cs))
  sent_widths v b [] cs h = λ k d lt. absurd (omega (arith, lt))
  sent_widths v b (t ∷ ts) [] h = λ k d lt. absurd (omega (arith, lt))
  sent_widths v b (t ∷ ts) (c ∷ cs) h =
      let P : List (Tree F) → Type 0 = λ u. Q b (length u) in
      let wide : length t ≡ length (map v t) = sym (length-map t v) in
      All-cons HasWidth (message v b (record { tuple = t; count = c.value })) (map (message v b) (pair_up ts cs))
      (subst (Q b) wide (All-head P t ts h)) (sent_widths v b ts cs (All-tail P t ts h))

  row_widths : (v : Tree F → F) (bus : ℕ → ℕ) (n : ℕ) (ls : List (LookupData F)) → ((k : ℕ) (d : LookupData F) → k < length ls → All (λ t. Q (bus (n + k)) (length t)) (get_or ls k d).tuples)
      → All HasWidth (messages_from v bus n ls)
  row_widths v bus n [] h = λ k d lt. absurd (omega (arith, lt))
  row_widths v bus n (l ∷ ls) h =
      let z : n + 0 ≡ n = omega arith in
      let own = subst (λ (j : ℕ). All (λ t. Q (bus j) (length t)) l.tuples) z (h 0 l (omega arith)) in
      All-append HasWidth (map (message v (bus n)) (sent l)) (messages_from v bus (suc n) ls)
      (sent_widths v (bus n) l.tuples l.counts own)
      (row_widths v bus (suc n) ls (λ k d lt. let q : n + suc k ≡ suc n + k = omega arith in subst (λ (j : ℕ). All (λ t. Q (bus j) (length t)) (get_or ls k d).tuples) q (h (suc k) d (omega (arith, lt)))))

  flat_widths : {X : Type 0} (f : X → List (Message F)) → ((x : X) → All HasWidth (f x)) → (xs : List X) → All HasWidth (flat_map f xs)
  flat_widths f h [] = λ k d lt. absurd (omega (arith, lt))
  flat_widths f h (x ∷ xs) = All-append HasWidth (f x) (flat_map f xs) (h x) (flat_widths f h xs)

  pub table_widths : (s : Sender F) → ((k : ℕ) (d : LookupData F) → k < length s.lookups → All (λ t. Q (s.bus k) (length t)) (get_or s.lookups k d).tuples) → All HasWidth (table_messages s)
  table_widths s h = flat_widths (λ i. messages_from (s.value i) s.bus 0 s.lookups) (λ i. row_widths (s.value i) s.bus 0 s.lookups at) (tabulate s.rows (λ i. i))
    where
      at : (k : ℕ) (d : LookupData F) → k < length s.lookups → All (λ t. Q (s.bus (0 + k)) (length t)) (get_or s.lookups k d).tuples
      at k d lt = let q : k ≡ 0 + k = omega arith in subst (λ (j : ℕ). All (λ t. Q (s.bus j) (length t)) (get_or s.lookups k d).tuples) q (h k d lt)

  pub senders_widths : (bus : ℕ → ℕ → ℕ) (t : ℕ) (ts : List (SendingTable F))
      → ((k n : ℕ) (x : SendingTable F) (d : LookupData F) → k < length ts → n < length (get_or ts k x).lookups → All (λ u. Q (bus (t + k) n) (length u)) (get_or (get_or ts k x).lookups n d).tuples)
      → All HasWidth (batch_messages (senders_from bus t ts))
  senders_widths bus t [] h = λ k d lt. absurd (omega (arith, lt))
  senders_widths bus t (x ∷ xs) h =
      let z : t + 0 ≡ t = omega arith in
      let s : Sender F = record { lookups = x.lookups; bus = bus t; rows = x.rows; value = x.value } in
      All-append HasWidth (table_messages s) (batch_messages (senders_from bus (suc t) xs))
      (table_widths s (λ n d lt. subst (λ (j : ℕ). All (λ u. Q (bus j n) (length u)) (get_or x.lookups n d).tuples) z (h 0 n x d (omega arith) lt)))
      (senders_widths bus (suc t) xs (λ k n y d lt in-k. let q : t + suc k ≡ suc t + k = omega arith in
      subst (λ (j : ℕ). All (λ u. Q (bus j n) (length u)) (get_or (get_or xs k y).lookups n d).tuples) q (h (suc k) n y d (omega (arith, lt)) in-k)))

-- the lookups of all tables one after another
abbrev all_lookups : {F : Type 0} → List (List (LookupData F)) → List (LookupData F)
all_lookups tables = flat_map (λ ls. ls) tables

buses_are : {F : Type 0} (tables : List (List (LookupData F))) → batch_buses tables ≡ map (λ l. l.bus) (all_lookups tables)
buses_are [] = refl
buses_are (ls ∷ tables) = ap (λ bs. map (λ l. l.bus) ls ++ bs) (buses_are tables) ∙ sym (map-append (λ l. l.bus) ls (all_lookups tables))

lookup_in : {F : Type 0} (tables : List (List (LookupData F))) (t n : ℕ) (d : LookupData F) → t < length tables → n < length (get_or tables t []) → get_or (all_lookups tables) (lookups_before tables t + n) d ≡ get_or (get_or tables t []) n d
lookup_in [] t n d h lt = absurd (omega (arith, h))
lookup_in (ls ∷ tables) zero n d h lt =
    let z : 0 + n ≡ n = omega arith in
    ap (λ j. get_or (ls ++ all_lookups tables) j d) z ∙ get_or_append_left ls (all_lookups tables) d n lt
lookup_in (ls ∷ tables) (suc t) n d h lt =
    ap (λ j. get_or (ls ++ all_lookups tables) j d) (place_after (length ls) (lookups_before tables t) n (length ls) refl)
    ∙ get_or-append-add ls (all_lookups tables) (lookups_before tables t + n) d
    ∙ lookup_in tables t n d (omega (arith, h)) lt

-- a bus and a width that some tuple of the lookups has
record IsSent {F : Type 0} (ls : List (LookupData F)) (b w : ℕ) : Type 0 where
  place : ℕ
  within : place < length ls
  number : bus_number (map (λ l. l.bus) ls) place ≡ b
  tuple : ℕ
  inside : (d : LookupData F) → tuple < length (get_or ls place d).tuples
  wide : (d : LookupData F) (u : List (Tree F)) → length (get_or (get_or ls place d).tuples tuple u) ≡ w

pub widths_pass_on : {F : Type 0} (ts : List (SendingTable F)) → WidthsPassOn ts
widths_pass_on {F = F} ts one =
    All-weaker (λ (m : Message F). IsSent all m.bus (length m.tuple)) (λ (a : Message F). All (λ b. a.bus ≡ b.bus → length a.tuple ≡ length b.tuple) ms)
    (λ a p. All-weaker (λ (m : Message F). IsSent all m.bus (length m.tuple)) (λ (b : Message F). a.bus ≡ b.bus → length a.tuple ≡ length b.tuple) (λ b q e. same_width a.bus b.bus (length a.tuple) (length b.tuple) p q e) ms from)
    ms from
  where
    tables : List (List (LookupData F))
    tables = batch_lookups ts

    all : List (LookupData F)
    all = all_lookups (batch_lookups ts)

    ms : List (Message F)
    ms = batch_messages (senders ts)

    nothing : LookupData F
    nothing = record { bus = local; tuples = []; counts = [] }

    same_width : (b c v w : ℕ) → IsSent all b v → IsSent all c w → b ≡ c → v ≡ w
    same_width b c v w p q e =
        let n : bus_number (map (λ l. l.bus) all) p.place ≡ bus_number (map (λ l. l.bus) all) q.place = p.number ∙ e ∙ sym q.number in
        let h = one p.place q.place nothing p.within q.within n p.tuple [] (p.inside nothing) q.tuple [] (q.inside nothing) in
        sym (p.wide nothing []) ∙ sym h ∙ q.wide nothing []

    at : (k n : ℕ) (x : SendingTable F) (d : LookupData F) → k < length ts → n < length (get_or ts k x).lookups
        → All (λ u. IsSent all (bus_in tables (0 + k) n) (length u)) (get_or (get_or ts k x).lookups n d).tuples
    at k n x d h lt j u ju =
        let long : k < length tables = omega (arith, h, length-map ts (λ t. t.lookups)) in
        let own : get_or tables k [] ≡ (get_or ts k x).lookups = lookups_at ts k x h in
        let within : n < length (get_or tables k []) = omega (arith, lt, ap length own) in
        let p = lookups_before tables k + n in
        let same = λ (y : LookupData F). lookup_in tables k n y long within ∙ ap (λ l. get_or l n y) own ∙ get_or_default (get_or ts k x).lookups n y d lt in
        let z : k ≡ 0 + k = omega arith in
        record {
          place = p;
          within = omega (arith, place_within tables k n long within, ap length (buses_are tables), length-map all (λ l. l.bus));
          number = ap (λ bs. bus_number bs p) (sym (buses_are tables)) ∙ ap (λ i. bus_in tables i n) z;
          tuple = j;
          inside = λ y. subst (λ (l : LookupData F). j < length l.tuples) (sym (same y)) ju;
          wide = λ y w. ap (λ (l : LookupData F). length (get_or l.tuples j w)) (same y) ∙ ap length (get_or_default (get_or (get_or ts k x).lookups n d).tuples j w u ju);
        }

    from : All (λ (m : Message F). IsSent all m.bus (length m.tuple)) ms
    from = senders_widths (IsSent all) (bus_in tables) 0 ts at
