-- What is made of a batch's AIRs is well-formed.
use Rattle.std.proofs.Common.{◌≡◌, ℕ, zero, suc, ◌+◌, ◌-◌, ◌<◌, max, min, List, [], ◌∷◌, ◌++◌, length, get_or, map, take, Option, None, Some, inl, inr, refl, sym, ◌∙◌, ap, subst, add-one, arith}
use Rattle.std.specs.Prelude.{All, flat_map, slice_get}
use Rattle.std.proofs.lemmas.Bool.{cases_lt}
use Rattle.std.proofs.lemmas.List.{length-map, length-append, get_or-map}
use Rattle.std.proofs.lemmas.List.Elements.{All-weaker, All-map}
use Rattle.p3_field.specs.Domain.{CosetData}
use Rattle.p3_field.specs.Laws.Tabulate.{length-tabulate, get_or-tabulate, tabulate_more, tabulate-append}
use Rattle.p3_field.specs.Poly.{tabulate}
use Rattle.p3_field.specs.Ring.{Ring}
use Rattle.p3_matrix.specs.Matrix.{Rows}
use Rattle.air_core.specs.Shape.{Declaration, HasColumns, IsInteraction, declared_shape, width_of}
use Rattle.air_core.specs.Tree.{Tree, Interaction}
use Rattle.p3_lookup.specs.Bus.{HaveOneWidth}
use Rattle.p3_lookup.specs.Lookup.{LookupData, HasCountForEach, IsLookup, ReadsSent, lookups_of}
use Rattle.batch_constraints.specs.BatchTrees.{AreLookupsOf}
use Rattle.batch_constraints.specs.Laws.Own.{own_lookups as own_are_lookups}
use Rattle.batch_constraints.specs.Laws.Packing.{packed_lookups as packed_are_lookups}
use Rattle.batch_statement.specs.Statement.{Common, HasEntryOf, HasPlace, IsPlaced, ListsEntries, PreprocessedTracesData, WellFormed, entry_of, instance_count, with_entry, within_entries}
use Rattle.batch_statement.specs.declared.preprocessed.PreprocessedInstanceMeta.{PreprocessedInstanceMeta}
use Rattle.batch_setup.specs.Packed.{Source, source_of, no_source, own_budget, unpacked_lookups, packed_at}
use Rattle.batch_setup.specs.Preprocessed.{IsPrepared, committed_trace_at, committed_below, entry_at, entry_with, on_domain, trace_at}
use Rattle.batch_setup.specs.Laws.OneWidth.{packed_one_width}

-- the tables with an entry, of two lists one after another
with_append : (i : ℕ) (xs ys : List (Option PreprocessedInstanceMeta)) → with_entry i (xs ++ ys) ≡ with_entry i xs ++ with_entry (i + length xs) ys
with_append i [] ys = let e : i ≡ i + 0 = omega arith in ap (λ k. with_entry k ys) e
with_append i (None ∷ xs) ys =
    let e : suc i + length xs ≡ i + suc (length xs) = omega arith in with_append (suc i) xs ys ∙ ap (λ k. with_entry (suc i) xs ++ with_entry k ys) e
with_append i (Some x ∷ xs) ys =
    let e : suc i + length xs ≡ i + suc (length xs) = omega arith in
    ap (λ zs. i ∷ zs) (with_append (suc i) xs ys ∙ ap (λ k. with_entry (suc i) xs ++ with_entry k ys) e)

get_after : (xs : List ℕ) (y : ℕ) (ys : List ℕ) → slice_get (xs ++ y ∷ ys) (length xs) ≡ Some y
get_after [] y ys = refl
get_after (x ∷ xs) y ys = get_after xs y ys

-- preprocessed traces fit n tables, of which table i has this preprocessed trace
record FitTraces {F C : Type 0} (n : ℕ) (traces : ℕ → Option (Rows F)) (p : Option (PreprocessedTracesData C)) : Type 0 where
  counted : within_entries p n ≡ n
  entries : (i : ℕ) → i < n → HasEntryOf (width_of (traces i)) (entry_of p i)
  listed : ListsEntries n p
  places : (i : ℕ) → i < n → HasPlace p i

module _ {F : Type 0} (one : F) (sources : List (Source F)) (bits : List ℕ) where
  abbrev entry : ℕ → Option PreprocessedInstanceMeta
  entry i = entry_at one sources bits i

  abbrev count_below : ℕ → ℕ
  count_below i = length (committed_below one sources bits i)

  as_many : (j m b : ℕ) (o : Option (Rows F)) → length (with_entry j (entry_with m b o ∷ [])) ≡ length (on_domain one b o)
  as_many j m b None = refl
  as_many j m b (Some t) = refl

  next_entry : (k : ℕ) → tabulate (suc k) entry ≡ tabulate k entry ++ entry k ∷ []
  next_entry k = ap (λ m. tabulate m entry) (sym (add-one k)) ∙ sym (tabulate_more k entry)

  -- as many tables have an entry as matrices are committed
  listed_long : (k : ℕ) → length (with_entry 0 (tabulate k entry)) ≡ count_below k
  listed_long zero = refl
  listed_long (suc k) =
      let j = 0 + length (tabulate k entry) in
      let more : length (with_entry 0 (tabulate (suc k) entry)) ≡ length (with_entry 0 (tabulate k entry)) + length (with_entry j (entry k ∷ [])) =
      ap (λ es. length (with_entry 0 es)) (next_entry k) ∙ ap length (with_append 0 (tabulate k entry) (entry k ∷ []))
      ∙ length-append (with_entry 0 (tabulate k entry)) (with_entry j (entry k ∷ [])) in
      let own = as_many j (count_below k) (get_or bits k 0) (trace_at sources k) in
      let all : count_below (suc k) ≡ count_below k + length (committed_trace_at one sources bits k) = length-append (committed_below one sources bits k) (committed_trace_at one sources bits k) in
      let before = listed_long k in
      omega (arith, more, own, all, before)

  -- the place of an entry's table among those with an entry
  placed : (i n : ℕ) → i < n → (o : Option (Rows F)) → trace_at sources i ≡ o → IsPlaced (with_entry 0 (tabulate n entry)) i (entry_with (count_below i) (get_or bits i 0) o)
  placed i n h None e = tt
  placed i n h (Some t) e =
      let k = n - i - 1 in
      let split : n ≡ i + suc k = omega (arith, h) in
      let at : i + 0 ≡ i = omega arith in
      let rest = tabulate k (λ j. entry (i + suc j)) in
      let here : entry (i + 0) ≡ Some (record { matrix_index = count_below i; width = t.width; degree_bits = get_or bits i 0 }) =
      ap entry at ∙ ap (entry_with (count_below i) (get_or bits i 0)) e in
      let whole : with_entry 0 (tabulate n entry) ≡ with_entry 0 (tabulate i entry) ++ (0 + length (tabulate i entry)) ∷ with_entry (suc (0 + length (tabulate i entry))) rest =
      ap (λ m. with_entry 0 (tabulate m entry)) split ∙ ap (with_entry 0) (tabulate-append i (suc k) entry) ∙ with_append 0 (tabulate i entry) (entry (i + 0) ∷ rest)
      ∙ ap (λ x. with_entry 0 (tabulate i entry) ++ with_entry (0 + length (tabulate i entry)) (x ∷ rest)) here in
      let number : 0 + length (tabulate i entry) ≡ i = let l = length-tabulate i entry in omega (arith, l) in
      ap (λ xs. slice_get xs (count_below i)) whole
      ∙ ap (slice_get (with_entry 0 (tabulate i entry) ++ (0 + length (tabulate i entry)) ∷ with_entry (suc (0 + length (tabulate i entry))) rest)) (sym (listed_long i))
      ∙ get_after (with_entry 0 (tabulate i entry)) (0 + length (tabulate i entry)) (with_entry (suc (0 + length (tabulate i entry))) rest)
      ∙ ap Some number

  nothing : (b : ℕ) (o : Option (Rows F)) → length (on_domain one b o) ≡ 0 → o ≡ None
  nothing b None e = refl
  nothing b (Some t) e = absurd (omega (arith, e))

  -- where nothing is committed, no table has a trace
  none_there : (n i : ℕ) → i < n → count_below n ≡ 0 → trace_at sources i ≡ None
  none_there zero i h e = absurd (omega (arith, h))
  none_there (suc n) i h e =
      let all : count_below (suc n) ≡ count_below n + length (committed_trace_at one sources bits n) = length-append (committed_below one sources bits n) (committed_trace_at one sources bits n) in
      elim (cases_lt i n) [
        | inl less ↦ none_there n i less (omega (arith, all, e))
        | inr ge ↦
            let same : n ≡ i = omega (arith, h, ge) in
            subst (λ m. trace_at sources m ≡ None) same (nothing (get_or bits n 0) (trace_at sources n) (omega (arith, all, e)))
      ]

  has_entry : (m b : ℕ) (o : Option (Rows F)) → HasColumns o → HasEntryOf (width_of o) (entry_with m b o)
  has_entry m b None h = refl
  has_entry m b (Some t) h = (h, refl)

  fit_traces : {C P : Type 0} (commits : List (CosetData F × Rows F) → C × P → Type 0) (n : ℕ) (columns : (i : ℕ) → i < n → HasColumns (trace_at sources i))
      (es : List (CosetData F × Rows F)) → es ≡ committed_below one sources bits n → (p : Option (PreprocessedTracesData C)) (kept : Option P)
      → IsPrepared commits (tabulate n entry) es p kept → FitTraces n (trace_at sources) p
  fit_traces commits n columns [] e p kept h =
      subst (FitTraces n (trace_at sources)) (sym h.0)
      (record { counted = refl; entries = λ i lt. ap width_of (none_there n i lt (sym (ap length e))); listed = tt; places = λ i lt. tt })
  fit_traces commits n columns (x ∷ es) e None kept h = absurd h
  fit_traces commits n columns (x ∷ es) e (Some g) None h = absurd h
  fit_traces commits n columns (x ∷ es) e (Some g) (Some d) h =
      let at : (i : ℕ) → i < n → get_or g.instances i None ≡ entry i = λ i lt. ap (λ xs. get_or xs i None) h.0 ∙ get_or-tabulate n entry i None lt in
      let long : length g.instances ≡ n = ap length h.0 ∙ length-tabulate n entry in
      record {
        counted = omega (arith, long);
        entries = λ i lt. subst (HasEntryOf (width_of (trace_at sources i))) (sym (at i lt)) (has_entry (count_below i) (get_or bits i 0) (trace_at sources i) (columns i lt));
        listed = h.1 ∙ sym (ap (with_entry 0) (ap (λ m. take m g.instances) (sym long) ∙ whole g.instances ∙ h.0));
        places = λ i lt. subst (λ xs. IsPlaced xs i (get_or g.instances i None)) (sym h.1)
            (subst (IsPlaced (with_entry 0 (tabulate n entry)) i) (sym (at i lt)) (placed i n lt (trace_at sources i) refl));
      }
    where
      whole : {A : Type 0} (xs : List A) → take (length xs) xs ≡ xs
      whole [] = refl
      whole (y ∷ ys) = ap (λ zs. y ∷ zs) (whole ys)

-- the own lookups of AIRs, one AIR after the other
joined : {A F : Type 0} (interactions : A → List (Interaction F)) (make : A → Source F) → ((a : A) → unpacked_lookups (make a) ≡ lookups_of (interactions a)) → (airs : List A)
    → flat_map (λ a. lookups_of (interactions a)) airs ≡ flat_map (λ ls. ls) (tabulate (length (map make airs)) (λ i. unpacked_lookups (get_or (map make airs) i no_source)))
joined interactions make e [] = refl
joined interactions make e (a ∷ airs) = ap (λ ls. ls ++ flat_map (λ b. lookups_of (interactions b)) airs) (sym (e a)) ∙ ap (λ ls. unpacked_lookups (make a) ++ ls) (joined interactions make e airs)

declared : {A F : Type 0} (make : A → Source F) (airs : List A) → map (λ a. (make a).declaration) airs ≡ map (λ (s : Source F). s.declaration) (map make airs)
declared make [] = refl
declared make (a ∷ airs) = ap (λ ds. (make a).declaration ∷ ds) (declared make airs)

module _ {F : Type 0} (r : Ring F) (masks : ℕ) (sources : List (Source F)) (bits budgets : List ℕ) where
  abbrev at : ℕ → Source F
  at i = get_or sources i no_source

  abbrev lookups : List (List (LookupData F))
  lookups = tabulate (length sources) (packed_at r masks sources bits budgets)

  abbrev declarations : List (Declaration F)
  declarations = map (λ (s : Source F). s.declaration) sources

  module _ {C : Type 0} (own : (i : ℕ) → i < length sources → AreLookupsOf (at i).declaration (unpacked_lookups (at i))) (widths : HaveOneWidth (flat_map (λ ls. ls) (tabulate (length sources) (λ i. unpacked_lookups (at i)))))
      (p : Option (PreprocessedTracesData C)) (traces : FitTraces (length sources) (trace_at sources) p) where
    abbrev common : Common F C
    common = record { preprocessed = p; lookups = lookups }

    all_counted : instance_count declarations common ≡ length sources
    all_counted =
        let long : length declarations ≡ length sources = length-map sources (λ (s : Source F). s.declaration) in
        let as_long : length lookups ≡ length sources = length-tabulate (length sources) (packed_at r masks sources bits budgets) in
        let least : min (length declarations) (length lookups) ≡ length sources = omega (arith, long, as_long) in
        ap (within_entries p) least ∙ traces.counted

    declaration_at : (i : ℕ) (d : Declaration F) → i < length sources → get_or declarations i d ≡ (at i).declaration
    declaration_at i d lt = get_or-map (λ (s : Source F). s.declaration) sources i no_source d lt

    lookups_at : (i : ℕ) → i < length sources → get_or lookups i [] ≡ packed_at r masks sources bits budgets i
    lookups_at i lt = get_or-tabulate (length sources) (packed_at r masks sources bits budgets) i [] lt

    -- the lookups of each table are lookups of it
    fit : (i : ℕ) → i < length sources → All (IsLookup (declared_shape (at i).declaration)) (get_or lookups i [])
    fit i lt =
        subst (λ ls. All (IsLookup (declared_shape (at i).declaration)) ls) (sym (lookups_at i lt))
        (packed_are_lookups r (declared_shape (at i).declaration) 0 (max (own_budget r masks (get_or bits i 0) (at i)) (get_or budgets i 0)) (unpacked_lookups (at i)) (own i lt))

    within : (i : ℕ) → i < instance_count declarations common → i < length sources
    within i lt = omega (arith, lt, all_counted)

    formed : WellFormed declarations common
    formed = record {
      reads = λ i lt d.
          let shape = declared_shape (at i).declaration in
          subst (λ (e : Declaration F). All (ReadsSent (declared_shape e)) (get_or lookups i [])) (sym (declaration_at i d (within i lt)))
          (All-weaker (IsLookup shape) (ReadsSent shape) (λ l q. q.reads) (get_or lookups i []) (fit i (within i lt)));
      counted = λ i lt. All-weaker (IsLookup (declared_shape (at i).declaration)) HasCountForEach (λ l q. q.counted) (get_or lookups i []) (fit i (within i lt));
      one_width =
          subst (λ (lss : List (List (LookupData F))). HaveOneWidth (flat_map (λ ls. ls) lss))
          (sym (ap (λ m. take m lookups) (all_counted ∙ sym (length-tabulate (length sources) (packed_at r masks sources bits budgets))) ∙ whole lookups))
          (packed_one_width r 0 (λ i. max (own_budget r masks (get_or bits i 0) (at i)) (get_or budgets i 0)) (λ i. unpacked_lookups (at i)) (length sources) widths);
      entries = λ i lt d. subst (λ (e : Declaration F). HasEntryOf (width_of e.preprocessed) (entry_of p i)) (sym (declaration_at i d (within i lt))) (traces.entries i (within i lt));
      listed = subst (λ m. ListsEntries m p) (sym all_counted) traces.listed;
      places = λ i lt. traces.places i (within i lt);
    }
      where
        whole : {A : Type 0} (xs : List A) → take (length xs) xs ≡ xs
        whole [] = refl
        whole (y ∷ ys) = ap (λ zs. y ∷ zs) (whole ys)

-- the same of AIRs
module _ {A F C P : Type 0} (declaration : A → Declaration F) (trees : A → List (Tree F)) (interactions : A → List (Interaction F))
    (columns : (a : A) → HasColumns (declaration a).preprocessed) (sends : (a : A) → All (IsInteraction (declared_shape (declaration a))) (interactions a)) where
  pub made_well_formed : (one : F) (r : Ring F) (masks : ℕ) (airs : List A) (bits budgets : List ℕ) (commits : List (CosetData F × Rows F) → C × P → Type 0)
      (p : Option (PreprocessedTracesData C)) (kept : Option P) (lookups : List (List (LookupData F)))
      → HaveOneWidth (flat_map (λ a. lookups_of (interactions a)) airs)
      → IsPrepared commits (tabulate (length airs) (entry_at one (map (source_of declaration trees interactions) airs) bits)) (committed_below one (map (source_of declaration trees interactions) airs) bits (length airs)) p kept
      → lookups ≡ tabulate (length airs) (packed_at r masks (map (source_of declaration trees interactions) airs) bits budgets)
      → WellFormed (map declaration airs) (record { preprocessed = p; lookups = lookups })
  made_well_formed one r masks airs bits budgets commits p kept lookups widths prepared e =
      let make : A → Source F = source_of declaration trees interactions in
      let sources = map make airs in
      let long : length airs ≡ length sources = sym (length-map airs make) in
      let same : (i : ℕ) → i < length sources → HasColumns (trace_at sources i) = λ i lt.
      All-map (λ (s : Source F). HasColumns s.declaration.preprocessed) make airs (λ k a l. columns _) i no_source lt in
      let own : (i : ℕ) → i < length sources → AreLookupsOf (get_or sources i no_source).declaration (unpacked_lookups (get_or sources i no_source)) = λ i lt.
      All-map (λ (s : Source F). AreLookupsOf s.declaration (unpacked_lookups s)) make airs (λ k a l. own_are_lookups (declaration _) (interactions _) (sends _)) i no_source lt in
      let ready = subst (λ n. IsPrepared commits (tabulate n (entry_at one sources bits)) (committed_below one sources bits n) p kept) long prepared in
      let traces = fit_traces one sources bits commits (length sources) same (committed_below one sources bits (length sources)) refl p kept ready in
      let one_width = subst (λ (ls : List (LookupData F)). HaveOneWidth ls) (joined interactions make (λ a. refl) airs) widths in
      subst (λ (ds : List (Declaration F)). WellFormed ds (record { preprocessed = p; lookups = lookups })) (sym (declared make airs))
      (subst (λ (ls : List (List (LookupData F))). WellFormed (map (λ (s : Source F). s.declaration) sources) (record { preprocessed = p; lookups = ls }))
      (sym (e ∙ ap (λ n. tabulate n (packed_at r masks sources bits budgets)) long)) (formed r masks sources bits budgets own one_width p traces))
