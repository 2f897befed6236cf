-- The tables that well-formed data lists have preprocessed columns.
use Rattle.std.proofs.Common.{◌≡◌, ℕ, suc, ◌+◌, ◌-◌, ◌<◌, ◌≤◌, min, true, List, [], ◌∷◌, length, take, get_or, All, Option, None, Some, refl, sym, ◌∙◌, ap, subst, arith}
use Rattle.std.proofs.lemmas.List.{length-take, get_or-take}
use Rattle.std.proofs.lemmas.List.Elements.{All-cons, All-from_get_or, All-get_or, All-nil, All-weaker}
use Rattle.air_core.specs.Shape.{Declaration, width_of}
use Rattle.batch_statement.specs.Statement.{PreprocessedTracesData, Common, HasEntryOf, ListsEntries, WellFormed, entry_of, instance_count, with_entry, within_entries}
use Rattle.batch_statement.specs.declared.preprocessed.PreprocessedInstanceMeta.{PreprocessedInstanceMeta}
use Rattle.batch_statement.specs.Words.{is_there}
use Rattle.verifier_claims.specs.ClaimChecks.{entries_in}
use Rattle.verifier_claims.specs.Claims.{matrix_tables}

-- table t is among those whose entries begin at i, and has one
record IsAmong (es : List (Option PreprocessedInstanceMeta)) (i t : ℕ) : Type 0 where
  from : i ≤ t
  below : t < i + length es
  entry : is_there (get_or es (t - i) None) ≡ true

later : (x : Option PreprocessedInstanceMeta) (es : List (Option PreprocessedInstanceMeta)) (i t : ℕ) → IsAmong es (suc i) t → IsAmong (x ∷ es) i t
later x es i t a =
    let f = a.from in
    let b = a.below in
    let e : t - i ≡ suc (t - suc i) = omega (arith, f) in
    record { from = omega (arith, f); below = omega (arith, b); entry = ap (λ k. is_there (get_or (x ∷ es) k None)) e ∙ a.entry }

here : (m : PreprocessedInstanceMeta) (es : List (Option PreprocessedInstanceMeta)) (i : ℕ) → IsAmong (Some m ∷ es) i i
here m es i =
    let e : i - i ≡ 0 = omega arith in
    record { from = omega arith; below = omega arith; entry = ap (λ k. is_there (get_or (Some m ∷ es) k None)) e }

all_among : (es : List (Option PreprocessedInstanceMeta)) (i : ℕ) → All (IsAmong es i) (with_entry i es)
all_among [] i = All-nil (IsAmong [] i)
all_among (None ∷ es) i = All-weaker (IsAmong es (suc i)) (IsAmong (None ∷ es) i) (later None es i) (with_entry (suc i) es) (all_among es (suc i))
all_among (Some m ∷ es) i =
    All-cons (IsAmong (Some m ∷ es) i) i (with_entry (suc i) es) (here m es i)
    (All-weaker (IsAmong es (suc i)) (IsAmong (Some m ∷ es) i) (later (Some m) es i) (with_entry (suc i) es) (all_among es (suc i)))

-- table t is below n, and has an entry
record HasEntry {C : Type 0} (g : Option (PreprocessedTracesData C)) (n t : ℕ) : Type 0 where
  below : t < n
  entry : is_there (entry_of g t) ≡ true

with_entry_in : {C : Type 0} (g : PreprocessedTracesData C) (n t : ℕ) → IsAmong (take n g.instances) 0 t → HasEntry (Some g) n t
with_entry_in g n t a =
    let b = a.below in
    let l = length-take n g.instances in
    let s : t < n = omega (arith, b, l) in
    let e : t - 0 ≡ t = omega arith in
    record { below = s; entry = sym (ap is_there (ap (λ k. get_or (take n g.instances) k None) e ∙ get_or-take n g.instances t None s)) ∙ a.entry }

all_have_entries : {C : Type 0} (g : Option (PreprocessedTracesData C)) (n : ℕ) → ListsEntries n g → All (HasEntry g n) (matrix_tables g)
all_have_entries None n l = All-nil (HasEntry None n)
all_have_entries (Some g) n l =
    subst (All (HasEntry (Some g) n)) (sym l) (All-weaker (IsAmong (take n g.instances) 0) (HasEntry (Some g) n) (with_entry_in g n) (with_entry 0 (take n g.instances)) (all_among (take n g.instances) 0))

-- an entry that is there has a width above zero
wide : (width : ℕ) (o : Option PreprocessedInstanceMeta) → is_there o ≡ true → HasEntryOf width o → 0 < width
wide width None t h = absurd cc
wide width (Some m) t h = h.0

no_more : {C : Type 0} (g : Option (PreprocessedTracesData C)) (n : ℕ) → within_entries g n ≤ n
no_more None n = omega arith
no_more (Some g) n = omega arith

module _ {F C : Type 0} (declarations : List (Declaration F)) (common : Common F C) (w : WellFormed declarations common) where
  listed_entry : (m : ℕ) → m < length (matrix_tables common.preprocessed) → HasEntry common.preprocessed (instance_count declarations common) (get_or (matrix_tables common.preprocessed) m 0)
  listed_entry m l =
      let n = instance_count declarations common in
      All-get_or (HasEntry common.preprocessed n) (matrix_tables common.preprocessed) m 0 l (all_have_entries common.preprocessed n w.listed)

  -- the table of a matrix is one of the tables
  pub matrix_below : (m : ℕ) → m < length (matrix_tables common.preprocessed) → get_or (matrix_tables common.preprocessed) m 0 < length declarations
  matrix_below m l =
      let b = (listed_entry m l).below in
      let h = no_more common.preprocessed (min (length declarations) (length common.lookups)) in
      omega (arith, b, h)

  -- and has preprocessed columns
  pub matrix_wide : (m : ℕ) (d : Declaration F) → m < length (matrix_tables common.preprocessed)
      → 0 < width_of (get_or declarations (get_or (matrix_tables common.preprocessed) m 0) d).preprocessed
  matrix_wide m d l =
      let t = get_or (matrix_tables common.preprocessed) m 0 in
      let e = listed_entry m l in
      wide (width_of (get_or declarations t d).preprocessed) (entry_of common.preprocessed t) e.entry (w.entries t e.below d)

-- all listed tables are below the number of tables
pub listed_below : {F C : Type 0} (declarations : List (Declaration F)) (common : Common F C) (n : ℕ) → WellFormed declarations common → length declarations ≡ n
    → All (λ t. t < n) (matrix_tables common.preprocessed)
listed_below declarations common n w e =
    All-from_get_or (λ t. t < n) (matrix_tables common.preprocessed) 0 (λ m l. subst (λ k. get_or (matrix_tables common.preprocessed) m 0 < k) e (matrix_below declarations common w m l))

-- the entry of a table, by the list of all
pub entry_same : {C : Type 0} (g : Option (PreprocessedTracesData C)) (i : ℕ) → get_or (entries_in g) i None ≡ entry_of g i
entry_same None i = refl
entry_same (Some g) i = refl
