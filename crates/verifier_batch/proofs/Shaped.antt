-- What the checks of a proof's shape say of what is opened.
use Rattle.std.proofs.Common.{◌≡◌, ℕ, zero, suc, ◌+◌, ◌<◌, ◌≤◌, Bool, true, cond, List, [], ◌∷◌, ◌++◌, Option, None, Some, length, get_or, refl, sym, ◌∙◌, ap, arith}
use Rattle.air_core.specs.Shape.{Declaration, width_of}
use Rattle.p3_field.specs.Checks.{NoneFails}
use Rattle.p3_field.specs.Laws.Checks.{none_at, none_before, none_after}
use Rattle.p3_field.specs.Ring.{Ring}
use Rattle.p3_uni_stark.specs.Opened.{PreprocessedData}
use Rattle.verifier_shape.specs.Laws.Parts.{counted}
use Rattle.verifier_shape.specs.ShapeChecks.{HaveItemForEachTable, Bounds, IsRandomized, bus_bound_part, chunk_checks, log_chunks_at, count_checks, lookup_checks, main_checks, next_check, next_length, opened_checks, opened_part, permutation_check, preprocessed_checks, preprocessed_next_of, shape_checks, size_part, sizes_at, table_checks}
use Rattle.batch_statement.specs.Words.{has_some, is_there}
use Rattle.batch_statement.specs.Proof.{OpenedWithLookups, ProofData}
use Rattle.batch_statement.specs.Statement.{Statement}

-- a next row of the declared width is there
next_there : {E : Type 0} (R : Type 0) (i width : ℕ) (ns : List ℕ) (next : Option (List E)) → (next_check {R = R} i width ns next).holds → has_some ns ≡ true → is_there next ≡ true
next_there R i width [] next h t = cc
next_there R i width (n ∷ ns) None h t = cc
next_there R i width (n ∷ ns) (Some xs) h t = refl

-- a row that has values is there
there_by_length : {E : Type 0} (o : Option (List E)) (n : ℕ) → next_length o ≡ suc n → is_there o ≡ true
there_by_length None n e = absurd (omega arith)
there_by_length (Some xs) n e = refl

preprocessed_is_there : {E : Type 0} (R : Type 0) (i width : ℕ) (declared : List ℕ) (p : Option (PreprocessedData E)) → 0 < width
    → NoneFails (preprocessed_checks {R = R} i width declared p) → is_there p ≡ true
unfolding NoneFails
preprocessed_is_there R i zero declared p w h = absurd (omega arith)
preprocessed_is_there R i (suc n) declared None w h = absurd h.0
preprocessed_is_there R i (suc n) declared (Some q) w h = refl

preprocessed_next_is_there : {E : Type 0} (R : Type 0) (i width : ℕ) (declared : List ℕ) (p : Option (PreprocessedData E)) → 0 < width
    → NoneFails (preprocessed_checks {R = R} i width declared p) → has_some declared ≡ true → is_there (preprocessed_next_of p) ≡ true
unfolding NoneFails
preprocessed_next_is_there R i zero declared p w h t = absurd (omega arith)
preprocessed_next_is_there R i (suc n) declared None w h t = absurd h.0
preprocessed_next_is_there R i (suc n) declared (Some q) w h t = there_by_length q.next n (h.0.1 ∙ ap (λ b. cond b (suc n) 0) t)

-- of one table
module _ {F E : Type 0} (R : Type 0) (i : ℕ) (d : Declaration F) (publics chunks dimension lookups : ℕ) (o : OpenedWithLookups E) (terminal : Bool)
    (h : NoneFails (table_checks {R = R} i d publics chunks dimension lookups o terminal)) where
  main_part : NoneFails (main_checks {R = R} i d publics o.base)
  unfolding table_checks
  main_part =
      let a = main_checks {R = R} i d publics o.base in
      let b = chunk_checks {R = R} i chunks dimension o.base in
      let e = preprocessed_checks {R = R} i (width_of d.preprocessed) d.preprocessed_next o.base.preprocessed in
      none_before a b (none_before (a ++ b) e (none_before (a ++ b ++ e) (lookup_checks {R = R} i lookups dimension o terminal) h))

  chunk_part : NoneFails (chunk_checks {R = R} i chunks dimension o.base)
  unfolding table_checks
  chunk_part =
      let a = main_checks {R = R} i d publics o.base in
      let b = chunk_checks {R = R} i chunks dimension o.base in
      let e = preprocessed_checks {R = R} i (width_of d.preprocessed) d.preprocessed_next o.base.preprocessed in
      none_after a b (none_before (a ++ b) e (none_before (a ++ b ++ e) (lookup_checks {R = R} i lookups dimension o terminal) h))

  preprocessed_part : NoneFails (preprocessed_checks {R = R} i (width_of d.preprocessed) d.preprocessed_next o.base.preprocessed)
  unfolding table_checks
  preprocessed_part =
      let a = main_checks {R = R} i d publics o.base in
      let b = chunk_checks {R = R} i chunks dimension o.base in
      let e = preprocessed_checks {R = R} i (width_of d.preprocessed) d.preprocessed_next o.base.preprocessed in
      none_after (a ++ b) e (none_before (a ++ b ++ e) (lookup_checks {R = R} i lookups dimension o terminal) h)

  lookup_part : NoneFails (lookup_checks {R = R} i lookups dimension o terminal)
  unfolding table_checks
  lookup_part =
      let a = main_checks {R = R} i d publics o.base in
      let b = chunk_checks {R = R} i chunks dimension o.base in
      let e = preprocessed_checks {R = R} i (width_of d.preprocessed) d.preprocessed_next o.base.preprocessed in
      none_after (a ++ b ++ e) (lookup_checks {R = R} i lookups dimension o terminal) h

  pub declared_next_is_there : has_some d.main_next ≡ true → is_there o.base.trace_next ≡ true
  unfolding NoneFails
  declared_next_is_there = next_there R i d.width d.main_next o.base.trace_next main_part.1.1.0

  pub chunks_are : length o.base.quotient_chunks ≡ chunks
  unfolding NoneFails
  chunks_are = chunk_part.0

  pub columns_are_there : 0 < width_of d.preprocessed → is_there o.base.preprocessed ≡ true
  columns_are_there w = preprocessed_is_there R i (width_of d.preprocessed) d.preprocessed_next o.base.preprocessed w preprocessed_part

  pub next_columns_are_there : 0 < width_of d.preprocessed → has_some d.preprocessed_next ≡ true → is_there (preprocessed_next_of o.base.preprocessed) ≡ true
  next_columns_are_there w = preprocessed_next_is_there R i (width_of d.preprocessed) d.preprocessed_next o.base.preprocessed w preprocessed_part

  pub rows_agree : length o.permutation_local ≡ length o.permutation_next
  unfolding NoneFails
  rows_agree = let k = lookup_part.0 in k.0 ∙ sym k.1

-- of a batch
module _ {F E C P : Type 0} (R : Type 0) (f : Ring F) (b : Bounds) (s : Statement F C) (p : ProofData F E C P) (h : NoneFails (shape_checks {R = R} f b s p)) where
  count_part : NoneFails (count_checks {R = R} b.zk s p)
  unfolding shape_checks
  count_part =
      let k = count_checks {R = R} b.zk s p in
      let l = size_part {R = R} f b s p in
      let m = bus_bound_part {R = R} b s p in
      let n = opened_part {R = R} f b s p in
      none_before k l (none_before (k ++ l) m (none_before (k ++ l ++ m) n (none_before (k ++ l ++ m ++ n) (permutation_check {R = R} s p) h)))

  sizes_part : NoneFails (size_part {R = R} f b s p)
  unfolding shape_checks
  sizes_part =
      let k = count_checks {R = R} b.zk s p in
      let l = size_part {R = R} f b s p in
      let m = bus_bound_part {R = R} b s p in
      let n = opened_part {R = R} f b s p in
      none_after k l (none_before (k ++ l) m (none_before (k ++ l ++ m) n (none_before (k ++ l ++ m ++ n) (permutation_check {R = R} s p) h)))

  tables_part : NoneFails (opened_part {R = R} f b s p)
  unfolding shape_checks
  tables_part =
      let k = count_checks {R = R} b.zk s p in
      let l = size_part {R = R} f b s p in
      let m = bus_bound_part {R = R} b s p in
      let n = opened_part {R = R} f b s p in
      none_after (k ++ l ++ m) n (none_before (k ++ l ++ m ++ n) (permutation_check {R = R} s p) h)

  pub counts_agree : HaveItemForEachTable s p
  counts_agree = counted R b.zk s p count_part

  pub is_randomized : IsRandomized b.zk p
  unfolding NoneFails
  is_randomized = count_part.1.0

  pub size_fits : (i : ℕ) → i < length s.tables
      → (b.least ≤ get_or p.degree_bits i 0) × (get_or p.degree_bits i 0 ≤ b.most) × (log_chunks_at f b.masks s.tables s.common.lookups p.degree_bits i + b.masks < 64)
  unfolding NoneFails
  size_fits i l =
      let k = none_at (sizes_at {R = R} f b.least b.most b.masks s.tables s.common.lookups p.degree_bits) (length s.tables) i l sizes_part in
      (k.0, k.1.0, k.1.1.0)

  pub table_opened : (i : ℕ) → i < length s.tables → NoneFails (opened_checks {R = R} f b.masks b.dimension s p i)
  table_opened i l = none_at (opened_checks {R = R} f b.masks b.dimension s p) (length s.tables) i l tables_part
