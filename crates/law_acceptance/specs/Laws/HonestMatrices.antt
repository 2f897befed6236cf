-- The prover data of an honest proof's matrices, which it reads as polynomials, is what the rounds say.
use Rattle.std.proofs.Common.{◌≡◌, ℕ, zero, suc, ◌+◌, ◌^◌, ◌<◌, ◌≤◌, false, cond, List, [], ◌∷◌, ◌++◌, length, get_or, map, Option, None, Some, refl, sym, ◌∙◌, ap, subst, arith}
use Rattle.std.specs.Prelude.{option_to_list}
use Rattle.std.specs.List.{flat_map}
use Rattle.std.proofs.lemmas.List.{ext_get_or, get_or-map}
use Rattle.p3_field.specs.Domain.{CosetData, IsInterpolant, point, subgroup}
use Rattle.p3_field.specs.Field.{TwoAdic, Extension}
use Rattle.p3_field.specs.Laws.Interpolants.{interpolant_unique, points_apart}
use Rattle.p3_field.specs.Laws.SubgroupSelectors.{map_tabulate}
use Rattle.p3_field.specs.Laws.Tabulate.{get_or-tabulate, length-tabulate}
use Rattle.p3_field.specs.Poly.{Apart, tabulate}
use Rattle.p3_matrix.specs.Matrix.{Rows, column}
use Rattle.p3_matrix.specs.Laws.Cells.{length-column}
use Rattle.air_core.specs.Shape.{Declaration, HasColumns, width_of}
use Rattle.commit_core.specs.Commitments.{AreCommitted, Committed, IsCommitted}
use Rattle.batch_config.specs.Setting.{Setting, masks}
use Rattle.batch_statement.specs.Words.{no_table, declared_at}
use Rattle.batch_statement.specs.Statement.{Statement, AirTable, HasEntryOf, ListsEntries, entry_of, with_entry}
use Rattle.batch_statement.specs.declared.preprocessed.PreprocessedInstanceMeta.{PreprocessedInstanceMeta}
use Rattle.batch_setup.specs.Preprocessed.{natural, on_domain}
use Rattle.verifier_claims.specs.Claims.{matrix_tables}
use Rattle.law_committed.specs.Committed.{CommittedTable, trace_domain}
use Rattle.law_committed.specs.Fields.{FieldsLaws}
use Rattle.law_committed.specs.Quotient.{chunk_domain, honest_chunk}
use Rattle.law_committed.specs.Rows.{InterpolateColumns, InterpolateSome, flattened_matrix}
use Rattle.law_committed.specs.Laws.Quotient.{one_chunk_polynomial}
use Rattle.law_valid.specs.Laws.Holding.{all_counted, domain_beside}
use Rattle.law_valid.specs.Traced.{TracedTable, all_traced, constraints, declared, log_parts, log_rows, preprocessed_matrices, quotient_shift, traced_at}
use Rattle.law_valid.specs.Valid.{HasQuotientDomain, IsTraced, IsTracedBatch}
use Rattle.law_honest.specs.HonestProof.{Prover, alpha, challenges_at, chunk_matrices, chunk_rows, committed_table, permutation_columns, permutation_matrices, honest_terminal, where_some, zeta}
use Rattle.law_honest.specs.Laws.ChunkRows.{chunk_column}
use Rattle.law_honest.specs.Laws.Flat.{flat_over, map_flat, map_where}
use Rattle.law_acceptance.specs.Rounds.{OpenedMatrix, chunk_opened, chunks, chunks_opened, committed_of, main_opened, mains, of_table, permutation_opened, permutations, preprocessed_opened, preprocesseds}
use Rattle.law_acceptance.specs.Laws.Entries.{listed_is, map_items}
use Rattle.law_acceptance.specs.Laws.Lengths.{honest_commits}
use Rattle.law_acceptance.specs.Laws.Rounds.{ArePaired, paired_from}

-- lists that are paired with tables, item by item
paired_is : {X Y : Type 0} (R : X → Y → Type 0) (n : ℕ) (u : ℕ → X) (v : ℕ → Y) (ys : List Y) → ((i : ℕ) → i < n → (y : Y) → R (u i) y → y ≡ v i) → ArePaired R (tabulate n u) ys → ys ≡ tabulate n v
paired_is R zero u v [] one h = refl
paired_is R zero u v (y ∷ ys) one h = absurd h
paired_is R (suc n) u v [] one h = absurd h
paired_is R (suc n) u v (y ∷ ys) one h =
    λ j. one zero (omega arith) y h.0 j ∷ paired_is R n (λ i. u (suc i)) (λ i. v (suc i)) ys (λ i l. one (suc i) (omega (arith, l))) h.1 j

record IsSplitPair {X Y : Type 0} (R : X → Y → Type 0) (xs us : List X) (ys : List Y) : Type 0 where
  front : List Y
  back : List Y
  whole : ys ≡ front ++ back
  first : ArePaired R xs front
  second : ArePaired R us back

split_pair : {X Y : Type 0} (R : X → Y → Type 0) (xs us : List X) (ys : List Y) → ArePaired R (xs ++ us) ys → IsSplitPair R xs us ys
split_pair R [] us ys h = record { front = []; back = ys; whole = refl; first = tt; second = h }
split_pair R (x ∷ xs) us [] h = absurd h
split_pair R (x ∷ xs) us (y ∷ ys) h =
    let S = split_pair R xs us ys h.1 in
    record { front = y ∷ S.front; back = S.back; whole = ap (λ l. y ∷ l) S.whole; first = (h.0, S.first); second = S.second }

paired_flat_is : {X Y : Type 0} (R : X → Y → Type 0) (g : ℕ → List X) (h : ℕ → List Y) (n : ℕ) (q : ℕ → ℕ) (ys : List Y)
    → ((i : ℕ) → i < n → (part : List Y) → ArePaired R (g (q i)) part → part ≡ h (q i)) → ArePaired R (flat_map g (tabulate n q)) ys → ys ≡ flat_map h (tabulate n q)
paired_flat_is R g h zero q [] one p = refl
paired_flat_is R g h zero q (y ∷ ys) one p = absurd p
paired_flat_is R g h (suc n) q ys one p =
    let S = split_pair R (g (q zero)) (flat_map g (tabulate n (λ i. q (suc i)))) ys p in
    S.whole
    ∙ (λ j. one zero (omega arith) S.front S.first j ++ paired_flat_is R g h n (λ i. q (suc i)) S.back (λ i l. one (suc i) (omega (arith, l))) S.second j)

paired_where : {X Y A : Type 0} (R : X → Y → Type 0) (ls : List A) (x : X) (y : Y) (part : List Y) → ((b : Y) → R x b → b ≡ y) → ArePaired R (option_to_list (where_some ls x)) part → part ≡ option_to_list (where_some ls y)
paired_where R [] x y [] one h = refl
paired_where R [] x y (b ∷ part) one h = absurd h
paired_where R (l ∷ ls) x y [] one h = absurd h
paired_where R (l ∷ ls) x y (b ∷ []) one h = ap (λ v. v ∷ []) (one b h.0)
paired_where R (l ∷ ls) x y (b ∷ u ∷ part) one h = absurd h.1

-- a is what is kept of a matrix on a domain
abbrev Keeps : {F : Type 0} → TwoAdic F → (CosetData F × Rows F) → Committed F → Type 0
Keeps f q a = IsCommitted f.ring (2 ^ q.0.log_size) (point f.ring f.root q.0) q.1 a

module _ {F E : Type 0} (f : TwoAdic F) (e : Extension F E) (top : ℕ) (inverse : E → E) (L : FieldsLaws f e top inverse) (k : ℕ) (fits : k ≤ top) where
  apart : Apart (2 ^ k) (point f.ring f.root (subgroup f.ring k))
  apart = points_apart f.ring L.below f.inv L.below_field top f.root L.roots (subgroup f.ring k) fits L.below_field.one_differs

  -- what is kept of a matrix whose columns' interpolants are known is these
  one_committed : (m : Rows F) (polys : List (List F)) (a : Committed F) → InterpolateColumns f (subgroup f.ring k) m polys → Keeps f (subgroup f.ring k, m) a → a ≡ record { size = 2 ^ k; polynomials = polys }
  one_committed m polys a I K =
      let same : a.polynomials ≡ polys =
      ext_get_or [] a.polynomials polys (K.count ∙ sym I.count) (λ j b.
      let inside : j < m.width = let q = K.count in omega (arith, b, q) in
      let size : length (column f.ring.zero m j) ≡ 2 ^ k = length-column f.ring.zero m j ∙ I.tall (omega (arith, inside)) in
      interpolant_unique f.ring L.below f.inv L.below_field (point f.ring f.root (subgroup f.ring k)) (column f.ring.zero m j) (get_or a.polynomials j []) (get_or polys j [])
      (subst (λ n. Apart n (point f.ring f.root (subgroup f.ring k))) (sym size) apart) (K.each j inside) (I.each j inside)) in
      λ i. record { size = K.size_is i; polynomials = same i }

module _ {S F E C : Type 0} (c : Setting S F E C) (p : Prover F E C) (t : TracedTable F) (challenges : List E)
    (L : FieldsLaws c.field c.extension c.two_adicity p.inverse) (Q : HasQuotientDomain c t) (T : IsTraced c t) (plain : c.zk ≡ false) (folding x : E) where
  abbrev k : CommittedTable F E
  k = committed_table c p t challenges

  height_is : log_rows c t ≡ t.degree_bits
  height_is = let m : masks c ≡ 0 = ap (λ b. cond b 1 0) plain in omega (arith, m)

  low : t.degree_bits ≤ c.two_adicity
  low = let q = Q.fits in let e = height_is in omega (arith, q, e)

  rows_domain : trace_domain c.field c.extension k ≡ subgroup c.field.ring t.degree_bits
  unfolding committed_table
  rows_domain = ap (subgroup c.field.ring) height_is

  -- what is kept of the main, of the preprocessed and of the permutation columns
  main_committed : (a : Committed F) → Keeps c.field (subgroup c.field.ring t.degree_bits, t.trace) a → a ≡ (main_opened c p t challenges folding x).committed
  main_committed a K =
      one_committed c.field c.extension c.two_adicity p.inverse L t.degree_bits low t.trace k.main a
      (subst (λ d. InterpolateColumns c.field d t.trace k.main) rows_domain (honest_commits c p t challenges L Q T).main) K

  preprocessed_committed : (m : Rows F) → (declared t).preprocessed ≡ Some m → (a : Committed F) → Keeps c.field (natural c.field.ring.one t.degree_bits, m) a → a ≡ (preprocessed_opened c p t challenges folding x).committed
  preprocessed_committed m there a K =
      one_committed c.field c.extension c.two_adicity p.inverse L t.degree_bits low m k.preprocessed a
      (subst (λ d. InterpolateColumns c.field d m k.preprocessed) rows_domain
      (subst (λ o. InterpolateSome c.field (trace_domain c.field c.extension k) o k.preprocessed) there (honest_commits c p t challenges L Q T).preprocessed)) K

  permutation_committed : (part : List (Committed F)) → ArePaired (Keeps c.field) (permutation_matrices c p t challenges) part → part ≡ committed_of (permutation_opened c p t challenges folding x)
  permutation_committed part h =
      let m = flattened_matrix c.extension (permutation_columns c p t challenges) in
      paired_where (Keeps c.field) t.lookups (subgroup c.field.ring t.degree_bits, m) (record { size = 2 ^ t.degree_bits; polynomials = k.permutation }) part
      (λ a K.
      one_committed c.field c.extension c.two_adicity p.inverse L t.degree_bits low m k.permutation a
      (subst (λ d. InterpolateColumns c.field d m k.permutation) rows_domain (honest_commits c p t challenges L Q T).permutation) K) h
      ∙ sym (map_where (λ (o : OpenedMatrix F E). o.committed) t.lookups _)

  -- of a chunk
  chunk_committed : (n : ℕ) (a : Committed F) → Keeps c.field (chunk_domain c.field c.extension k (quotient_shift c) (log_parts c t) n, chunk_rows c p t challenges folding n) a → a ≡ (chunk_opened c p t challenges folding x n).committed
  unfolding committed_table honest_chunk
  chunk_committed n a K =
      let Q' = domain_beside c p.inverse L t Q (permutation_columns c p t challenges) challenges (option_to_list (honest_terminal c p t challenges)) in
      let d = chunk_domain c.field c.extension k (quotient_shift c) (log_parts c t) n in
      let polys = honest_chunk c.field c.extension k (quotient_shift c) (log_parts c t) (constraints c t) folding n in
      let long : length polys ≡ c.extension.dimension = length-tabulate c.extension.dimension _ in
      let same : a.polynomials ≡ polys =
      ext_get_or [] a.polynomials polys (K.count ∙ sym long) (λ i b.
      let inside : i < c.extension.dimension = let q = K.count in omega (arith, b, q) in
      one_chunk_polynomial c.field c.extension c.two_adicity p.inverse L k (constraints c t) folding (quotient_shift c) (log_parts c t) Q' n i (get_or a.polynomials i []) inside
      (subst (λ v. IsInterpolant c.field.ring (point c.field.ring c.field.root d) v (get_or a.polynomials i [])) (chunk_column c p t challenges L folding n i inside) (K.each i inside))) in
      λ j. record { size = K.size_is j; polynomials = same j }

  chunks_committed_of : (part : List (Committed F)) → ArePaired (Keeps c.field) (chunk_matrices c p t challenges folding) part → part ≡ committed_of (chunks_opened c p t challenges folding x)
  chunks_committed_of part h =
      paired_is (Keeps c.field) (2 ^ log_parts c t) (λ n. (chunk_domain c.field c.extension k (quotient_shift c) (log_parts c t) n, chunk_rows c p t challenges folding n))
      (λ n. (chunk_opened c p t challenges folding x n).committed) part (λ n l. chunk_committed n) h
      ∙ sym (map_tabulate (λ (o : OpenedMatrix F E). o.committed) (2 ^ log_parts c t) (chunk_opened c p t challenges folding x))

-- where there is an entry there is one item, of which this is kept, and else there is none
abbrev IsOne : {X Y : Type 0} → (R : X → Y → Type 0) → Option PreprocessedInstanceMeta → List X → Y → Type 0
IsOne R None xs y = xs ≡ []
IsOne {X} {Y} R (Some m) xs y = (x : X) × (xs ≡ x ∷ []) × ((b : Y) → R x b → b ≡ y)

first_committed : {X Y : Type 0} (R : X → Y → Type 0) (x : X) (y : Y) (xs : List X) (ys part : List Y) → ((b : Y) → R x b → b ≡ y) → ((rest : List Y) → ArePaired R xs rest → rest ≡ ys) → ArePaired R (x ∷ xs) part → part ≡ y ∷ ys
first_committed R x y xs ys [] is more h = absurd h
first_committed R x y xs ys (b ∷ part) is more h = λ k. is b h.0 k ∷ more part h.1 k

-- so the items kept are those of the tables that have an entry, in order
entries_committed : {X Y : Type 0} (R : X → Y → Type 0) (g : ℕ → List X) (v : ℕ → Y) (n i : ℕ) (q : ℕ → ℕ) (es : List (Option PreprocessedInstanceMeta)) (part : List Y) → length es ≡ n
    → ((j : ℕ) → j < n → q j ≡ i + j) → ((j : ℕ) → j < n → IsOne R (get_or es j None) (g (q j)) (v (q j))) → ArePaired R (flat_map g (tabulate n q)) part → part ≡ map v (with_entry i es)
entries_committed R g v zero i q [] [] long at one h = refl
entries_committed R g v zero i q [] (b ∷ part) long at one h = absurd h
entries_committed R g v zero i q (o ∷ es) part long at one h = absurd (omega (arith, long))
entries_committed R g v (suc n) i q [] part long at one h = absurd (omega (arith, long))
entries_committed R g v (suc n) i q (None ∷ es) part long at one h =
    entries_committed R g v n (suc i) (λ j. q (suc j)) es part (omega (arith, long)) (λ j l. let a = at (suc j) (omega (arith, l)) in omega (arith, a)) (λ j l. one (suc j) (omega (arith, l)))
    (subst (λ xs. ArePaired R (xs ++ flat_map g (tabulate n (λ j. q (suc j)))) part) (one zero (omega arith)) h)
entries_committed R g v (suc n) i q (Some m ∷ es) part long at one h =
    let O = one zero (omega arith) in
    let here : q zero ≡ i = let a = at zero (omega arith) in omega (arith, a) in
    first_committed R O.0 (v i) (flat_map g (tabulate n (λ j. q (suc j)))) (map v (with_entry (suc i) es)) part (λ b k. O.2 b k ∙ ap v here)
    (λ rest. entries_committed R g v n (suc i) (λ j. q (suc j)) es rest (omega (arith, long)) (λ j l. let a = at (suc j) (omega (arith, l)) in omega (arith, a)) (λ j l. one (suc j) (omega (arith, l))))
    (subst (λ xs. ArePaired R (xs ++ flat_map g (tabulate n (λ j. q (suc j)))) part) O.1 h)

module _ {S F E C : Type 0} (c : Setting S F E C) (p : Prover F E C) (t : TracedTable F) (challenges : List E)
    (L : FieldsLaws c.field c.extension c.two_adicity p.inverse) (Q : HasQuotientDomain c t) (T : IsTraced c t) (plain : c.zk ≡ false) (folding x : E) where
  -- a table's preprocessed matrix, where it has an entry
  one_preprocessed : (m : Option (Rows F)) (o : Option PreprocessedInstanceMeta) → (declared t).preprocessed ≡ m → HasColumns m → HasEntryOf (width_of m) o
      → IsOne (Keeps c.field) o (on_domain c.field.ring.one t.degree_bits m) (preprocessed_opened c p t challenges folding x).committed
  one_preprocessed None None there some entry = refl
  one_preprocessed None (Some o) there some entry = let e = entry.0 in absurd (omega (arith, e))
  one_preprocessed (Some m) None there some entry = absurd (omega (arith, some, entry))
  one_preprocessed (Some m) (Some o) there some entry =
      ((natural c.field.ring.one t.degree_bits, m), refl, preprocessed_committed c p t challenges L Q T plain folding x m there)

module _ {S F E C : Type 0} (c : Setting S F E C) (p : Prover F E C) (s : Statement F C) (traces : List (Rows F)) (degree_bits : List ℕ)
    (L : FieldsLaws c.field c.extension c.two_adicity p.inverse) (B : IsTracedBatch c p.commitment_of s traces degree_bits) (plain : c.zk ≡ false) (w : Option F) (z : F) where
  abbrev n : ℕ
  n = length s.tables

  abbrev at : ℕ → TracedTable F
  at i = traced_at s traces degree_bits i

  abbrev ch : ℕ → List E
  ch i = challenges_at c p s traces degree_bits w i

  abbrev a : E
  a = alpha c p s traces degree_bits w

  abbrev x : E
  x = zeta c p s traces degree_bits w z

  abbrev AreCommittedTo : List (CosetData F × Rows F) → List (Committed F) → Type 0
  AreCommittedTo matrices held = AreCommitted c.field.ring (λ (d : CosetData F). 2 ^ d.log_size) (point c.field.ring c.field.root) matrices held

  abbrev committed : OpenedMatrix F E → Committed F
  committed o = o.committed

  -- what is kept of the main columns
  pub mains_committed : (held : List (Committed F)) → AreCommittedTo (map (λ (t : TracedTable F). (subgroup c.field.ring t.degree_bits, t.trace)) (all_traced s traces degree_bits)) held
      → held ≡ committed_of (mains c p s traces degree_bits w z)
  mains_committed held K =
      let of = of_table c p s traces degree_bits w z (main_opened c p) in
      let h = paired_from (Keeps c.field) (map (λ (t : TracedTable F). (subgroup c.field.ring t.degree_bits, t.trace)) (all_traced s traces degree_bits)) held K in
      paired_is (Keeps c.field) n (λ i. (subgroup c.field.ring (at i).degree_bits, (at i).trace)) (λ i. (of i).committed) held
      (λ i l. main_committed c p (at i) (ch i) L (B.domains i l) (B.traced i l) plain a x)
      (subst (λ ms. ArePaired (Keeps c.field) ms held) (map_tabulate (λ (t : TracedTable F). (subgroup c.field.ring t.degree_bits, t.trace)) n at) h)
      ∙ sym (map_tabulate committed n of)

  -- of the quotients' chunks
  pub chunks_committed : (held : List (Committed F)) → AreCommittedTo (flat_map (λ i. chunk_matrices c p (at i) (ch i) a) (tabulate n (λ i. i))) held → held ≡ committed_of (chunks c p s traces degree_bits w z)
  chunks_committed held K =
      let of = of_table c p s traces degree_bits w z (chunks_opened c p) in
      let matrices = λ (i : ℕ). chunk_matrices c p (at i) (ch i) a in
      paired_flat_is (Keeps c.field) matrices (λ i. committed_of (of i)) n (λ i. i) held (λ i l. chunks_committed_of c p (at i) (ch i) L (B.domains i l) (B.traced i l) plain a x)
      (paired_from (Keeps c.field) (flat_map matrices (tabulate n (λ i. i))) held K)
      ∙ sym (map_flat committed of (tabulate n (λ i. i)))

  -- of the permutation columns
  pub permutations_committed : (held : List (Committed F)) → AreCommittedTo (flat_map (λ i. permutation_matrices c p (at i) (ch i)) (tabulate n (λ i. i))) held → held ≡ committed_of (permutations c p s traces degree_bits w z)
  permutations_committed held K =
      let of = of_table c p s traces degree_bits w z (permutation_opened c p) in
      let matrices = λ (i : ℕ). permutation_matrices c p (at i) (ch i) in
      paired_flat_is (Keeps c.field) matrices (λ i. committed_of (of i)) n (λ i. i) held (λ i l. permutation_committed c p (at i) (ch i) L (B.domains i l) (B.traced i l) plain a x)
      (paired_from (Keeps c.field) (flat_map matrices (tabulate n (λ i. i))) held K)
      ∙ sym (map_flat committed of (tabulate n (λ i. i)))

  -- and of the preprocessed columns, where each preprocessed trace has a column
  abbrev declarations : List (Declaration F)
  declarations = map (λ (t : AirTable F). t.declaration) s.tables

  entry_at : ((i : ℕ) → i < n → HasColumns (declared (at i)).preprocessed) → (i : ℕ) → i < n
      → IsOne (Keeps c.field) (entry_of s.common.preprocessed i) (on_domain c.field.ring.one (at i).degree_bits (declared (at i)).preprocessed) (preprocessed_opened c p (at i) (ch i) a x).committed
  entry_at some i l =
      let same : declared_at declarations i ≡ declared (at i) = get_or-map (λ (t : AirTable F). t.declaration) s.tables i no_table (no_table {F = F}).declaration l in
      let count = all_counted c p.commitment_of s traces degree_bits p.inverse L B in
      one_preprocessed c p (at i) (ch i) L (B.domains i l) (B.traced i l) plain a x (declared (at i)).preprocessed (entry_of s.common.preprocessed i) refl (some i l)
      (subst (λ (d : Declaration F). HasEntryOf (width_of d.preprocessed) (entry_of s.common.preprocessed i)) same (B.formed.entries i (omega (arith, l, count)) (no_table {F = F}).declaration))

  pub preprocesseds_committed : ((i : ℕ) → i < n → HasColumns (declared (at i)).preprocessed) → (held : List (Committed F)) → AreCommittedTo (preprocessed_matrices c.field.ring.one (all_traced s traces degree_bits)) held
      → held ≡ committed_of (preprocesseds c p s traces degree_bits w z)
  preprocesseds_committed some held K =
      let g = λ (t : TracedTable F). on_domain c.field.ring.one t.degree_bits (declared t).preprocessed in
      let of = of_table c p s traces degree_bits w z (preprocessed_opened c p) in
      let ms = matrix_tables s.common.preprocessed in
      let v = λ (i : ℕ). (of i).committed in
      let es = tabulate n (entry_of s.common.preprocessed) in
      let count = all_counted c p.commitment_of s traces degree_bits p.inverse L B in
      let listed : ms ≡ with_entry 0 es = listed_is s.common.preprocessed n B.lists.entries_long (subst (λ m. ListsEntries m s.common.preprocessed) count B.formed.listed) in
      entries_committed (Keeps c.field) (λ i. g (at i)) v n 0 (λ i. i) es held (length-tabulate n (entry_of s.common.preprocessed)) (λ j l. omega arith)
      (λ j l. subst (λ o. IsOne (Keeps c.field) o (g (at j)) (v j)) (sym (get_or-tabulate n (entry_of s.common.preprocessed) j None l)) (entry_at some j l))
      (subst (λ q. ArePaired (Keeps c.field) q held) (flat_over g n at (λ i. i)) (paired_from (Keeps c.field) (preprocessed_matrices c.field.ring.one (all_traced s traces degree_bits)) held K))
      ∙ (ap (map v) (sym listed) ∙ (map_items v ms ∙ sym (map_tabulate committed (length ms) (λ m. of (get_or ms m 0)))))
