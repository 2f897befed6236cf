-- The identity of a table of an honest proof holds at the point of the openings, as a verifier reads it.
use Rattle.std.proofs.Common.{◌≡◌, ℕ, zero, suc, ◌+◌, ◌-◌, ◌*◌, ◌^◌, ◌<◌, List, [], ◌∷◌, ◌++◌, length, get_or, map, Option, None, Some, refl, sym, ◌∙◌, ap, arith}
use Rattle.std.specs.Prelude.{All, IsTrue, option_map, option_to_list, replicate}
use Rattle.std.proofs.lemmas.Bool.{false≢true}
use Rattle.std.proofs.lemmas.List.Elements.{All-append}
use Rattle.p3_field.specs.Checks.{Check, NoneFails}
use Rattle.p3_field.specs.Laws.Checks.{none_append}
use Rattle.p3_field.specs.Domain.{CosetData, point, subgroup}
use Rattle.p3_field.specs.Poly.{tabulate}
use Rattle.p3_field.specs.Ring.{Ring}
use Rattle.p3_matrix.specs.Matrix.{Rows}
use Rattle.air_core.specs.CellValues.{CellValues}
use Rattle.air_core.specs.declared.cells.Cell.{Cell}
use Rattle.air_core.specs.declared.cells.Cell.TheVariants.{Main, Preprocessed, Periodic, Public, FirstRow, LastRow, Transition}
use Rattle.air_core.specs.declared.cells.ExtCell.{ExtCell}
use Rattle.air_core.specs.declared.cells.ExtCell.TheVariants.{Permutation, Challenge, Terminal}
use Rattle.air_core.specs.Laws.Maps.{reads_more}
use Rattle.air_core.specs.Shape.{Declaration, Declares, DeclaresExt, IsSendable, ReadsDeclared, Shape, declared_shape, has, width_of}
use Rattle.air_core.specs.Tree.{Tree}
use Rattle.commit_core.specs.Periodic.{IsPeriod}
use Rattle.p3_lookup.specs.Lookup.{IsLookup, LookupData}
use Rattle.p3_lookup.specs.Trees.{lookup_trees}
use Rattle.p3_uni_stark.specs.Recombine.{recombined}
use Rattle.p3_uni_stark.specs.declared.error.VerificationError.{VerificationError}
use Rattle.batch_constraints.specs.Laws.TreesRead.{lookup_trees_read}
use Rattle.verifier_identity.specs.Identity.{IsInDomain, OpenedTable, folded_at, identity_checks, opened_at, vanishing_at}
use Rattle.verifier_identity.specs.PeriodicValues.{periodic_value}
use Rattle.verifier_identity.specs.TableIdentity.{identity_of_table, next_row_or_zeros, opened_table, periods_check, permutation_column_count as column_count, preprocessed_local_of, verified}
use Rattle.batch_config.specs.Domains.{chunk_domains, next_by}
use Rattle.batch_config.specs.Setting.{Setting, masks}
use Rattle.verifier_shape.specs.ShapeChecks.{chunks_of_table, permutation_width, preprocessed_next_of}
use Rattle.batch_statement.specs.Proof.{OpenedWithLookups}
use Rattle.verifier_folder.specs.FolderState.{verifier_cells_of}
use Rattle.law_committed.specs.Committed.{CommittedTable, columns_at, next_point, periodic_poly, permutation_at}
use Rattle.law_committed.specs.Fields.{FieldsLaws}
use Rattle.law_committed.specs.Identity.{CommittedIdentity, CommittedQuotient}
use Rattle.law_committed.specs.Opened.{AreOpenedRows, OpenedIdentity}
use Rattle.law_committed.specs.Quotient.{honest_quotient}
use Rattle.law_committed.specs.Rows.{InterpolateSome}
use Rattle.law_committed.specs.Laws.Degrees.{all_images}
use Rattle.law_committed.specs.Laws.Opened.{opened_by_rows, opened_identity, recombined_is}
use Rattle.law_valid.specs.Traced.{TracedTable, constraints, declared, log_parts, log_rows, quotient_shift}
use Rattle.law_valid.specs.Valid.{HasQuotientDomain, IsTraced}
use Rattle.law_honest.specs.HonestProof.{Prover, committed_table, opened_of, honest_terminal, where_some}
use Rattle.law_acceptance.specs.Laws.Lengths.{honest_commits, permutation_count}

-- checks that are named as a batch's pass where they do
none_verified : {R : Type 0} (cs : List (Check (VerificationError R))) → NoneFails cs → NoneFails (map (verified {R = R}) cs)
unfolding NoneFails
none_verified [] h = tt
none_verified (k ∷ cs) h = (h.0, none_verified cs h.1)

-- a next row that is declared is what is opened
next_is : {E : Type 0} (zeros : List E) (ns : List ℕ) (xs : List E) (j : ℕ) → IsTrue (has ns j) → next_row_or_zeros zeros ns (where_some ns xs) ≡ xs
next_is zeros [] xs j h = absurd (false≢true h)
next_is zeros (n ∷ ns) xs j h = refl

next_none : {E : Type 0} (zeros : List E) (ns : List ℕ) (j : ℕ) → IsTrue (has ns j) → next_row_or_zeros zeros ns None ≡ []
next_none zeros [] j h = absurd (false≢true h)
next_none zeros (n ∷ ns) j h = refl

-- what a table with so many lookups reads
abbrev read_shape : {F : Type 0} → Declaration F → ℕ → Shape
read_shape d n = record (declared_shape d) { permutation = column_count n; challenges = 2 * n; terminals = n }

declares_still : {F : Type 0} (d : Declaration F) (n : ℕ) (c : Cell) → Declares (declared_shape d) c → Declares (read_shape d n) c
declares_still d n (Main next j) h = h
declares_still d n (Preprocessed next j) h = h
declares_still d n (Periodic j) h = h
declares_still d n (Public j) h = h
declares_still d n FirstRow h = h
declares_still d n LastRow h = h
declares_still d n Transition h = h

none_declared : {F : Type 0} (d : Declaration F) (c : ExtCell) → DeclaresExt (declared_shape d) c → ⊥
none_declared d (Permutation next j) h = omega (arith, h)
none_declared d (Challenge j) h = omega (arith, h)
none_declared d Terminal h = omega (arith, h)

lookup_still : {F : Type 0} (d : Declaration F) (n : ℕ) (l : LookupData F) → IsLookup (declared_shape d) l → IsLookup (read_shape d n) l
lookup_still {F = F} d n l h =
    let P : Cell → Type 0 = λ c. Declares (declared_shape d) c × IsSendable c in
    let Q : Cell → Type 0 = λ c. Declares (read_shape d n) c × IsSendable c in
    let more : (c : Cell) → P c → Q c = λ c q. (declares_still d n c q.0, q.1) in
    record {
      counted = h.counted;
      reads = record {
        tuples = λ i ts a j t b. reads_more P Q (λ _. ⊥) (λ _. ⊥) more (λ c q. q) (get_or (get_or l.tuples i ts) j t) (h.reads.tuples i ts a j t b);
        counts = λ i v a. reads_more P Q (λ _. ⊥) (λ _. ⊥) more (λ c q. q) (get_or l.counts i v).value (h.reads.counts i v a);
      };
    }

some_columns : (n : ℕ) → 0 < n → n < column_count n
some_columns zero h = absurd (omega (arith, h))
some_columns (suc n) h = omega arith

-- all constraints read that
all_read : {F : Type 0} (r : Ring F) (d : Declaration F) (trees : List (Tree F)) (ls : List (LookupData F)) → All (ReadsDeclared (declared_shape d)) trees → All (IsLookup (declared_shape d)) ls
    → All (ReadsDeclared (read_shape d (length ls))) (trees ++ lookup_trees r ls)
all_read r d trees ls own are =
    let s = read_shape d (length ls) in
    All-append (ReadsDeclared s) trees (lookup_trees r ls)
    (λ i t h. reads_more (Declares (declared_shape d)) (Declares s) (DeclaresExt (declared_shape d)) (DeclaresExt s) (declares_still d (length ls)) (λ c q. absurd (none_declared d c q)) (get_or trees i t) (own i t h))
    (lookup_trees_read r s ls (record {
      lookups = λ i l h. lookup_still d (length ls) (get_or ls i l) (are i l h);
      columns = some_columns (length ls);
      challenges = omega arith;
      terminal = λ h. h;
    }))

columns_same : (n d : ℕ) → permutation_width n d ≡ column_count n * d
columns_same zero d = omega arith
columns_same (suc n) d = refl

module _ {S F E C : Type 0} (c : Setting S F E C) (p : Prover F E C) (t : TracedTable F) (challenges : List E)
    (L : FieldsLaws c.field c.extension c.two_adicity p.inverse) (Q : HasQuotientDomain c t) (T : IsTraced c t) (alpha zeta : E) where
  abbrev k : CommittedTable F E
  k = committed_table c p t challenges

  abbrev o : OpenedWithLookups E
  o = opened_of c p t challenges alpha zeta

  abbrev domain : CosetData F
  domain = subgroup c.field.ring (log_rows c t)

  -- what a verifier reads of what is opened
  abbrev table_read : OpenedTable F E
  table_read = opened_table c.field c.extension domain (declared t) (length t.lookups) t.publics challenges (option_to_list (honest_terminal c p t challenges)) zeta o

  abbrev values : CellValues E
  values = verifier_cells_of c.extension.ring.zero c.extension.embed (opened_at c.field c.extension domain alpha zeta table_read)

  abbrev after : E
  after = next_by c.extension.ring c.extension.embed c.field.root (masks c) zeta t.degree_bits

  next_same : after ≡ next_point c.field c.extension k zeta
  unfolding committed_table
  next_same = L.above.mul_comm zeta (c.extension.embed (c.field.root (log_rows c t)))

  count_is : length k.permutation ≡ column_count (length t.lookups) * c.extension.dimension
  count_is = permutation_count c p t challenges L Q T ∙ columns_same (length t.lookups) c.extension.dimension

  local_pre : (m : Option (Rows F)) (polys : List (List F)) → InterpolateSome c.field domain m polys → (x y : E)
      → preprocessed_local_of (option_map (λ m. record { local = columns_at c.field c.extension k polys x; next = where_some (declared t).preprocessed_next (columns_at c.field c.extension k polys y) }) m) ≡ columns_at c.field c.extension k polys x
  local_pre None polys I x y = sym (ap (λ ps. columns_at c.field c.extension k ps x) I)
  local_pre (Some m) polys I x y = refl

  next_pre : (m : Option (Rows F)) (polys : List (List F)) → InterpolateSome c.field domain m polys → (zeros : List E) (j : ℕ) → IsTrue (has (declared t).preprocessed_next j) → (x y : E)
      → next_row_or_zeros zeros (declared t).preprocessed_next (preprocessed_next_of (option_map (λ m. record { local = columns_at c.field c.extension k polys x; next = where_some (declared t).preprocessed_next (columns_at c.field c.extension k polys y) }) m))
      ≡ columns_at c.field c.extension k polys y
  next_pre None polys I zeros j h x y = next_none zeros (declared t).preprocessed_next j h ∙ sym (ap (λ ps. columns_at c.field c.extension k ps y) I)
  next_pre (Some m) polys I zeros j h x y = next_is zeros (declared t).preprocessed_next (columns_at c.field c.extension k polys y) j h

  pre_interpolated : InterpolateSome c.field domain (declared t).preprocessed k.preprocessed
  unfolding committed_table
  pre_interpolated = (honest_commits c p t challenges L Q T).preprocessed

  -- the values are the committed polynomials'
  are_opened : AreOpenedRows c.field c.extension k (read_shape (declared t) (length t.lookups)) values zeta
  unfolding opened_of committed_table periodic_value periodic_poly
  are_opened =
      let f = c.field in let e = c.extension in
      let at_next = λ (columns : List (List F)). ap (columns_at f e k columns) next_same in
      record {
        main_local = refl;
        main_next = λ j h. next_is (replicate (declared t).width e.ring.zero) (declared t).main_next (columns_at f e k k.main after) j h ∙ at_next k.main;
        preprocessed_local = local_pre (declared t).preprocessed k.preprocessed pre_interpolated zeta after;
        preprocessed_next = λ j h. next_pre (declared t).preprocessed k.preprocessed pre_interpolated (replicate (width_of (declared t).preprocessed) e.ring.zero) j h zeta after ∙ at_next k.preprocessed;
        periodic = refl;
        public_values = refl;
        first_row = refl;
        last_row = refl;
        transition = refl;
        permutation_local = recombined_is f e c.two_adicity p.inverse L k (columns_at f e k k.permutation zeta) (column_count (length t.lookups)) zeta count_is refl;
        permutation_next =
            recombined_is f e c.two_adicity p.inverse L k (columns_at f e k k.permutation after) (column_count (length t.lookups)) after count_is refl
            ∙ ap (permutation_at f e k) next_same;
        challenges = refl;
        terminals = refl;
      }

  -- the honest quotient, and its chunks' domains as a verifier has them
  abbrev quotient : CommittedQuotient F
  quotient = honest_quotient c.field c.extension k (quotient_shift c) (log_parts c t) (constraints c t) alpha

  abbrev log_chunks : ℕ
  log_chunks = chunks_of_table c.field.ring (masks c) (2 ^ log_rows c t) t.table t.lookups

  domains_same : chunk_domains c t.degree_bits log_chunks ≡ quotient.domains
  unfolding committed_table
  domains_same =
      let least = T.least in
      let size : t.degree_bits + log_chunks ≡ log_rows c t + log_parts c t = omega (arith, least) in
      let one : (t.degree_bits + log_chunks) - (log_chunks + masks c) ≡ log_rows c t = omega (arith, least) in
      λ j. tabulate (2 ^ log_parts c t) (λ i. record { shift = point c.field.ring c.field.root (record { shift = quotient_shift c; log_size = size j }) i; log_size = one j })

  module _ (reads : All (ReadsDeclared (declared_shape (declared t))) t.table.trees) (are : All (IsLookup (declared_shape (declared t))) t.lookups)
      (holds : CommittedIdentity c.field c.extension k (constraints c t) quotient alpha zeta) (outside : IsInDomain c.field c.extension domain zeta → ⊥) where
    -- the identity over the opened values
    opened_holds : OpenedIdentity c.field c.extension k (constraints c t) quotient alpha zeta values o.base.quotient_chunks
    unfolding opened_of
    opened_holds =
        (opened_identity c.field c.extension k (read_shape (declared t) (length t.lookups)) values zeta
        (opened_by_rows c.field c.extension k (read_shape (declared t) (length t.lookups)) values zeta are_opened)
        (constraints c t) quotient alpha o.base.quotient_chunks (all_read c.field.ring (declared t) t.table.trees t.lookups reads are) refl).1 holds

    -- so no check of the table's identity fails
    pub identity_pass : (R : Type 0) (i : ℕ)
        → NoneFails (identity_of_table {R = R} c.field c.extension i (log_rows c t) t.table t.lookups t.publics challenges (honest_terminal c p t challenges) (chunk_domains c t.degree_bits log_chunks) alpha zeta o)
    unfolding identity_checks folded_at NoneFails committed_table
    identity_pass R i =
        let f = c.field in let e = c.extension in
        let ds = chunk_domains c t.degree_bits log_chunks in
        let checks = identity_checks f e {R = R} (Some i) domain alpha zeta table_read (constraints c t) (recombined f e ds o.base.quotient_chunks zeta) in
        none_append (periods_check {R = R} (2 ^ log_rows c t) (map length (declared t).periodic)) (map verified checks)
        (all_images (λ (column : List F). IsPeriod (2 ^ log_rows c t) (length column)) (IsPeriod (2 ^ log_rows c t)) length (λ column h. h) (declared t).periodic T.rows.periods, tt)
        (none_verified checks (outside, (opened_holds ∙ ap (λ l. e.ring.mul (vanishing_at f e domain zeta) (recombined f e l o.base.quotient_chunks zeta)) (sym domains_same), tt)))
