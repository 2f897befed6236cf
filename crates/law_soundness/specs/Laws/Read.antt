-- What a verifier reads of a table's opened values is what its committed polynomials have there, so the identity that it tests is theirs.
use Rattle.std.proofs.Common.{◌≡◌, ℕ, zero, suc, ◌*◌, ◌<◌, true, List, [], ◌∷◌, Option, None, Some, length, map, replicate, refl, sym, ◌∙◌, ap, arith}
use Rattle.std.specs.Prelude.{IsTrue, All}
use Rattle.std.proofs.lemmas.List.{length-map}
use Rattle.std.proofs.lemmas.List.Elements.{All-append, All-weaker}
use Rattle.p3_field.specs.Field.{TwoAdic, Extension}
use Rattle.p3_field.specs.Domain.{subgroup}
use Rattle.p3_field.specs.Poly.{eval_poly_in}
use Rattle.p3_field.specs.Ring.{Ring}
use Rattle.air_core.specs.CellValues.{CellValues}
use Rattle.air_core.specs.declared.cells.Cell.{Cell}
use Rattle.air_core.specs.declared.cells.Cell.TheVariants.{Main, Preprocessed, Periodic, Public, FirstRow, LastRow, Transition}
use Rattle.air_core.specs.declared.cells.ExtCell.{ExtCell}
use Rattle.air_core.specs.declared.cells.ExtCell.TheVariants.{Permutation, Challenge, Terminal}
use Rattle.air_core.specs.Laws.Maps.{reads_more}
use Rattle.air_core.specs.Shape.{Shape, Declaration, Declares, DeclaresExt, Fits, ReadsDeclared, declared_shape, has}
use Rattle.air_core.specs.Tree.{Tree}
use Rattle.p3_lookup.specs.Lookup.{LookupData, FitLookups}
use Rattle.p3_lookup.specs.Trees.{lookup_trees}
use Rattle.p3_uni_stark.specs.Opened.{PreprocessedData}
use Rattle.p3_uni_stark.specs.Recombine.{recombined}
use Rattle.law_committed.specs.Committed.{CommittedTable, periodic_poly, committed_values_at}
use Rattle.law_committed.specs.Fields.{FieldsLaws}
use Rattle.law_committed.specs.Identity.{CommittedIdentity, CommittedQuotient}
use Rattle.law_committed.specs.Laws.Opened.{opened_by_rows, opened_identity, recombined_is}
use Rattle.law_committed.specs.Opened.{AreOpenedRows}
use Rattle.batch_constraints.specs.BatchTrees.{AreLookupsOf, table_trees}
use Rattle.batch_constraints.specs.Laws.Reads.{shape_fits_lookups}
use Rattle.batch_constraints.specs.Laws.TreesRead.{lookup_trees_read}
use Rattle.verifier_folder.specs.FolderState.{verifier_cells_of}
use Rattle.verifier_identity.specs.Identity.{Identity, folded_at, opened_at}
use Rattle.verifier_identity.specs.PeriodicValues.{periodic_value}
use Rattle.batch_statement.specs.Proof.{OpenedWithLookups}
use Rattle.verifier_shape.specs.ShapeChecks.{permutation_width, preprocessed_next_of}
use Rattle.batch_statement.specs.Words.{has_some}
use Rattle.verifier_claims.specs.Claims.{preprocessed_local_row, values_where_there}
use Rattle.verifier_identity.specs.TableIdentity.{next_row_or_zeros, opened_table, permutation_column_count, preprocessed_local_of}
use Rattle.law_soundness.specs.OpenedBatch.{AreCommittedValues}

-- a column of a list is one of some
some_of : (ns : List ℕ) (j : ℕ) → IsTrue (has ns j) → has_some ns ≡ true
some_of [] j h = absurd cc
some_of (n ∷ ns) j h = refl

-- a next row that is declared is what is opened
next_is_opened : {E : Type 0} (zeros : List E) (ns : List ℕ) (row : Option (List E)) → has_some ns ≡ true → next_row_or_zeros zeros ns row ≡ values_where_there row
next_is_opened zeros [] row h = absurd cc
next_is_opened zeros (n ∷ ns) None h = refl
next_is_opened zeros (n ∷ ns) (Some xs) h = refl

local_is_opened : {E : Type 0} (p : Option (PreprocessedData E)) → preprocessed_local_of p ≡ preprocessed_local_row p
local_is_opened None = refl
local_is_opened (Some p) = refl

-- a permutation row has a value for each coefficient of each column
row_width : (lookups dimension : ℕ) → permutation_width lookups dimension ≡ permutation_column_count lookups * dimension
row_width zero dimension = sym (omega arith)
row_width (suc n) dimension = refl

columns_enough : (n : ℕ) → 0 < n → n < permutation_column_count n
columns_enough zero h = absurd (omega (arith, h))
columns_enough (suc n) h = omega arith

-- The cells that a table with so many lookups reads: those that it declares, and those of its lookups.
abbrev pub read_shape : {F : Type 0} → Declaration F → (lookups : ℕ) → Shape
read_shape d lookups = record (declared_shape d) { permutation = permutation_column_count lookups; challenges = 2 * lookups; terminals = 1 }

module _ {F : Type 0} (d : Declaration F) (lookups : ℕ) where
  declared_read : (c : Cell) → Declares (declared_shape d) c → Declares (read_shape d lookups) c
  declared_read (Main next column) h = h
  declared_read (Preprocessed next column) h = h
  declared_read (Periodic n) h = h
  declared_read (Public n) h = h
  declared_read FirstRow h = h
  declared_read LastRow h = h
  declared_read Transition h = h

  none_declared : (c : ExtCell) → DeclaresExt (declared_shape d) c → DeclaresExt (read_shape d lookups) c
  none_declared (Permutation next column) h = absurd (omega (arith, h))
  none_declared (Challenge n) h = absurd (omega (arith, h))
  none_declared Terminal h = absurd (omega (arith, h))

  own_read : (tree : Tree F) → ReadsDeclared (declared_shape d) tree → ReadsDeclared (read_shape d lookups) tree
  own_read tree h =
      reads_more (Declares (declared_shape d)) (Declares (read_shape d lookups)) (DeclaresExt (declared_shape d)) (DeclaresExt (read_shape d lookups)) declared_read none_declared tree h

  declared_fits : Fits (declared_shape d) (read_shape d lookups)
  declared_fits = record {
    main = omega arith;
    main_next = λ c h. h;
    preprocessed = omega arith;
    preprocessed_next = λ c h. h;
    periodic = omega arith;
    public = omega arith;
  }

-- a table's constraints read these cells alone
pub constraints_read : {F : Type 0} (r : Ring F) (d : Declaration F) (trees : List (Tree F)) (lookups : List (LookupData F)) → All (ReadsDeclared (declared_shape d)) trees → AreLookupsOf d lookups
    → All (ReadsDeclared (read_shape d (length lookups))) (table_trees r trees lookups)
constraints_read r d trees lookups own are =
    let n = length lookups in
    let sh = read_shape d n in
    let fit : FitLookups sh lookups = shape_fits_lookups d sh lookups n refl (declared_fits d n) are (columns_enough n) (omega arith) (λ _. omega arith) in
    All-append (ReadsDeclared sh) trees (lookup_trees r lookups) (All-weaker (ReadsDeclared (declared_shape d)) (ReadsDeclared sh) (own_read d n) trees own)
    (lookup_trees_read r sh lookups fit)

-- a table with these polynomials
module _ {F E : Type 0} (f : TwoAdic F) (e : Extension F E) (top : ℕ) (inverse : E → E) (L : FieldsLaws f e top inverse) (d : Declaration F) (lookups : List (LookupData F))
    (main preprocessed permutation : List (List F)) (publics : List F) (challenges terminals : List E) (k : ℕ) where
  abbrev pub table_with : CommittedTable F E
  table_with = record {
    main = main;
    preprocessed = preprocessed;
    permutation = permutation;
    public_values = publics;
    challenges = challenges;
    terminals = terminals;
    periodic = d.periodic;
    log_height = k;
  }

  module _ (q : CommittedQuotient F) (alpha zeta : E) (o : OpenedWithLookups E) (V : AreCommittedValues f e d table_with q zeta o)
      (wide : length o.permutation_local ≡ permutation_width (length lookups) e.dimension) where
    -- what a verifier reads
    abbrev pub cells_read : CellValues E
    cells_read = verifier_cells_of e.ring.zero e.embed (opened_at f e (subgroup f.ring k) alpha zeta (opened_table f e (subgroup f.ring k) d (length lookups) publics challenges terminals zeta o))

    periodic_same : map (periodic_value f e (subgroup f.ring k) zeta) d.periodic ≡ (committed_values_at f e table_with zeta).periodic
    unfolding periodic_value periodic_poly
    periodic_same = refl

    permutation_long : length permutation ≡ permutation_column_count (length lookups) * e.dimension
    permutation_long = sym (ap length V.permutation_local ∙ length-map permutation (λ (g : List F). eval_poly_in e g zeta)) ∙ (wide ∙ row_width (length lookups) e.dimension)

    rows_read : AreOpenedRows f e table_with (read_shape d (length lookups)) cells_read zeta
    rows_read = record {
      main_local = V.main_local;
      main_next = λ j h. let some = some_of d.main_next j h in next_is_opened (replicate d.width e.ring.zero) d.main_next o.base.trace_next some ∙ V.main_next some;
      preprocessed_local = local_is_opened o.base.preprocessed ∙ V.preprocessed_local;
      preprocessed_next = λ j h.
          let some = some_of d.preprocessed_next j h in
          next_is_opened _ d.preprocessed_next (preprocessed_next_of o.base.preprocessed) some ∙ V.preprocessed_next some;
      periodic = periodic_same;
      public_values = refl;
      first_row = refl;
      last_row = refl;
      transition = refl;
      permutation_local = recombined_is f e top inverse L table_with o.permutation_local (permutation_column_count (length lookups)) zeta permutation_long V.permutation_local;
      permutation_next = recombined_is f e top inverse L table_with o.permutation_next (permutation_column_count (length lookups)) _ permutation_long V.permutation_next;
      challenges = refl;
      terminals = refl;
    }

    -- so the identity that it tests is that of the committed polynomials
    pub identity_is_committed : (trees : List (Tree F)) → All (ReadsDeclared (declared_shape d)) trees → AreLookupsOf d lookups
        → Identity f e (subgroup f.ring k) alpha zeta (opened_table f e (subgroup f.ring k) d (length lookups) publics challenges terminals zeta o) (table_trees f.ring trees lookups)
        (recombined f e q.domains o.base.quotient_chunks zeta)
        → CommittedIdentity f e table_with (table_trees f.ring trees lookups) q alpha zeta
    unfolding folded_at
    identity_is_committed trees own are I =
        let A = opened_by_rows f e table_with (read_shape d (length lookups)) cells_read zeta rows_read in
        (opened_identity f e table_with (read_shape d (length lookups)) cells_read zeta A (table_trees f.ring trees lookups) q alpha o.base.quotient_chunks
        (constraints_read f.ring d trees lookups own are) V.chunks).0 I
