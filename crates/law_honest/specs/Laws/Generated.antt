-- The permutation columns and the terminal of an honest proof are those that are generated; so a valid table's constraints hold with them.
use Rattle.std.proofs.Common.{◌≡◌, ℕ, zero, suc, ◌+◌, ◌*◌, ◌^◌, ◌<◌, Bool, List, [], ◌∷◌, ◌++◌, length, get_or, Option, refl, sym, ◌∙◌, ap, subst, arith}
use Rattle.std.specs.Prelude.{All, Ok, option_to_list}
use Rattle.std.proofs.lemmas.List.{append-nil}
use Rattle.p3_field.specs.Poly.{tabulate}
use Rattle.p3_field.specs.Laws.Tabulate.{get_or-tabulate, length-tabulate}
use Rattle.p3_matrix.specs.Matrix.{Rows, cell_at, height, row_at}
use Rattle.p3_matrix.specs.Laws.Transposed.{get_or-row_at}
use Rattle.air_core.specs.Shape.{ReadsDeclared, declared_shape}
use Rattle.p3_lookup.specs.declared.terminal.LookupTerminal.{LookupTerminal}
use Rattle.p3_lookup.specs.Generated.{IsGenerated, sent_shape}
use Rattle.p3_lookup.specs.Honest.{Argument, honest_cell, running_sum}
use Rattle.p3_lookup.specs.Lookup.{IsLookup, LookupData}
use Rattle.p3_lookup.specs.Trees.{lookup_trees}
use Rattle.batch_config.specs.Setting.{Setting}
use Rattle.law_committed.specs.Committed.{Holds}
use Rattle.law_committed.specs.Fields.{FieldsLaws}
use Rattle.law_committed.specs.Identity.{CommittedIdentity}
use Rattle.law_committed.specs.Quotient.{honest_quotient}
use Rattle.law_committed.specs.Traces.{IsTall}
use Rattle.batch_statement.specs.Statement.{Statement}
use Rattle.law_valid.specs.Traced.{TracedTable, committed_with, constraints, declared, log_parts, log_rows, no_rows, quotient_shift, traced_at, traces_of}
use Rattle.law_valid.specs.Valid.{AllFit, HasQuotientDomain, IsTraced, IsTracedBatch, OwnHold, Valid}
use Rattle.law_valid.specs.Laws.Columns.{pieces_height, pieces_row, pieces_tall}
use Rattle.law_valid.specs.Laws.Committed.{holds_beside, no_rows_tall}
use Rattle.law_valid.specs.Laws.Holding.{holds_generated, identity_beside, lookups_fit}
use Rattle.law_honest.specs.HonestProof.{AreLogHeights, HasFractions, HaveFractions, Prover, argument_of_table, challenges_at, honest_committed_at, columns_for, committed_table, permutation_columns, honest_terminal, where_some}

-- the value of a sum of fractions as a terminal
abbrev terminal_with : {E : Type 0} → E → LookupTerminal E
terminal_with x = record { 0 = x }

module _ {S F E C : Type 0} (c : Setting S F E C) (p : Prover F E C) (t : TracedTable F) (challenges : List E) where
  abbrev arg : Argument F E
  arg = argument_of_table c p t challenges

  abbrev rows : ℕ
  rows = 2 ^ log_rows c t

  abbrev cells_of : ℕ → ℕ → List E
  cells_of n row = tabulate (suc n + 1) (honest_cell arg row)

  long : (n row : ℕ) → length (cells_of n row) ≡ suc n + 1
  long n row = length-tabulate (suc n + 1) (honest_cell arg row)

  counted : length (tabulate rows (λ row. row)) ≡ rows
  counted = length-tabulate rows (λ row. row)

  -- the columns have a row for each of the table's
  pub columns_tall : (n : ℕ) → IsTall rows (columns_for c p t challenges n)
  columns_tall zero = no_rows_tall rows
  columns_tall (suc n) = pieces_tall (cells_of n) (suc n + 1) (long n) (omega arith) rows (tabulate rows (λ row. row)) counted

  pub permutation_tall : IsTall rows (permutation_columns c p t challenges)
  unfolding permutation_columns
  permutation_tall = columns_tall (length t.lookups)

  -- their cells are the honest ones
  pub cell_is : (n i j : ℕ) → i < rows → j < suc n + 1 → cell_at c.extension.ring.zero (columns_for c p t challenges (suc n)) i j ≡ honest_cell arg i j
  cell_is n i j h l =
      let m = columns_for c p t challenges (suc n) in
      let all = tabulate rows (λ row. row) in
      let row : row_at m i ≡ cells_of n i =
      pieces_row (cells_of n) (suc n + 1) (long n) all i 0 (let e = counted in omega (arith, h, e)) ∙ ap (cells_of n) (get_or-tabulate rows (λ row. row) i 0 h) in
      sym (get_or-row_at m i j c.extension.ring.zero l)
      ∙ (ap (λ l. get_or l j c.extension.ring.zero) row ∙ get_or-tabulate (suc n + 1) (honest_cell arg i) j c.extension.ring.zero l)

  -- so they are what is generated, where no denominator is zero
  pub generated : (n : ℕ) → length t.lookups ≡ suc n → height t.trace ≡ rows → HasFractions c p t challenges
      → IsGenerated arg (height t.trace) (Ok (columns_for c p t challenges (suc n), terminal_with (running_sum arg rows)))
  generated n e tall fractions = (
    ap (λ k. k + 1) (sym e),
    pieces_height (cells_of n) (suc n + 1) (long n) (omega arith) (tabulate rows (λ row. row)) ∙ (counted ∙ sym tall),
    (λ i j h l. cell_is n i j (omega (arith, h, tall)) (omega (arith, l, e))),
    ap (running_sum arg) (sym tall),
    λ i h. fractions i (omega (arith, h, tall)),
  )

  module _ (L : FieldsLaws c.field c.extension c.two_adicity p.inverse) (Q : HasQuotientDomain c t) (T : IsTraced c t) (own : OwnHold c t) (reads : All (ReadsDeclared (declared_shape (declared t))) t.table.trees)
      (fit : All (IsLookup (sent_shape t.trace (declared t).preprocessed t.publics)) t.lookups) (fractions : HasFractions c p t challenges) where
    abbrev HoldsWith : Rows E → List E → Type 0
    HoldsWith columns terminals = Holds c.field c.extension (committed_with c t columns challenges terminals) (constraints c t)

    without : t.lookups ≡ [] → HoldsWith no_rows []
    without none =
        let same : t.table.trees ≡ constraints c t = sym (append-nil t.table.trees) ∙ ap (λ ls. t.table.trees ++ lookup_trees c.field.ring ls) (sym none) in
        subst (λ trees. Holds c.field c.extension (committed_with c t no_rows challenges []) trees) same
        (holds_beside c.field c.extension (traces_of t) (log_rows c t) no_rows challenges [] (declared t) t.table.trees reads own)

    by_lookups : (ls : List (LookupData F)) → t.lookups ≡ ls → HoldsWith (columns_for c p t challenges (length ls)) (option_to_list (where_some ls (running_sum arg rows)))
    by_lookups [] e = without e
    by_lookups (l ∷ ls) e =
        holds_generated c p.inverse L t Q T own reads fit (columns_for c p t challenges (suc (length ls))) challenges (terminal_with (running_sum arg rows)) (columns_tall (suc (length ls)))
        (generated (length ls) (ap length e) T.rows.tall fractions)

    -- all constraints of the table that is committed to hold
    pub honest_holds : Holds c.field c.extension (committed_table c p t challenges) (constraints c t)
    unfolding committed_table permutation_columns honest_terminal
    honest_holds = by_lookups t.lookups refl

    -- and so has it its identity with the honest quotient at every point
    pub honest_identity : (alpha x : E) → 2 ^ log_rows c t * (2 ^ log_parts c t + 1) < 2 ^ 64 → AllFit c t
        → CommittedIdentity c.field c.extension (committed_table c p t challenges) (constraints c t)
        (honest_quotient c.field c.extension (committed_table c p t challenges) (quotient_shift c) (log_parts c t) (constraints c t) alpha) alpha x
    unfolding committed_table
    honest_identity alpha x small fits =
        identity_beside c p.inverse L t Q (permutation_columns c p t challenges) challenges (option_to_list (honest_terminal c p t challenges)) T permutation_tall alpha x small fits honest_holds

module _ {S F E C : Type 0} (c : Setting S F E C) (p : Prover F E C) (eq : F → F → Bool) (s : Statement F C) (traces : List (Rows F)) (degree_bits : List ℕ)
    (L : FieldsLaws c.field c.extension c.two_adicity p.inverse) (V : Valid c eq p.commitment_of s traces degree_bits) (w : Option F) (fractions : HaveFractions c p s traces degree_bits w) (i : ℕ) (lt : i < length s.tables)
    (reads : All (ReadsDeclared (declared_shape (declared (traced_at s traces degree_bits i)))) (traced_at s traces degree_bits i).table.trees) where
  -- the same of table i of a valid statement
  pub valid_holds : Holds c.field c.extension (honest_committed_at c p s traces degree_bits w i) (constraints c (traced_at s traces degree_bits i))
  valid_holds =
      honest_holds c p (traced_at s traces degree_bits i) (challenges_at c p s traces degree_bits w i) L (V.batch.domains i lt) (V.batch.traced i lt) (V.holds i lt) reads
      (lookups_fit c p.commitment_of s traces degree_bits p.inverse L V.batch i lt) (fractions i lt)

  pub valid_identity : (alpha x : E) → 2 ^ log_rows c (traced_at s traces degree_bits i) * (2 ^ log_parts c (traced_at s traces degree_bits i) + 1) < 2 ^ 64
      → CommittedIdentity c.field c.extension (honest_committed_at c p s traces degree_bits w i) (constraints c (traced_at s traces degree_bits i))
      (honest_quotient c.field c.extension (honest_committed_at c p s traces degree_bits w i) (quotient_shift c) (log_parts c (traced_at s traces degree_bits i)) (constraints c (traced_at s traces degree_bits i)) alpha) alpha x
  valid_identity alpha x small =
      honest_identity c p (traced_at s traces degree_bits i) (challenges_at c p s traces degree_bits w i) L (V.batch.domains i lt) (V.batch.traced i lt) (V.holds i lt) reads
      (lookups_fit c p.commitment_of s traces degree_bits p.inverse L V.batch i lt) (fractions i lt) alpha x small (V.fits i lt)

-- the degree bits of a traced batch are those of its traces
pub traced_heights : {S F E C : Type 0} (c : Setting S F E C) (p : Prover F E C) (s : Statement F C) (traces : List (Rows F)) (degree_bits : List ℕ)
    → IsTracedBatch c p.commitment_of s traces degree_bits → AreLogHeights c p s traces degree_bits
traced_heights c p s traces degree_bits B = record { bits_long = B.lists.bits_long; traces_long = B.lists.traces_long; each = λ i h. (B.traced i h).rows.tall }
