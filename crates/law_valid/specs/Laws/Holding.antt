-- What a valid statement with traces promises of each table that is committed to with permutation columns: it commits to its traces, all its
-- constraints hold on its rows, and they have their identity with the honest quotient.
use Rattle.std.proofs.Common.{◌≡◌, ℕ, ◌+◌, ◌*◌, ◌^◌, ◌<◌, ◌≤◌, min, List, [], ◌∷◌, ◌++◌, length, get_or, map, Option, None, Some, refl, sym, ◌∙◌, ap, subst, arith}
use Rattle.std.specs.Prelude.{All, Bool, Ok}
use Rattle.std.proofs.lemmas.List.{length-map, get_or-map}
use Rattle.p3_field.specs.Domain.{CosetData}
use Rattle.p3_matrix.specs.Matrix.{Rows, height}
use Rattle.air_core.specs.declared.cells.Cell.{Cell}
use Rattle.air_core.specs.declared.cells.Cell.TheVariants.{Main, Preprocessed, Periodic, Public, FirstRow, LastRow, Transition}
use Rattle.air_core.specs.Degree.{cell_degree, ext_degree}
use Rattle.air_core.specs.Laws.Degrees.{degree_is_full}
use Rattle.air_core.specs.Laws.Maps.{reads_more}
use Rattle.air_core.specs.Shape.{Declaration, Declares, IsSendable, ReadsDeclared, declared_shape}
use Rattle.p3_lookup.specs.declared.terminal.LookupTerminal.{LookupTerminal}
use Rattle.p3_lookup.specs.Generated.{IsGenerated, argument_over, sent_shape}
use Rattle.p3_lookup.specs.Lookup.{IsLookup, LookupData, ReadsSent}
use Rattle.p3_lookup.specs.Trees.{lookup_trees}
use Rattle.batch_constraints.specs.Sizing.{periods_of}
use Rattle.batch_config.specs.Setting.{Setting}
use Rattle.verifier_shape.specs.ShapeChecks.{HasEntries}
use Rattle.batch_statement.specs.Words.{no_table}
use Rattle.batch_statement.specs.Statement.{PreprocessedTracesData, Statement, AirTable, instance_count, within_entries}
use Rattle.law_committed.specs.Committed.{CommittedTable, Holds}
use Rattle.law_committed.specs.Fields.{FieldsLaws}
use Rattle.law_committed.specs.Identity.{CommittedIdentity}
use Rattle.law_committed.specs.Quotient.{IsQuotientDomain, honest_quotient}
use Rattle.law_committed.specs.Rows.{CommitsTo}
use Rattle.law_committed.specs.Traces.{IsTall}
use Rattle.law_committed.specs.Laws.Lookups.{table_holds}
use Rattle.law_committed.specs.Laws.Quotient.{honest_identity}
use Rattle.law_committed.specs.Laws.Rows.{traces_bounded}
use Rattle.law_committed.specs.Laws.Traces.{traces_committed}
use Rattle.law_valid.specs.Traced.{TracedTable, committed_alone, committed_with, constraints, declared, log_parts, log_rows, quotient_shift, traced_at, traces_of}
use Rattle.law_valid.specs.Valid.{AllFit, HasQuotientDomain, IsTraced, IsTracedBatch, OwnHold, Valid}
use Rattle.law_valid.specs.Laws.Committed.{holds_beside, rows_beside}

-- lookups that read what a table declares read what it may send
sendable_more : {F : Type 0} (d : Declaration F) (main : Rows F) (publics : List F) → main.width ≡ d.width → length publics ≡ d.public_values
    → (c : Cell) → Declares (declared_shape d) c × IsSendable c → Declares (sent_shape main d.preprocessed publics) c × IsSendable c
sendable_more d main publics wide long (Main next j) q = ((omega (arith, q.0.0, wide), λ _. refl), tt)
sendable_more d main publics wide long (Preprocessed next j) q = ((q.0.0, λ _. refl), tt)
sendable_more d main publics wide long (Periodic j) q = absurd q.1
sendable_more d main publics wide long (Public j) q = (omega (arith, q.0, long), tt)
sendable_more d main publics wide long FirstRow q = absurd q.1
sendable_more d main publics wide long LastRow q = absurd q.1
sendable_more d main publics wide long Transition q = absurd q.1

sent_more : {F : Type 0} (d : Declaration F) (main : Rows F) (publics : List F) → main.width ≡ d.width → length publics ≡ d.public_values
    → (l : LookupData F) → ReadsSent (declared_shape d) l → ReadsSent (sent_shape main d.preprocessed publics) l
sent_more {F = F} d main publics wide long l h =
    let P : Cell → Type 0 = λ c. Declares (declared_shape d) c × IsSendable c in
    let Q : Cell → Type 0 = λ c. Declares (sent_shape main d.preprocessed publics) c × IsSendable c in
    let more : (c : Cell) → P c → Q c = sendable_more d main publics wide long in
    record {
      tuples = λ i ts a j t b. reads_more P Q (λ _. ⊥) (λ _. ⊥) more (λ c q. q) (get_or (get_or l.tuples i ts) j t) (h.tuples i ts a j t b);
      counts = λ i v a. reads_more P Q (λ _. ⊥) (λ _. ⊥) more (λ c q. q) (get_or l.counts i v).value (h.counts i v a);
    }

module _ {S F E C : Type 0} (c : Setting S F E C) (inverse : E → E) (L : FieldsLaws c.field c.extension c.two_adicity inverse) (t : TracedTable F) where
  module _ (Q : HasQuotientDomain c t) (columns : Rows E) (challenges terminals : List E) where
    abbrev pub with : CommittedTable F E
    with = committed_with c t columns challenges terminals

    low : log_rows c t ≤ c.two_adicity
    low = let q = Q.fits in omega (arith, q)

    -- a table's quotient has a domain also beside permutation columns
    pub domain_beside : IsQuotientDomain c.field c.extension with (quotient_shift c) (log_parts c t) c.two_adicity
    domain_beside = record { fits = Q.fits; shift_not_zero = Q.shift_not_zero; apart = Q.apart }

    module _ (T : IsTraced c t) (tall : IsTall (2 ^ log_rows c t) columns) where
      -- it commits to its traces and to permutation columns of its height
      pub commits_beside : CommitsTo c.field c.extension with (traces_of t) columns
      commits_beside =
          traces_committed c.field c.extension c.two_adicity inverse L (log_rows c t) low (traces_of t) columns challenges terminals
          (rows_beside (2 ^ log_rows c t) (traces_of t) columns T.rows tall)

      -- where all its constraints hold and fit, they have their identity with the honest quotient at every point
      pub identity_beside : (alpha x : E) → 2 ^ log_rows c t * (2 ^ log_parts c t + 1) < 2 ^ 64 → AllFit c t → Holds c.field c.extension with (constraints c t)
          → CommittedIdentity c.field c.extension with (constraints c t) (honest_quotient c.field c.extension with (quotient_shift c) (log_parts c t) (constraints c t) alpha) alpha x
      identity_beside alpha x small fit holds =
          honest_identity c.field c.extension c.two_adicity inverse L with (constraints c t) alpha (quotient_shift c) (log_parts c t) domain_beside
          (traces_bounded c.field c.extension L.below with (traces_of t) columns commits_beside) holds
          (λ j d l.
          let tree = get_or (constraints c t) j d in
          let less = fit j d l in
          let full = degree_is_full (cell_degree (2 ^ log_rows c t) (periods_of (declared t))) (ext_degree (2 ^ log_rows c t)) tree (omega (arith, less, small)) in
          omega (arith, less, full)) x

  module _ (Q : HasQuotientDomain c t) (T : IsTraced c t) (own : OwnHold c t) (reads : All (ReadsDeclared (declared_shape (declared t))) t.table.trees) where
    -- without lookups its constraints hold
    pub holds_alone : t.lookups ≡ [] → Holds c.field c.extension (committed_alone c t) (constraints c t)
    holds_alone none =
        subst (λ trees. Holds c.field c.extension (committed_alone c t) trees)
        (sym (append_nothing t.table.trees) ∙ ap (λ ls. t.table.trees ++ lookup_trees c.field.ring ls) (sym none)) own
      where
        append_nothing : {A : Type 0} (xs : List A) → xs ++ [] ≡ xs
        append_nothing [] = refl
        append_nothing (x ∷ xs) = ap (λ ys. x ∷ ys) (append_nothing xs)

    -- with generated permutation columns and their terminal all its constraints hold
    pub holds_generated : All (IsLookup (sent_shape t.trace (declared t).preprocessed t.publics)) t.lookups
        → (columns : Rows E) (challenges : List E) (terminal : LookupTerminal E) → IsTall (2 ^ log_rows c t) columns
        → IsGenerated (argument_over c.field.ring c.extension.ring inverse c.extension.embed t.trace (declared t).preprocessed t.publics t.lookups challenges) (height t.trace) (Ok (columns, terminal))
        → Holds c.field c.extension (committed_with c t columns challenges (terminal.0 ∷ [])) (constraints c t)
    holds_generated fit columns challenges terminal tall made =
        table_holds c.field c.extension c.two_adicity inverse L (committed_with c t columns challenges (terminal.0 ∷ [])) (low Q columns challenges (terminal.0 ∷ [])) (traces_of t) columns
        (commits_beside Q columns challenges (terminal.0 ∷ []) T tall) t.lookups terminal refl made t.table.trees
        (holds_beside c.field c.extension (traces_of t) (log_rows c t) columns challenges (terminal.0 ∷ []) (declared t) t.table.trees reads own)
        fit

module _ {S F E C : Type 0} (c : Setting S F E C) (commitment_of : List (CosetData F × Rows F) → C) (s : Statement F C) (traces : List (Rows F)) (degree_bits : List ℕ)
    (inverse : E → E) (L : FieldsLaws c.field c.extension c.two_adicity inverse) (B : IsTracedBatch c commitment_of s traces degree_bits) where
  abbrev declarations : List (Declaration F)
  declarations = map (λ (t : AirTable F). t.declaration) s.tables

  counted : (p : Option (PreprocessedTracesData C)) → HasEntries (length s.tables) p → within_entries p (min (length declarations) (length s.common.lookups)) ≡ length s.tables
  counted None h = let q = B.lists.lookups_long in omega (arith, q, length-map s.tables (λ (t : AirTable F). t.declaration))
  counted (Some g) h = let q = B.lists.lookups_long in omega (arith, q, h, length-map s.tables (λ (t : AirTable F). t.declaration))

  -- each table is one of the common data's instances
  pub all_counted : instance_count declarations s.common ≡ length s.tables
  all_counted = counted s.common.preprocessed B.lists.entries_long

  module _ (i : ℕ) (lt : i < length s.tables) where
    abbrev t : TracedTable F
    t = traced_at s traces degree_bits i

    declared_there : get_or declarations i (no_table {F = F}).declaration ≡ declared t
    declared_there = get_or-map (λ (t : AirTable F). t.declaration) s.tables i no_table (no_table {F = F}).declaration lt

    lookups_read : All (ReadsSent (declared_shape (declared t))) t.lookups
    lookups_read =
        subst (λ (d : Declaration F). All (ReadsSent (declared_shape d)) t.lookups) declared_there
        (B.formed.reads i (omega (arith, lt, all_counted)) (no_table {F = F}).declaration)

    -- its lookups read what it declares
    pub lookups_declared : All (IsLookup (declared_shape (declared t))) t.lookups
    lookups_declared j d l = record { counted = B.formed.counted i (omega (arith, lt, all_counted)) j d l; reads = lookups_read j d l }

    -- which its traces have
    pub lookups_fit : All (IsLookup (sent_shape t.trace (declared t).preprocessed t.publics)) t.lookups
    lookups_fit j d l = record {
      counted = B.formed.counted i (omega (arith, lt, all_counted)) j d l;
      reads = sent_more (declared t) t.trace t.publics (B.traced i lt).width (B.traced i lt).publics (get_or t.lookups j d) (lookups_read j d l);
    }

    pub traced_commits : (columns : Rows E) (challenges terminals : List E) → IsTall (2 ^ log_rows c t) columns → CommitsTo c.field c.extension (committed_with c t columns challenges terminals) (traces_of t) columns
    traced_commits columns challenges terminals tall = commits_beside c inverse L t (B.domains i lt) columns challenges terminals (B.traced i lt) tall

    pub traced_domain : (columns : Rows E) (challenges terminals : List E) → IsQuotientDomain c.field c.extension (committed_with c t columns challenges terminals) (quotient_shift c) (log_parts c t) c.two_adicity
    traced_domain columns challenges terminals = domain_beside c inverse L t (B.domains i lt) columns challenges terminals

module _ {S F E C : Type 0} (c : Setting S F E C) (eq : F → F → Bool) (commitment_of : List (CosetData F × Rows F) → C) (s : Statement F C) (traces : List (Rows F)) (degree_bits : List ℕ)
    (inverse : E → E) (L : FieldsLaws c.field c.extension c.two_adicity inverse) (V : Valid c eq commitment_of s traces degree_bits) where
  module _ (i : ℕ) (lt : i < length s.tables) where
    abbrev own : TracedTable F
    own = traced_at s traces degree_bits i

    pub valid_holds_alone : All (ReadsDeclared (declared_shape (declared own))) own.table.trees → own.lookups ≡ [] → Holds c.field c.extension (committed_alone c own) (constraints c own)
    valid_holds_alone reads none = holds_alone c inverse L own (V.batch.domains i lt) (V.batch.traced i lt) (V.holds i lt) reads none

    pub valid_holds : All (ReadsDeclared (declared_shape (declared own))) own.table.trees → (columns : Rows E) (challenges : List E) (terminal : LookupTerminal E) → IsTall (2 ^ log_rows c own) columns
        → IsGenerated (argument_over c.field.ring c.extension.ring inverse c.extension.embed own.trace (declared own).preprocessed own.publics own.lookups challenges) (height own.trace) (Ok (columns, terminal))
        → Holds c.field c.extension (committed_with c own columns challenges (terminal.0 ∷ [])) (constraints c own)
    valid_holds reads columns challenges terminal tall made =
        holds_generated c inverse L own (V.batch.domains i lt) (V.batch.traced i lt) (V.holds i lt) reads (lookups_fit c commitment_of s traces degree_bits inverse L V.batch i lt) columns challenges terminal tall made

    pub valid_identity : (columns : Rows E) (challenges terminals : List E) (alpha x : E) → 2 ^ log_rows c own * (2 ^ log_parts c own + 1) < 2 ^ 64 → IsTall (2 ^ log_rows c own) columns
        → Holds c.field c.extension (committed_with c own columns challenges terminals) (constraints c own)
        → CommittedIdentity c.field c.extension (committed_with c own columns challenges terminals) (constraints c own)
        (honest_quotient c.field c.extension (committed_with c own columns challenges terminals) (quotient_shift c) (log_parts c own) (constraints c own) alpha) alpha x
    valid_identity columns challenges terminals alpha x small tall holds =
        identity_beside c inverse L own (V.batch.domains i lt) columns challenges terminals (V.batch.traced i lt) tall alpha x small (V.fits i lt) holds
