-- The quotient that an honest proof of a valid statement commits to is that of the fold by the vanishing polynomial.
use Rattle.std.proofs.Common.{◌≡◌, ℕ, ◌+◌, ◌*◌, ◌^◌, ◌<◌, Bool, List, length, get_or, Option, refl, arith}
use Rattle.std.specs.Prelude.{All, option_to_list}
use Rattle.p3_field.specs.Poly.{eval_poly}
use Rattle.p3_matrix.specs.Matrix.{Rows}
use Rattle.air_core.specs.Degree.{cell_degree, ext_degree}
use Rattle.air_core.specs.Laws.Degrees.{degree_is_full}
use Rattle.air_core.specs.Shape.{Declaration, HasColumns, ReadsDeclared, declared_shape}
use Rattle.air_core.specs.Tree.{Tree}
use Rattle.batch_config.specs.Setting.{Setting}
use Rattle.batch_constraints.specs.Sizing.{periods_of}
use Rattle.batch_statement.specs.Statement.{Common, Statement, tables_of}
use Rattle.law_committed.specs.Committed.{Holds}
use Rattle.law_committed.specs.Fields.{FieldsLaws}
use Rattle.law_committed.specs.Identity.{quotient_poly}
use Rattle.law_committed.specs.Laws.Quotient.{honest_recombined}
use Rattle.law_committed.specs.Laws.Rows.{traces_bounded}
use Rattle.law_committed.specs.Quotient.{fold_quotient, honest_quotient}
use Rattle.law_committed.specs.Traces.{IsTall}
use Rattle.law_honest.specs.HonestProof.{HaveFractions, Prover, challenges_at, committed_table, honest_committed_at, honest_terminal, permutation_columns}
use Rattle.law_honest.specs.Laws.Generated.{permutation_tall, valid_holds}
use Rattle.law_acceptance.specs.Honest.{HaveFewRows}
use Rattle.law_acceptance.specs.Quotients.{HaveFoldQuotients}
use Rattle.law_acceptance.specs.Laws.Airs.{airs_sound}
use Rattle.law_valid.specs.Laws.Holding.{commits_beside, domain_beside}
use Rattle.law_valid.specs.Traced.{TracedTable, committed_with, constraints, declared, log_parts, log_rows, quotient_shift, traced_at, traces_of}
use Rattle.law_valid.specs.Valid.{AllFit, HasQuotientDomain, IsTraced, Valid}

-- the same of a table with permutation columns of its height
module _ {S F E C : Type 0} (c : Setting S F E C) (inverse : E → E) (L : FieldsLaws c.field c.extension c.two_adicity inverse) (t : TracedTable F) (Q : HasQuotientDomain c t) (columns : Rows E)
    (challenges terminals : List E) (T : IsTraced c t) (tall : IsTall (2 ^ log_rows c t) columns) where
  pub recombined_beside : (alpha x : E) → 2 ^ log_rows c t * (2 ^ log_parts c t + 1) < 2 ^ 64 → AllFit c t → Holds c.field c.extension (committed_with c t columns challenges terminals) (constraints c t)
      → eval_poly c.extension.ring (quotient_poly c.field c.extension (honest_quotient c.field c.extension (committed_with c t columns challenges terminals) (quotient_shift c) (log_parts c t) (constraints c t) alpha)) x
      ≡ eval_poly c.extension.ring (fold_quotient c.field c.extension (committed_with c t columns challenges terminals) (constraints c t) alpha) x
  recombined_beside alpha x small fit holds =
      honest_recombined c.field c.extension c.two_adicity inverse L (committed_with c t columns challenges terminals) (constraints c t) alpha (quotient_shift c) (log_parts c t)
      (domain_beside c inverse L t Q columns challenges terminals)
      (traces_bounded c.field c.extension L.below (committed_with c t columns challenges terminals) (traces_of t) columns (commits_beside c inverse L t Q columns challenges terminals T tall)) holds
      (λ j d l.
      let tree = get_or (constraints c t) j d in
      let less = fit j d l in
      let full = degree_is_full (cell_degree (2 ^ log_rows c t) (periods_of (declared t))) (ext_degree (2 ^ log_rows c t)) tree (omega (arith, less, small)) in
      omega (arith, less, full)) x

module _ {S F E C : Type 0} (c : Setting S F E C) (p : Prover F E C) (eq : F → F → Bool) (s : Statement F C) (traces : List (Rows F)) (degree_bits : List ℕ)
    (L : FieldsLaws c.field c.extension c.two_adicity p.inverse) (V : Valid c eq p.commitment_of s traces degree_bits) (w : Option F) (fractions : HaveFractions c p s traces degree_bits w) (i : ℕ) (lt : i < length s.tables)
    (reads : All (ReadsDeclared (declared_shape (declared (traced_at s traces degree_bits i)))) (traced_at s traces degree_bits i).table.trees) where
  abbrev t : TracedTable F
  t = traced_at s traces degree_bits i

  -- at every point, for every challenge that folds the constraints
  pub quotient_of_the_fold : (alpha x : E) → 2 ^ log_rows c t * (2 ^ log_parts c t + 1) < 2 ^ 64
      → eval_poly c.extension.ring (quotient_poly c.field c.extension (honest_quotient c.field c.extension (honest_committed_at c p s traces degree_bits w i) (quotient_shift c) (log_parts c t) (constraints c t) alpha)) x
      ≡ eval_poly c.extension.ring (fold_quotient c.field c.extension (honest_committed_at c p s traces degree_bits w i) (constraints c t) alpha) x
  unfolding committed_table
  quotient_of_the_fold alpha x small =
      let challenges = challenges_at c p s traces degree_bits w i in
      recombined_beside c p.inverse L t (V.batch.domains i lt) (permutation_columns c p t challenges) challenges (option_to_list (honest_terminal c p t challenges)) (V.batch.traced i lt) (permutation_tall c p t challenges)
      alpha x small (V.fits i lt) (valid_holds c p eq s traces degree_bits L V w fractions i lt reads)

-- So it is of the tables of AIRs.
pub airs_have_quotients : {S F E C A : Type 0} (c : Setting S F E C) (p : Prover F E C) (eq : F → F → Bool) (declaration : A → Declaration F) (trees : A → List (Tree F))
    (columns : (a : A) → HasColumns (declaration a).preprocessed) (reads : (a : A) → All (ReadsDeclared (declared_shape (declaration a))) (trees a)) (airs : List A) (publics : List (List F)) (common : Common F C)
    (traces : List (Rows F)) (degree_bits : List ℕ) (w : Option F) (L : FieldsLaws c.field c.extension c.two_adicity p.inverse) → c.two_adicity < 64
    → let s : Statement F C = record { tables = tables_of declaration trees airs; publics = publics; common = common } in
    HaveFewRows c s traces degree_bits → Valid c eq p.commitment_of s traces degree_bits → HaveFractions c p s traces degree_bits w → HaveFoldQuotients c p s traces degree_bits w
airs_have_quotients c p eq declaration trees columns reads airs publics common traces degree_bits w L below few V fractions i folding x h =
    let s : Statement _ _ = record { tables = tables_of declaration trees airs; publics = publics; common = common } in
    let regular = airs_sound c p.commitment_of declaration trees columns reads airs s refl traces degree_bits V.batch below few i h in
    quotient_of_the_fold c p eq s traces degree_bits L V w fractions i h regular.reads folding x regular.small
