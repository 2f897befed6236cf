-- What an honest proof's quotients are, of a valid statement.
use Rattle.std.specs.Prelude.{◌≡◌, ℕ, ◌<◌, List, length, Option}
use Rattle.p3_field.specs.Poly.{eval_poly}
use Rattle.p3_matrix.specs.Matrix.{Rows}
use Rattle.batch_config.specs.Setting.{Setting}
use Rattle.batch_statement.specs.Statement.{Statement}
use Rattle.law_committed.specs.Identity.{quotient_poly}
use Rattle.law_committed.specs.Quotient.{fold_quotient, honest_quotient}
use Rattle.law_honest.specs.HonestProof.{Prover, honest_committed_at}
use Rattle.law_valid.specs.Traced.{constraints, log_parts, quotient_shift, traced_at}

-- With this grinding value before the lookups' challenges, the quotient that is put together of each table's honest chunks is at every point that of the fold of
-- its constraints by the vanishing polynomial of its rows, whatever folds them.
abbrev pub HaveFoldQuotients : {S F E C : Type 0} → Setting S F E C → Prover F E C → Statement F C → (traces : List (Rows F)) → (degree_bits : List ℕ) → Option F → Type 0
HaveFoldQuotients {S} {F} {E} {C} c p s traces degree_bits w =
    (i : ℕ) (folding x : E) → i < length s.tables
    → let t = traced_at s traces degree_bits i in
    let k = honest_committed_at c p s traces degree_bits w i in
    eval_poly c.extension.ring (quotient_poly c.field c.extension (honest_quotient c.field c.extension k (quotient_shift c) (log_parts c t) (constraints c t) folding)) x
    ≡ eval_poly c.extension.ring (fold_quotient c.field c.extension k (constraints c t) folding) x
