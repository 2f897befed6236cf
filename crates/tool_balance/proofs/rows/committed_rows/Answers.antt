use Rattle.std.proofs.Common.{◌≡◌, ◌+◌, ◌<◌, Vec, Global, List, length, map, IfOk, sym, ◌∙◌, ap, subst, arith}
use Rattle.std.proofs.lemmas.List.{length-map}
use Rattle.p3_field.specs.declared.baby_bear.BabyBear.{BabyBear}
use Rattle.law_soundness.specs.Commitment.{matrix_at, polynomials_at}
use Rattle.tool_hash_lines.specs.Laws.Matrices.{length-polynomials_at}
use Rattle.tool_statement.specs.Config.{tool_scheme}
use Rattle.tool_balance.specs.Rows.{HasRowsOf}
use Rattle.tool_balance.proofs.rows.committed_rows.Goals as goal

pub committed_columns-requires-clause-height : goal.committed_columns-requires-clause-height
committed_columns-requires-clause-height c = (c.args.k + 1, c.requires.fits, c.requires.high)

pub rows_of-requires-clause-wide : goal.rows_of-requires-clause-wide
rows_of-requires-clause-wide c =
    let given = c.args.commitment.now in
    let i = c.args.matrix in
    let items = λ (f : Vec BabyBear Global). f.items in
    let whole : map items c.in_ok-polynomials.polynomials.items ≡ polynomials_at tool_scheme c.args.k given i = c.in_ok-polynomials.ensures.polynomials c.args.k c.requires.fits c.requires.high in
    let many : length c.deref.result.now ≡ (matrix_at given i).width =
    ap length c.deref.ensures.value ∙ (sym (length-map c.in_ok-polynomials.polynomials.items items) ∙ (ap length whole ∙ length-polynomials_at c.args.k given i)) in
    subst (λ n. 0 < n) (sym many) c.requires.wide

pub rows_of-requires-clause-high : goal.rows_of-requires-clause-high
rows_of-requires-clause-high c = let fits = c.requires.fits in omega (arith, fits)

pub returns : goal.returns
returns c =
    let k = c.args.k in
    let items = λ (f : Vec BabyBear Global). f.items in
    let whole : map items c.deref.result.now ≡ polynomials_at tool_scheme k c.args.commitment.now c.args.matrix = ap (map items) c.deref.ensures.value ∙ c.in_ok-polynomials.ensures.polynomials k c.requires.fits c.requires.high in
    subst (λ (fs : List (List BabyBear)). IfOk c.rows_of.result (λ m. HasRowsOf k fs m)) whole c.rows_of.ensures
