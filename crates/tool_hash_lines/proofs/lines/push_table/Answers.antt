use Rattle.std.proofs.Common.{◌≡◌, ℕ, ◌+◌, ◌^◌, ◌<◌, ◌≤◌, List, ◌++◌, Vec, Global, OnOk, length, get_or, map, sym, ◌∙◌, ap, subst, arith}
use Rattle.std.proofs.lemmas.List.{length-map}
use Rattle.p3_field.specs.declared.baby_bear.BabyBear.{BabyBear}
use Rattle.p3_matrix.specs.Matrix.{height}
use Rattle.plain_pcs.specs.Scheme.{PlainCommitmentData}
use Rattle.law_soundness.specs.Commitment.{matrix_at, polynomials_at}
use Rattle.tool_proof_text.specs.ProofText.{ToolProofData}
use Rattle.tool_statement.specs.Config.{tool_scheme}
use Rattle.tool_statement.specs.declared.table.TableStatement.TheVariants.{Hash, Take}
use Rattle.tool_hash_lines.specs.Laws.Matrices.{length-polynomials_at}
use Rattle.tool_hash_lines.proofs.PrintedRows.{hash_at, lines_are, matrix_there}
use Rattle.tool_hash_lines.proofs.lines.push_table.Goals as goal

pub committed_columns-requires-clause-exists : goal.committed_columns-requires-clause-exists
committed_columns-requires-clause-exists c =
    let tables = c.args.tables.now in
    let i = c.args.table in
    let here : get_or tables i (Take 0) ≡ Hash c.in-Hash.k = hash_at tables i c.in-Hash.k c.index-tables-table.result c.requires.exists c.index-tables-table.is c.in-Hash.is in
    let m = matrix_there tables c.args.proof.now c.requires.matrices i c.in-Hash.k c.requires.exists here in
    let main : c.args.proof.now.commitments.main ≡ c.proof.inside.commitments.main = sym (ap (λ (p : ToolProofData). p.commitments.main) c.proof.view_is) in
    subst (λ (c : PlainCommitmentData BabyBear). i < length c.matrices) main m.exists

pub committed_columns-requires-clause-height : goal.committed_columns-requires-clause-height
committed_columns-requires-clause-height c =
    let tables = c.args.tables.now in
    let i = c.args.table in
    let k = c.in-Hash.k in
    let here : get_or tables i (Take 0) ≡ Hash k = hash_at tables i c.in-Hash.k c.index-tables-table.result c.requires.exists c.index-tables-table.is c.in-Hash.is in
    let m = matrix_there tables c.args.proof.now c.requires.matrices i k c.requires.exists here in
    let main : c.args.proof.now.commitments.main ≡ c.proof.inside.commitments.main = sym (ap (λ (p : ToolProofData). p.commitments.main) c.proof.view_is) in
    (k + 1, m.fits, subst (λ (c : PlainCommitmentData BabyBear). height (matrix_at c i) ≡ 2 ^ (k + 1)) main m.height_is)

pub push_rows-requires-clause-wide : goal.push_rows-requires-clause-wide
push_rows-requires-clause-wide c =
    let tables = c.args.tables.now in
    let i = c.args.table in
    let k = c.in-Hash.k in
    let here : get_or tables i (Take 0) ≡ Hash k = hash_at tables i c.in-Hash.k c.index-tables-table.result c.requires.exists c.index-tables-table.is c.in-Hash.is in
    let m = matrix_there tables c.args.proof.now c.requires.matrices i k c.requires.exists here in
    let main : c.args.proof.now.commitments.main ≡ c.proof.inside.commitments.main = sym (ap (λ (p : ToolProofData). p.commitments.main) c.proof.view_is) in
    let own = c.proof.inside.commitments.main in
    let high : height (matrix_at own i) ≡ 2 ^ (k + 1) = subst (λ (c : PlainCommitmentData BabyBear). height (matrix_at c i) ≡ 2 ^ (k + 1)) main m.height_is in
    let wide : (matrix_at own i).width ≡ 9168 = subst (λ (c : PlainCommitmentData BabyBear). (matrix_at c i).width ≡ 9168) main m.width_is in
    let items = λ (f : Vec BabyBear Global). f.items in
    let whole : map items c.in_ok-polynomials-in-Hash.polynomials.items ≡ polynomials_at tool_scheme k own i = c.in_ok-polynomials-in-Hash.ensures.polynomials k m.fits high in
    ap length c.deref.ensures.value ∙ (sym (length-map c.in_ok-polynomials-in-Hash.polynomials.items items) ∙ (ap length whole ∙ (length-polynomials_at k own i ∙ wide)))

pub push_rows-requires-clause-high : goal.push_rows-requires-clause-high
push_rows-requires-clause-high c =
    let tables = c.args.tables.now in
    let i = c.args.table in
    let k = c.in-Hash.k in
    let here : get_or tables i (Take 0) ≡ Hash k = hash_at tables i c.in-Hash.k c.index-tables-table.result c.requires.exists c.index-tables-table.is c.in-Hash.is in
    let fits : k + 1 ≤ 27 = (matrix_there tables c.args.proof.now c.requires.matrices i k c.requires.exists here).fits in
    omega (arith, fits)

pub returns-in_ok-polynomials-in-Hash : goal.returns-in_ok-polynomials-in-Hash
returns-in_ok-polynomials-in-Hash c =
    let tables = c.args.tables.now in
    let p = c.args.proof.now in
    let i = c.args.table in
    let k = c.in-Hash.k in
    let here : get_or tables i (Take 0) ≡ Hash k = hash_at tables i c.in-Hash.k c.index-tables-table.result c.requires.exists c.index-tables-table.is c.in-Hash.is in
    let m = matrix_there tables p c.requires.matrices i k c.requires.exists here in
    let main : p.commitments.main ≡ c.proof.inside.commitments.main = sym (ap (λ (p : ToolProofData). p.commitments.main) c.proof.view_is) in
    let high : height (matrix_at c.proof.inside.commitments.main i) ≡ 2 ^ (k + 1) = subst (λ (c : PlainCommitmentData BabyBear). height (matrix_at c i) ≡ 2 ^ (k + 1)) main m.height_is in
    let items = λ (f : Vec BabyBear Global). f.items in
    let whole : map items c.deref.result.now ≡ polynomials_at tool_scheme k p.commitments.main i =
    ap (map items) c.deref.ensures.value ∙ (c.in_ok-polynomials-in-Hash.ensures.polynomials k m.fits high ∙ sym (ap (λ (c : PlainCommitmentData BabyBear). polynomials_at tool_scheme k c i) main)) in
    subst (λ (t : List ℕ). OnOk c.push_rows.result (c.push_rows.new.text.items ≡ c.args.text.now.items ++ t)) (lines_are tables p i k m.degree_is (map items c.deref.result.now) whole here) c.push_rows.ensures
