use Rattle.std.proofs.Common.{◌≡◌, ℕ, ◌+◌, ◌<◌, ◌≤◌, List, Ok, Err, length, map, get_or, sym, ◌∙◌, ap, subst, arith}
use Rattle.std.proofs.lemmas.List.{length-map}
use Rattle.p3_field.specs.Checks.{FirstFails, NoneFails, in_turn}
use Rattle.p3_field.specs.Poly.{tabulate}
use Rattle.p3_field.specs.Laws.Tabulate.{get_or-tabulate, length-tabulate}
use Rattle.p3_lookup.specs.Written.{read_all}
use Rattle.batch_statement.specs.Statement.{AirTable, tables_of, statement_with}
use Rattle.verifier_shape.specs.ShapeChecks.{bounds_with, log_chunks_at, opened_by}
use Rattle.verifier_shape.specs.Laws.Parts.{bits_fit, chunks_fit, counted, counts_named, first_part, fourth_part, last_part, opened_agree, second_part, third_part}
use Rattle.verifier_shape.specs.Laws.Verdicts.{exits, exits_if, refused, verdict}
use Rattle.verifier_shape.proofs.whole.check_shape.Goals as goal

pub returns-in_err-check_counts-clause-verdict : goal.returns-in_err-check_counts-clause-verdict
returns-in_err-check_counts-clause-verdict g c =
    let a = c.args in
    let s = statement_with (tables_of g.A.BaseAir.declaration g.A.Air.trees a.airs.now) (map (λ v. v.items) a.public_values.now) a.common.now in
    let b = bounds_with g.F.PrimeCore64.ORDER_U64 a.bounds in
    exits _ _ _ c.from_residual.ensures.1 (first_part g.F.RingCore.ring b s a.proof.now _ (refused _ _ c.in_err-check_counts.ensures))

pub batch_sizes-requires-clause-counted : goal.batch_sizes-requires-clause-counted
batch_sizes-requires-clause-counted g c =
    let a = c.args in
    let s = statement_with (tables_of g.A.BaseAir.declaration g.A.Air.trees a.airs.now) (map (λ v. v.items) a.public_values.now) a.common.now in
    counted g.row.R.Denot a.bounds.zk s a.proof.now c.in_ok-check_counts.ensures

pub returns-in_err-chunks-clause-verdict : goal.returns-in_err-chunks-clause-verdict
returns-in_err-chunks-clause-verdict g c =
    let a = c.args in
    let s = statement_with (tables_of g.A.BaseAir.declaration g.A.Air.trees a.airs.now) (map (λ v. v.items) a.public_values.now) a.common.now in
    let b = bounds_with g.F.PrimeCore64.ORDER_U64 a.bounds in
    exits _ _ _ c.from_residual-in_err-chunks.ensures.1 (second_part g.F.RingCore.ring b s a.proof.now _ c.in_ok-check_counts.ensures c.in_err-chunks.ensures.verdict)

pub batch_bounds-requires-clause-counted : goal.batch_bounds-requires-clause-counted
batch_bounds-requires-clause-counted g c =
    let a = c.args in
    let s = statement_with (tables_of g.A.BaseAir.declaration g.A.Air.trees a.airs.now) (map (λ v. v.items) a.public_values.now) a.common.now in
    counted g.row.R.Denot a.bounds.zk s a.proof.now c.in_ok-check_counts.ensures

pub batch_bounds-requires-clause-fits : goal.batch_bounds-requires-clause-fits
batch_bounds-requires-clause-fits g c = λ i l.
    let a = c.args in
    let s = statement_with (tables_of g.A.BaseAir.declaration g.A.Air.trees a.airs.now) (map (λ v. v.items) a.public_values.now) a.common.now in
    let n = length-map {B = AirTable g.row.F.Denot} a.airs.now (λ x. record { declaration = g.A.BaseAir.declaration x; trees = g.A.Air.trees x }) in
    let low = bits_fit g.row.R.Denot g.F.RingCore.ring a.bounds.least a.bounds.most a.bounds.masks s.tables s.common.lookups a.proof.now.degree_bits (length s.tables) i
    (subst (λ m. i < m) (sym n) l) c.in_ok-chunks.ensures.verdict in
    let most = c.requires.fits in
    omega (arith, low, most)

pub returns-in_err-batch_bounds-clause-verdict : goal.returns-in_err-batch_bounds-clause-verdict
returns-in_err-batch_bounds-clause-verdict g c =
    let a = c.args in
    let s = statement_with (tables_of g.A.BaseAir.declaration g.A.Air.trees a.airs.now) (map (λ v. v.items) a.public_values.now) a.common.now in
    let b = bounds_with g.F.PrimeCore64.ORDER_U64 a.bounds in
    exits _ _ _ c.from_residual-in_err-batch_bounds.ensures.1
    (third_part g.F.RingCore.ring b s a.proof.now _ c.in_ok-check_counts.ensures c.in_ok-chunks.ensures.verdict c.in_err-batch_bounds.ensures)

pub batch_opened-requires-clause-counted : goal.batch_opened-requires-clause-counted
batch_opened-requires-clause-counted g c =
    let a = c.args in
    let s = statement_with (tables_of g.A.BaseAir.declaration g.A.Air.trees a.airs.now) (map (λ v. v.items) a.public_values.now) a.common.now in
    counted g.row.R.Denot a.bounds.zk s a.proof.now c.in_ok-check_counts.ensures

pub batch_opened-requires-clause-chunks : goal.batch_opened-requires-clause-chunks
batch_opened-requires-clause-chunks g c =
    let a = c.args in
    let tables = tables_of g.A.BaseAir.declaration g.A.Air.trees a.airs.now in
    ap length (c.deref.ensures.value ∙ c.in_ok-chunks.ensures.chunks)
    ∙ length-tabulate (length a.airs.now) (log_chunks_at g.F.RingCore.ring a.bounds.masks tables (map (read_all {F = g.row.F.Denot}) a.common.now.lookups) a.proof.now.degree_bits)

pub batch_opened-requires-clause-fits : goal.batch_opened-requires-clause-fits
batch_opened-requires-clause-fits g c = λ i l.
    let a = c.args in
    let s = statement_with (tables_of g.A.BaseAir.declaration g.A.Air.trees a.airs.now) (map (λ v. v.items) a.public_values.now) a.common.now in
    let n = length-map {B = AirTable g.row.F.Denot} a.airs.now (λ x. record { declaration = g.A.BaseAir.declaration x; trees = g.A.Air.trees x }) in
    let bits = a.proof.now.degree_bits in
    let counts = log_chunks_at g.F.RingCore.ring a.bounds.masks s.tables s.common.lookups bits in
    subst (λ k. k + a.bounds.masks < 64)
    (sym (ap (λ xs. get_or xs i 0) (c.deref.ensures.value ∙ c.in_ok-chunks.ensures.chunks) ∙ get_or-tabulate (length a.airs.now) counts i 0 l))
    (chunks_fit g.row.R.Denot g.F.RingCore.ring a.bounds.least a.bounds.most a.bounds.masks s.tables s.common.lookups bits (length s.tables) i
    (subst (λ m. i < m) (sym n) l) c.in_ok-chunks.ensures.verdict)

pub returns-in_err-batch_opened-clause-verdict : goal.returns-in_err-batch_opened-clause-verdict
returns-in_err-batch_opened-clause-verdict g c =
    let a = c.args in
    let s = statement_with (tables_of g.A.BaseAir.declaration g.A.Air.trees a.airs.now) (map (λ v. v.items) a.public_values.now) a.common.now in
    let b = bounds_with g.F.PrimeCore64.ORDER_U64 a.bounds in
    let f = g.F.RingCore.ring in
    let p = a.proof.now in
    let m = a.bounds.masks in
    let n = length-map {B = AirTable g.row.F.Denot} a.airs.now (λ x. record { declaration = g.A.BaseAir.declaration x; trees = g.A.Air.trees x }) in
    let found = c.deref.ensures.value ∙ c.in_ok-chunks.ensures.chunks ∙ ap (λ k. tabulate k (log_chunks_at f m s.tables s.common.lookups p.degree_bits)) (sym n) in
    let by = opened_by {R = g.row.R.Denot} s.tables s.publics s.common.lookups p.instances p.lookup_terminals c.deref.result.now m a.bounds.dimension in
    let e = c.in_err-batch_opened.field-0.0 in
    exits _ _ _ c.from_residual-in_err-batch_opened.ensures.1
    (fourth_part f b s p _ c.in_ok-check_counts.ensures c.in_ok-chunks.ensures.verdict c.in_ok-batch_bounds.ensures
    (refused _ _ (subst (λ cs. FirstFails cs e) (opened_agree f m a.bounds.dimension s p c.deref.result.now found)
    (subst (λ k. FirstFails (in_turn k by) e) (sym n) c.in_err-batch_opened.ensures))))

pub returns-in_err-check_permutation-clause-verdict : goal.returns-in_err-check_permutation-clause-verdict
returns-in_err-check_permutation-clause-verdict g c =
    let a = c.args in
    let s = statement_with (tables_of g.A.BaseAir.declaration g.A.Air.trees a.airs.now) (map (λ v. v.items) a.public_values.now) a.common.now in
    let b = bounds_with g.F.PrimeCore64.ORDER_U64 a.bounds in
    let f = g.F.RingCore.ring in
    let p = a.proof.now in
    let m = a.bounds.masks in
    let n = length-map {B = AirTable g.row.F.Denot} a.airs.now (λ x. record { declaration = g.A.BaseAir.declaration x; trees = g.A.Air.trees x }) in
    let found = c.deref.ensures.value ∙ c.in_ok-chunks.ensures.chunks ∙ ap (λ k. tabulate k (log_chunks_at f m s.tables s.common.lookups p.degree_bits)) (sym n) in
    let by = opened_by {R = g.row.R.Denot} s.tables s.publics s.common.lookups p.instances p.lookup_terminals c.deref.result.now m a.bounds.dimension in
    exits _ _ _ c.from_residual-in_err-check_permutation.ensures.1
    (last_part f b s p {T = Unit {0}} (Err c.in_err-check_permutation.field-0.0) c.in_ok-check_counts.ensures c.in_ok-chunks.ensures.verdict c.in_ok-batch_bounds.ensures
    (subst NoneFails (opened_agree f m a.bounds.dimension s p c.deref.result.now found) (subst (λ k. NoneFails (in_turn k by)) (sym n) c.in_ok-batch_opened.ensures))
    (refused _ _ c.in_err-check_permutation.ensures))

pub returns-clause-verdict : goal.returns-clause-verdict
returns-clause-verdict g c =
    let a = c.args in
    let s = statement_with (tables_of g.A.BaseAir.declaration g.A.Air.trees a.airs.now) (map (λ v. v.items) a.public_values.now) a.common.now in
    let b = bounds_with g.F.PrimeCore64.ORDER_U64 a.bounds in
    let f = g.F.RingCore.ring in
    let p = a.proof.now in
    let m = a.bounds.masks in
    let n = length-map {B = AirTable g.row.F.Denot} a.airs.now (λ x. record { declaration = g.A.BaseAir.declaration x; trees = g.A.Air.trees x }) in
    let found = c.deref.ensures.value ∙ c.in_ok-chunks.ensures.chunks ∙ ap (λ k. tabulate k (log_chunks_at f m s.tables s.common.lookups p.degree_bits)) (sym n) in
    let by = opened_by {R = g.row.R.Denot} s.tables s.publics s.common.lookups p.instances p.lookup_terminals c.deref.result.now m a.bounds.dimension in
    last_part f b s p {T = Unit {0}} (Ok tt) c.in_ok-check_counts.ensures c.in_ok-chunks.ensures.verdict c.in_ok-batch_bounds.ensures
    (subst NoneFails (opened_agree f m a.bounds.dimension s p c.deref.result.now found) (subst (λ k. NoneFails (in_turn k by)) (sym n) c.in_ok-batch_opened.ensures))
    c.in_ok-check_permutation.ensures

pub returns-in_err-check_counts-clause-memory : goal.returns-in_err-check_counts-clause-memory
returns-in_err-check_counts-clause-memory g c =
    exits_if _ _ _ c.from_residual.ensures.1 (λ m. absurd (counts_named _ _ _ _ c.in_err-check_counts.ensures m))

pub returns-in_err-chunks-clause-memory : goal.returns-in_err-chunks-clause-memory
returns-in_err-chunks-clause-memory g c = exits_if _ _ _ c.from_residual-in_err-chunks.ensures.1 (λ m. c.in_ok-check_counts.ensures)

pub returns-in_err-batch_bounds-clause-memory : goal.returns-in_err-batch_bounds-clause-memory
returns-in_err-batch_bounds-clause-memory g c = exits_if _ _ _ c.from_residual-in_err-batch_bounds.ensures.1 (λ m. c.in_ok-check_counts.ensures)

pub returns-in_err-batch_opened-clause-memory : goal.returns-in_err-batch_opened-clause-memory
returns-in_err-batch_opened-clause-memory g c = exits_if _ _ _ c.from_residual-in_err-batch_opened.ensures.1 (λ m. c.in_ok-check_counts.ensures)

pub returns-in_err-check_permutation-clause-memory : goal.returns-in_err-check_permutation-clause-memory
returns-in_err-check_permutation-clause-memory g c = exits_if _ _ _ c.from_residual-in_err-check_permutation.ensures.1 (λ m. c.in_ok-check_counts.ensures)
