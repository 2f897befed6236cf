use Rattle.std.proofs.Common.{◌≡◌, ℕ, get_or, map, subst, IfOk}
use Rattle.verifier_shape.specs.ShapeChecks.{size_checks}
use Rattle.batch_statement.specs.Verdict.{IsVerdict}
use Rattle.verifier_shape.proofs.TableSize.{chunks_here, reads_here}
use Rattle.verifier_shape.proofs.sizes.size_at.Goals as goal

pub table_size-requires-clause-lookups : goal.table_size-requires-clause-lookups
table_size-requires-clause-lookups g c =
    reads_here g.A.BaseAir.declaration g.A.Air.trees c.args.airs.now c.args.lookups.now c.args.index c.index-airs-index.result c.index-lookups-index.result
    c.requires.airs c.index-airs-index.is c.requires.lookups c.index-lookups-index.is c.requires.reads

pub returns-clause-verdict : goal.returns-clause-verdict
returns-clause-verdict g c =
    let a = c.args in
    subst (λ k. IsVerdict (size_checks {R = g.row.R.Denot} a.index a.least a.most (get_or a.degree_bits.now a.index 0) k a.masks) c.table_size.result)
    (chunks_here g.A.BaseAir.declaration g.A.Air.trees a.airs.now a.lookups.now a.index c.index-airs-index.result c.index-lookups-index.result
    c.requires.airs c.index-airs-index.is c.requires.lookups c.index-lookups-index.is g.F.RingCore.ring a.masks a.degree_bits.now) c.table_size.ensures.verdict

pub returns-clause-chunks : goal.returns-clause-chunks
returns-clause-chunks g c =
    let a = c.args in
    subst (λ k. IfOk c.table_size.result (λ n. n ≡ k))
    (chunks_here g.A.BaseAir.declaration g.A.Air.trees a.airs.now a.lookups.now a.index c.index-airs-index.result c.index-lookups-index.result
    c.requires.airs c.index-airs-index.is c.requires.lookups c.index-lookups-index.is g.F.RingCore.ring a.masks a.degree_bits.now) c.table_size.ensures.chunks
