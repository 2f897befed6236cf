use Rattle.std.proofs.Common.{◌≡◌, ◌^◌, ◌∙◌, length, subst, sym, arith}
use Rattle.p3_matrix.specs.Laws.Powers.{one_shifted_left}
use Rattle.commit_rows.specs.Batches.{lists}
use Rattle.plain_pcs.specs.PlainMultilinear.{HaveCoordinates}
use Rattle.plain_pcs.proofs.plain_multilinear.PlainMultilinearMultilinearPcs.open.Goals as goal

pub values_at-requires : goal.values_at-requires
values_at-requires g c =
    let m = c.self.inside.num_vars in
    let count : length c.deref-2.result.now ≡ 2 ^ m = omega (arith, c.deref-2.ensures.len, c.len.ensures, c.if-len-self.false, one_shifted_left m c.self.invariant) in
    (m, (count, subst (λ l. HaveCoordinates m (lists l)) (c.deref.ensures.value ∙ sym c.deref-3.ensures.value) c.in_default.ensures))
