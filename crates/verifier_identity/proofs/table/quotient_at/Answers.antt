use Rattle.std.proofs.Common.{◌≡◌, List, length, map, All, sym, ◌∙◌, ap, subst, Vec, Global}
use Rattle.p3_uni_stark.specs.Opened.{OpenedData}
use Rattle.batch_statement.specs.Proof.{OpenedWithLookups}
use Rattle.verifier_identity.proofs.Columns.{all_back}
use Rattle.verifier_identity.proofs.table.quotient_at.Goals as goal

pub recomposed_quotient-requires-clause-dimension : goal.recomposed_quotient-requires-clause-dimension
recomposed_quotient-requires-clause-dimension g c =
    let items = λ (v : Vec g.row.E.Denot Global). v.items in
    let seen : map items c.deref.result.now ≡ c.args.opened.now.base.quotient_chunks =
    ap (map items) c.deref.ensures.value ∙ (ap (λ (o : OpenedData g.row.E.Denot). o.quotient_chunks) c.base.view_is ∙ ap (λ (o : OpenedWithLookups g.row.E.Denot). o.base.quotient_chunks) c.opened.view_is) in
    all_back (λ (ls : List g.row.E.Denot). length ls ≡ g.E.BasedVectorSpace.DIMENSION) items c.deref.result.now
    (subst (All (λ (ls : List g.row.E.Denot). length ls ≡ g.E.BasedVectorSpace.DIMENSION)) (sym seen) c.requires.dimension)
