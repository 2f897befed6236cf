use Rattle.std.proofs.Common.{◌≡◌, List, map, sym, ◌∙◌, ap, subst}
use Rattle.std.specs.Prelude.{All}
use Rattle.air_core.specs.declared.node.Node.{Node}
use Rattle.air_core.specs.Tree.{Tree}
use Rattle.air_core.specs.Shape.{ReadsSendable}
use Rattle.air_core.specs.Symbolic.{tree_of}
use Rattle.air_core.specs.RowCheck.{row_shape}
use Rattle.p3_lookup.specs.Lookup.{Sent, pair_up, sent}
use Rattle.p3_lookup.specs.Written.{Written, read, tree_count}
use Rattle.p3_lookup.specs.Honest.{terms_of}
use Rattle.p3_lookup.specs.Generated.{embedded_at}
use Rattle.p3_lookup.specs.RowTerms.{AreTermsAdded}
use Rattle.p3_lookup.proofs.generate.push_lookup.Goals as goal

pub push_terms-requires-clause-tuples : goal.push_terms-requires-clause-tuples
push_terms-requires-clause-tuples g c =
    let elements : map (λ v. v.items) c.deref.result.now ≡ c.args.lookup.now.elements =
    ap (λ l. map (λ v. v.items) l) c.deref.ensures.value ∙ ap (λ (w : Written g.row.F.Denot). w.elements) c.lookup.view_is in
    let P : List (List (List (Node g.row.F.Denot))) → Type 0 = λ l. All (All (ReadsSendable (row_shape c.args.cells.now))) (map (map tree_of) l) in
    subst P (sym elements) c.requires.lookup.reads.tuples

pub returns : goal.returns
returns g c =
    let own-lookup = c.args.lookup.now in
    let elements : map (λ v. v.items) c.deref.result.now ≡ own-lookup.elements =
    ap (λ l. map (λ v. v.items) l) c.deref.ensures.value ∙ ap (λ (w : Written g.row.F.Denot). w.elements) c.lookup.view_is in
    let counts : c.deref-2.result.now ≡ own-lookup.multiplicities =
    c.deref-2.ensures.value ∙ ap (λ (w : Written g.row.F.Denot). w.multiplicities) c.lookup.view_is in
    let same : pair_up (map (map tree_of) (map (λ v. v.items) c.deref.result.now)) (map tree_count c.deref-2.result.now) ≡ sent (read own-lookup) =
    ap (λ l. pair_up (map (map tree_of) l) (map tree_count c.deref-2.result.now)) elements ∙ ap (λ l. pair_up (map (map tree_of) own-lookup.elements) (map tree_count l)) counts in
    let r = g.EF.RingCore.ring in
    let v = embedded_at g.F.RingCore.ring g.EF.ExtensionField.embed c.args.cells.now in
    subst (λ (ss : List (Sent (Tree g.row.F.Denot))). AreTermsAdded r (terms_of r c.args.challenges.0 c.args.challenges.1 v ss) c.args.place.0 c.args.place.1 c.args.terms.now.items c.push_terms.new.terms.items c.push_terms.result) same c.push_terms.ensures
