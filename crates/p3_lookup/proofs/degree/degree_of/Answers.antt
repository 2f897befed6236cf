use Rattle.std.proofs.Common.{◌≡◌, ◌^◌, ◌<◌, max, List, map, ◌∙◌, ap, subst, arith, refl}
use Rattle.air_core.specs.Degree.{capped_sum}
use Rattle.air_core.specs.Tree.{Tree}
use Rattle.air_core.specs.Symbolic.{tree_of}
use Rattle.p3_lookup.specs.Lookup.{Sent, pair_up, sent}
use Rattle.p3_lookup.specs.Written.{Written, read, tree_count}
use Rattle.p3_lookup.specs.Trees.{base_tree, beta_tree}
use Rattle.p3_lookup.specs.Emission.{AreDegreesOf}
use Rattle.p3_lookup.proofs.Degrees.{whole_degree}
use Rattle.p3_lookup.proofs.degree.degree_of.Goals as goal

pub returns : goal.returns
returns g c =
    let own-lookup = c.args.lookup.now in
    let elements : map (λ v. v.items) c.deref.result.now ≡ own-lookup.elements =
    ap (λ l. map (λ v. v.items) l) c.deref.ensures.value ∙ ap (λ (w : Written g.row.F.Denot). w.elements) c.lookup.view_is in
    let counts : c.deref-2.result.now ≡ own-lookup.multiplicities =
    c.deref-2.ensures.value ∙ ap (λ (w : Written g.row.F.Denot). w.multiplicities) c.lookup.view_is in
    let same : pair_up (map (map tree_of) (map (λ v. v.items) c.deref.result.now)) (map tree_count c.deref-2.result.now) ≡ sent (read own-lookup) =
    ap (λ l. pair_up (map (map tree_of) l) (map tree_count c.deref-2.result.now)) elements ∙ ap (λ l. pair_up (map (map tree_of) own-lookup.elements) (map tree_count l)) counts in
    let f = g.F.RingCore.ring in
    let p = c.parts_degrees-common.result in
    let parts = subst (λ (ss : List (Sent (Tree g.row.F.Denot))). AreDegreesOf f c.args.t (base_tree 0) (beta_tree 0) p ss) same (c.parts_degrees-common.ensures (base_tree 0) (beta_tree 0) refl refl) in
    let a : c.saturating_add.result ≡ capped_sum 1 p.0 = c.saturating_add.ensures in
    let b : c.saturating_add-2.result ≡ capped_sum c.args.t 1 = c.saturating_add-2.ensures in
    let whole : c.max-2.result ≡ max (max (max (capped_sum 1 p.0) p.1) 2) (capped_sum c.args.t 1) = cc (c.max-2.ensures, c.max.ensures, c.max-fraction.ensures, a, b) in
    let small : c.args.t < 2 ^ 64 = omega (arith, c.ranges.t.fits) in
    whole_degree f c.args.t p.0 p.1 c.max-2.result (read own-lookup) small parts whole
