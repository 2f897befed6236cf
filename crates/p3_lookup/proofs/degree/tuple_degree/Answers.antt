use Rattle.std.proofs.Common.{◌≡◌, ◌-◌, ◌<◌, suc, length, map, drop, sym, ◌∙◌, ap, arith}
use Rattle.std.proofs.lemmas.List.{drop_all, length-map}
use Rattle.p3_field.specs.Poly.{eval_poly}
use Rattle.air_core.specs.Degree.{multiple}
use Rattle.air_core.specs.Symbolic.{tree_of}
use Rattle.p3_lookup.specs.Trees.{trees}
use Rattle.p3_lookup.proofs.Turns.{dropped}
use Rattle.p3_lookup.proofs.Degrees.{sum_degree}
use Rattle.p3_lookup.proofs.degree.tuple_degree.Goals as goal

pub loop-i-preserved : goal.loop-i-preserved
loop-i-preserved g c =
    let f = g.F.RingCore.ring in
    let xs = c.args.tuple.now in
    let i = c.loop-i.i in
    let j = c.loop-i.i - 1 in
    let x = c.index-tuple-i.result in
    let next : suc j ≡ i = omega arith in
    let within : j < length xs = omega arith in
    record {
      fits = omega (arith, c.max-degree.type_inv);
      so_far = λ b h.
          sum_degree f c.args.t (tree_of x) (drop i (map tree_of xs)) b c.degree_multiple_with_transition.result c.loop-i.degree c.max-degree.result h
          c.degree_multiple_with_transition.ensures (c.loop-i.invariant.so_far b h) c.loop-i.invariant.fits c.max-degree.ensures
          ∙ ap (λ l. multiple c.args.t (eval_poly (trees f) l b)) (sym (dropped tree_of xs i j x next within c.index-tuple-i.is));
    }

pub loop-i-init : goal.loop-i-init
loop-i-init g c = record {
  fits = omega arith;
  so_far = λ b h. sym (ap (λ l. multiple c.args.t (eval_poly (trees g.F.RingCore.ring) l b)) (drop_all (length c.args.tuple.now) (map tree_of c.args.tuple.now) (omega (arith, length-map c.args.tuple.now tree_of))));
}

pub returns : goal.returns
returns g c b h =
    let e : c.loop-i.i ≡ 0 = omega arith in
    c.loop-i.invariant.so_far b h ∙ ap (λ k. multiple c.args.t (eval_poly (trees g.F.RingCore.ring) (drop k (map tree_of c.args.tuple.now)) b)) e
