use Rattle.std.proofs.Common.{◌<◌, ℕ, IsTrue, List, [], length, map, get_or, subst, arith, rules, below_more}
use Rattle.p3_field.specs.Poly.{DegreeBelow}
use Rattle.plain_pcs.proofs.Parts.{item_of_map}
use Rattle.plain_pcs.proofs.verifying.first_high_degree.Goals as goal

pub loop-j-preserved : goal.loop-j-preserved
loop-j-preserved g c =
    let r = g.F.RingCore.ring in
    let j = c.loop-j.j in
    let h : j < length c.args.polynomials.now = omega arith in
    let e = item_of_map (λ f. f.items) c.args.polynomials.now j c.index-polynomials-j.result c.deref.result.now h c.index-polynomials-j.is c.deref.ensures.value in
    let P : List g.row.F.Denot → Type 0 = λ f. DegreeBelow r c.args.bound f in
    let t : IsTrue c.has_degree_below.result = search rules in
    let Q : ℕ → Type 0 = λ i. DegreeBelow r c.args.bound (get_or (map (λ f. f.items) c.args.polynomials.now) i []) in
    below_more Q j c.loop-j.invariant (subst P e (c.has_degree_below.ensures.0 t))
