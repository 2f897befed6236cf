use Rattle.std.proofs.Common.{◌≡◌, ◌-◌, ◌<◌, suc, List, ◌∷◌, length, map, drop, ap, arith}
use Rattle.p3_field.specs.Poly.{eval_poly}
use Rattle.air_core.specs.Tree.{Tree}
use Rattle.air_core.specs.Shape.{ReadsSendable}
use Rattle.air_core.specs.Symbolic.{tree_of}
use Rattle.air_core.specs.RowCheck.{row_shape}
use Rattle.p3_lookup.specs.Generated.{embedded_at}
use Rattle.p3_lookup.proofs.Turns.{at_item, dropped}
use Rattle.p3_lookup.proofs.values.combined_value.Goals as goal

pub embedded_value-requires : goal.embedded_value-requires
embedded_value-requires g c =
    let within : c.loop-i.i - 1 < length c.args.tuple.now = omega arith in
    record { reads = at_item (ReadsSendable (row_shape c.args.row.now)) tree_of c.args.tuple.now (c.loop-i.i - 1) c.index-tuple-i.result within c.index-tuple-i.is c.requires.reads }

pub loop-i-preserved : goal.loop-i-preserved
loop-i-preserved g c =
    let r = g.EF.RingCore.ring in
    let v = embedded_at g.F.RingCore.ring g.EF.ExtensionField.embed c.args.row.now in
    let P = g.met.EF.PrimeCharacteristicRing in
    let i = c.loop-i.i in
    let j = c.loop-i.i - 1 in
    let within : j < length c.args.tuple.now = omega arith in
    let next : suc j ≡ i = omega arith in
    let here : drop j (map tree_of c.args.tuple.now) ≡ tree_of c.index-tuple-i.result ∷ drop i (map tree_of c.args.tuple.now) =
    dropped tree_of c.args.tuple.now i j c.index-tuple-i.result next within c.index-tuple-i.is in
    let goes : eval_poly r (map v (drop j (map tree_of c.args.tuple.now))) c.args.beta ≡ r.add (v (tree_of c.index-tuple-i.result)) (r.mul c.args.beta (eval_poly r (map v (drop i (map tree_of c.args.tuple.now))) c.args.beta)) =
    ap (λ (l : List (Tree g.row.F.Denot)). eval_poly r (map v l) c.args.beta) here in
    cc (goes, P.adds _ _ _ c.add-sum.ensures, P.muls _ _ _ c.mul.ensures, c.embedded_value.ensures, c.loop-i.invariant)
