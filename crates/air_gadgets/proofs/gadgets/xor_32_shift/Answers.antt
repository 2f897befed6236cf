use Rattle.std.proofs.Common.{◌≡◌, [], ◌∷◌, length, map, rules}
use Rattle.std.proofs.lemmas.List.{map-append}
use Rattle.p3_field.specs.Poly.{tabulate}
use Rattle.air_core.specs.Tree.{over_base, bool_tree, difference}
use Rattle.air_gadgets.specs.Gadgets.{xor_shift_bit, xor_shift_trees, packed_bits}
use Rattle.air_core.specs.Laws.Represent.{holds_on_err}
use Rattle.air_core.specs.Laws.Appending.{none_first, some_of_more, some_after}
use Rattle.air_gadgets.specs.Laws.Packing.{represent_later, represent_tabulate}
use Rattle.air_gadgets.proofs.gadgets.xor_32_shift.Goals as goal

pub returns-clause-appends : goal.returns-clause-appends
unfolding xor_shift_trees
returns-clause-appends g c t u v ht hu hv =
    let B = g.met.AB.AirBuilder in
    let r = g.AB.F.RingCore.ring in
    let f = xor_shift_bit r u v c.args.s in
    let long : length c.args.c ≡ 32 = search rules in
    let bools = c.in_ok-assert_bools.ensures.appends _ (represent_tabulate _ _ v 32 hv long) in
    let keep = B.persists _ _ (B.appends_later _ _ _ _ bools) in
    let limbs = c.in_ok-low.ensures.represents u v (represent_later _ _ _ u keep hu) (represent_later _ _ _ v keep hv) in
    let past_limbs = B.persists _ _ (B.appends_later _ _ _ _ c.xor_shift_limbs.ensures.appends) in
    let a0 = past_limbs _ _ (keep _ _ (ht.each 0 c.index-a-0.result (search rules))) in
    let a1 = past_limbs _ _ (keep _ _ (ht.each 1 c.index-a-1.result (search rules))) in
    let first = c.in_ok-assert_eq.ensures.appends _ _ a0 limbs.0 in
    let past_first = B.persists _ _ (B.appends_later _ _ _ _ first) in
    let then = B.appends_along in
    rw (map-append over_base (map (bool_tree r.one) (tabulate 32 v)) (difference (t 0) (packed_bits r f 0 16) ∷ difference (t 1) (packed_bits r f 16 16) ∷ []))
    (then _ _ _ _ _ [] [] bools
    (then _ _ _ [] _ [] [] c.xor_shift_limbs.ensures.appends
    (then _ _ _ (_ ∷ []) _ [] [] first
    (c.in_ok-assert_eq-2.ensures.appends _ _ (past_first _ _ a1) (past_first _ _ limbs.1)))))

pub returns-in_err-assert_bools-clause-on_error : goal.returns-in_err-assert_bools-clause-on_error
unfolding xor_shift_trees
returns-in_err-assert_bools-clause-on_error g c t u v ht hu hv =
    let r = g.AB.F.RingCore.ring in
    let f = xor_shift_bit r u v c.args.s in
    let long : length c.args.c ≡ 32 = search rules in
    let limbs = difference (t 0) (packed_bits r f 0 16) ∷ difference (t 1) (packed_bits r f 16 16) ∷ [] in
    rw (map-append over_base (map (bool_tree r.one) (tabulate 32 v)) limbs)
    (holds_on_err _ (some_of_more g.AB.AirBuilder.appends _ _ _ (map over_base limbs) [] [] (c.in_err-assert_bools.ensures.on_error _ (represent_tabulate _ _ v 32 hv long))))

pub returns-in_err-low-clause-on_error : goal.returns-in_err-low-clause-on_error
unfolding xor_shift_trees
returns-in_err-low-clause-on_error g c t u v ht hu hv =
    let r = g.AB.F.RingCore.ring in
    let f = xor_shift_bit r u v c.args.s in
    let long : length c.args.c ≡ 32 = search rules in
    let bools = c.in_ok-assert_bools.ensures.appends _ (represent_tabulate _ _ v 32 hv long) in
    let limbs = difference (t 0) (packed_bits r f 0 16) ∷ difference (t 1) (packed_bits r f 16 16) ∷ [] in
    rw (map-append over_base (map (bool_tree r.one) (tabulate 32 v)) limbs)
    (holds_on_err _ (some_after g.met.AB.AirBuilder.appends_along _ _ _ _ (map over_base limbs) [] [] bools
    (none_first g.AB.AirBuilder.appends _ _ _ _ c.xor_shift_limbs.ensures.appends)))

pub returns-in_err-assert_eq-clause-on_error : goal.returns-in_err-assert_eq-clause-on_error
unfolding xor_shift_trees
returns-in_err-assert_eq-clause-on_error g c t u v ht hu hv =
    let B = g.met.AB.AirBuilder in
    let r = g.AB.F.RingCore.ring in
    let f = xor_shift_bit r u v c.args.s in
    let long : length c.args.c ≡ 32 = search rules in
    let bools = c.in_ok-assert_bools.ensures.appends _ (represent_tabulate _ _ v 32 hv long) in
    let limbs = difference (t 0) (packed_bits r f 0 16) ∷ difference (t 1) (packed_bits r f 16 16) ∷ [] in
    rw (map-append over_base (map (bool_tree r.one) (tabulate 32 v)) limbs)
    (holds_on_err _ (some_after B.appends_along _ _ _ _ (map over_base limbs) [] [] bools
    (none_first g.AB.AirBuilder.appends _ _ _ _ (B.appends_along _ _ _ [] [] [] [] c.xor_shift_limbs.ensures.appends c.in_err-assert_eq.ensures.on_error))))

pub returns-in_err-assert_eq-2-clause-on_error : goal.returns-in_err-assert_eq-2-clause-on_error
unfolding xor_shift_trees
returns-in_err-assert_eq-2-clause-on_error g c t u v ht hu hv =
    let B = g.met.AB.AirBuilder in
    let r = g.AB.F.RingCore.ring in
    let f = xor_shift_bit r u v c.args.s in
    let long : length c.args.c ≡ 32 = search rules in
    let bools = c.in_ok-assert_bools.ensures.appends _ (represent_tabulate _ _ v 32 hv long) in
    let keep = B.persists _ _ (B.appends_later _ _ _ _ bools) in
    let both = c.in_ok-low.ensures.represents u v (represent_later _ _ _ u keep hu) (represent_later _ _ _ v keep hv) in
    let past_limbs = B.persists _ _ (B.appends_later _ _ _ _ c.xor_shift_limbs.ensures.appends) in
    let a0 = past_limbs _ _ (keep _ _ (ht.each 0 c.index-a-0.result (search rules))) in
    let first = B.appends_along _ _ _ [] _ [] [] c.xor_shift_limbs.ensures.appends (c.in_ok-assert_eq.ensures.appends _ _ a0 both.0) in
    let then = some_after B.appends_along in
    let limbs = difference (t 0) (packed_bits r f 0 16) ∷ difference (t 1) (packed_bits r f 16 16) ∷ [] in
    rw (map-append over_base (map (bool_tree r.one) (tabulate 32 v)) limbs)
    (holds_on_err _
    (then _ _ _ _ (map over_base limbs) [] [] bools
    (then _ _ _ (_ ∷ []) (over_base (difference (t 1) (packed_bits r f 16 16)) ∷ []) [] [] first
    (none_first g.AB.AirBuilder.appends _ _ _ _ c.in_err-assert_eq-2.ensures.on_error))))
