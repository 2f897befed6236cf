use Rattle.std.proofs.Common.{◌≡◌, [], ◌∷◌, length, map, rules, subst}
use Rattle.std.proofs.lemmas.List.{map-append}
use Rattle.p3_field.specs.Poly.{tabulate}
use Rattle.air_gadgets.specs.Gadgets.{packed_bits}
use Rattle.air_core.specs.Tree.{over_base, bool_tree, difference}
use Rattle.air_core.specs.Laws.Represent.{holds_on_err}
use Rattle.air_core.specs.Laws.Appending.{none_first, some_of_more, some_after}
use Rattle.air_gadgets.specs.Laws.Packing.{represent_later, represent_tabulate}
use Rattle.example_air.specs.Bytes.{byte_row_trees, main_column}
use Rattle.example_air.proofs.air.assert_bits.Goals as goal

pub returns-clause-later : goal.returns-clause-later
returns-clause-later g c =
    let B = g.met.AB.AirBuilder in
    let after = B.appends_later in
    let then = B.later_along in
    then _ _ _ (after _ _ _ _ c.bits.ensures.appends)
    (then _ _ _ c.assert_bools.ensures.later
    (then _ _ _ (after _ _ _ _ c.column.ensures.appends)
    (then _ _ _ (after _ _ _ _ c.pack_bits_le.ensures.appends) c.assert_eq.ensures.later)))

pub returns-clause-appends : goal.returns-clause-appends
unfolding byte_row_trees
returns-clause-appends g c =
    let B = g.met.AB.AirBuilder in
    let r = g.AB.F.RingCore.ring in
    let long : length c.in_ok-bits.bits ≡ 8 = search rules in
    let bits = c.in_ok-bits.ensures.represents in
    let asserted = c.in_ok-assert_bools.ensures.appends _ (represent_tabulate _ _ main_column 8 bits long) in
    let past_bools = B.persists _ _ (B.appends_later _ _ _ _ asserted) in
    let past_number = B.persists _ _ (B.appends_later _ _ _ _ c.column.ensures.appends) in
    let past_packed = B.persists _ _ (B.appends_later _ _ _ _ c.pack_bits_le.ensures.appends) in
    let number = past_packed _ _ c.in_ok-number.ensures.represents in
    let sum = c.in_ok-packed.ensures.represents main_column (represent_later _ _ _ main_column (λ e u h. past_number _ _ (past_bools _ _ h)) bits) in
    let eight = subst (λ n. g.AB.AirBuilder.represents c.pack_bits_le.new.builder c.in_ok-packed.packed (packed_bits r main_column 0 n)) long sum in
    let then = B.appends_along in
    rw (map-append over_base (map (bool_tree r.one) (tabulate 8 main_column)) (difference (main_column 8) (packed_bits r main_column 0 8) ∷ []))
    (then _ _ _ [] _ [] [] c.bits.ensures.appends
    (then _ _ _ _ _ [] [] asserted
    (then _ _ _ [] _ [] [] c.column.ensures.appends
    (then _ _ _ [] _ [] [] c.pack_bits_le.ensures.appends (c.in_ok-assert_eq.ensures.appends _ _ number eight)))))

pub returns-in_err-assert_bools-clause-on_error : goal.returns-in_err-assert_bools-clause-on_error
unfolding byte_row_trees
returns-in_err-assert_bools-clause-on_error g c =
    let B = g.met.AB.AirBuilder in
    let r = g.AB.F.RingCore.ring in
    let long : length c.in_ok-bits.bits ≡ 8 = search rules in
    let last = difference (main_column 8) (packed_bits r main_column 0 8) ∷ [] in
    let first = some_after B.appends_along _ _ _ [] _ [] [] c.bits.ensures.appends (c.in_err-assert_bools.ensures.on_error _ (represent_tabulate _ _ main_column 8 c.in_ok-bits.ensures.represents long)) in
    rw (map-append over_base (map (bool_tree r.one) (tabulate 8 main_column)) last)
    (holds_on_err _ (some_of_more g.AB.AirBuilder.appends _ _ _ (map over_base last) [] [] first))

pub returns-in_err-number-clause-on_error : goal.returns-in_err-number-clause-on_error
unfolding byte_row_trees
returns-in_err-number-clause-on_error g c =
    let B = g.met.AB.AirBuilder in
    let r = g.AB.F.RingCore.ring in
    let long : length c.in_ok-bits.bits ≡ 8 = search rules in
    let last = difference (main_column 8) (packed_bits r main_column 0 8) ∷ [] in
    let asserted = B.appends_along _ _ _ [] _ [] [] c.bits.ensures.appends (c.in_ok-assert_bools.ensures.appends _ (represent_tabulate _ _ main_column 8 c.in_ok-bits.ensures.represents long)) in
    rw (map-append over_base (map (bool_tree r.one) (tabulate 8 main_column)) last)
    (holds_on_err _ (some_after B.appends_along _ _ _ _ (map over_base last) [] [] asserted
    (none_first g.AB.AirBuilder.appends _ _ _ _ c.column.ensures.appends)))

pub returns-in_err-packed-clause-on_error : goal.returns-in_err-packed-clause-on_error
unfolding byte_row_trees
returns-in_err-packed-clause-on_error g c =
    let B = g.met.AB.AirBuilder in
    let r = g.AB.F.RingCore.ring in
    let long : length c.in_ok-bits.bits ≡ 8 = search rules in
    let last = difference (main_column 8) (packed_bits r main_column 0 8) ∷ [] in
    let asserted = B.appends_along _ _ _ [] _ [] [] c.bits.ensures.appends (c.in_ok-assert_bools.ensures.appends _ (represent_tabulate _ _ main_column 8 c.in_ok-bits.ensures.represents long)) in
    rw (map-append over_base (map (bool_tree r.one) (tabulate 8 main_column)) last)
    (holds_on_err _ (some_after B.appends_along _ _ _ _ (map over_base last) [] [] asserted
    (none_first g.AB.AirBuilder.appends _ _ _ _ (B.appends_along _ _ _ [] [] [] [] c.column.ensures.appends c.pack_bits_le.ensures.appends))))

pub returns-in_err-assert_eq-clause-on_error : goal.returns-in_err-assert_eq-clause-on_error
unfolding byte_row_trees
returns-in_err-assert_eq-clause-on_error g c =
    let B = g.met.AB.AirBuilder in
    let r = g.AB.F.RingCore.ring in
    let long : length c.in_ok-bits.bits ≡ 8 = search rules in
    let last = difference (main_column 8) (packed_bits r main_column 0 8) ∷ [] in
    let asserted = B.appends_along _ _ _ [] _ [] [] c.bits.ensures.appends (c.in_ok-assert_bools.ensures.appends _ (represent_tabulate _ _ main_column 8 c.in_ok-bits.ensures.represents long)) in
    rw (map-append over_base (map (bool_tree r.one) (tabulate 8 main_column)) last)
    (holds_on_err _ (some_after B.appends_along _ _ _ _ (map over_base last) [] [] asserted
    (none_first g.AB.AirBuilder.appends _ _ _ _
    (B.appends_along _ _ _ [] [] [] [] c.column.ensures.appends
    (B.appends_along _ _ _ [] [] [] [] c.pack_bits_le.ensures.appends c.in_err-assert_eq.ensures.on_error)))))
