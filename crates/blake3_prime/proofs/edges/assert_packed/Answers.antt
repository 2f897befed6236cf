use Rattle.std.proofs.Common.{[], ◌∷◌, rules}
use Rattle.air_core.specs.Laws.Appending.{none_first, some_after}
use Rattle.blake3_prime.specs.Trees.{packed_trees}
use Rattle.air_gadgets.specs.Laws.Packing.{represent_later}
use Rattle.air_core.specs.Laws.Appended.{on_failure}
use Rattle.blake3_prime.proofs.edges.assert_packed.Goals as goal

pub returns-in_err-cells-clause-on_error : goal.returns-in_err-cells-clause-on_error
returns-in_err-cells-clause-on_error g c =
    let then = g.met.AB.AirBuilder.appends_along in
    on_failure (record { some = none_first g.AB.AirBuilder.appends _ _ _ _ (then _ _ _ [] [] [] [] c.packed_at.ensures.appends c.limbs_at.ensures.appends) })

pub returns-in_err-assert_eq-clause-on_error : goal.returns-in_err-assert_eq-clause-on_error
returns-in_err-assert_eq-clause-on_error g c =
    let then = g.met.AB.AirBuilder.appends_along in
    on_failure (record { some = none_first g.AB.AirBuilder.appends _ _ _ _ (then _ _ _ [] [] [] [] c.packed_at.ensures.appends (then _ _ _ [] [] [] [] c.limbs_at.ensures.appends c.in_err-assert_eq.ensures.on_error)) })

pub returns-in_err-assert_eq-2-clause-on_error : goal.returns-in_err-assert_eq-2-clause-on_error
unfolding packed_trees
returns-in_err-assert_eq-2-clause-on_error g c =
    let B = g.met.AB.AirBuilder in
    let then = B.appends_along in
    let packed = represent_later _ _ _ _ (B.persists _ _ (B.appends_later _ _ _ _ c.limbs_at.ensures.appends)) c.in_ok-packed.ensures.represents in
    let cells = c.in_ok-cells.ensures.represents in
    let first = c.in_ok-assert_eq.ensures.appends _ _ (packed.each 0 c.index-packed-0.result (search rules)) (cells.each 0 c.index-cells-0.result (search rules)) in
    on_failure (record {
      some = some_after then _ _ _ (_ ∷ []) (_ ∷ []) [] []
          (then _ _ _ [] _ [] [] c.packed_at.ensures.appends (then _ _ _ [] _ [] [] c.limbs_at.ensures.appends first))
          (none_first g.AB.AirBuilder.appends _ _ _ _ c.in_err-assert_eq-2.ensures.on_error);
    })

pub returns-clause-appends : goal.returns-clause-appends
unfolding packed_trees
returns-clause-appends g c =
    let B = g.met.AB.AirBuilder in
    let then = B.appends_along in
    let packed = represent_later _ _ _ _ (B.persists _ _ (B.appends_later _ _ _ _ c.limbs_at.ensures.appends)) c.in_ok-packed.ensures.represents in
    let cells = c.in_ok-cells.ensures.represents in
    let first = c.in_ok-assert_eq.ensures.appends _ _ (packed.each 0 c.index-packed-0.result (search rules)) (cells.each 0 c.index-cells-0.result (search rules)) in
    let past = B.persists _ _ (B.appends_later _ _ _ _ first) in
    let second = c.in_ok-assert_eq-2.ensures.appends _ _ (past _ _ (packed.each 1 c.index-packed-1.result (search rules))) (past _ _ (cells.each 1 c.index-cells-1.result (search rules))) in
    record { all = then _ _ _ [] _ [] [] c.packed_at.ensures.appends (then _ _ _ [] _ [] [] c.limbs_at.ensures.appends (then _ _ _ (_ ∷ []) _ [] [] first second)) }
