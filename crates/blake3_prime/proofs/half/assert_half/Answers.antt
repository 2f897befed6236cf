use Rattle.std.proofs.Common.{◌++◌}
use Rattle.air_gadgets.specs.Gadgets.{add2_trees, xor_shift_trees}
use Rattle.blake3_prime.specs.Trees.{half_trees, from_column, packed_limbs}
use Rattle.air_core.specs.Laws.Appended.{both, later, front, on_failure}
use Rattle.blake3_prime.proofs.half.assert_half.Goals as goal

pub returns-clause-appends : goal.returns-clause-appends
unfolding half_trees
returns-clause-appends g c =
    let G = g.AB.AirBuilder.appends in
    let along = g.met.AB.AirBuilder.appends_along in
    both G along (both G along c.in_ok-assert_sum_of_three.ensures.appends c.in_ok-assert_turned.ensures.appends)
    (both G along c.in_ok-assert_sum_of_two.ensures.appends c.in_ok-assert_turned-2.ensures.appends)

pub returns-in_err-assert_sum_of_three-clause-on_error : goal.returns-in_err-assert_sum_of_three-clause-on_error
unfolding half_trees
returns-in_err-assert_sum_of_three-clause-on_error g c =
    let G = g.AB.AirBuilder.appends in
    let along = g.met.AB.AirBuilder.appends_along in
    let r = g.AB.F.RingCore.ring in
    on_failure (front G along (add2_trees r (from_column c.args.after.c) (from_column c.args.before.c) (packed_limbs r (from_column c.args.after.d)) ++ xor_shift_trees r (from_column c.args.after.c) (from_column c.args.before.b) (from_column c.args.after.b) c.args.t)
    (front G along (xor_shift_trees r (from_column c.args.after.a) (from_column c.args.before.d) (from_column c.args.after.d) c.args.s) c.in_err-assert_sum_of_three.ensures.on_error.holds))

pub returns-in_err-assert_turned-clause-on_error : goal.returns-in_err-assert_turned-clause-on_error
unfolding half_trees
returns-in_err-assert_turned-clause-on_error g c =
    let G = g.AB.AirBuilder.appends in
    let along = g.met.AB.AirBuilder.appends_along in
    on_failure (front G along _ (later G along c.in_ok-assert_sum_of_three.ensures.appends c.in_err-assert_turned.ensures.on_error.holds))

pub returns-in_err-assert_sum_of_two-clause-on_error : goal.returns-in_err-assert_sum_of_two-clause-on_error
unfolding half_trees
returns-in_err-assert_sum_of_two-clause-on_error g c =
    let G = g.AB.AirBuilder.appends in
    let along = g.met.AB.AirBuilder.appends_along in
    on_failure
    (later G along (both G along c.in_ok-assert_sum_of_three.ensures.appends c.in_ok-assert_turned.ensures.appends)
    (front G along _ c.in_err-assert_sum_of_two.ensures.on_error.holds))

pub returns-in_err-assert_turned-2-clause-on_error : goal.returns-in_err-assert_turned-2-clause-on_error
unfolding half_trees
returns-in_err-assert_turned-2-clause-on_error g c =
    let G = g.AB.AirBuilder.appends in
    let along = g.met.AB.AirBuilder.appends_along in
    on_failure
    (later G along (both G along c.in_ok-assert_sum_of_three.ensures.appends c.in_ok-assert_turned.ensures.appends)
    (later G along c.in_ok-assert_sum_of_two.ensures.appends c.in_err-assert_turned-2.ensures.on_error.holds))
