use Rattle.std.proofs.Common.{◌≡◌, ℕ, ◌+◌, [], ◌∷◌, rules, arith, subst}
use Rattle.air_core.specs.Tree.{over_base}
use Rattle.air_core.specs.declared.cells.Cell.TheVariants.{Public}
use Rattle.air_core.specs.Laws.Appending.{none_first, some_after}
use Rattle.air_core.specs.Laws.Appended.{on_failure}
use Rattle.blake3_prime.specs.Trees.{from_column, packed_limbs}
use Rattle.chain_air.specs.Trees.{public_word_trees, selected}
use Rattle.chain_air.proofs.links.assert_public_word.Goals as goal

pub returns-in_err-assert_selected-clause-on_error : goal.returns-in_err-assert_selected-clause-on_error
returns-in_err-assert_selected-clause-on_error g c =
    let then = g.met.AB.AirBuilder.appends_along in
    on_failure (record { some = none_first g.AB.AirBuilder.appends _ _ _ _ (then _ _ _ [] [] [] [] c.packed_at.ensures.appends c.in_err-assert_selected.ensures.on_error) })

pub returns-in_err-assert_selected-2-clause-on_error : goal.returns-in_err-assert_selected-2-clause-on_error
unfolding public_word_trees
returns-in_err-assert_selected-2-clause-on_error g c =
    let then = g.met.AB.AirBuilder.appends_along in
    let r = g.AB.F.RingCore.ring in
    let limbs = c.in_ok-limbs.ensures.represents in
    let e : c.args.public ≡ c.args.public + 0 = omega arith in
    let first =
    subst (λ (m : ℕ). g.AB.AirBuilder.appends c.packed_at.new.builder c.assert_selected.new.builder (over_base (selected c.args.selector (packed_limbs r (from_column c.args.column) 0) (Public m)) ∷ []) []) e
    (c.in_ok-assert_selected.ensures.appends _ (limbs.each 0 c.index-limbs-0.result (search rules))) in
    on_failure (record {
      some = some_after then c.args.builder.now c.assert_selected.new.builder c.assert_selected-2.new.builder (_ ∷ []) (_ ∷ []) [] []
          (then _ _ _ [] _ [] [] c.packed_at.ensures.appends first)
          (none_first g.AB.AirBuilder.appends _ _ _ _ c.in_err-assert_selected-2.ensures.on_error);
    })

pub returns-clause-appends : goal.returns-clause-appends
unfolding public_word_trees
returns-clause-appends g c =
    let B = g.met.AB.AirBuilder in
    let then = B.appends_along in
    let r = g.AB.F.RingCore.ring in
    let limbs = c.in_ok-limbs.ensures.represents in
    let e : c.args.public ≡ c.args.public + 0 = omega arith in
    let first =
    subst (λ (m : ℕ). g.AB.AirBuilder.appends c.packed_at.new.builder c.assert_selected.new.builder (over_base (selected c.args.selector (packed_limbs r (from_column c.args.column) 0) (Public m)) ∷ []) []) e
    (c.in_ok-assert_selected.ensures.appends _ (limbs.each 0 c.index-limbs-0.result (search rules))) in
    let past = B.persists _ _ (B.appends_later _ _ _ _ first) in
    let second = c.in_ok-assert_selected-2.ensures.appends _ (past _ _ (limbs.each 1 c.index-limbs-1.result (search rules))) in
    record { all = then _ _ _ [] _ [] [] c.packed_at.ensures.appends (then _ _ _ (_ ∷ []) _ [] [] first second) }
