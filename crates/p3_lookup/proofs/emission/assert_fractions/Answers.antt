use Rattle.std.proofs.Common.{◌≡◌, ◌+◌, ◌<◌, List, [], ◌∷◌, ◌++◌, length, map, take, sym, ◌∙◌, ap, subst, append-nil, arith}
use Rattle.std.proofs.lemmas.List.{map-append, take-map, length-map}
use Rattle.air_core.specs.Tree.{Asserted, over_extension}
use Rattle.air_core.specs.Shape.{Shape}
use Rattle.air_core.specs.Laws.Appending.{first_on_err}
use Rattle.p3_lookup.specs.Lookup.{IsLookup}
use Rattle.p3_lookup.specs.Written.{read, read_all}
use Rattle.p3_lookup.specs.Trees.{fraction_tree, fraction_trees}
use Rattle.p3_lookup.proofs.Turns.{mapped_item, at_item, fractions_turn, fractions_front}
use Rattle.p3_lookup.proofs.emission.assert_fractions.Goals as goal

pub loop-i-preserved : goal.loop-i-preserved
loop-i-preserved g c =
    let r = g.AB.F.RingCore.ring in
    let i = c.loop-i.i in
    let ws = c.args.lookups.now in
    let x = c.index-lookups-i.result in
    let within : i < length ws = omega arith in
    let within-2 : i < length (read_all ws) = omega (arith, length-map ws read) in
    let front = fraction_trees r 0 (take i (read_all ws)) in
    let more : map over_extension front ++ over_extension (fraction_tree r i (read x)) ∷ [] ≡ map over_extension (fraction_trees r 0 (take (i + 1) (read_all ws))) =
    sym (map-append over_extension front (fraction_tree r i (read x) ∷ []))
    ∙ ap (map over_extension) (fractions_turn r 0 i i (read_all ws) (read x) within-2 (mapped_item read ws i x (read x) within c.index-lookups-i.is) (omega arith)) in
    record {
      keeps_shape = c.assert_fraction.ensures.keeps_shape ∙ c.loop-i.invariant.keeps_shape;
      appends = subst (λ (ts : List (Asserted g.row.AB-F.Denot)). g.AB.AirBuilder.appends c.args.builder.now c.assert_fraction.new.builder ts []) more
          (g.met.AB.AirBuilder.appends_along _ _ _ _ _ [] [] c.loop-i.invariant.appends c.in_ok-assert_fraction.ensures.appends);
    }

pub returns-in_err-assert_fraction-clause-on_error : goal.returns-in_err-assert_fraction-clause-on_error
returns-in_err-assert_fraction-clause-on_error g c =
    let r = g.AB.F.RingCore.ring in
    let i = c.loop-i.i in
    let ls = read_all c.args.lookups.now in
    let ts = map over_extension (fraction_trees r 0 ls) in
    let grown = rw append-nil at (g.met.AB.AirBuilder.appends_along _ _ _ _ [] [] [] c.loop-i.invariant.appends c.in_err-assert_fraction.ensures.on_error) in
    let front : map over_extension (fraction_trees r 0 (take i ls)) ≡ take i ts =
    ap (map over_extension) (fractions_front r 0 i ls) ∙ sym (take-map over_extension i (fraction_trees r 0 ls)) in
    first_on_err g.AB.AirBuilder.appends _ _ ts [] _ i 0 (rw front at grown)

pub assert_fraction-requires-clause-lookup : goal.assert_fraction-requires-clause-lookup
assert_fraction-requires-clause-lookup g c =
    let i = c.loop-i.i in
    let ws = c.args.lookups.now in
    let x = c.index-lookups-i.result in
    let within : i < length ws = omega arith in
    let s = g.AB.AirBuilder.shape c.args.builder.now in
    let P : Shape → Type 0 = λ q. IsLookup q (read x) in
    subst P (sym c.loop-i.invariant.keeps_shape) (at_item (IsLookup s) read ws i x within c.index-lookups-i.is c.requires.lookups)
