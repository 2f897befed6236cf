use Rattle.std.proofs.Common.{◌≡◌, ℕ, ◌%◌, length, map, get_or, subst, refl, arith}
use Rattle.std.proofs.lemmas.List.{length-map}
use Rattle.p3_matrix.specs.Laws.Grids.{IsGrid, next_row, product_fills}
use Rattle.plain_pcs.proofs.PeriodicTables.{repeated_grid}
use Rattle.plain_pcs.proofs.evaluating.repeated.Goals as goal

pub loop-i-preserved : goal.loop-i-preserved
loop-i-preserved g c =
    let z = g.F.RingCore.ring.zero in
    let n = c.loop-i.i in
    let columns = c.args.columns.now in
    next_row z c.loop-i.values.items (map (λ x. get_or x.items (n % length x.items) z) columns) c.push_row.new.values.items n (length columns)
    (λ i j. get_or (map (λ x. get_or x.items (i % length x.items) z) columns) j z) c.loop-i.invariant (length-map columns (λ x. get_or x.items (n % length x.items) z)) (λ j b. refl) c.in_ok-push_row.ensures

pub new-requires : goal.new-requires
new-requires g c = product_fills c.loop-i.values.items c.loop-i.i (length c.args.columns.now) c.loop-i.invariant.length_is

pub returns : goal.returns
returns g c =
    let z = g.F.RingCore.ring.zero in
    let columns = c.args.columns.now in
    let all : c.loop-i.i ≡ c.args.rows = omega arith in
    let grid : IsGrid z c.loop-i.values.items c.args.rows (length columns) (λ i j. get_or (map (λ x. get_or x.items (i % length x.items) z) columns) j z) =
    subst (λ (n : ℕ). IsGrid z c.loop-i.values.items n (length columns) (λ i j. get_or (map (λ x. get_or x.items (i % length x.items) z) columns) j z)) all c.loop-i.invariant in
    repeated_grid z (λ x. x.items) columns c.args.rows c.loop-i.values.items c.new.result grid c.new.ensures
