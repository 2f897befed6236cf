use Rattle.std.proofs.Common.{◌≡◌, ◌∙◌, [], ◌∷◌, Some, ℕ, length, map, get_or, sym, ap, subst, arith}
use Rattle.std.specs.Prelude.{All, slice_get}
use Rattle.std.specs.Int.{IsPowerOfTwo}
use Rattle.std.proofs.lemmas.List.{map-append}
use Rattle.std.proofs.lemmas.Option.{get_or_from_slice_get}
use Rattle.p3_matrix.specs.Matrix.{height}
use Rattle.commit_core.specs.Space.{EachOf}
use Rattle.commit_core.specs.Periodic.{EachFrom}
use Rattle.commit_rows.specs.Batches.{lists, IsRowOf, AreRowsAt, dimensions_of}
use Rattle.plain_pcs.specs.PlainMmcs.{AreRowOpenings}
use Rattle.commit_core.specs.Laws.Each.{one_more}
use Rattle.plain_pcs.proofs.Heights.{all_opened_accepted, widths_each}
use Rattle.plain_pcs.proofs.plain_mmcs.PlainMmcsMmcs.open_multi_batch.Goals as goal

pub opened_rows-requires-clause-place : goal.opened_rows-requires-clause-place
opened_rows-requires-clause-place g c =
    let same = c.deref.ensures.value ∙ c.prover_data.view_is in
    subst (λ l. IsRowOf l (get_or c.args.indices.now c.loop-index.index-index 0)) (sym same) (c.requires c.loop-index.index-index 0 c.loop-index-test.true)

pub loop-index-preserved : goal.loop-index-preserved
loop-index-preserved g c =
    let ms = c.args.prover_data.now in
    let i = c.loop-index.index-index in
    let same = c.deref.ensures.value ∙ c.prover_data.view_is in
    let v = c.in_ok-opened_rows.field-0 in
    let rows = lists v.items in
    one_more i (map (λ rows. lists rows.items) c.loop-index.openings.items) (map (λ rows. lists rows.items) c.push.new.self.items) rows
    (λ n y. (x : ℕ) → slice_get c.args.indices.now n ≡ Some x → AreRowsAt ms x y × (map (λ row. length row) y ≡ map (λ m. m.width) ms)) c.loop-index.invariant
    (λ x e. (
      subst (λ n. AreRowsAt ms n rows) (get_or_from_slice_get c.args.indices.now i x 0 e) (subst (λ l. AreRowsAt l (get_or c.args.indices.now i 0) rows) same c.in_ok-opened_rows.ensures.values),
      subst (λ l. map (λ row. length row) rows ≡ map (λ m. m.width) l) same c.in_ok-opened_rows.ensures.widths,
    ))
    (ap (map (λ rows. lists rows.items)) c.in_ok-push.ensures.items ∙ map-append (λ rows. lists rows.items) c.loop-index.openings.items (v ∷ []))

pub returns-clause-rows : goal.returns-clause-rows
returns-clause-rows g c =
    let all : c.loop-index.index-index ≡ length c.args.indices.now = omega (arith, c.loop-index-test.false, c.loop-index.auto.index-index-end) in
    record { count = c.loop-index.invariant.count ∙ all; each = λ i y q x p. (c.loop-index.invariant.each i y q x p).0 }

pub returns-clause-accepted : goal.returns-clause-accepted
returns-clause-accepted g c = λ k e.
    let ms = c.args.prover_data.now in
    let is = c.args.indices.now in
    let openings = map (λ rows. lists rows.items) c.loop-index.openings.items in
    let all : c.loop-index.index-index ≡ length is = omega (arith, c.loop-index-test.false, c.loop-index.auto.index-index-end) in
    let each : EachFrom is openings (AreRowsAt ms) = record { count = c.loop-index.invariant.count ∙ all; each = λ i y q x p. (c.loop-index.invariant.each i y q x p).0 } in
    let whole = subst (λ n. EachOf n openings (λ i y. (x : ℕ) → slice_get is i ≡ Some x → AreRowsAt ms x y × (map (λ row. length row) y ≡ map (λ m. m.width) ms))) all c.loop-index.invariant in
    subst (λ l. AreRowOpenings g.T.PartialEq.eq l (dimensions_of ms) is openings) (sym e)
    (all_opened_accepted ms g.T.PartialEq.eq is openings g.met.T.Eq.laws (subst (λ l. All (λ m. IsPowerOfTwo (height m)) l) c.prover_data.view_is c.prover_data.invariant.heights) c.requires
    each (widths_each ms is openings (AreRowsAt ms) whole))
