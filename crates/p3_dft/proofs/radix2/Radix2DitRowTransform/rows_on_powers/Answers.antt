use Rattle.std.proofs.Common.{◌≡◌, ℕ, ◌+◌, ◌*◌, ◌/◌, ◌^◌, ◌≤◌, ◌∙◌, List, ◌++◌, sym, ap, subst, arith, length, take, drop}
use Rattle.std.proofs.Math.Seq.{take-append_seam}
use Rattle.p3_field.specs.Ring.{Ring}
use Rattle.p3_field.specs.Laws.Tabulate.{length-tabulate}
use Rattle.p3_matrix.specs.Matrix.{Rows, height, cell_at}
use Rattle.p3_matrix.specs.Laws.Grids.{product_fills, product_height}
use Rattle.p3_dft.specs.Reversed.{strided, AreReversed, AreValues}
use Rattle.p3_dft.proofs.InPlace.{put_are_reversed, column_of_values}
use Rattle.p3_dft.proofs.radix2.Radix2DitRowTransform.rows_on_powers.Goals as goal

-- a slice of the whole that was written back
written : {A : Type 0} (n : ℕ) (xs new : List A) → n ≡ length xs → length new ≡ length xs → take n (new ++ drop (length new) xs) ≡ new
written n xs new e d = let f : n ≡ length new = omega arith in ap (λ k. take k (new ++ drop (length new) xs)) f ∙ take-append_seam new (drop (length new) xs)

values_here : {A : Type 0} (r : Ring A) (m : Rows A) (w : ℕ) (all new now items : List A) (j bits : ℕ) (s h : A) → all ≡ new → w ≡ m.width → now ≡ items
    → ((f : List A) → length f ≤ 2 ^ bits → AreReversed r w bits now j f → AreValues r w s h bits new j f) → AreReversed r m.width bits items j (strided r m j 0 1 bits)
    → AreValues r m.width s h bits all j (strided r m j 0 1 bits)
values_here {A} r m w all new now items j bits s h p q e V R =
    let f = strided r m j 0 1 bits in
    let short : length f ≤ 2 ^ bits = omega (arith, length-tabulate (2 ^ bits) (λ i. cell_at r.zero m (0 + 1 * i) j)) in
    let wide : AreReversed r w bits items j f = subst (λ (n : ℕ). AreReversed r n bits items j f) (sym q) R in
    let here : AreReversed r w bits now j f = subst (λ (l : List A). AreReversed r w bits l j f) (sym e) wide in
    subst (λ (l : List A). AreValues r m.width s h bits l j f) (sym p) (subst (λ (n : ℕ). AreValues r n s h bits new j f) q (V f short here))

pub new-requires-2 : goal.new-requires-2
new-requires-2 g c =
    let P = c.in_ok-push_reversed.ensures in
    let none : length c.in_ok-values.values.items ≡ 0 = ap length c.in_ok-values.ensures.items in
    let put : length c.push_reversed.new.rows.items ≡ 2 ^ c.args.bits * c.width-width.result = omega (arith, P.length_is, none, ap (λ w. 2 ^ c.args.bits * w) c.width-width.ensures) in
    let same : length c.transform_rows.new.values ≡ length c.push_reversed.new.rows.items = c.transform_rows.ensures.length ∙ ap length c.deref_mut.ensures.value in
    let whole = written c.push_reversed.new.rows.len c.push_reversed.new.rows.items c.transform_rows.new.values (omega (arith, c.push_reversed.new.rows.ok.0)) same in
    product_fills _ (2 ^ c.args.bits) c.width-width.result (ap length whole ∙ (same ∙ put))

pub returns-clause-columns : goal.returns-clause-columns
returns-clause-columns g c = λ j b.
    let r = g.F.RingCore.ring in
    let m = c.args.m.now in
    let P = c.in_ok-push_reversed.ensures in
    let none : length c.in_ok-values.values.items ≡ 0 = ap length c.in_ok-values.ensures.items in
    let put : length c.push_reversed.new.rows.items ≡ 2 ^ c.args.bits * m.width = omega (arith, P.length_is, none) in
    let same : length c.transform_rows.new.values ≡ length c.push_reversed.new.rows.items = c.transform_rows.ensures.length ∙ ap length c.deref_mut.ensures.value in
    let whole = written c.push_reversed.new.rows.len c.push_reversed.new.rows.items c.transform_rows.new.values (omega (arith, c.push_reversed.new.rows.ok.0)) same in
    let values : c.new-2.result.values ≡ c.transform_rows.new.values = ap (λ (v : Rows g.row.F.Denot). v.values) c.new-2.ensures ∙ whole in
    let wide : c.new-2.result.width ≡ m.width = ap (λ (v : Rows g.row.F.Denot). v.width) c.new-2.ensures ∙ c.width-width.ensures in
    let tall : height c.new-2.result ≡ 2 ^ c.args.bits = ap (λ n. length c.new-2.result.values / n) wide ∙ product_height c.new-2.result.values (2 ^ c.args.bits) m.width (ap length values ∙ (same ∙ put)) (omega arith) in
    column_of_values r g.met.F.RingCore.ring_laws m c.new-2.result j c.args.bits c.args.shift c.args.generator c.height.ensures.fills c.requires.fits wide tall
    (values_here r m c.width-width.result c.new-2.result.values c.transform_rows.new.values c.deref_mut.result.now c.push_reversed.new.rows.items j c.args.bits c.args.shift c.args.generator values c.width-width.ensures c.deref_mut.ensures.value
    (λ f s R. c.transform_rows.ensures.columns j f (omega (arith, c.width-width.ensures)) s R) (put_are_reversed r g.met.F.RingCore.ring_laws m j c.args.bits c.in_ok-values.values.items c.push_reversed.new.rows.items c.in_ok-values.ensures.items b P))
