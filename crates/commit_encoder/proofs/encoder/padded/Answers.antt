use Rattle.std.proofs.Common.{◌≡◌, ℕ, ◌+◌, ◌-◌, ◌*◌, ◌≤◌, ◌∙◌, List, [], ◌∷◌, ◌++◌, length, append_assoc, sym, ap, arith}
use Rattle.std.proofs.lemmas.List.{length-append}
use Rattle.p3_field.specs.Poly.{tabulate}
use Rattle.p3_field.specs.Laws.Tabulate.{length-tabulate, tabulate_more}
use Rattle.p3_matrix.specs.Laws.Grids.{product_fills}
use Rattle.commit_encoder.proofs.encoder.padded.Goals as goal

push_item : {A : Type 0} (xs ys zs : List A) (k : ℕ) (t : ℕ → A) (z : A) → ys ≡ xs ++ tabulate k t → z ≡ t k → zs ≡ ys ++ z ∷ [] → zs ≡ xs ++ tabulate (k + 1) t
push_item xs ys zs k t z e f h =
    h ∙ (ap (λ l. l ++ z ∷ []) e ∙ (append_assoc xs (tabulate k t) (z ∷ []) ∙ ap (λ l. xs ++ l) (ap (λ y. tabulate k t ++ y ∷ []) f ∙ tabulate_more k t)))

filled : {A : Type 0} (xs ys : List A) (n count k : ℕ) (t : ℕ → A) → ys ≡ xs ++ tabulate k t → length xs ≡ n → n ≤ count → k ≡ count - n → length ys ≡ count
filled xs ys n count k t e f h d = omega (arith, ap length e, length-append xs (tabulate k t), length-tabulate k t)

pub loop-preserved : goal.loop-preserved
loop-preserved g c =
    push_item c.message.inside.values.items c.loop.values.items c.push.new.self.items c.loop.counter (λ _. g.F.RingCore.ring.zero) c.ZERO.result
    c.loop.invariant (c.ZERO.ensures ∙ g.met.F.RingCore.zero_is) c.in_ok-push.ensures.items

pub new-requires : goal.new-requires
new-requires g c =
    let message = c.args.message in
    let items = c.message.inside.values.items in
    let count = c.args.count in
    let same : items ≡ message.values = ap (λ m. m.values) c.message.view_is in
    let width : c.message.inside.width ≡ message.width = ap (λ m. m.width) c.message.view_is in
    let n : length items ≡ c.len.result = omega (arith, c.len.ensures, c.message.inside.values.ok.0) in
    let below : c.len.result ≤ count = omega (arith, n, ap length same, c.requires.more) in
    let all : length c.loop.values.items ≡ count =
    filled items c.loop.values.items c.len.result count c.loop.counter (λ _. g.F.RingCore.ring.zero) c.loop.invariant n below (omega (arith, c.loop-test.false, c.loop.auto.counter-end)) in
    product_fills c.loop.values.items c.requires.rows.0 c.message.inside.width (all ∙ (c.requires.rows.1 ∙ ap (λ w. c.requires.rows.0 * w) (sym width)))
