use Rattle.std.proofs.Common.{◌≡◌, ℕ, ◌<◌, ◌≤◌, ◌∙◌, List, [], ◌∷◌, ◌++◌, Some, length, get_or, map-id, ap, sym, arith}
use Rattle.std.specs.Prelude.{zip, slice_get}
use Rattle.std.proofs.lemmas.Iterator.Adapters.{YieldsList-from_vec}
use Rattle.std.proofs.lemmas.Iterator.Consumers.{YieldsList-turn, YieldsList-end}
use Rattle.std.proofs.lemmas.Option.{slice_get-get_or}
use Rattle.commit_core.specs.Laws.Pairs.{length-zip, zip-nil, zip-push}
use Rattle.commit_core.proofs.split.paired.Goals as goal

place : {X Y : Type 0} (xs : List X) (ys : List Y) (items : List (X × Y)) (r n m : ℕ) → r ≡ n → n ≡ length items → items ≡ zip xs ys → length ys < m → length xs ≡ m → r < length xs
place xs ys items r n m a b e h s =
    let k : length ys ≤ length xs = omega arith in
    let long : length items ≡ length ys = ap length e ∙ length-zip xs ys k in
    omega arith

more : {X Y : Type 0} (xs : List X) (ys : List Y) (items : List (X × Y)) (r n m : ℕ) (x : X) (y : Y) → r ≡ n → n ≡ length items → items ≡ zip xs ys → length ys < m → length xs ≡ m → x ≡ get_or xs r x → items ++ (x, y) ∷ [] ≡ zip xs (ys ++ y ∷ [])
more xs ys items r n m x y a b e h s q =
    let k : length ys ≤ length xs = omega arith in
    let long : length items ≡ length ys = ap length e ∙ length-zip xs ys k in
    let at : r ≡ length ys = omega arith in
    let inside : length ys < length xs = omega arith in
    let item : slice_get xs (length ys) ≡ Some x = slice_get-get_or xs (length ys) x inside ∙ ap Some (ap (λ j. get_or xs j x) (sym at) ∙ sym q) in
    ap (λ l. l ++ (x, y) ∷ []) e ∙ sym (zip-push xs ys x y item)

pub loop-y-init : goal.loop-y-init
loop-y-init g c = c.in_ok-pairs.ensures.items ∙ sym (zip-nil {X = g.row.X.Denot} {Y = g.row.Y.Denot} c.args.xs.now)

pub bounds-xs-len : goal.bounds-xs-len
bounds-xs-len g c =
    let gives = c.into_iter-y-iterator.ensures.into_iter_gives in
    let road = YieldsList-from_vec {s = c.into_iter-y-iterator.result} c.args.ys.items gives.0 (gives.1 ∙ c.args.ys.ok.0) in
    let turn = YieldsList-turn road c.loop-y.yielded c.loop-y.y-iterator c.loop-y.yielded_by c.next.result c.next.new.self c.in-Some.y c.in-Some.is c.next.ensures.steps in
    place c.args.xs.now c.loop-y.yielded c.loop-y.pairs.items c.len-in-loop-y.result c.loop-y.pairs.len (length c.args.ys.items) c.len-in-loop-y.ensures c.loop-y.pairs.ok.0 c.loop-y.invariant turn.0 c.requires

pub offset_bounds-xs-len : goal.offset_bounds-xs-len
offset_bounds-xs-len g c = let h = bounds-xs-len g c in omega arith

pub loop-y-preserved : goal.loop-y-preserved
loop-y-preserved g c =
    let gives = c.into_iter-y-iterator.ensures.into_iter_gives in
    let road = YieldsList-from_vec {s = c.into_iter-y-iterator.result} c.args.ys.items gives.0 (gives.1 ∙ c.args.ys.ok.0) in
    let turn = YieldsList-turn road c.loop-y.yielded c.loop-y.y-iterator c.loop-y.yielded_by c.next.result c.next.new.self c.in-Some.y c.in-Some.is c.next.ensures.steps in
    c.in_ok-push.ensures.items ∙ more c.args.xs.now c.loop-y.yielded c.loop-y.pairs.items c.len-in-loop-y.result c.loop-y.pairs.len (length c.args.ys.items) c.index-xs-len.result c.in-Some.y c.len-in-loop-y.ensures c.loop-y.pairs.ok.0 c.loop-y.invariant turn.0 c.requires c.index-xs-len.is

pub returns : goal.returns
returns g c =
    let gives = c.into_iter-y-iterator.ensures.into_iter_gives in
    let road = YieldsList-from_vec {s = c.into_iter-y-iterator.result} c.args.ys.items gives.0 (gives.1 ∙ c.args.ys.ok.0) in
    let seen = YieldsList-end road c.loop-y.yielded c.loop-y.y-iterator c.loop-y.yielded_by c.next.result c.next.new.self c.in-None.is c.next.ensures.steps in
    c.loop-y.invariant ∙ ap (zip c.args.xs.now) (sym (map-id c.loop-y.yielded) ∙ seen.0)
