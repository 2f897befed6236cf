use Rattle.std.proofs.Common.{◌≡◌, ◌+◌, ◌<◌, ◌++◌, List, [], ◌∷◌, length, map, drop, get_or, sym, ◌∙◌, ap, subst, arith}
use Rattle.std.specs.Prelude.{All}
use Rattle.std.proofs.lemmas.List.{length-map}
use Rattle.air_core.specs.RowCheck.{row_shape}
use Rattle.air_core.specs.Shape.{ReadsSendable}
use Rattle.air_core.specs.Symbolic.{tree_of}
use Rattle.air_core.specs.declared.node.Node.{Node}
use Rattle.p3_lookup.specs.Lookup.{pair_up, sent}
use Rattle.p3_lookup.specs.Messages.{message}
use Rattle.p3_lookup.specs.Written.{Written, read, tree_count}
use Rattle.stark_balance.specs.Sender.{sent_in_row}
use Rattle.stark_balance.proofs.Turns.{at_item, dropped, mapped, moved}
use Rattle.stark_balance.proofs.messages.push_lookup.Goals as goal

pub values_of-requires : goal.values_of-requires
values_of-requires g c =
    let i = c.loop-i.i in
    let xs = c.lookup.inside.elements.items in
    let x = c.index.result.now in
    let within : i < length xs = omega arith in
    let within-2 : i < length (map (λ v. v.items) xs) = omega (arith, within, length-map xs (λ v. v.items)) in
    let s = row_shape c.args.row.now in
    let elements : map (λ v. v.items) xs ≡ c.args.lookup.now.elements = ap (λ (w : Written g.row.F.Denot). w.elements) c.lookup.view_is in
    let P : List (List (List (Node g.row.F.Denot))) → Type 0 = λ l. All (All (ReadsSendable s)) (map (map tree_of) l) in
    let Q : List (List (Node g.row.F.Denot)) → Type 0 = λ l. All (ReadsSendable s) (map tree_of l) in
    record {
      reads = subst Q (sym c.deref.ensures.value)
          (at_item (All (ReadsSendable s)) (map tree_of) (map (λ v. v.items) xs) i x.items within-2 (sym (mapped (λ v. v.items) xs i x within c.index.ensures))
          (subst P (sym elements) c.requires.lookup.reads.tuples));
    }

pub sent_value-count-requires : goal.sent_value-count-requires
sent_value-count-requires g c =
    let i = c.loop-i.i in
    let l = c.args.lookup.now in
    let xs = c.lookup.inside.elements.items in
    let m = c.index-in-loop-i.result.now in
    let elements : map (λ v. v.items) xs ≡ l.elements = ap (λ (w : Written g.row.F.Denot). w.elements) c.lookup.view_is in
    let counts : c.lookup.inside.multiplicities.items ≡ l.multiplicities = ap (λ (w : Written g.row.F.Denot). w.multiplicities) c.lookup.view_is in
    let first : i < length xs = omega arith in
    let within : i < length l.multiplicities = omega (
      arith,
      first,
      length-map xs (λ v. v.items),
      ap length elements,
      length-map l.elements (map tree_of),
      length-map l.multiplicities tree_count,
      c.requires.lookup.counted,
    ) in
    let is : m ≡ get_or l.multiplicities i m = c.index-in-loop-i.ensures ∙ ap (λ ms. get_or ms i m) counts in
    record { reads = at_item (λ k. ReadsSendable (row_shape c.args.row.now) k.value) tree_count l.multiplicities i m within is c.requires.lookup.reads.counts }

pub loop-i-preserved : goal.loop-i-preserved
loop-i-preserved g c =
    let v = sent_in_row g.F.RingCore.ring c.args.row.now in
    let i = c.loop-i.i in
    let l = c.args.lookup.now in
    let xs = c.lookup.inside.elements.items in
    let x = c.index.result.now in
    let m = c.index-in-loop-i.result.now in
    let send = message v c.args.bus in
    let elements : map (λ v. v.items) xs ≡ l.elements = ap (λ (w : Written g.row.F.Denot). w.elements) c.lookup.view_is in
    let counts : c.lookup.inside.multiplicities.items ≡ l.multiplicities = ap (λ (w : Written g.row.F.Denot). w.multiplicities) c.lookup.view_is in
    let first : i < length xs = omega arith in
    let within : i < length l.elements = omega (arith, first, length-map xs (λ v. v.items), ap length elements) in
    let within-2 : i < length l.multiplicities = omega (arith, within, length-map l.elements (map tree_of), length-map l.multiplicities tree_count, c.requires.lookup.counted) in
    let is : x.items ≡ get_or l.elements i x.items = sym (mapped (λ v. v.items) xs i x first c.index.ensures) ∙ ap (λ es. get_or es i x.items) elements in
    let is-2 : m ≡ get_or l.multiplicities i m = c.index-in-loop-i.ensures ∙ ap (λ ms. get_or ms i m) counts in
    let T = map (map tree_of) l.elements in
    let C = map tree_count l.multiplicities in
    let rest : map send (pair_up (drop i T) (drop i C)) ≡ send (record { tuple = map tree_of x.items; count = tree_of m.value }) ∷ map send (pair_up (drop (i + 1) T) (drop (i + 1) C)) =
    ap (λ ts. map send (pair_up ts (drop i C))) (dropped (map tree_of) l.elements i x.items within is)
    ∙ ap (λ ks. map send (pair_up (map tree_of x.items ∷ drop (i + 1) T) ks)) (dropped tree_count l.multiplicities i m within-2 is-2) in
    moved c.loop-i.messages.items (map send (pair_up (drop i T) (drop i C))) (c.args.messages.now.items ++ map send (sent (read l))) (map send (pair_up (drop (i + 1) T) (drop (i + 1) C)))
    (send (record { tuple = map tree_of x.items; count = tree_of m.value }) ∷ []) c.push.new.self.items
    c.loop-i.invariant rest
    (cc (c.in_ok-push.ensures.items, c.sent_value-count.ensures, c.in_ok-tuple.ensures, c.deref.ensures.value))
