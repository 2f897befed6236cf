use Rattle.std.proofs.Common.{◌≡◌, List, All, length, map, Vec, Global, sym, ◌∙◌, ap, subst, arith}
use Rattle.std.proofs.lemmas.List.{length-map}
use Rattle.air_core.specs.declared.cells.Count.{Count}
use Rattle.air_core.specs.declared.node.Node.{Node}
use Rattle.air_core.specs.declared.symbolic.SymbolicExpression.{SymbolicExpression}
use Rattle.air_core.specs.Shape.{declared_shape, ReadsSendable}
use Rattle.air_core.specs.Symbolic.{tree_of}
use Rattle.air_core.specs.Tree.{Tree}
use Rattle.air_core.specs.Laws.Reads.{not_true}
use Rattle.p3_lookup.specs.Written.{Written, tree_count}
use Rattle.batch_statement.proofs.Turns.{mapped_twice}
use Rattle.batch_statement.proofs.reads.is_lookup.Goals as goal

pub returns-then-not-tuples_are_sendable : goal.returns-then-not-tuples_are_sendable
returns-then-not-tuples_are_sendable g c =
    let s = declared_shape (g.A.BaseAir.declaration c.args.air.now) in
    let items : Vec (SymbolicExpression g.row.F.Denot) Global → List (List (Node g.row.F.Denot)) = λ v. v.items in
    let elements : map items c.deref.result.now ≡ c.args.lookup.now.elements = ap (map items) c.deref.ensures.value ∙ ap (λ (w : Written g.row.F.Denot). w.elements) c.lookup.view_is in
    let P : List (List (Tree g.row.F.Denot)) → Type 0 = λ ts. All (All (ReadsSendable s)) ts in
    let own = mapped_twice (map (tree_of {F = g.row.F.Denot})) items c.deref.result.now ∙ ap (map (map (tree_of {F = g.row.F.Denot}))) elements in (
      (λ h. absurd (not_true h)),
      λ h. sym c.if-not-tuples_are_sendable.true ∙ c.tuples_are_sendable.ensures.1 (subst P (sym own) h.reads.tuples),
    )

pub returns : goal.returns
returns g c =
    let s = declared_shape (g.A.BaseAir.declaration c.args.air.now) in
    let items : Vec (SymbolicExpression g.row.F.Denot) Global → List (List (Node g.row.F.Denot)) = λ v. v.items in
    let elements : map items c.deref.result.now ≡ c.args.lookup.now.elements = ap (map items) c.deref.ensures.value ∙ ap (λ (w : Written g.row.F.Denot). w.elements) c.lookup.view_is in
    let counts : c.deref-2.result.now ≡ c.args.lookup.now.multiplicities = c.deref-2.ensures.value ∙ ap (λ (w : Written g.row.F.Denot). w.multiplicities) c.lookup.view_is in
    let P : List (List (Tree g.row.F.Denot)) → Type 0 = λ ts. All (All (ReadsSendable s)) ts in
    let Q : List (Count (List (Node g.row.F.Denot))) → Type 0 = λ ks. All (λ (k : Count (Tree g.row.F.Denot)). ReadsSendable s k.value) (map tree_count ks) in
    let own = mapped_twice (map (tree_of {F = g.row.F.Denot})) items c.deref.result.now ∙ ap (map (map (tree_of {F = g.row.F.Denot}))) elements in
    let tuples = subst P own (c.tuples_are_sendable.ensures.0 c.if-not-tuples_are_sendable.false) in
    let long : length (map (tree_count {F = g.row.F.Denot}) c.args.lookup.now.multiplicities) ≡ length (map (map (tree_of {F = g.row.F.Denot})) c.args.lookup.now.elements) =
    omega (arith, length-map c.args.lookup.now.multiplicities (tree_count {F = g.row.F.Denot}), ap length counts, length-map c.deref.result.now items, ap length elements, length-map c.args.lookup.now.elements (map (tree_of {F = g.row.F.Denot})), c.deref.ensures.len, c.deref-2.ensures.len, c.len.ensures, c.len-2.ensures, c.if-len.false) in (
      (λ h. record { counted = long; reads = record { tuples = tuples; counts = subst Q counts (c.counts_are_sendable.ensures.0 h) } }),
      λ h. c.counts_are_sendable.ensures.1 (subst Q (sym counts) h.reads.counts),
    )
