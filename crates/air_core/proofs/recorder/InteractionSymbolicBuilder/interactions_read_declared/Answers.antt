use Rattle.std.proofs.Common.{◌≡◌, ◌+◌, ◌<◌, List, [], ◌∷◌, ◌++◌, All, None, take, get_or, length, refl, sym, ap, ◌∙◌, subst, arith}
use Rattle.std.proofs.lemmas.List.{take_more, map-append, length-map, get_or-map}
use Rattle.std.proofs.lemmas.List.Elements.{All-push}
use Rattle.std.proofs.lemmas.Grind.{common_steps}
use Rattle.air_core.specs.Placed.{Placed}
use Rattle.air_core.specs.Recording.{interaction_at, sent_at}
use Rattle.air_core.specs.Shape.{declared_shape, IsInteraction}
use Rattle.air_core.specs.Tree.{Interaction}
use Rattle.air_core.specs.Laws.Reads.{not_true}
use Rattle.air_core.proofs.recorder.InteractionSymbolicBuilder.interactions_read_declared.Goals as goal

pub loop-index-preserved : goal.loop-index-preserved
loop-index-preserved g c =
    let s = declared_shape (g.A.BaseAir.declaration c.args.air.now) in
    let ns = c.args.self.now.nodes in
    let ps = c.args.self.now.interactions in
    let i = c.loop-index.index in
    let d : Placed = record { bus = None; fields = []; counts = [] } in
    let lt : i < length ps = omega (arith, c.loop-index-test.true, c.num_interactions-index-end.ensures) in
    let p = get_or ps i d in
    let taken : take (i + 1) ps ≡ take i ps ++ p ∷ [] = take_more ps i d lt in
    let Q : List (Interaction g.row.F.Denot) → Type 0 = λ is. All (IsInteraction s) is in
    subst Q (sym (ap (sent_at ns) taken ∙ map-append (interaction_at ns) (take i ps) (p ∷ [])))
    (All-push (IsInteraction s) (sent_at ns (take i ps)) (interaction_at ns p) c.loop-index.invariant ((c.in_ok-interaction_reads_declared.ensures d).0 c.if-not-branch.false))

pub returns-then-not-branch-clause-declared : goal.returns-then-not-branch-clause-declared
returns-then-not-branch-clause-declared g c =
    let s = declared_shape (g.A.BaseAir.declaration c.args.air.now) in
    let ns = c.args.self.now.nodes in
    let ps = c.args.self.now.interactions in
    let i = c.loop-index.index in
    let d : Placed = record { bus = None; fields = []; counts = [] } in
    let lt : i < length ps = omega (arith, c.loop-index-test.true, c.num_interactions-index-end.ensures) in
    let sent : Interaction g.row.F.Denot = interaction_at ns (get_or ps i d) in
    let lt-2 : i < length (sent_at ns ps) = omega (arith, lt, length-map ps (interaction_at ns)) in
    let here : get_or (sent_at ns ps) i sent ≡ sent = get_or-map (interaction_at ns) ps i d sent lt in
    let P : Interaction g.row.F.Denot → Type 0 = λ v. IsInteraction s v in
    ((λ h. absurd (not_true h)), λ h. sym c.if-not-branch.true ∙ (c.in_ok-interaction_reads_declared.ensures d).1 (subst P here (h i sent lt-2)))

pub returns-clause-declared : goal.returns-clause-declared
returns-clause-declared g c =
    let s = declared_shape (g.A.BaseAir.declaration c.args.air.now) in
    let ps = c.args.self.now.interactions in
    let all : take c.loop-index.index ps ≡ ps = grind (arith, common_steps) in
    let Q : List Placed → Type 0 = λ qs. All (IsInteraction s) (sent_at c.args.self.now.nodes qs) in
    ((λ h. subst Q all c.loop-index.invariant), λ h. refl)
