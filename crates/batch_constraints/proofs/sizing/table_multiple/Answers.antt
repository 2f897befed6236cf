use Rattle.std.proofs.Common.{◌≡◌, ℕ, List, map, ◌++◌, ◌∙◌, IfOk, ap, subst}
use Rattle.air_core.specs.Degree.{greatest, multiple}
use Rattle.air_core.specs.Recording.{asserted_at}
use Rattle.air_core.specs.Tree.{Tree, Asserted}
use Rattle.p3_lookup.specs.Trees.{lookup_trees}
use Rattle.p3_lookup.specs.Written.{read_all}
use Rattle.batch_constraints.specs.Laws.Rows.{asserted_values}
use Rattle.batch_constraints.proofs.sizing.table_multiple.Goals as goal

pub returns : goal.returns
returns g c =
    let b = c.in_ok-builder.builder in
    let ts = g.A.Air.trees c.args.air.now in
    let us = lookup_trees g.F.RingCore.ring (read_all c.args.contexts.now) in
    let degree : Tree g.row.F.Denot → ℕ = multiple c.args.t in
    let are : map (λ (a : Asserted g.row.F.Denot). degree a.tree) (asserted_at b.nodes b.asserted) ≡ map degree (ts ++ us) =
    ap (λ (xs : List (Asserted g.row.F.Denot)). map (λ (a : Asserted g.row.F.Denot). degree a.tree) xs) c.in_ok-builder.ensures ∙ asserted_values degree ts us in
    let P : List ℕ → Type 0 = λ ds. IfOk c.largest_degree_multiple.result (λ d. d ≡ greatest 0 ds) in
    subst P are c.largest_degree_multiple.ensures
