use Rattle.std.proofs.Common.{◌≡◌, ℕ, List, length, map, ◌++◌, ◌∙◌, IfOk, ap, subst}
use Rattle.air_core.specs.Degree.{greatest, polynomial_degree}
use Rattle.air_core.specs.Recording.{asserted_at}
use Rattle.air_core.specs.Tree.{Tree, Asserted}
use Rattle.p3_lookup.specs.Trees.{lookup_trees}
use Rattle.p3_lookup.specs.Written.{read_all}
use Rattle.batch_constraints.specs.Sizing.{periods_of}
use Rattle.batch_constraints.specs.Laws.Rows.{asserted_values}
use Rattle.batch_constraints.proofs.sizing.table_degree.Goals as goal

pub returns : goal.returns
returns g c =
    let b = c.in_ok-builder.builder in
    let ts = g.A.Air.trees c.args.air.now in
    let us = lookup_trees g.F.RingCore.ring (read_all c.args.contexts.now) in
    let degree : List ℕ → Tree g.row.F.Denot → ℕ = polynomial_degree c.args.trace_len in
    let found : List ℕ → List ℕ = λ ps. map (λ (a : Asserted g.row.F.Denot). degree ps a.tree) (asserted_at b.nodes b.asserted) in
    let d = g.A.BaseAir.declaration c.args.air.now in
    let periods : c.deref.result.now ≡ periods_of d = c.deref.ensures.value ∙ c.in_ok-periods.ensures ∙ ap (λ (l : List (List g.row.F.Denot)). map length l) c.periodic_columns.ensures in
    let are : found (periods_of d) ≡ map (degree (periods_of d)) (ts ++ us) =
    ap (λ (xs : List (Asserted g.row.F.Denot)). map (λ (a : Asserted g.row.F.Denot). degree (periods_of d) a.tree) xs) c.in_ok-builder.ensures ∙ asserted_values (degree (periods_of d)) ts us in
    let P : List ℕ → Type 0 = λ ds. IfOk c.largest_poly_degree.result (λ d. d ≡ greatest 0 ds) in
    subst P (ap found periods ∙ are) c.largest_poly_degree.ensures
