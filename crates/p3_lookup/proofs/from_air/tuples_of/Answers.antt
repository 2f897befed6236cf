use Rattle.std.proofs.Common.{ℕ, ◌+◌, ◌*◌, ◌/◌, [], ◌∷◌, length, map, ◌∙◌, ap}
use Rattle.std.specs.Prelude.{slice_range}
use Rattle.std.proofs.lemmas.List.{map-append}
use Rattle.p3_field.specs.Laws.Tabulate.{tabulate_push}
use Rattle.p3_lookup.proofs.from_air.tuples_of.Goals as goal

pub loop-k-preserved : goal.loop-k-preserved
loop-k-preserved g c =
    let w = length c.args.fields.now / c.args.count in
    let t = λ (k : ℕ). slice_range c.args.fields.now (k * w) (k * w + w) in
    ap (map (λ v. v.items)) c.in_ok-push.ensures.items
    ∙ map-append (λ v. v.items) c.loop-k.tuples.items (c.in_ok-copies.field-0 ∷ [])
    ∙ tabulate_push c.loop-k.k t (map (λ v. v.items) c.loop-k.tuples.items) c.in_ok-copies.field-0.items c.loop-k.invariant c.in_ok-copies.ensures
