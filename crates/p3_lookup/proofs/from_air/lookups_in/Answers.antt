use Rattle.std.proofs.Common.{◌≡◌, ◌+◌, ◌<◌, ◌≤◌, List, [], ◌∷◌, ◌++◌, length, get_or, take, sym, ◌∙◌, ap, arith}
use Rattle.std.specs.Prelude.{None}
use Rattle.std.proofs.lemmas.List.{map-append, take_more, take_all}
use Rattle.air_core.specs.Placed.{Placed}
use Rattle.air_core.specs.Recording.{interaction_at, sent_at}
use Rattle.p3_lookup.specs.Lookup.{LookupData, lookup_of, lookups_of}
use Rattle.p3_lookup.specs.Written.{read, read_all}
use Rattle.p3_lookup.proofs.from_air.lookups_in.Goals as goal

abbrev nothing : Placed
nothing = record { bus = None; fields = []; counts = [] }

pub loop-index-preserved : goal.loop-index-preserved
loop-index-preserved g c =
    let ns = c.args.builder.now.nodes in
    let ps = c.args.builder.now.interactions in
    let i = c.loop-index.index in
    let within : i < length ps = omega arith in
    let x = c.in_ok-lookup_at.field-0 in
    let p = get_or ps i nothing in
    let more : sent_at ns (take (i + 1) ps) ≡ sent_at ns (take i ps) ++ interaction_at ns p ∷ [] =
    ap (sent_at ns) (take_more ps i nothing within) ∙ map-append (interaction_at ns) (take i ps) (p ∷ []) in
    ap read_all c.in_ok-push.ensures.items
    ∙ map-append read c.loop-index.lookups.items (x ∷ [])
    ∙ ap (λ (l : List (LookupData g.row.F.Denot)). l ++ read x ∷ []) c.loop-index.invariant
    ∙ ap (λ (l : LookupData g.row.F.Denot). lookups_of (sent_at ns (take i ps)) ++ l ∷ []) (c.in_ok-lookup_at.ensures nothing)
    ∙ sym (map-append lookup_of (sent_at ns (take i ps)) (interaction_at ns p ∷ []))
    ∙ ap lookups_of (sym more)

pub returns : goal.returns
returns g c =
    let ns = c.args.builder.now.nodes in
    let ps = c.args.builder.now.interactions in
    let over : length ps ≤ c.loop-index.index = omega arith in
    c.loop-index.invariant ∙ ap (λ l. lookups_of (sent_at ns l)) (take_all c.loop-index.index ps over)
