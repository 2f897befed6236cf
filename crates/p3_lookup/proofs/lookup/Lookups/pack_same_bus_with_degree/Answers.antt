use Rattle.std.proofs.Common.{◌≡◌, List, ◌∙◌, ap, sym, subst}
use Rattle.p3_lookup.specs.Lookup.{LookupData}
use Rattle.p3_lookup.specs.Written.{Written, read_all}
use Rattle.p3_lookup.specs.Packing.{packed, SendTheSame}
use Rattle.p3_lookup.specs.Laws.Packing.{packed_same}
use Rattle.p3_lookup.proofs.lookup.Lookups.pack_same_bus_with_degree.Goals as goal

pub returns-clause-same : goal.returns-clause-same
returns-clause-same g c =
    let f = g.F.RingCore.ring in
    let s : c.as_slice.result.now ≡ c.args.self = cc (c.as_slice.ensures, c.self.view_is) in
    let e : read_all c.new.result ≡ packed f c.args.transition c.args.budget (read_all c.args.self) =
    ap read_all c.new.ensures ∙ c.in_ok-kept.ensures ∙ ap (λ (ws : List (Written g.row.F.Denot)). packed f c.args.transition c.args.budget (read_all ws)) s in
    subst (λ (ls : List (LookupData g.row.F.Denot)). SendTheSame (read_all c.args.self) ls) (sym e) (packed_same f c.args.transition c.args.budget (read_all c.args.self) c.requires)
