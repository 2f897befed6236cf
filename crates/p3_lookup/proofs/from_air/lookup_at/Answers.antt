use Rattle.std.proofs.Common.{◌≡◌, [], length, get_or, map, ◌∙◌, ap, arith}
use Rattle.std.specs.Prelude.{None}
use Rattle.std.proofs.lemmas.List.{length-map}
use Rattle.air_core.specs.Placed.{Placed}
use Rattle.air_core.specs.Recording.{bus_of, interaction_at, count_at}
use Rattle.air_core.specs.Symbolic.{tree_at, tree_of}
use Rattle.p3_lookup.specs.Lookup.{lookup_of}
use Rattle.p3_lookup.specs.Written.{bus_of_kind, read, tree_count}
use Rattle.p3_lookup.proofs.FromAir.{tuples_read, counts_read}
use Rattle.p3_lookup.proofs.from_air.lookup_at.Goals as goal

abbrev nothing : Placed
nothing = record { bus = None; fields = []; counts = [] }

pub tuples_of-requires : goal.tuples_of-requires
tuples_of-requires g c =
    let p = get_or c.args.builder.now.interactions c.args.index nothing in
    let values = c.in_ok-values.ensures nothing in
    record {
      counted = omega (
        arith,
        c.requires.counted nothing,
        c.len.ensures,
        ap length values,
        length-map c.in_ok-values.values.items tree_of,
        length-map p.counts (λ k. tree_at c.args.builder.now.nodes k.value),
      );
    }

pub counts_of-requires : goal.counts_of-requires
counts_of-requires g c =
    let p = get_or c.args.builder.now.interactions c.args.index nothing in
    record {
      bounded = omega (
        arith,
        ap length (c.in_ok-values.ensures nothing),
        ap length (c.in_ok-bounds.ensures nothing),
        ap length c.deref-2.ensures.value,
        ap length c.deref-3.ensures.value,
        length-map c.in_ok-values.values.items tree_of,
        length-map p.counts (λ k. tree_at c.args.builder.now.nodes k.value),
        length-map p.counts (λ k. k.bound),
      );
    }

pub returns : goal.returns
returns g c d =
    let ns = c.args.builder.now.nodes in
    let p = get_or c.args.builder.now.interactions c.args.index d in
    let I = interaction_at ns p in
    let m = length (map (count_at ns) p.counts) in
    let xs = c.deref.result.now in
    let long : c.len.result ≡ m = omega (
      arith,
      c.len.ensures,
      ap length (c.in_ok-values.ensures d),
      length-map c.in_ok-values.values.items tree_of,
      length-map p.counts (λ k. tree_at ns k.value),
      length-map p.counts (count_at ns),
    ) in
    let bus : bus_of_kind c.in_ok-kind.kind ≡ bus_of p.bus = c.in_ok-kind.ensures ∙ ap bus_of (c.interaction_bus.ensures d) in
    let fields : map tree_of xs ≡ I.fields = ap (map tree_of) c.deref.ensures.value ∙ c.in_ok-fields.ensures d in
    let tuples : map (map tree_of) (map (λ v. v.items) c.in_ok-elements.elements.items) ≡ (lookup_of I).tuples =
    ap (map (map tree_of)) c.in_ok-elements.ensures ∙ tuples_read tree_of xs I.fields c.len.result m long fields in
    let values : map tree_of (map (λ k. k.value) c.in_ok-multiplicities.multiplicities.items) ≡ map (λ k. tree_at ns k.value) p.counts =
    ap (map tree_of) (c.in_ok-multiplicities.ensures.values ∙ c.deref-2.ensures.value) ∙ c.in_ok-values.ensures d in
    let bounds : map (λ k. k.bound) c.in_ok-multiplicities.multiplicities.items ≡ map (λ k. k.bound) p.counts =
    c.in_ok-multiplicities.ensures.bounds ∙ c.deref-3.ensures.value ∙ c.in_ok-bounds.ensures d in
    let counts : map tree_count c.in_ok-multiplicities.multiplicities.items ≡ map (count_at ns) p.counts =
    counts_read tree_of (tree_at ns) c.in_ok-multiplicities.multiplicities.items p.counts values bounds in
    ap read c.new.ensures ∙ cc (bus, tuples, counts)
