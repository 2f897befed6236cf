-- Packed lookups of a table are lookups of it.
use Rattle.std.proofs.Common.{List, All, sym, subst}
use Rattle.p3_field.specs.BabyBear.{baby_bear_ring}
use Rattle.air_core.specs.Shape.{Shape, declared_shape}
use Rattle.p3_lookup.specs.Lookup.{HasCountForEach, IsLookup, LookupData}
use Rattle.batch_constraints.specs.BatchTrees.{AreLookupsOf}
use Rattle.batch_constraints.specs.Laws.Own.{own_lookups}
use Rattle.batch_constraints.specs.Laws.Packing.{packed_lookups}
use Rattle.cases_batch.proofs.tables.lookups_within.Goals as goal

all_counted : {F : Type 0} (s : Shape) (ls : List (LookupData F)) → All (IsLookup s) ls → All HasCountForEach ls
all_counted s ls h k d l = let own = h k d l in own.counted

pub pack_same_bus_with_degree-requires : goal.pack_same_bus_with_degree-requires
pack_same_bus_with_degree-requires g c =
    let d = g.A.BaseAir.declaration c.args.air.now in
    all_counted (declared_shape d) _
    (subst (AreLookupsOf d) (sym c.in_ok-own.ensures) (own_lookups d (g.A.Air.interactions c.args.air.now) (g.met.A.Air.interactions_read c.args.air.now)))

pub returns : goal.returns
returns g c =
    let d = g.A.BaseAir.declaration c.args.air.now in
    subst (AreLookupsOf d) (sym c.in_ok-packed.ensures.packed)
    (packed_lookups baby_bear_ring (declared_shape d) 0 _ _
    (subst (AreLookupsOf d) (sym c.in_ok-own.ensures) (own_lookups d (g.A.Air.interactions c.args.air.now) (g.met.A.Air.interactions_read c.args.air.now))))
