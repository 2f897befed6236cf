use Rattle.std.proofs.Common.{◌∙◌, List, subst}
use Rattle.std.specs.List.{flat_map}
use Rattle.p3_lookup.specs.Bus.{HaveOneWidth}
use Rattle.p3_lookup.specs.Lookup.{lookups_of}
use Rattle.cases_prover.proofs.Owed.{bounds, kept_there, powers, traced_there}
use Rattle.cases_prover.proofs.proved.own_proof.Goals as goal

pub from_instances-requires-clause-powers : goal.from_instances-requires-clause-powers
from_instances-requires-clause-powers g c =
    let k = c.args.config.now in
    powers k.pcs k.challenger k.lookup_bits k.ood_bits k.version g.A.BaseAir.declaration g.A.Air.trees g.A.Air.interactions c.args.instances.now
    (c.in_ok-shaped.ensures.0 c.if-not-shaped.false)

pub from_instances-requires-clause-bits : goal.from_instances-requires-clause-bits
from_instances-requires-clause-bits g c =
    let k = c.args.config.now in
    bounds k.pcs k.challenger k.lookup_bits k.ood_bits k.version g.A.BaseAir.declaration g.A.Air.trees g.A.Air.interactions c.args.instances.now
    (c.in_ok-shaped.ensures.0 c.if-not-shaped.false)

pub from_instances-requires-clause-widths : goal.from_instances-requires-clause-widths
from_instances-requires-clause-widths g c =
    subst (λ (xs : List g.row.A.Denot). HaveOneWidth (flat_map (λ a. lookups_of (g.A.Air.interactions a)) xs)) (c.deref.ensures.value ∙ c.in_ok-airs.ensures)
    (c.in_ok-even.ensures.0 c.if-not-even.false)

pub prove_batch-requires-clause-traced : goal.prove_batch-requires-clause-traced
prove_batch-requires-clause-traced g c =
    let k = c.args.config.now in
    traced_there k.pcs k.challenger k.lookup_bits k.ood_bits k.version g.A.BaseAir.declaration g.A.Air.trees g.A.Air.interactions c.args.instances.now
    (c.in_ok-shaped.ensures.0 c.if-not-shaped.false) c.baby_bear_has_laws.ensures (λ i d l. record { rows = g.met.A.BaseAir.whole_rows _; interactions = g.met.A.Air.interactions_read _ })
    c.in-Ok.data.common _ c.in-Ok.ensures.lookups c.in-Ok.ensures.preprocessed c.in-Ok.ensures.formed

pub prove_batch-requires-clause-prover_data : goal.prove_batch-requires-clause-prover_data
prove_batch-requires-clause-prover_data g c =
    let k = c.args.config.now in
    kept_there k.pcs k.challenger k.lookup_bits k.ood_bits k.version g.A.BaseAir.declaration g.A.Air.trees g.A.Air.interactions c.args.instances.now
    (c.in_ok-shaped.ensures.0 c.if-not-shaped.false) c.baby_bear_has_laws.ensures (λ i d l. record { rows = g.met.A.BaseAir.whole_rows _; interactions = g.met.A.Air.interactions_read _ })
    c.in-Ok.data.common _ c.in-Ok.ensures.lookups c.in-Ok.ensures.preprocessed
