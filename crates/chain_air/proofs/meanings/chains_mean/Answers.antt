use Rattle.air_gadgets.specs.Words.{PrimeFieldLaws}
use Rattle.chain_air.specs.Laws.Traces.{chains_mean, traces_mean}
use Rattle.chain_air.proofs.meanings.chains_mean.Goals as goal

pub returns : goal.returns
returns g c =
    let P : PrimeFieldLaws g.F.RingCore.ring g.F.FieldCore.inv g.F.PrimeCore64.ORDER_U64 g.F.PrimeCore64.canonical = record {
      ring_laws = g.met.F.RingCore.ring_laws;
      field_laws = g.met.F.FieldCore.field_laws;
      canonical_below = g.met.F.PrimeCore64.canonical_below;
      of_canonical = g.met.F.PrimeCore64.of_canonical;
      canonical_of = g.met.F.PrimeCore64.canonical_of;
    } in
    record {
      traces = traces_mean g.F.RingCore.ring g.F.FieldCore.inv g.F.PrimeCore64.ORDER_U64 g.F.PrimeCore64.canonical P c.requires;
      rows = chains_mean g.F.RingCore.ring g.F.FieldCore.inv g.F.PrimeCore64.ORDER_U64 g.F.PrimeCore64.canonical P c.requires;
    }
