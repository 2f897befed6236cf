use Rattle.air_gadgets.specs.Words.{PrimeFieldLaws}
use Rattle.blake3_prime.specs.Laws.Step.{step_means}
use Rattle.blake3_prime.proofs.meanings.step_means.Goals as goal

pub returns : goal.returns
returns g c at at_ext =
    let P : PrimeFieldLaws g.F.RingCore.ring g.F.FieldCore.inv g.F.PrimeCore64.ORDER_U64 g.F.PrimeCore64.canonical = record {
      ring_laws = g.met.F.RingCore.ring_laws;
      field_laws = g.met.F.FieldCore.field_laws;
      canonical_below = g.met.F.PrimeCore64.canonical_below;
      of_canonical = g.met.F.PrimeCore64.of_canonical;
      canonical_of = g.met.F.PrimeCore64.canonical_of;
    } in
    step_means g.F.RingCore.ring g.F.FieldCore.inv g.F.PrimeCore64.ORDER_U64 g.F.PrimeCore64.canonical P c.requires at at_ext
