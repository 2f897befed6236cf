use Rattle.air_gadgets.specs.Words.{PrimeFieldLaws}
use Rattle.air_gadgets.specs.Laws.Gadgets.{pack_means, pack_sums}
use Rattle.air_gadgets.proofs.meanings.pack_bits_le_means.Goals as goal

pub returns-clause-sum : goal.returns-clause-sum
returns-clause-sum g c at at_ext =
    let P : PrimeFieldLaws g.F.RingCore.ring g.F.FieldCore.inv g.F.PrimeCore64.ORDER_U64 g.F.PrimeCore64.canonical = record {
      ring_laws = g.met.F.RingCore.ring_laws;
      field_laws = g.met.F.FieldCore.field_laws;
      canonical_below = g.met.F.PrimeCore64.canonical_below;
      of_canonical = g.met.F.PrimeCore64.of_canonical;
      canonical_of = g.met.F.PrimeCore64.canonical_of;
    } in
    pack_sums g.F.RingCore.ring g.F.FieldCore.inv g.F.PrimeCore64.ORDER_U64 g.F.PrimeCore64.canonical P at at_ext

pub returns-clause-number : goal.returns-clause-number
returns-clause-number g c at at_ext =
    let P : PrimeFieldLaws g.F.RingCore.ring g.F.FieldCore.inv g.F.PrimeCore64.ORDER_U64 g.F.PrimeCore64.canonical = record {
      ring_laws = g.met.F.RingCore.ring_laws;
      field_laws = g.met.F.FieldCore.field_laws;
      canonical_below = g.met.F.PrimeCore64.canonical_below;
      of_canonical = g.met.F.PrimeCore64.of_canonical;
      canonical_of = g.met.F.PrimeCore64.canonical_of;
    } in
    pack_means g.F.RingCore.ring g.F.FieldCore.inv g.F.PrimeCore64.ORDER_U64 g.F.PrimeCore64.canonical P at at_ext
