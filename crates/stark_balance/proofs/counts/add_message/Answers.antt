use Rattle.std.proofs.Common.{◌≡◌, sym, ◌∙◌, ap, subst}
use Rattle.std.specs.BTreeMap.{is_at}
use Rattle.std.specs.Cmp.Lexicographic.{slice_cmp}
use Rattle.std.specs.Map.{lookup, values_of}
use Rattle.std.specs.Ordering.{nat_cmp}
use Rattle.p3_lookup.specs.Messages.{Message}
use Rattle.stark_balance.specs.Entries.{AreKeyed, count_with}
use Rattle.stark_balance.proofs.Entries.{keyed_with, values_with}
use Rattle.stark_balance.proofs.counts.add_message.Goals as goal

pub returns-clause-keyed : goal.returns-clause-keyed
returns-clause-keyed g c =
    let canonical = g.F.PrimeCore64.canonical in
    let m = c.args.message.now in
    let v : Message g.row.F.Denot = record { bus = c.message.inside.bus; tuple = c.in_ok-from_slice.field-0.items; count = c.count_with-count.result } in
    let bus : v.bus ≡ m.bus = ap (λ (w : Message g.row.F.Denot). w.bus) c.message.view_is in
    let tuple : v.tuple ≡ m.tuple = c.in_ok-from_slice.ensures.items ∙ c.deref.ensures.value ∙ ap (λ (w : Message g.row.F.Denot). w.tuple) c.message.view_is in
    let keyed = keyed_with g.F.RingCore.ring canonical g.met.F.PrimeCore64.of_canonical (λ k. k.items) c.in_ok-key.key m c.in_ok-key.ensures v bus tuple c.args.entries.now.entries c.requires.keyed in
    subst (AreKeyed (λ k. k.items) canonical) (sym c.in_ok-insert.ensures.entries) keyed

pub returns-clause-added : goal.returns-clause-added
returns-clause-added g c =
    let f = g.F.RingCore.ring in
    let canonical = g.F.PrimeCore64.canonical in
    let m = c.args.message.now in
    let es = c.args.entries.now.entries in
    let v : Message g.row.F.Denot = record { bus = c.message.inside.bus; tuple = c.in_ok-from_slice.field-0.items; count = c.count_with-count.result } in
    let bus : v.bus ≡ m.bus = ap (λ (w : Message g.row.F.Denot). w.bus) c.message.view_is in
    let tuple : v.tuple ≡ m.tuple = c.in_ok-from_slice.ensures.items ∙ c.deref.ensures.value ∙ ap (λ (w : Message g.row.F.Denot). w.tuple) c.message.view_is in
    let count : v.count ≡ count_with f (lookup (is_at (λ k. slice_cmp nat_cmp c.in_ok-key.key.items k.items)) es) m.count =
    c.count_with-count.ensures ∙ ap (λ n. count_with f n c.message.inside.count) c.get.ensures.value
    ∙ ap (λ (w : Message g.row.F.Denot). count_with f (lookup (is_at (λ k. slice_cmp nat_cmp c.in_ok-key.key.items k.items)) es) w.count) c.message.view_is in
    ap values_of c.in_ok-insert.ensures.entries
    ∙ values_with f canonical g.met.F.PrimeCore64.of_canonical (λ k. k.items) c.in_ok-key.key m c.in_ok-key.ensures v bus tuple es c.requires.keyed c.insert.ensures.was_ordered count
