use Rattle.std.proofs.Common.{List, subst, sym}
use Rattle.std.specs.Prelude.{All}
use Rattle.p3_field.specs.declared.baby_bear.BabyBear.{BabyBear}
use Rattle.p3_lookup.specs.Lookup.{HasCountForEach}
use Rattle.p3_lookup.specs.Written.{Written, read_all}
use Rattle.cases_air.proofs.Taken.{all_counted}
use Rattle.cases_air.proofs.lookups.push_packed.Goals as goal

pub pack_same_bus_with_degree-requires : goal.pack_same_bus_with_degree-requires
pack_same_bus_with_degree-requires c =
    let P : List (Written BabyBear) → Type 0 = λ l. All HasCountForEach (read_all l) in
    subst P (sym c.new-lookups.ensures) (all_counted _ c.in_ok-lookups_of.ensures)
