use Rattle.std.proofs.Common.{◌≡◌, length, arith}
use Rattle.p3_field.specs.Quartic.{quartic_ring, quartic_basis}
use Rattle.p3_field.specs.Laws.QuarticLaws.{quartic_laws}
use Rattle.p3_field.specs.Laws.QuarticVector.{list_of_four, combine_four}
use Rattle.p3_field.proofs.quartic.vector.QuarticExtensionExtensionFieldBabyBear.from_ext_basis_coefficients.Goals as goal

pub returns : goal.returns
returns c =
    let n : length c.args.c.now ≡ 4 = omega arith in
    let e = list_of_four c.args.c.now c.c0-item.result c.c1-item.result c.c2-item.result c.c3-item.result n c.c0-item.is c.c1-item.is c.c2-item.is c.c3-item.is in
    (n, cc (combine_four quartic_ring quartic_laws quartic_basis c.args.c.now c.c0-item.result c.c1-item.result c.c2-item.result c.c3-item.result e))
