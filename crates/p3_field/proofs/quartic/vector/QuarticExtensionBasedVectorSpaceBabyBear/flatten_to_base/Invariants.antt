use Rattle.std.proofs.Common.{◌≡◌, take}
use Rattle.std.specs.List.{flat_map}
use Rattle.p3_field.specs.Quartic.{quartic_coefficients}
use Rattle.p3_field.proofs.quartic.vector.QuarticExtensionBasedVectorSpaceBabyBear.flatten_to_base.Given as goal

abbrev pub invariant-loop-x : goal.invariant-loop-x
invariant-loop-x l = l.out.items ≡ flat_map quartic_coefficients (take l.x-index l.values)
