use Rattle.std.proofs.Common.{◌≡◌, ◌%◌, ◌++◌, length}
use Rattle.std.specs.List.{flat_map}
use Rattle.p3_field.specs.Quartic.{quartic_coefficients}
use Rattle.p3_field.proofs.quartic.vector.QuarticExtensionBasedVectorSpaceBabyBear.reconstitute_from_base.Given as goal

abbrev pub invariant-loop-rest : goal.invariant-loop-rest
invariant-loop-rest l = record {
  so_far : flat_map quartic_coefficients l.out.items ++ l.rest ≡ l.values;
  multiple : length l.rest % 4 ≡ 0;
}

abbrev pub decreases-loop-rest : goal.decreases-loop-rest
decreases-loop-rest l = length l.rest
