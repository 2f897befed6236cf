use Rattle.std.proofs.Common.{◌∷◌, [], refl, arith}
use Rattle.example_air.specs.Laws.Sizes.{are_tables, of_same_size}
use Rattle.p3_batch_stark_tests.proofs.example.proof_with.Goals as goal

pub prove_tables-requires : goal.prove_tables-requires
prove_tables-requires c =
    of_same_size c.in_ok-bits_trace.field-0 c.in_ok-bytes_trace.field-0 _ _ (are_tables (0 ∷ 255 ∷ 7 ∷ 128 ∷ 7 ∷ 1 ∷ 90 ∷ 7 ∷ []) _ _ c.in_ok-bits_trace.ensures c.in_ok-bytes_trace.ensures (3, refl) (omega arith))
    c.in_ok-bits.ensures.width c.in_ok-bits.ensures.height c.in_ok-times.ensures.width c.in_ok-times.ensures.height
