use Rattle.std.proofs.Common.{None, [], ◌∷◌}
use Rattle.std.proofs.Common.{slice_index_or as get_or}
use Rattle.verifier_claims.specs.ClaimChecks.{bits_listed}
use Rattle.audit_batch.specs.Asked.{always, of_each}
use Rattle.audit_batch.specs.Named.{AreNamedAfter}
use Rattle.audit_batch.proofs.claims.name_listed.Given as goal

abbrev pub invariant-loop-matrix : goal.invariant-loop-matrix
invariant-loop-matrix g l =
    AreNamedAfter l.fn.faults.items (of_each l.matrix
    (λ m. always (bits_listed (get_or l.entries (get_or l.matrices m 0) None) l.degree_bits (get_or l.matrices m 0) ∷ []))) l.faults.items
