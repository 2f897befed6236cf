use Rattle.std.proofs.Common.{slice_index_or as get_or}
use Rattle.batch_statement.specs.Words.{bits_at}
use Rattle.verifier_claims.specs.ClaimChecks.{domain_by}
use Rattle.audit_batch.specs.Asked.{in_order, of_each}
use Rattle.audit_batch.specs.Named.{AreNamedAfter}
use Rattle.audit_batch.proofs.claims.name_domains.Given as goal

abbrev pub invariant-loop-index : goal.invariant-loop-index
invariant-loop-index g l =
    AreNamedAfter l.fn.faults.items (of_each l.index (λ i. in_order (domain_by i (bits_at l.degree_bits i) (get_or l.chunks i 0) l.most g.F.TwoAdicCore.TWO_ADICITY))) l.faults.items
