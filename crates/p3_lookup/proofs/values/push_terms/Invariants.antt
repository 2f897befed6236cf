use Rattle.std.proofs.Common.{map}
use Rattle.air_core.specs.Symbolic.{tree_of}
use Rattle.p3_lookup.specs.Lookup.{pair_up}
use Rattle.p3_lookup.specs.Written.{tree_count}
use Rattle.p3_lookup.specs.Honest.{terms_of}
use Rattle.p3_lookup.specs.Generated.{embedded_at}
use Rattle.p3_lookup.proofs.Added.{AreTermsAt}
use Rattle.p3_lookup.proofs.values.push_terms.Given as goal

abbrev pub invariant-loop-i : goal.invariant-loop-i
invariant-loop-i g l =
    AreTermsAt g.EF.RingCore.ring
    (terms_of g.EF.RingCore.ring l.challenges.0 l.challenges.1 (embedded_at g.F.RingCore.ring g.EF.ExtensionField.embed l.row) (pair_up (map (map tree_of) (map (λ v. v.items) l.elements)) (map tree_count l.multiplicities)))
    l.initial.terms.items l.terms.items l.i
