use Rattle.p3_lookup.specs.Written.{read_all}
use Rattle.p3_lookup.specs.Honest.{terms_from}
use Rattle.p3_lookup.specs.Generated.{embedded_at}
use Rattle.p3_lookup.proofs.Added.{AreRowTermsAt}
use Rattle.p3_lookup.proofs.generate.push_lookups.Given as goal

abbrev pub invariant-loop-i : goal.invariant-loop-i
invariant-loop-i g l =
    AreRowTermsAt g.EF.RingCore.ring (terms_from g.EF.RingCore.ring l.challenges (embedded_at g.F.RingCore.ring g.EF.ExtensionField.embed l.cells) 0 (read_all l.lookups))
    l.initial.terms.items l.terms.items l.i
