use Rattle.std.specs.Option.{option_map}
use Rattle.p3_lookup.specs.Written.{read_all}
use Rattle.p3_lookup.specs.Generated.{argument_over}
use Rattle.p3_lookup.proofs.Added.{AreTableTermsAt}
use Rattle.p3_lookup.proofs.generate.terms_of_table.Given as goal

abbrev pub invariant-loop-row : goal.invariant-loop-row
invariant-loop-row g l =
    let p = argument_over g.F.RingCore.ring g.EF.RingCore.ring g.EF.FieldCore.inv g.EF.ExtensionField.embed l.main (option_map (λ m. m.now) l.preprocessed) l.public_values (read_all l.lookups) l.challenges in
    AreTableTermsAt p l.terms.items l.row
