use Rattle.std.proofs.Common.{[], subst, refl}
use Rattle.std.specs.Option.{option_map}
use Rattle.air_core.specs.RowCheck.{Row}
use Rattle.air_core.specs.Check.{table_traces}
use Rattle.air_core.specs.Laws.RowOf.{row_is}
use Rattle.p3_lookup.specs.Written.{read_all}
use Rattle.p3_lookup.specs.Honest.{terms_from}
use Rattle.p3_lookup.specs.RowTerms.{AreRowTermsAdded}
use Rattle.p3_lookup.specs.Generated.{embedded_at}
use Rattle.p3_lookup.proofs.generate.push_row_terms.Goals as goal

pub returns : goal.returns
returns g c =
    let f = g.F.RingCore.ring in
    let r = g.EF.RingCore.ring in
    let ls = read_all c.args.lookups.now in
    let ch = c.args.challenges.now in
    let table = table_traces c.args.main.now (option_map (λ m. m.now) c.args.preprocessed) [] c.args.public_values.now in
    let row = row_is f.zero table c.args.row c.height-height.result c.row.result.now c.row-2.result.now c.preprocessed_at.result.now c.preprocessed_at-2.result.now []
    c.height-height.ensures.result c.row.ensures.values c.row-2.ensures.values c.preprocessed_at.ensures.values c.preprocessed_at-2.ensures.values refl in
    subst (λ (w : Row g.row.F.Denot g.row.F.Denot). AreRowTermsAdded r (terms_from r ch (embedded_at f g.EF.ExtensionField.embed w) 0 ls) c.args.row c.args.terms.now.items c.push_lookups.new.terms.items c.push_lookups.result)
    row c.push_lookups.ensures
