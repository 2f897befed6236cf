use Rattle.std.proofs.Common.{◌≡◌, ℕ, ◌<◌, List, sym, subst, arith}
use Rattle.std.specs.Option.{option_map}
use Rattle.std.proofs.lemmas.Result.{err_from_is_err_and}
use Rattle.p3_matrix.specs.Matrix.{height}
use Rattle.p3_lookup.specs.Term.{Term}
use Rattle.p3_lookup.specs.Written.{read_all}
use Rattle.p3_lookup.specs.Generated.{argument_over}
use Rattle.p3_lookup.proofs.Added.{AreTableTermsAt, table_start, tabulate_more, table_fault}
use Rattle.p3_lookup.proofs.generate.terms_of_table.Goals as goal

pub loop-row-init : goal.loop-row-init
loop-row-init g c =
    let p = argument_over g.F.RingCore.ring g.EF.RingCore.ring g.EF.FieldCore.inv g.EF.ExtensionField.embed c.args.main.now (option_map (λ m. m.now) c.args.preprocessed) c.args.public_values.now (read_all c.args.lookups.now) c.args.challenges.now in
    subst (λ (l : List (Term g.row.EF.Denot)). AreTableTermsAt p l 0) (sym c.new-terms.ensures.items) (table_start p)

pub returns-in_err-push_row_terms : goal.returns-in_err-push_row_terms
returns-in_err-push_row_terms g c =
    let p = argument_over g.F.RingCore.ring g.EF.RingCore.ring g.EF.FieldCore.inv g.EF.ExtensionField.embed c.args.main.now (option_map (λ m. m.now) c.args.preprocessed) c.args.public_values.now (read_all c.args.lookups.now) c.args.challenges.now in
    let within : c.loop-row.row < height c.args.main.now = omega (arith, c.height-row-end.ensures.result) in
    let e = c.in_err-push_row_terms.field-0.0 in
    let f = table_fault p c.loop-row.row c.loop-row.terms.items c.loop-row.invariant (height c.args.main.now) c.loop-row.terms.items c.push_row_terms.new.terms.items e within c.in_err-push_row_terms.ensures in
    let q = err_from_is_err_and c.from_residual.result c.from_residual.ensures.1 in rw (q.1, q.2) f

pub loop-row-preserved : goal.loop-row-preserved
loop-row-preserved g c =
    let p = argument_over g.F.RingCore.ring g.EF.RingCore.ring g.EF.FieldCore.inv g.EF.ExtensionField.embed c.args.main.now (option_map (λ m. m.now) c.args.preprocessed) c.args.public_values.now (read_all c.args.lookups.now) c.args.challenges.now in
    let told = c.in_ok-push_row_terms.ensures in
    tabulate_more p c.loop-row.row c.loop-row.terms.items c.loop-row.invariant c.push_row_terms.new.terms.items told.0 told.1

pub returns : goal.returns
returns g c =
    let p = argument_over g.F.RingCore.ring g.EF.RingCore.ring g.EF.FieldCore.inv g.EF.ExtensionField.embed c.args.main.now (option_map (λ m. m.now) c.args.preprocessed) c.args.public_values.now (read_all c.args.lookups.now) c.args.challenges.now in
    let end : c.loop-row.row ≡ height c.args.main.now = omega (arith, c.height-row-end.ensures.result) in
    let s = subst (λ (k : ℕ). AreTableTermsAt p c.loop-row.terms.items k) end c.loop-row.invariant in
    (s.items, s.nonzero)
