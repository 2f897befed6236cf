use Rattle.std.proofs.Common.{◌≡◌, ◌*◌, List, [], None, length, map, get_or, sym, ◌∙◌, ap, subst, Vec, Global}
use Rattle.std.specs.Prelude.{option_map}
use Rattle.p3_field.specs.Domain.{CosetData}
use Rattle.p3_field.specs.Field.{TwoAdic, Extension}
use Rattle.p3_lookup.specs.Lookup.{LookupData}
use Rattle.p3_lookup.specs.Written.{Written, read_all}
use Rattle.p3_lookup.specs.declared.terminal.LookupTerminal.{LookupTerminal}
use Rattle.p3_uni_stark.specs.Recombine.{AllDisjoint}
use Rattle.batch_constraints.specs.BatchTrees.{AreLookupsOf}
use Rattle.batch_statement.specs.Statement.{AirTable}
use Rattle.batch_statement.specs.Words.{no_opened, no_table}
use Rattle.batch_statement.specs.Verdict.{IsVerdict}
use Rattle.verifier_identity.specs.TableIdentity.{identity_of_table}
use Rattle.verifier_identity.proofs.Columns.{image_at, item_at}
use Rattle.verifier_identity.proofs.tables.table_at.Goals as goal

pub check_table-requires-clause-reads : goal.check_table-requires-clause-reads
check_table-requires-clause-reads g c =
    let a = c.args in
    let D = g.A.BaseAir.declaration in
    let air = c.index-airs-index.result in
    let written : get_or a.lookups.now a.index [] ≡ c.as_slice.result.now =
    sym (item_at a.lookups.now a.index [] c.index-lookups-index.result c.requires.lookups c.index-lookups-index.is) ∙ sym c.as_slice.ensures in
    let P : g.row.A.Denot → Type 0 = λ x. AreLookupsOf (D x) (read_all (get_or a.lookups.now a.index [])) in
    subst (λ (ws : List (Written g.row.F.Denot)). AreLookupsOf (D air) (read_all ws)) written (subst P (sym c.index-airs-index.is) (c.requires.reads air))

pub check_table-requires-clause-challenges : goal.check_table-requires-clause-challenges
check_table-requires-clause-challenges g c =
    let a = c.args in
    let lookups : read_all c.as_slice.result.now ≡ get_or (map (read_all {F = g.row.F.Denot}) a.lookups.now) a.index [] =
    ap read_all c.as_slice.ensures ∙ image_at read_all a.lookups.now a.index c.index-lookups-index.result [] c.requires.lookups c.index-lookups-index.is in
    let own = c.deref-2.ensures.value
    ∙ image_at (λ (v : Vec g.row.E.Denot Global). v.items) a.challenges.now a.index c.index-challenges-index.result [] c.requires.challenges c.index-challenges-index.is in
    ap length own ∙ (c.requires.pairs ∙ ap (λ (ls : List (LookupData g.row.F.Denot)). 2 * length ls) (sym lookups))

pub check_table-requires-clause-disjoint : goal.check_table-requires-clause-disjoint
check_table-requires-clause-disjoint g c =
    let f : TwoAdic g.row.F.Denot = record { ring = g.F.RingCore.ring; inv = g.F.FieldCore.inv; root = g.F.TwoAdicCore.root; generator = g.F.FieldCore.GENERATOR } in
    let a = c.args in
    let own : c.deref-3.result.now ≡ get_or (map (λ v. v.items) a.domains.now) a.index [] = c.deref-3.ensures.value
    ∙ image_at (λ (v : Vec (CosetData g.row.F.Denot) Global). v.items) a.domains.now a.index c.index-domains-index.result [] c.requires.domains c.index-domains-index.is in
    subst (AllDisjoint f) (sym own) c.requires.disjoint

pub returns : goal.returns
returns g c =
    let f : TwoAdic g.row.F.Denot = record { ring = g.F.RingCore.ring; inv = g.F.FieldCore.inv; root = g.F.TwoAdicCore.root; generator = g.F.FieldCore.GENERATOR } in
    let e : Extension g.row.F.Denot g.row.E.Denot = record { ring = g.E.RingCore.ring; embed = g.E.ExtensionField.embed; dimension = g.E.BasedVectorSpace.DIMENSION; basis = g.E.ExtensionField.basis; coefficients = g.E.BasedVectorSpace.coefficients; from_coefficients = g.E.BasedVectorSpace.from_coefficients } in
    let a = c.args in
    let i = a.index in
    let table_of : g.row.A.Denot → AirTable g.row.F.Denot = λ x. record { declaration = g.A.BaseAir.declaration x; trees = g.A.Air.trees x } in
    let table_is = image_at table_of a.airs.now i c.index-airs-index.result no_table c.requires.airs c.index-airs-index.is in
    let lookups_are : read_all c.as_slice.result.now ≡ get_or (map (read_all {F = g.row.F.Denot}) a.lookups.now) i [] =
    ap read_all c.as_slice.ensures ∙ image_at read_all a.lookups.now i c.index-lookups-index.result [] c.requires.lookups c.index-lookups-index.is in
    let publics_are = c.deref.ensures.value
    ∙ image_at (λ (v : Vec g.row.F.Denot Global). v.items) a.public_values.now i c.index-public_values-index.result [] c.requires.publics c.index-public_values-index.is in
    let challenges_are = c.deref-2.ensures.value
    ∙ image_at (λ (v : Vec g.row.E.Denot Global). v.items) a.challenges.now i c.index-challenges-index.result [] c.requires.challenges c.index-challenges-index.is in
    let domains_are = c.deref-3.ensures.value
    ∙ image_at (λ (v : Vec (CosetData g.row.F.Denot) Global). v.items) a.domains.now i c.index-domains-index.result [] c.requires.domains c.index-domains-index.is in
    let terminal_is = image_at (option_map (λ (t : LookupTerminal g.row.E.Denot). t.0)) a.terminals.now i c.index-terminals-index.result None c.requires.terminals c.index-terminals-index.is in
    let opened_is = item_at a.instances.now i no_opened c.index-instances-index.result c.requires.instances c.index-instances-index.is in
    let high_is = c.saturating_sub.ensures in
    subst (λ cs. IsVerdict cs c.check_table.result)
    (λ j. identity_of_table {R = g.row.R.Denot} f e i (high_is j) (table_is j) (lookups_are j) (publics_are j) (challenges_are j) (terminal_is j) (domains_are j) a.alpha a.zeta (opened_is j))
    c.check_table.ensures
