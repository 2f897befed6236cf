use Rattle.std.proofs.Common.{◌≡◌, ℕ, ◌<◌, List, [], length, map, get_or, sym, ◌∙◌, ap, subst, arith, Vec, Global}
use Rattle.std.proofs.lemmas.List.{length-map}
use Rattle.std.specs.Prelude.{option_map}
use Rattle.p3_field.specs.Checks.{NoneFails}
use Rattle.p3_field.specs.Domain.{CosetData}
use Rattle.p3_field.specs.Field.{TwoAdic, Extension}
use Rattle.p3_lookup.specs.Written.{Written, read_all}
use Rattle.p3_lookup.specs.declared.terminal.LookupTerminal.{LookupTerminal}
use Rattle.batch_constraints.specs.BatchTrees.{AreLookupsOf}
use Rattle.batch_statement.specs.Proof.{ProofData}
use Rattle.batch_statement.specs.Statement.{AirTable, WrittenCommon, tables_of, statement_with}
use Rattle.batch_statement.specs.Verdict.{IsVerdict}
use Rattle.verifier_shape.specs.Laws.Reads.{lookups_are_tables}
use Rattle.verifier_shape.specs.ShapeChecks.{HasEntries, bounds_with, log_chunks_at, opened_checks_at}
use Rattle.verifier_identity.specs.TableIdentity.{identity_by}
use Rattle.verifier_identity.proofs.Domains.{domains_count, domains_disjoint, domains_number}
use Rattle.verifier_identity.proofs.Shape.{bits_hold, counts_hold, opened_holds}
use Rattle.verifier_identity.proofs.whole.check_identity_at.Goals as goal

pub table_at-requires-clause-publics : goal.table_at-requires-clause-publics
table_at-requires-clause-publics g c =
    let a = c.args in
    let f : TwoAdic g.row.F.Denot = record { ring = g.F.RingCore.ring; inv = g.F.FieldCore.inv; root = g.F.TwoAdicCore.root; generator = g.F.FieldCore.GENERATOR } in
    let s = statement_with (tables_of g.A.BaseAir.declaration g.A.Air.trees a.airs.now) (map (λ v. v.items) a.public_values.now) a.common.now in
    let p = a.proof.now in
    let b = bounds_with g.F.PrimeCore64.ORDER_U64 a.bounds in
    let n = length-map {B = AirTable g.row.F.Denot} a.airs.now (λ x. record { declaration = g.A.BaseAir.declaration x; trees = g.A.Air.trees x }) in
    let k = counts_hold g.row.R.Denot f.ring b s p c.requires.shape in
    let m = length-map a.public_values.now (λ (v : Vec g.row.F.Denot Global). v.items) in
    let e = k.publics in
    let l = c.requires.within in
    omega (arith, m, e, n, l)

pub table_at-requires-clause-lookups : goal.table_at-requires-clause-lookups
table_at-requires-clause-lookups g c =
    let a = c.args in
    let f : TwoAdic g.row.F.Denot = record { ring = g.F.RingCore.ring; inv = g.F.FieldCore.inv; root = g.F.TwoAdicCore.root; generator = g.F.FieldCore.GENERATOR } in
    let s = statement_with (tables_of g.A.BaseAir.declaration g.A.Air.trees a.airs.now) (map (λ v. v.items) a.public_values.now) a.common.now in
    let p = a.proof.now in
    let b = bounds_with g.F.PrimeCore64.ORDER_U64 a.bounds in
    let n = length-map {B = AirTable g.row.F.Denot} a.airs.now (λ x. record { declaration = g.A.BaseAir.declaration x; trees = g.A.Air.trees x }) in
    let k = counts_hold g.row.R.Denot f.ring b s p c.requires.shape in
    let lookups : c.deref.result.now ≡ a.common.now.lookups = c.deref.ensures.value ∙ ap (λ (w : WrittenCommon g.row.F.Denot g.row.Com.Denot). w.lookups) c.common.view_is in
    let m = ap length lookups in
    let q = length-map a.common.now.lookups (read_all {F = g.row.F.Denot}) in
    let e = k.lookups in
    let l = c.requires.within in
    omega (arith, m, q, e, n, l)

pub table_at-requires-clause-instances : goal.table_at-requires-clause-instances
table_at-requires-clause-instances g c =
    let a = c.args in
    let f : TwoAdic g.row.F.Denot = record { ring = g.F.RingCore.ring; inv = g.F.FieldCore.inv; root = g.F.TwoAdicCore.root; generator = g.F.FieldCore.GENERATOR } in
    let s = statement_with (tables_of g.A.BaseAir.declaration g.A.Air.trees a.airs.now) (map (λ v. v.items) a.public_values.now) a.common.now in
    let p = a.proof.now in
    let b = bounds_with g.F.PrimeCore64.ORDER_U64 a.bounds in
    let n = length-map {B = AirTable g.row.F.Denot} a.airs.now (λ x. record { declaration = g.A.BaseAir.declaration x; trees = g.A.Air.trees x }) in
    let k = counts_hold g.row.R.Denot f.ring b s p c.requires.shape in
    let m = ap length c.instances.ensures in
    let e = k.instances in
    let l = c.requires.within in
    omega (arith, m, e, n, l)

pub table_at-requires-clause-terminals : goal.table_at-requires-clause-terminals
table_at-requires-clause-terminals g c =
    let a = c.args in
    let f : TwoAdic g.row.F.Denot = record { ring = g.F.RingCore.ring; inv = g.F.FieldCore.inv; root = g.F.TwoAdicCore.root; generator = g.F.FieldCore.GENERATOR } in
    let s = statement_with (tables_of g.A.BaseAir.declaration g.A.Air.trees a.airs.now) (map (λ v. v.items) a.public_values.now) a.common.now in
    let p = a.proof.now in
    let b = bounds_with g.F.PrimeCore64.ORDER_U64 a.bounds in
    let n = length-map {B = AirTable g.row.F.Denot} a.airs.now (λ x. record { declaration = g.A.BaseAir.declaration x; trees = g.A.Air.trees x }) in
    let k = counts_hold g.row.R.Denot f.ring b s p c.requires.shape in
    let m = length-map c.terminals.result.now (option_map (λ (t : LookupTerminal g.row.E.Denot). t.0)) in
    let q = ap length c.terminals.ensures in
    let e = k.terminals in
    let l = c.requires.within in
    omega (arith, m, q, e, n, l)

pub table_at-requires-clause-bits : goal.table_at-requires-clause-bits
table_at-requires-clause-bits g c =
    let a = c.args in
    let f : TwoAdic g.row.F.Denot = record { ring = g.F.RingCore.ring; inv = g.F.FieldCore.inv; root = g.F.TwoAdicCore.root; generator = g.F.FieldCore.GENERATOR } in
    let s = statement_with (tables_of g.A.BaseAir.declaration g.A.Air.trees a.airs.now) (map (λ v. v.items) a.public_values.now) a.common.now in
    let p = a.proof.now in
    let b = bounds_with g.F.PrimeCore64.ORDER_U64 a.bounds in
    let n = length-map {B = AirTable g.row.F.Denot} a.airs.now (λ x. record { declaration = g.A.BaseAir.declaration x; trees = g.A.Air.trees x }) in
    let k = counts_hold g.row.R.Denot f.ring b s p c.requires.shape in
    let bits : c.deref-2.result.now ≡ a.proof.now.degree_bits = c.deref-2.ensures.value ∙ ap (λ (q : ProofData g.row.F.Denot g.row.E.Denot g.row.Com.Denot g.row.Opening.Denot). q.degree_bits) c.proof.view_is in
    let m = ap length bits in
    let e = k.degree_bits in
    let l = c.requires.within in
    omega (arith, m, e, n, l)

pub table_at-requires-clause-domains : goal.table_at-requires-clause-domains
table_at-requires-clause-domains g c =
    let a = c.args in
    let f : TwoAdic g.row.F.Denot = record { ring = g.F.RingCore.ring; inv = g.F.FieldCore.inv; root = g.F.TwoAdicCore.root; generator = g.F.FieldCore.GENERATOR } in
    let s = statement_with (tables_of g.A.BaseAir.declaration g.A.Air.trees a.airs.now) (map (λ v. v.items) a.public_values.now) a.common.now in
    let p = a.proof.now in
    let b = bounds_with g.F.PrimeCore64.ORDER_U64 a.bounds in
    let n = length-map {B = AirTable g.row.F.Denot} a.airs.now (λ x. record { declaration = g.A.BaseAir.declaration x; trees = g.A.Air.trees x }) in
    let k = counts_hold g.row.R.Denot f.ring b s p c.requires.shape in
    let bits = λ (i : ℕ). get_or p.degree_bits i 0 in
    let chunks = log_chunks_at f.ring a.bounds.masks s.tables s.common.lookups p.degree_bits in
    let domains = map (λ (v : Vec (CosetData g.row.F.Denot) Global). v.items) a.domains.now in
    let m = length-map a.domains.now (λ (v : Vec (CosetData g.row.F.Denot) Global). v.items) in
    let e = domains_number f a.bounds.masks (length a.airs.now) bits chunks domains c.requires.domains in
    let l = c.requires.within in
    omega (arith, m, e, l)

pub table_at-requires-clause-reads : goal.table_at-requires-clause-reads
table_at-requires-clause-reads g c =
    let a = c.args in
    let f : TwoAdic g.row.F.Denot = record { ring = g.F.RingCore.ring; inv = g.F.FieldCore.inv; root = g.F.TwoAdicCore.root; generator = g.F.FieldCore.GENERATOR } in
    let s = statement_with (tables_of g.A.BaseAir.declaration g.A.Air.trees a.airs.now) (map (λ v. v.items) a.public_values.now) a.common.now in
    let p = a.proof.now in
    let b = bounds_with g.F.PrimeCore64.ORDER_U64 a.bounds in
    let n = length-map {B = AirTable g.row.F.Denot} a.airs.now (λ x. record { declaration = g.A.BaseAir.declaration x; trees = g.A.Air.trees x }) in
    let k = counts_hold g.row.R.Denot f.ring b s p c.requires.shape in
    let many : length a.common.now.lookups ≡ length a.airs.now = sym (length-map a.common.now.lookups (read_all {F = g.row.F.Denot})) ∙ k.lookups ∙ n in
    let entries : HasEntries (length a.airs.now) a.common.now.preprocessed = subst (λ m. HasEntries m a.common.now.preprocessed) n k.entries in
    let all = lookups_are_tables g.A.BaseAir.declaration a.airs.now a.common.now c.requires.formed many entries a.index in
    let P : List (List (Written g.row.F.Denot)) → Type 0 =
    λ ls. (x : g.row.A.Denot) → AreLookupsOf (g.A.BaseAir.declaration (get_or a.airs.now a.index x)) (read_all (get_or ls a.index [])) in
    let same : c.deref.result.now ≡ a.common.now.lookups = c.deref.ensures.value ∙ ap (λ (w : WrittenCommon g.row.F.Denot g.row.Com.Denot). w.lookups) c.common.view_is in
    subst P (sym same) (λ x. all x c.requires.within)

pub table_at-requires-clause-shape : goal.table_at-requires-clause-shape
table_at-requires-clause-shape g c =
    let a = c.args in
    let f : TwoAdic g.row.F.Denot = record { ring = g.F.RingCore.ring; inv = g.F.FieldCore.inv; root = g.F.TwoAdicCore.root; generator = g.F.FieldCore.GENERATOR } in
    let s = statement_with (tables_of g.A.BaseAir.declaration g.A.Air.trees a.airs.now) (map (λ v. v.items) a.public_values.now) a.common.now in
    let p = a.proof.now in
    let b = bounds_with g.F.PrimeCore64.ORDER_U64 a.bounds in
    let n = length-map {B = AirTable g.row.F.Denot} a.airs.now (λ x. record { declaration = g.A.BaseAir.declaration x; trees = g.A.Air.trees x }) in
    let k = counts_hold g.row.R.Denot f.ring b s p c.requires.shape in
    let bits = λ (i : ℕ). get_or p.degree_bits i 0 in
    let chunks = log_chunks_at f.ring a.bounds.masks s.tables s.common.lookups p.degree_bits in
    let domains = map (λ (v : Vec (CosetData g.row.F.Denot) Global). v.items) a.domains.now in
    let here = opened_holds g.row.R.Denot f.ring b s p c.requires.shape a.index (subst (λ m. a.index < m) (sym n) c.requires.within) in
    let count = domains_count f a.bounds.masks (length a.airs.now) bits chunks domains c.requires.domains a.index c.requires.within in
    let lookups : c.deref.result.now ≡ a.common.now.lookups = c.deref.ensures.value ∙ ap (λ (w : WrittenCommon g.row.F.Denot g.row.Com.Denot). w.lookups) c.common.view_is in
    let many = length (get_or domains a.index []) in
    let P : ℕ → ℕ → Type 0 = λ i d. NoneFails (opened_checks_at {R = g.row.R.Denot} s.tables s.publics s.common.lookups p.instances p.lookup_terminals i d a.index) in
    let whole : P many g.E.BasedVectorSpace.DIMENSION = subst (λ d. P many d) c.requires.dimension (subst (λ i. P i a.bounds.dimension) (sym count) here) in
    subst (λ ts. NoneFails (opened_checks_at {R = g.row.R.Denot} s.tables s.publics (map (read_all {F = g.row.F.Denot}) c.deref.result.now) c.instances.result.now ts many g.E.BasedVectorSpace.DIMENSION a.index)) (sym c.terminals.ensures)
    (subst (λ is. NoneFails (opened_checks_at {R = g.row.R.Denot} s.tables s.publics (map (read_all {F = g.row.F.Denot}) c.deref.result.now) is p.lookup_terminals many g.E.BasedVectorSpace.DIMENSION a.index)) (sym c.instances.ensures)
    (subst (λ (ls : List (List (Written g.row.F.Denot))). NoneFails (opened_checks_at {R = g.row.R.Denot} s.tables s.publics (map (read_all {F = g.row.F.Denot}) ls) p.instances p.lookup_terminals many g.E.BasedVectorSpace.DIMENSION a.index)) (sym lookups) whole))

pub table_at-requires-clause-disjoint : goal.table_at-requires-clause-disjoint
table_at-requires-clause-disjoint g c =
    let a = c.args in
    let f : TwoAdic g.row.F.Denot = record { ring = g.F.RingCore.ring; inv = g.F.FieldCore.inv; root = g.F.TwoAdicCore.root; generator = g.F.FieldCore.GENERATOR } in
    let s = statement_with (tables_of g.A.BaseAir.declaration g.A.Air.trees a.airs.now) (map (λ v. v.items) a.public_values.now) a.common.now in
    let p = a.proof.now in
    let b = bounds_with g.F.PrimeCore64.ORDER_U64 a.bounds in
    let n = length-map {B = AirTable g.row.F.Denot} a.airs.now (λ x. record { declaration = g.A.BaseAir.declaration x; trees = g.A.Air.trees x }) in
    let k = counts_hold g.row.R.Denot f.ring b s p c.requires.shape in
    let bits = λ (i : ℕ). get_or p.degree_bits i 0 in
    let chunks = log_chunks_at f.ring a.bounds.masks s.tables s.common.lookups p.degree_bits in
    let domains = map (λ (v : Vec (CosetData g.row.F.Denot) Global). v.items) a.domains.now in
    let low = bits_hold g.row.R.Denot f.ring b s p c.requires.shape a.index (subst (λ m. a.index < m) (sym n) c.requires.within) in
    let masked = c.requires.masked in
    domains_disjoint f a.bounds.masks (length a.airs.now) bits chunks domains c.requires.domains g.met.F.RingCore.ring_laws g.met.F.FieldCore.field_laws g.F.TwoAdicCore.TWO_ADICITY
    g.met.F.TwoAdicCore.root_laws g.met.F.FieldCore.generator_not_zero a.index c.requires.within (omega (arith, low, masked)) (c.requires.fits a.index c.requires.within)

pub returns : goal.returns
returns g c =
    let a = c.args in
    let f : TwoAdic g.row.F.Denot = record { ring = g.F.RingCore.ring; inv = g.F.FieldCore.inv; root = g.F.TwoAdicCore.root; generator = g.F.FieldCore.GENERATOR } in
    let e : Extension g.row.F.Denot g.row.E.Denot = record { ring = g.E.RingCore.ring; embed = g.E.ExtensionField.embed; dimension = g.E.BasedVectorSpace.DIMENSION; basis = g.E.ExtensionField.basis; coefficients = g.E.BasedVectorSpace.coefficients; from_coefficients = g.E.BasedVectorSpace.from_coefficients } in
    let s = statement_with (tables_of g.A.BaseAir.declaration g.A.Air.trees a.airs.now) (map (λ v. v.items) a.public_values.now) a.common.now in
    let lookups : c.deref.result.now ≡ a.common.now.lookups = c.deref.ensures.value ∙ ap (λ (w : WrittenCommon g.row.F.Denot g.row.Com.Denot). w.lookups) c.common.view_is in
    let bits : c.deref-2.result.now ≡ a.proof.now.degree_bits = c.deref-2.ensures.value ∙ ap (λ (q : ProofData g.row.F.Denot g.row.E.Denot g.row.Com.Denot g.row.Opening.Denot). q.degree_bits) c.proof.view_is in
    subst (λ cs. IsVerdict cs c.table_at.result)
    (λ j. identity_by {R = g.row.R.Denot} f e a.bounds.masks s.tables s.publics (map (read_all {F = g.row.F.Denot}) (lookups j)) (c.instances.ensures j) (c.terminals.ensures j) (bits j)
    (map (λ v. v.items) a.challenges.now) (map (λ v. v.items) a.domains.now) a.alpha a.zeta a.index)
    c.table_at.ensures
