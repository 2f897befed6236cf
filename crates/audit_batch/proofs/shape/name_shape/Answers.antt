use Rattle.std.proofs.Common.{◌≡◌, ℕ, ◌+◌, ◌<◌, List, [], ◌++◌, length, map, get_or, sym, ◌∙◌, ap, subst, arith}
use Rattle.std.proofs.lemmas.List.{length-map}
use Rattle.p3_field.specs.Checks.{Check}
use Rattle.p3_field.specs.Poly.{tabulate}
use Rattle.p3_field.specs.Laws.Tabulate.{get_or-tabulate, length-tabulate}
use Rattle.p3_lookup.specs.Written.{Written, read_all}
use Rattle.batch_constraints.specs.BatchTrees.{AreLookupsOf}
use Rattle.batch_statement.specs.Proof.{ProofData}
use Rattle.batch_statement.specs.Statement.{AirTable, WrittenCommon, statement_with, tables_of}
use Rattle.batch_statement.specs.declared.error.BatchVerificationError.{BatchVerificationError}
use Rattle.verifier_shape.specs.ShapeChecks.{HasEntries, bounds_with, bus_bound_part, log_chunks_at, permutation_check, sizes_at}
use Rattle.verifier_shape.specs.Laws.Parts.{bits_fit, chunks_fit}
use Rattle.verifier_shape.specs.Laws.Reads.{lookups_are_tables}
use Rattle.audit_batch.specs.Asked.{Asked, always, in_order, of_each}
use Rattle.audit_batch.specs.Named.{AreNamedAfter}
use Rattle.audit_batch.specs.Laws.Naming.{no_longer_if_none, none_if_no_longer}
use Rattle.audit_batch.specs.Laws.Parts.{sized_after, uncounted_after, unsized_after}
use Rattle.audit_batch.specs.Laws.Shape.{asked_agree, chunks_found, counts_of_shape, sizes_named, sizes_of_shape}
use Rattle.audit_batch.specs.Shape.{opened_asked, opened_asked_by, shape_parts}
use Rattle.audit_batch.proofs.shape.name_shape.Goals as goal

pub returns-then-not-counted-clause-named : goal.returns-then-not-counted-clause-named
returns-then-not-counted-clause-named g c =
    let a = c.args in
    let s = statement_with (tables_of g.A.BaseAir.declaration g.A.Air.trees a.airs.now) (map (λ v. v.items) a.public_values.now) a.common.now in
    uncounted_after (shape_parts g.F.RingCore.ring (bounds_with g.F.PrimeCore64.ORDER_U64 a.bounds) s a.proof.now) _ _
    (λ h. let t = c.in_ok-counted.ensures.counted.1 h in let f = c.if-not-counted.true in cc) c.in_ok-counted.ensures.named

pub returns-then-not-counted-clause-chunks : goal.returns-then-not-counted-clause-chunks
returns-then-not-counted-clause-chunks g c = λ h.
    let a = c.args in
    let s = statement_with (tables_of g.A.BaseAir.declaration g.A.Air.trees a.airs.now) (map (λ v. v.items) a.public_values.now) a.common.now in
    let t = c.in_ok-counted.ensures.counted.1 (counts_of_shape g.row.R.Denot g.F.RingCore.ring (bounds_with g.F.PrimeCore64.ORDER_U64 a.bounds) s a.proof.now h) in
    let f = c.if-not-counted.true in cc

pub name_sizes-requires-clause-reads : goal.name_sizes-requires-clause-reads
name_sizes-requires-clause-reads g c =
    let a = c.args in
    let D = g.A.BaseAir.declaration in
    let n = length-map {B = AirTable g.row.F.Denot} a.airs.now (λ x. record { declaration = D x; trees = g.A.Air.trees x }) in
    let k = c.in_ok-counted.ensures.counted.0 c.if-not-counted.false in
    let many : length a.common.now.lookups ≡ length a.airs.now = sym (length-map a.common.now.lookups (read_all {F = g.row.F.Denot})) ∙ k.lookups ∙ n in
    let entries : HasEntries (length a.airs.now) a.common.now.preprocessed = subst (λ m. HasEntries m a.common.now.preprocessed) n k.entries in
    let all = lookups_are_tables D a.airs.now a.common.now c.requires.formed many entries in
    let P : List (List (Written g.row.F.Denot)) → Type 0 =
    λ ls. (i : ℕ) (x : g.row.A.Denot) → i < length a.airs.now → AreLookupsOf (D (get_or a.airs.now i x)) (read_all (get_or ls i [])) in
    let same : c.deref.result.now ≡ a.common.now.lookups = c.deref.ensures.value ∙ ap (λ (w : WrittenCommon g.row.F.Denot g.row.Com.Denot). w.lookups) c.common.view_is in
    subst P (sym same) all

pub returns-then-len-before-clause-named : goal.returns-then-len-before-clause-named
returns-then-len-before-clause-named g c =
    let a = c.args in
    let f = g.F.RingCore.ring in
    let s = statement_with (tables_of g.A.BaseAir.declaration g.A.Air.trees a.airs.now) (map (λ v. v.items) a.public_values.now) a.common.now in
    let p = a.proof.now in
    let n = sym (length-map {B = AirTable g.row.F.Denot} a.airs.now (λ x. record { declaration = g.A.BaseAir.declaration x; trees = g.A.Air.trees x })) in
    let same : c.deref.result.now ≡ a.common.now.lookups = c.deref.ensures.value ∙ ap (λ (w : WrittenCommon g.row.F.Denot g.row.Com.Denot). w.lookups) c.common.view_is in
    let lists = ap (map (read_all {F = g.row.F.Denot})) same in
    let bits : c.deref-2.result.now ≡ p.degree_bits = c.deref-2.ensures.value ∙ ap (λ (q : ProofData g.row.F.Denot g.row.E.Denot g.row.Com.Denot g.row.Opening.Denot). q.degree_bits) c.proof.view_is in
    let size : ℕ → List (Check (BatchVerificationError g.row.R.Denot)) = sizes_at f a.bounds.least a.bounds.most a.bounds.masks s.tables s.common.lookups p.degree_bits in
    let sizes = sizes_named g.row.R.Denot f a.bounds.least a.bounds.most a.bounds.masks s.tables (length a.airs.now) (length s.tables) (map (read_all {F = g.row.F.Denot}) c.deref.result.now) s.common.lookups
    c.deref-2.result.now p.degree_bits n lists bits c.name_counts.new.faults.items c.name_sizes.new.faults.items c.in_ok-chunks.ensures.named in
    unsized_after (shape_parts f (bounds_with g.F.PrimeCore64.ORDER_U64 a.bounds) s p) a.faults.now.items c.name_counts.new.faults.items c.name_sizes.new.faults.items (c.in_ok-counted.ensures.counted.0 c.if-not-counted.false)
    (λ h. let k = no_longer_if_none (length s.tables) size c.name_counts.new.faults.items c.name_sizes.new.faults.items sizes h in
    c.if-len-before.true (omega (arith, k, c.len.ensures, c.len-before.ensures, c.name_sizes.new.faults.ok.0, c.name_counts.new.faults.ok.0)))
    c.in_ok-counted.ensures.named sizes

pub returns-then-len-before-clause-chunks : goal.returns-then-len-before-clause-chunks
returns-then-len-before-clause-chunks g c = λ h.
    let a = c.args in
    let f = g.F.RingCore.ring in
    let s = statement_with (tables_of g.A.BaseAir.declaration g.A.Air.trees a.airs.now) (map (λ v. v.items) a.public_values.now) a.common.now in
    let p = a.proof.now in
    let n = sym (length-map {B = AirTable g.row.F.Denot} a.airs.now (λ x. record { declaration = g.A.BaseAir.declaration x; trees = g.A.Air.trees x })) in
    let same : c.deref.result.now ≡ a.common.now.lookups = c.deref.ensures.value ∙ ap (λ (w : WrittenCommon g.row.F.Denot g.row.Com.Denot). w.lookups) c.common.view_is in
    let lists = ap (map (read_all {F = g.row.F.Denot})) same in
    let bits : c.deref-2.result.now ≡ p.degree_bits = c.deref-2.ensures.value ∙ ap (λ (q : ProofData g.row.F.Denot g.row.E.Denot g.row.Com.Denot g.row.Opening.Denot). q.degree_bits) c.proof.view_is in
    let found = chunks_found g.row.R.Denot f a.bounds.least a.bounds.most a.bounds.masks s.tables (length a.airs.now) (length s.tables) (map (read_all {F = g.row.F.Denot}) c.deref.result.now) s.common.lookups
    c.deref-2.result.now p.degree_bits n lists bits c.in_ok-chunks.chunks.items c.in_ok-chunks.ensures.chunks in
    found (sizes_of_shape g.row.R.Denot f (bounds_with g.F.PrimeCore64.ORDER_U64 a.bounds) s p h)
    ∙ ap (λ k. tabulate k (log_chunks_at f a.bounds.masks s.tables s.common.lookups p.degree_bits)) (sym n)

pub name_sized-requires-clause-bits : goal.name_sized-requires-clause-bits
name_sized-requires-clause-bits g c = λ i l.
    let a = c.args in
    let f = g.F.RingCore.ring in
    let s = statement_with (tables_of g.A.BaseAir.declaration g.A.Air.trees a.airs.now) (map (λ v. v.items) a.public_values.now) a.common.now in
    let p = a.proof.now in
    let n = sym (length-map {B = AirTable g.row.F.Denot} a.airs.now (λ x. record { declaration = g.A.BaseAir.declaration x; trees = g.A.Air.trees x })) in
    let same : c.deref.result.now ≡ a.common.now.lookups = c.deref.ensures.value ∙ ap (λ (w : WrittenCommon g.row.F.Denot g.row.Com.Denot). w.lookups) c.common.view_is in
    let lists = ap (map (read_all {F = g.row.F.Denot})) same in
    let bits : c.deref-2.result.now ≡ p.degree_bits = c.deref-2.ensures.value ∙ ap (λ (q : ProofData g.row.F.Denot g.row.E.Denot g.row.Com.Denot g.row.Opening.Denot). q.degree_bits) c.proof.view_is in
    let size : ℕ → List (Check (BatchVerificationError g.row.R.Denot)) = sizes_at f a.bounds.least a.bounds.most a.bounds.masks s.tables s.common.lookups p.degree_bits in
    let sizes = sizes_named g.row.R.Denot f a.bounds.least a.bounds.most a.bounds.masks s.tables (length a.airs.now) (length s.tables) (map (read_all {F = g.row.F.Denot}) c.deref.result.now) s.common.lookups
    c.deref-2.result.now p.degree_bits n lists bits c.name_counts.new.faults.items c.name_sizes.new.faults.items c.in_ok-chunks.ensures.named in
    let none = none_if_no_longer (length s.tables) size c.name_counts.new.faults.items c.name_sizes.new.faults.items sizes
    (omega (arith, c.if-len-before.false, c.len.ensures, c.len-before.ensures, c.name_sizes.new.faults.ok.0, c.name_counts.new.faults.ok.0)) in
    let low = bits_fit g.row.R.Denot f a.bounds.least a.bounds.most a.bounds.masks s.tables s.common.lookups p.degree_bits (length s.tables) i (subst (λ m. i < m) n l) none in
    let most = c.requires.fits in
    omega (arith, low, most)

pub name_sized-requires-clause-chunks : goal.name_sized-requires-clause-chunks
name_sized-requires-clause-chunks g c =
    let a = c.args in
    let f = g.F.RingCore.ring in
    let s = statement_with (tables_of g.A.BaseAir.declaration g.A.Air.trees a.airs.now) (map (λ v. v.items) a.public_values.now) a.common.now in
    let p = a.proof.now in
    let n = sym (length-map {B = AirTable g.row.F.Denot} a.airs.now (λ x. record { declaration = g.A.BaseAir.declaration x; trees = g.A.Air.trees x })) in
    let same : c.deref.result.now ≡ a.common.now.lookups = c.deref.ensures.value ∙ ap (λ (w : WrittenCommon g.row.F.Denot g.row.Com.Denot). w.lookups) c.common.view_is in
    let lists = ap (map (read_all {F = g.row.F.Denot})) same in
    let bits : c.deref-2.result.now ≡ p.degree_bits = c.deref-2.ensures.value ∙ ap (λ (q : ProofData g.row.F.Denot g.row.E.Denot g.row.Com.Denot g.row.Opening.Denot). q.degree_bits) c.proof.view_is in
    let size : ℕ → List (Check (BatchVerificationError g.row.R.Denot)) = sizes_at f a.bounds.least a.bounds.most a.bounds.masks s.tables s.common.lookups p.degree_bits in
    let sizes = sizes_named g.row.R.Denot f a.bounds.least a.bounds.most a.bounds.masks s.tables (length a.airs.now) (length s.tables) (map (read_all {F = g.row.F.Denot}) c.deref.result.now) s.common.lookups
    c.deref-2.result.now p.degree_bits n lists bits c.name_counts.new.faults.items c.name_sizes.new.faults.items c.in_ok-chunks.ensures.named in
    let none = none_if_no_longer (length s.tables) size c.name_counts.new.faults.items c.name_sizes.new.faults.items sizes
    (omega (arith, c.if-len-before.false, c.len.ensures, c.len-before.ensures, c.name_sizes.new.faults.ok.0, c.name_counts.new.faults.ok.0)) in
    let found = chunks_found g.row.R.Denot f a.bounds.least a.bounds.most a.bounds.masks s.tables (length a.airs.now) (length s.tables) (map (read_all {F = g.row.F.Denot}) c.deref.result.now) s.common.lookups
    c.deref-2.result.now p.degree_bits n lists bits c.in_ok-chunks.chunks.items c.in_ok-chunks.ensures.chunks in
    ap length (c.deref-3.ensures.value ∙ found none)
    ∙ length-tabulate (length s.tables) (log_chunks_at f a.bounds.masks s.tables s.common.lookups p.degree_bits) ∙ sym n

pub name_sized-requires-clause-fits : goal.name_sized-requires-clause-fits
name_sized-requires-clause-fits g c = λ i l.
    let a = c.args in
    let f = g.F.RingCore.ring in
    let s = statement_with (tables_of g.A.BaseAir.declaration g.A.Air.trees a.airs.now) (map (λ v. v.items) a.public_values.now) a.common.now in
    let p = a.proof.now in
    let n = sym (length-map {B = AirTable g.row.F.Denot} a.airs.now (λ x. record { declaration = g.A.BaseAir.declaration x; trees = g.A.Air.trees x })) in
    let same : c.deref.result.now ≡ a.common.now.lookups = c.deref.ensures.value ∙ ap (λ (w : WrittenCommon g.row.F.Denot g.row.Com.Denot). w.lookups) c.common.view_is in
    let lists = ap (map (read_all {F = g.row.F.Denot})) same in
    let bits : c.deref-2.result.now ≡ p.degree_bits = c.deref-2.ensures.value ∙ ap (λ (q : ProofData g.row.F.Denot g.row.E.Denot g.row.Com.Denot g.row.Opening.Denot). q.degree_bits) c.proof.view_is in
    let size : ℕ → List (Check (BatchVerificationError g.row.R.Denot)) = sizes_at f a.bounds.least a.bounds.most a.bounds.masks s.tables s.common.lookups p.degree_bits in
    let sizes = sizes_named g.row.R.Denot f a.bounds.least a.bounds.most a.bounds.masks s.tables (length a.airs.now) (length s.tables) (map (read_all {F = g.row.F.Denot}) c.deref.result.now) s.common.lookups
    c.deref-2.result.now p.degree_bits n lists bits c.name_counts.new.faults.items c.name_sizes.new.faults.items c.in_ok-chunks.ensures.named in
    let none = none_if_no_longer (length s.tables) size c.name_counts.new.faults.items c.name_sizes.new.faults.items sizes
    (omega (arith, c.if-len-before.false, c.len.ensures, c.len-before.ensures, c.name_sizes.new.faults.ok.0, c.name_counts.new.faults.ok.0)) in
    let found = chunks_found g.row.R.Denot f a.bounds.least a.bounds.most a.bounds.masks s.tables (length a.airs.now) (length s.tables) (map (read_all {F = g.row.F.Denot}) c.deref.result.now) s.common.lookups
    c.deref-2.result.now p.degree_bits n lists bits c.in_ok-chunks.chunks.items c.in_ok-chunks.ensures.chunks in
    let counts = log_chunks_at f a.bounds.masks s.tables s.common.lookups p.degree_bits in
    let within : i < length s.tables = subst (λ m. i < m) n l in
    subst (λ k. k + a.bounds.masks < 64)
    (sym (ap (λ xs. get_or xs i 0) (c.deref-3.ensures.value ∙ found none) ∙ get_or-tabulate (length s.tables) counts i 0 within))
    (chunks_fit g.row.R.Denot f a.bounds.least a.bounds.most a.bounds.masks s.tables s.common.lookups p.degree_bits (length s.tables) i within none)

pub returns-clause-named : goal.returns-clause-named
returns-clause-named g c =
    let a = c.args in
    let f = g.F.RingCore.ring in
    let s = statement_with (tables_of g.A.BaseAir.declaration g.A.Air.trees a.airs.now) (map (λ v. v.items) a.public_values.now) a.common.now in
    let p = a.proof.now in
    let n = sym (length-map {B = AirTable g.row.F.Denot} a.airs.now (λ x. record { declaration = g.A.BaseAir.declaration x; trees = g.A.Air.trees x })) in
    let same : c.deref.result.now ≡ a.common.now.lookups = c.deref.ensures.value ∙ ap (λ (w : WrittenCommon g.row.F.Denot g.row.Com.Denot). w.lookups) c.common.view_is in
    let lists = ap (map (read_all {F = g.row.F.Denot})) same in
    let bits : c.deref-2.result.now ≡ p.degree_bits = c.deref-2.ensures.value ∙ ap (λ (q : ProofData g.row.F.Denot g.row.E.Denot g.row.Com.Denot g.row.Opening.Denot). q.degree_bits) c.proof.view_is in
    let size : ℕ → List (Check (BatchVerificationError g.row.R.Denot)) = sizes_at f a.bounds.least a.bounds.most a.bounds.masks s.tables s.common.lookups p.degree_bits in
    let sizes = sizes_named g.row.R.Denot f a.bounds.least a.bounds.most a.bounds.masks s.tables (length a.airs.now) (length s.tables) (map (read_all {F = g.row.F.Denot}) c.deref.result.now) s.common.lookups
    c.deref-2.result.now p.degree_bits n lists bits c.name_counts.new.faults.items c.name_sizes.new.faults.items c.in_ok-chunks.ensures.named in
    let none = none_if_no_longer (length s.tables) size c.name_counts.new.faults.items c.name_sizes.new.faults.items sizes
    (omega (arith, c.if-len-before.false, c.len.ensures, c.len-before.ensures, c.name_sizes.new.faults.ok.0, c.name_counts.new.faults.ok.0)) in
    let found = chunks_found g.row.R.Denot f a.bounds.least a.bounds.most a.bounds.masks s.tables (length a.airs.now) (length s.tables) (map (read_all {F = g.row.F.Denot}) c.deref.result.now) s.common.lookups
    c.deref-2.result.now p.degree_bits n lists bits c.in_ok-chunks.chunks.items c.in_ok-chunks.ensures.chunks in
    let b = bounds_with g.F.PrimeCore64.ORDER_U64 a.bounds in
    let right = c.deref-3.ensures.value ∙ found none in
    let by : ℕ → List (Asked (BatchVerificationError g.row.R.Denot)) = opened_asked_by s.tables s.publics s.common.lookups p.instances p.lookup_terminals c.deref-3.result.now a.bounds.masks a.bounds.dimension in
    let bus : List (Asked (BatchVerificationError g.row.R.Denot)) = in_order (bus_bound_part b s p) in
    let last : List (Asked (BatchVerificationError g.row.R.Denot)) = always (permutation_check s p) in
    let opened : of_each (length a.airs.now) by ≡ of_each (length s.tables) (opened_asked f b s p) =
    ap (λ k. of_each k by) n ∙ asked_agree g.row.R.Denot f b s p c.deref-3.result.now right in
    sized_after (shape_parts f b s p) a.faults.now.items c.name_counts.new.faults.items c.name_sizes.new.faults.items c.name_sized.new.faults.items
    (c.in_ok-counted.ensures.counted.0 c.if-not-counted.false) none c.in_ok-counted.ensures.named sizes
    (subst (λ qs. AreNamedAfter c.name_sizes.new.faults.items (bus ++ qs ++ last) c.name_sized.new.faults.items) opened c.in_ok-name_sized.ensures)

pub returns-clause-chunks : goal.returns-clause-chunks
returns-clause-chunks g c = λ h.
    let a = c.args in
    let f = g.F.RingCore.ring in
    let s = statement_with (tables_of g.A.BaseAir.declaration g.A.Air.trees a.airs.now) (map (λ v. v.items) a.public_values.now) a.common.now in
    let p = a.proof.now in
    let n = sym (length-map {B = AirTable g.row.F.Denot} a.airs.now (λ x. record { declaration = g.A.BaseAir.declaration x; trees = g.A.Air.trees x })) in
    let same : c.deref.result.now ≡ a.common.now.lookups = c.deref.ensures.value ∙ ap (λ (w : WrittenCommon g.row.F.Denot g.row.Com.Denot). w.lookups) c.common.view_is in
    let lists = ap (map (read_all {F = g.row.F.Denot})) same in
    let bits : c.deref-2.result.now ≡ p.degree_bits = c.deref-2.ensures.value ∙ ap (λ (q : ProofData g.row.F.Denot g.row.E.Denot g.row.Com.Denot g.row.Opening.Denot). q.degree_bits) c.proof.view_is in
    let found = chunks_found g.row.R.Denot f a.bounds.least a.bounds.most a.bounds.masks s.tables (length a.airs.now) (length s.tables) (map (read_all {F = g.row.F.Denot}) c.deref.result.now) s.common.lookups
    c.deref-2.result.now p.degree_bits n lists bits c.in_ok-chunks.chunks.items c.in_ok-chunks.ensures.chunks in
    found (sizes_of_shape g.row.R.Denot f (bounds_with g.F.PrimeCore64.ORDER_U64 a.bounds) s p h)
    ∙ ap (λ k. tabulate k (log_chunks_at f a.bounds.masks s.tables s.common.lookups p.degree_bits)) (sym n)
