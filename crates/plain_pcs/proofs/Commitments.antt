-- What commitments and their prover kept hold.
use Rattle.std.proofs.Common.{◌≡◌, ℕ, ◌+◌, ◌^◌, ◌<◌, ◌≤◌, List, [], Some, length, get_or, map, refl, sym, ◌∙◌, ap, subst, arith}
use Rattle.std.specs.Prelude.{slice_get, Result, Ok, Err, IfOk}
use Rattle.std.specs.List.{All}
use Rattle.std.proofs.lemmas.List.{ext_get_or}
use Rattle.std.proofs.lemmas.Option.{slice_get-get_or, get_or_from_slice_get}
use Rattle.p3_field.specs.Ring.{Ring, RingLaws}
use Rattle.p3_field.specs.Field.{FieldLaws, TwoAdicLaws}
use Rattle.p3_field.specs.Domain.{CosetData, point, IsInterpolant}
use Rattle.p3_matrix.specs.Matrix.{Rows, height, column}
use Rattle.p3_matrix.specs.Laws.Cells.{length-column}
use Rattle.p3_matrix.specs.Laws.Powers.{power_cancel}
use Rattle.p3_dft.specs.Transform.{values_at}
use Rattle.p3_dft.specs.Laws.Values.{length-values_at, get_or-values_at}
use Rattle.commit_core.specs.Failure.{NoneOf, RefusedBy}
use Rattle.commit_core.specs.declared.failure.PcsFailure.{PcsFailure}
use Rattle.commit_core.specs.declared.failure.PcsFailure.TheVariants.{OutOfMemory, Refused}
use Rattle.commit_core.specs.Commitments.{Committed, IsCommitted, IsCommitment, AreExtensions}
use Rattle.commit_core.specs.Periodic.{EachFrom}
use Rattle.p3_matrix.specs.Laws.Cells.{width_positive}
use Rattle.plain_pcs.specs.Scheme.{Scheme, PlainCommitmentData}
use Rattle.plain_pcs.specs.Extension.{extended_domain, extension_of, commitment_of, IsCommittable, Extends}
use Rattle.plain_pcs.specs.Holding.{IsMade, IsHolding, AreHolding}
use Rattle.plain_pcs.specs.Refusals.{CommitFault, ExtensionsFault, HasSubgroupHeight, IfOutOfMemory}
use Rattle.plain_pcs.specs.declared.error.PlainProverError.{PlainProverError}
use Rattle.plain_pcs.specs.declared.error.PlainProverError.TheVariants.{Commit, Open}
use Rattle.plain_pcs.specs.Cosets.{IsOnCoset}
use Rattle.plain_pcs.specs.Laws.Extensions.{polynomials, length-polynomials, get_or-polynomials, is_interpolant, width-extension, height-extension, extended_height, column-extension}
use Rattle.plain_pcs.specs.Laws.Listed.{item_at, item_has}
use Rattle.plain_pcs.proofs.Lists.{none_first, each_is_map, each_mapped, each_zipped}

-- a column is the values of its interpolant
pub values_of_interpolant : {A : Type 0} (r : Ring A) (p : ℕ → A) (n : ℕ) (v f : List A) → length v ≡ n → IsInterpolant r p v f → v ≡ values_at r p n f
values_of_interpolant r p n v f size I =
    ext_get_or r.zero v (values_at r p n f) (size ∙ sym (length-values_at r p n f))
    (λ i b. sym (I.value_is i b) ∙ sym (get_or-values_at r p n f i r.zero (omega arith)))

-- what holds anyway, holds where memory runs out
pub if_out_of_memory : {T E : Type 0} (r : Result T (PcsFailure E)) (P : Type 0) → P → IfOutOfMemory r P
if_out_of_memory (Ok w) P p = tt
if_out_of_memory (Err OutOfMemory) P p = p
if_out_of_memory (Err (Refused e)) P p = tt

-- where all matrices can be committed to, there is no cause to refuse
pub no_commit_fault : {F : Type 0} (s : Scheme F) (xs : List (CosetData F × Rows F)) → All (λ e. IsCommittable s e.0 e.1) xs → NoneOf (CommitFault s xs)
no_commit_fault s xs all (Commit i) f = none_first (λ e. IsCommittable s e.0 e.1) xs i all f
no_commit_fault s xs all (Open i) f = f

-- what holds of an answer that is Ok holds of what follows from it
pub if_ok_of : {T E : Type 0} (r : Result T E) (P Q : T → Type 0) → IfOk r P → ((w : T) → P w → Q w) → IfOk r Q
if_ok_of (Ok w) P Q p f = f w p
if_ok_of (Err e) P Q p f = tt

pub no_height_fault : {F : Type 0} (s : Scheme F) (xs : List (Rows F)) → All (HasSubgroupHeight s.most) xs → NoneOf (ExtensionsFault s xs)
no_height_fault s xs all (Commit i) f = none_first (HasSubgroupHeight s.most) xs i all f
no_height_fault s xs all (Open i) f = f

-- matrices with the cosets of their heights are prover data
pub cosets_made : {F : Type 0} (g : F) (top : ℕ) (ms : List (Rows F)) (kept : List (CosetData F × Rows F)) → All (HasSubgroupHeight top) ms → EachFrom ms kept (λ m e. IsOnCoset g m e) → IsMade kept
cosets_made {F} g top ms kept all E = λ k d b.
    let e = get_or kept k d in
    let (m, q) = item_at ms k (omega (arith, E.count)) in
    let on : IsOnCoset g m e = E.each k e (slice_get-get_or kept k d b) m q in
    let (n, low, size) = item_has (HasSubgroupHeight top) ms k m all q in
    let wide : 0 < m.width = width_positive m (n, size) in
    (subst (λ (v : Rows F). 0 < v.width) (sym on.matrix_is) wide, ap (λ (v : Rows F). height v) on.matrix_is ∙ on.height_is)

module _ {F : Type 0} (s : Scheme F) where
  -- what is held of a matrix on a domain
  abbrev pub opened_commitments_of : CosetData F × Rows F → Committed F
  opened_commitments_of e = record { size = 2 ^ e.0.log_size; polynomials = polynomials s e.0 e.1 }

  coset_is : (d : CosetData F) (g : F) (n : ℕ) → d.shift ≡ g → d.log_size ≡ n → d ≡ record { shift = g; log_size = n }
  coset_is d g n e f = ap (λ a. let c : CosetData F = record { shift = a; log_size = d.log_size } in c) e ∙ ap (λ k. let c : CosetData F = record { shift = g; log_size = k } in c) f

  pair_is : {X Y : Type 0} (p : X × Y) (x : X) (y : Y) → p.0 ≡ x → p.1 ≡ y → p ≡ (x, y)
  pair_is {X} {Y} p x y e f = ap (λ a. let q : X × Y = (a, p.1) in q) e ∙ ap (λ b. let q : X × Y = (x, b) in q) f

  module _ (L : RingLaws s.field.ring) (W : FieldLaws s.field.ring s.field.inv) (T : TwoAdicLaws s.field.ring s.most s.field.root) where
    interpolates : (d : CosetData F) (m l : Rows F) → Extends s d m l → (j : ℕ) → j < m.width
        → IsInterpolant s.field.ring (point s.field.ring s.field.root d) (column s.field.ring.zero m j) (get_or (polynomials s d m) j [])
    interpolates d m l E j b =
        let r = s.field.ring in
        let low : d.log_size ≤ s.most = omega (arith, E.committable.fits) in
        subst (λ (f : List F). IsInterpolant r (point r s.field.root d) (column r.zero m j) f) (sym (get_or-polynomials s d m j b))
        (is_interpolant s L W T d (column r.zero m j) low E.shift_not_zero (length-column r.zero m j ∙ E.committable.height_is))

    lengths_are : (d : CosetData F) (m l : Rows F) → Extends s d m l → All (λ f. length f ≡ 2 ^ d.log_size) (polynomials s d m)
    lengths_are d m l E = λ j f b.
        let fs = polynomials s d m in
        let inside : j < m.width = omega (arith, length-polynomials s d m) in
        let same : get_or fs j [] ≡ get_or fs j f = get_or_from_slice_get fs j (get_or fs j f) [] (slice_get-get_or fs j f b) in
        let I = interpolates d m l E j inside in
        ap length (sym same) ∙ (I.length_is ∙ (length-column s.field.ring.zero m j ∙ E.committable.height_is))

    pub is_committed : (d : CosetData F) (m l : Rows F) → Extends s d m l → IsCommitted s.field.ring (2 ^ d.log_size) (point s.field.ring s.field.root d) m (opened_commitments_of (d, m))
    is_committed d m l E = record {
      size_is = refl;
      count = length-polynomials s d m;
      height_is = λ b. E.committable.height_is;
      each = λ j b. interpolates d m l E j b;
    }

    -- prover data that holds the extension
    holding_whole : (d : CosetData F) (m l : Rows F) → Extends s d m l → IsHolding s (extended_domain s d.log_size, extension_of s d m) l (opened_commitments_of (d, m))
    unfolding extension_of
    holding_whole d m l E = record {
      log_size = d.log_size;
      size_is = refl;
      fits = E.committable.fits;
      larger = refl;
      count = length-polynomials s d m ∙ sym (width-extension s L W T d m E.committable);
      lengths = lengths_are d m l E;
      values_are = λ j b. column-extension s L W T d m E.committable j (omega (arith, width-extension s L W T d m E.committable));
      extension_is = E.extension_is;
    }

    pub holding_extension : (d : CosetData F) (m l : Rows F) (e : CosetData F × Rows F) → Extends s d m l → IsOnCoset s.field.generator l e → IsHolding s e l (opened_commitments_of (d, m))
    holding_extension d m l e E on =
        let n = d.log_size + s.log_blowup in
        let high : height l ≡ 2 ^ n = ap (λ (v : Rows F). height v) E.extension_is ∙ height-extension s L W T d m E.committable in
        let log : e.0.log_size ≡ n = power_cancel e.0.log_size n (sym on.height_is ∙ high) in
        let domain : e.0 ≡ extended_domain s d.log_size = coset_is e.0 s.field.generator n on.shift_is log in
        let matrix : e.1 ≡ extension_of s d m = on.matrix_is ∙ E.extension_is in
        let same : e ≡ (extended_domain s d.log_size, extension_of s d m) = pair_is e (extended_domain s d.log_size) (extension_of s d m) domain matrix in
        subst (λ (p : CosetData F × Rows F). IsHolding s p l (opened_commitments_of (d, m))) (sym same) (holding_whole d m l E)

    -- extensions and prover data that holds the polynomials are a commitment
    pub is_commitment : (evaluated kept : List (CosetData F × Rows F)) (ls : List (Rows F)) → AreExtensions (Extends s) evaluated ls → length kept ≡ length ls → IsMade kept
        → ((i : ℕ) (x e : CosetData F × Rows F) (l : Rows F) → slice_get evaluated i ≡ Some x → slice_get kept i ≡ Some e → slice_get ls i ≡ Some l → IsHolding s e l (opened_commitments_of x))
        → IsCommitment s.field.ring (λ (d : CosetData F). 2 ^ d.log_size) (λ (d : CosetData F). point s.field.ring s.field.root d) (λ es (c : PlainCommitmentData F). c ≡ commitment_of s es) IsMade (AreHolding s) evaluated (record { matrices = ls }, kept)
    is_commitment evaluated kept ls E n made holds = record {
      commitment_is =
          let all : ls ≡ map (λ e. extension_of s e.0 e.1) evaluated = each_is_map (λ e. extension_of s e.0 e.1) evaluated ls (record { count = E.count; each = λ i l q x h. let X = E.each i l q x h in X.extension_is }) in
          ap (λ ms. let c : PlainCommitmentData F = record { matrices = ms } in c) all;
      made_is = made;
      held = (
        map opened_commitments_of evaluated,
        each_mapped opened_commitments_of evaluated ls (λ e l. Extends s e.0 e.1 l) (λ e c. IsCommitted s.field.ring (2 ^ e.0.log_size) (point s.field.ring s.field.root e.0) e.1 c) E (λ x l X. is_committed x.0 x.1 l X),
        record {
          count = n;
          each = each_zipped opened_commitments_of evaluated kept ls (λ p c. IsHolding s p.0 p.1 c) E.count n holds;
        },
      );
    }

    pub commitment_extended : (chunks kept : List (CosetData F × Rows F)) (ls : List (Rows F)) → AreExtensions (Extends s) chunks ls → IsMade kept → EachFrom ls kept (λ m e. IsOnCoset s.field.generator m e)
        → IsCommitment s.field.ring (λ (d : CosetData F). 2 ^ d.log_size) (λ (d : CosetData F). point s.field.ring s.field.root d) (λ es (c : PlainCommitmentData F). c ≡ commitment_of s es) IsMade (AreHolding s) chunks (record { matrices = ls }, kept)
    commitment_extended chunks kept ls E made on =
        is_commitment chunks kept ls E on.count made
        (λ i x e l a b c. holding_extension x.0 x.1 l e (E.each i l c x a) (on.each i e b l c))

    -- a commitment to extensions of committable matrices isn't refused
    pub extended_refusal : {T : Type 0} (evaluated : List (CosetData F × Rows F)) (ls : List (Rows F)) (r : Result T (PcsFailure PlainProverError)) → All (λ e. IsCommittable s e.0 e.1) evaluated
        → AreExtensions (Extends s) evaluated ls → RefusedBy (ExtensionsFault s ls) r → RefusedBy (CommitFault s evaluated) r
    extended_refusal evaluated ls (Ok w) all E none = no_commit_fault s evaluated all
    extended_refusal evaluated ls (Err OutOfMemory) all E none = tt
    extended_refusal evaluated ls (Err (Refused e)) all E fault =
        let heights : All (HasSubgroupHeight s.most) ls = λ i d b. extended_height s L W T evaluated ls E i (get_or ls i d) (slice_get-get_or ls i d b) in
        absurd (no_height_fault s ls heights e fault)
