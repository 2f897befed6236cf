-- Turns of the loops that put terms one after another.
use Rattle.std.proofs.Common.{◌≡◌, ℕ, zero, suc, ◌+◌, ◌<◌, ◌≤◌, inl, inr, List, [], ◌∷◌, ◌++◌, length, get_or, take, refl, sym, ◌∙◌, ap, subst, arith, append-nil, append_assoc}
use Rattle.std.specs.Prelude.{All, Err}
use Rattle.std.proofs.lemmas.List.{take_more, take_all}
use Rattle.std.proofs.lemmas.List.Concat.{flat_map-append}
use Rattle.std.proofs.lemmas.List.Elements.{All-append, All-head, All-tail}
use Rattle.std.proofs.lemmas.Bool.{cases_lt}
use Rattle.p3_field.specs.Ring.{Ring}
use Rattle.p3_lookup.specs.Term.{Term, HasInverses}
use Rattle.p3_lookup.specs.declared.terminal.GenerateError.{GenerateError}
use Rattle.p3_lookup.specs.declared.terminal.GenerateError.TheVariants.{DenominatorZero, OutOfMemory}
use Rattle.p3_lookup.specs.Honest.{Argument, row_terms, RowHasInverses}
use Rattle.p3_lookup.specs.Generated.{IsFirstZero, IsFirstZeroIn, IsGenerateFault}
use Rattle.p3_lookup.specs.RowTerms.{AreTermsAdded, AreRowTermsAdded, flat_terms, table_terms}

-- the first i terms of a lookup are there, and none of their denominators is zero
pub record AreTermsAt {E : Type 0} (r : Ring E) (ts old new : List (Term E)) (i : ℕ) : Type 0 where
  pub items : new ≡ old ++ take i ts
  pub nonzero : (k : ℕ) (d : Term E) → k < i → (get_or ts k d).denominator ≡ r.zero → ⊥

module _ {E : Type 0} (r : Ring E) (ts old : List (Term E)) where
  pub terms_start : AreTermsAt r ts old old 0
  terms_start = record { items = sym (append-nil old); nonzero = λ k d h. absurd (omega (arith, h)) }

  module _ (i : ℕ) (t : Term E) (h : i < length ts) (at : (d : Term E) → get_or ts i d ≡ t) (new : List (Term E)) (s : AreTermsAt r ts old new i) where
    pub terms_more : (newer : List (Term E)) → newer ≡ new ++ t ∷ [] → (t.denominator ≡ r.zero → ⊥) → AreTermsAt r ts old newer (i + 1)
    terms_more newer e n = record {
      items =
          e ∙ ap (λ l. l ++ t ∷ []) s.items ∙ append_assoc old (take i ts) (t ∷ [])
          ∙ ap (λ u. old ++ (take i ts ++ u ∷ [])) (sym (at t)) ∙ ap (λ l. old ++ l) (sym (take_more ts i t h));
      nonzero = λ k d lt. elim (cases_lt k i) [
        | inl less ↦ s.nonzero k d less
        | inr ge ↦
            let same : i ≡ k = omega (arith, lt, ge) in
            let P : ℕ → Type 0 = λ j. (get_or ts j d).denominator ≡ r.zero → ⊥ in
            subst P same (λ z. n (ap (λ (u : Term E). u.denominator) (sym (at d)) ∙ z))
      ];
    }

    pub terms_zero : (row lookup : ℕ) → t.denominator ≡ r.zero → AreTermsAdded r ts row lookup old new (Err (DenominatorZero row lookup i))
    terms_zero row lookup z = (
      refl,
      refl,
      record { within = h; zero = λ d. ap (λ (u : Term E). u.denominator) (at d) ∙ z; before = s.nonzero },
    )

  pub terms_end : (i : ℕ) (new : List (Term E)) → length ts ≤ i → AreTermsAt r ts old new i → (new ≡ old ++ ts) × HasInverses r ts
  terms_end i new h s = (
    s.items ∙ ap (λ l. old ++ l) (take_all i ts h),
    λ k d lt. s.nonzero k d (omega (arith, lt, h)),
  )

-- the terms of the first i lookups of a row are there, and none of their denominators is zero
pub record AreRowTermsAt {E : Type 0} (r : Ring E) (tss : List (List (Term E))) (old new : List (Term E)) (i : ℕ) : Type 0 where
  pub items : new ≡ old ++ flat_terms (take i tss)
  pub nonzero : (k : ℕ) (d : List (Term E)) → k < i → HasInverses r (get_or tss k d)

module _ {E : Type 0} (r : Ring E) (tss : List (List (Term E))) (old : List (Term E)) where
  pub row_start : AreRowTermsAt r tss old old 0
  row_start = record { items = sym (append-nil old); nonzero = λ k d h. absurd (omega (arith, h)) }

  module _ (i : ℕ) (ts : List (Term E)) (h : i < length tss) (at : (d : List (Term E)) → get_or tss i d ≡ ts) (new : List (Term E)) (s : AreRowTermsAt r tss old new i) where
    one_more : flat_terms (take (i + 1) tss) ≡ flat_terms (take i tss) ++ ts
    one_more =
        ap flat_terms (take_more tss i [] h) ∙ flat_map-append (λ us. us) (take i tss) (get_or tss i [] ∷ [])
        ∙ ap (λ us. flat_terms (take i tss) ++ (us ++ [])) (at []) ∙ ap (λ us. flat_terms (take i tss) ++ us) (append-nil ts)

    pub row_more : (newer : List (Term E)) → newer ≡ new ++ ts → HasInverses r ts → AreRowTermsAt r tss old newer (i + 1)
    row_more newer e n = record {
      items = e ∙ ap (λ l. l ++ ts) s.items ∙ append_assoc old (flat_terms (take i tss)) ts ∙ ap (λ l. old ++ l) (sym one_more);
      nonzero = λ k d lt. elim (cases_lt k i) [
        | inl less ↦ s.nonzero k d less
        | inr ge ↦
            let same : i ≡ k = omega (arith, lt, ge) in
            let P : List (Term E) → Type 0 = λ u. HasInverses r u in
            subst P (sym (at d) ∙ ap (λ j. get_or tss j d) same) n
      ];
    }

    -- what goes wrong in the lookup goes wrong in the row
    pub row_fault : (row : ℕ) (before after : List (Term E)) (e : GenerateError) → AreTermsAdded r ts row i before after (Err e) → AreRowTermsAdded r tss row old after (Err e)
    row_fault row before after (DenominatorZero x n j) f =
        let P : ℕ → Type 0 = λ m. IsFirstZeroIn r tss m j in (
          f.0,
          subst P (sym f.1) (record {
            within = h;
            first = let Q : List (Term E) → Type 0 = λ u. IsFirstZero r u j in subst Q (sym (at [])) f.2;
            before = λ k lt. s.nonzero k [] lt;
          }),
        )
    row_fault row before after OutOfMemory f = tt

  pub row_end : (i : ℕ) (new : List (Term E)) → length tss ≤ i → AreRowTermsAt r tss old new i → (new ≡ old ++ flat_terms tss) × All (HasInverses r) tss
  row_end i new h s = (
    s.items ∙ ap (λ l. old ++ flat_terms l) (take_all i tss h),
    λ k d lt. s.nonzero k d (omega (arith, lt, h)),
  )

-- the terms of the first i rows are there, and none of their denominators is zero
pub record AreTableTermsAt {F E : Type 0} (p : Argument F E) (new : List (Term E)) (i : ℕ) : Type 0 where
  pub items : new ≡ table_terms p i
  pub nonzero : (k : ℕ) → k < i → RowHasInverses p k

module _ {F E : Type 0} (p : Argument F E) where
  pub table_start : AreTableTermsAt p [] 0
  table_start = record { items = refl; nonzero = λ k h. absurd (omega (arith, h)) }

  module _ (i : ℕ) (new : List (Term E)) (s : AreTableTermsAt p new i) where
    pub tabulate_more : (newer : List (Term E)) → newer ≡ new ++ flat_terms (row_terms p i) → RowHasInverses p i → AreTableTermsAt p newer (i + 1)
    tabulate_more newer e n = record {
      items =
          let one : suc i ≡ i + 1 = omega arith in
          e ∙ ap (λ l. l ++ flat_terms (row_terms p i)) s.items ∙ ap (table_terms p) one;
      nonzero = λ k lt. elim (cases_lt k i) [
        | inl less ↦ s.nonzero k less
        | inr ge ↦
            let same : i ≡ k = omega (arith, lt, ge) in
            subst (λ (j : ℕ). RowHasInverses p j) same n
      ];
    }

    -- what goes wrong in a row goes wrong in the table
    pub table_fault : (n : ℕ) (before after : List (Term E)) (e : GenerateError) → i < n → AreRowTermsAdded p.ring (row_terms p i) i before after (Err e) → IsGenerateFault p n e
    table_fault n before after (DenominatorZero x l j) h f =
        let P : ℕ → Type 0 = λ m. IsGenerateFault p n (DenominatorZero m l j) in
        subst P (sym f.0) (record { within = h; first = f.1; before = s.nonzero })
    table_fault n before after OutOfMemory h f = tt

-- no denominator of the table's terms is zero
pub table_inverses : {F E : Type 0} (p : Argument F E) (n : ℕ) → ((i : ℕ) → i < n → RowHasInverses p i) → HasInverses p.ring (table_terms p n)
table_inverses p zero h = λ k d lt. absurd (omega (arith, lt))
table_inverses {E = E} p (suc n) h =
    All-append (λ (t : Term E). t.denominator ≡ p.ring.zero → ⊥) (table_terms p n) (flat_terms (row_terms p n))
    (table_inverses p n (λ i lt. h i (omega (arith, lt)))) (flat_inverses p.ring (row_terms p n) (h n (omega arith)))
  where
    flat_inverses : {E : Type 0} (r : Ring E) (tss : List (List (Term E))) → All (HasInverses r) tss → HasInverses r (flat_terms tss)
    flat_inverses r [] a = λ k d lt. absurd (omega (arith, lt))
    flat_inverses {E = E} r (ts ∷ tss) a =
        All-append (λ (t : Term E). t.denominator ≡ r.zero → ⊥) ts (flat_terms tss) (All-head (HasInverses r) ts tss a) (flat_inverses r tss (All-tail (HasInverses r) ts tss a))
