-- Common data that is made for AIRs has what a valid statement asks of its preprocessed traces.
use Rattle.std.proofs.Common.{◌≡◌, ℕ, zero, suc, ◌<◌, List, [], ◌∷◌, ◌++◌, length, get_or, Option, None, Some, refl, sym, ◌∙◌, ap, subst, add-one, arith}
use Rattle.std.specs.List.{flat_map}
use Rattle.std.proofs.lemmas.Grind.{flat_map-append}
use Rattle.p3_field.specs.Domain.{CosetData}
use Rattle.p3_field.specs.Laws.Tabulate.{get_or-tabulate, tabulate_more}
use Rattle.p3_field.specs.Poly.{tabulate}
use Rattle.p3_matrix.specs.Matrix.{Rows}
use Rattle.verifier_claims.specs.ClaimChecks.{HasDegreeBits}
use Rattle.batch_setup.specs.Packed.{Source}
use Rattle.batch_setup.specs.Preprocessed.{IsPrepared, committed_trace_at, committed_below, entry_at, entry_with, on_domain, trace_at}
use Rattle.verifier_shape.specs.ShapeChecks.{HasEntries}
use Rattle.batch_statement.specs.Statement.{PreprocessedTracesData, entry_of}
use Rattle.batch_statement.specs.declared.preprocessed.PreprocessedInstanceMeta.{PreprocessedInstanceMeta}
use Rattle.law_valid.specs.Traced.{TracedTable, declared, preprocessed_matrices}
use Rattle.law_valid.specs.Valid.{CommitsToMatrices}

append_nothing : {A : Type 0} (xs : List A) → xs ++ [] ≡ xs
append_nothing [] = refl
append_nothing (x ∷ xs) = ap (λ ys. x ∷ ys) (append_nothing xs)

module _ {F C P : Type 0} (commits : List (CosetData F × Rows F) → C × P → Type 0) (commitment_of : List (CosetData F × Rows F) → C)
    (one_commitment : (es : List (CosetData F × Rows F)) (w : C × P) → commits es w → w.0 ≡ commitment_of es) (entries : List (Option PreprocessedInstanceMeta)) where
  -- the commitment is that to what is given
  pub made_commits : (es : List (CosetData F × Rows F)) (p : Option (PreprocessedTracesData C)) (kept : Option P) → IsPrepared commits entries es p kept → CommitsToMatrices commitment_of es p
  made_commits [] p kept h = subst (CommitsToMatrices commitment_of []) (sym h.0) tt
  made_commits (e ∷ es) None kept h = tt
  made_commits (e ∷ es) (Some g) None h = absurd h
  made_commits (e ∷ es) (Some g) (Some d) h = one_commitment (e ∷ es) (g.commitment, d) h.2

  -- there are as many entries
  pub made_entries : (es : List (CosetData F × Rows F)) (p : Option (PreprocessedTracesData C)) (kept : Option P) → IsPrepared commits entries es p kept → HasEntries (length entries) p
  made_entries [] p kept h = subst (HasEntries (length entries)) (sym h.0) tt
  made_entries (e ∷ es) None kept h = tt
  made_entries (e ∷ es) (Some g) None h = absurd h
  made_entries (e ∷ es) (Some g) (Some d) h = ap length h.0

  -- and what holds of no entry and of each entry holds of a table's
  pub made_entry : (Q : Option PreprocessedInstanceMeta → Type 0) (i : ℕ) → Q None → Q (get_or entries i None) → (es : List (CosetData F × Rows F)) (p : Option (PreprocessedTracesData C)) (kept : Option P)
      → IsPrepared commits entries es p kept → Q (entry_of p i)
  made_entry Q i none each [] p kept h = subst (λ o. Q (entry_of o i)) (sym h.0) none
  made_entry Q i none each (e ∷ es) None kept h = none
  made_entry Q i none each (e ∷ es) (Some g) None h = absurd h
  made_entry Q i none each (e ∷ es) (Some g) (Some d) h = subst (λ l. Q (get_or l i None)) (sym h.0) each

module _ {F : Type 0} (one : F) (sources : List (Source F)) (degree_bits : List ℕ) where
  bits_with : (m b : ℕ) (o : Option (Rows F)) → HasDegreeBits b (entry_with m b o)
  bits_with m b None = tt
  bits_with m b (Some t) = refl

  -- a table's entry has its degree bits
  pub entry_bits : (n i : ℕ) → i < n → HasDegreeBits (get_or degree_bits i 0) (get_or (tabulate n (entry_at one sources degree_bits)) i None)
  entry_bits n i h =
      subst (HasDegreeBits (get_or degree_bits i 0)) (sym (get_or-tabulate n (entry_at one sources degree_bits) i None h))
      (bits_with (length (committed_below one sources degree_bits i)) (get_or degree_bits i 0) (trace_at sources i))

  -- what is committed for AIRs are the preprocessed traces of their tables
  pub matrices_are : (u : ℕ → TracedTable F) (n : ℕ) → ((i : ℕ) → i < n → on_domain one (u i).degree_bits (declared (u i)).preprocessed ≡ committed_trace_at one sources degree_bits i)
      → committed_below one sources degree_bits n ≡ preprocessed_matrices one (tabulate n u)
  matrices_are u zero same = refl
  matrices_are u (suc n) same =
      let g = λ (t : TracedTable F). on_domain one t.degree_bits (declared t).preprocessed in
      let last : committed_trace_at one sources degree_bits n ≡ flat_map g (u n ∷ []) = sym (same n (omega arith)) ∙ sym (append_nothing (g (u n))) in
      (λ j. matrices_are u n (λ i h. same i (omega (arith, h))) j ++ last j)
      ∙ (sym (flat_map-append g (tabulate n u) (u n ∷ []))
      ∙ ap (flat_map g) (tabulate_more n u ∙ ap (λ m. tabulate m u) (add-one n)))

-- what is prepared by one relation of commitments is prepared by a weaker one
pub prepared_more : {T C P : Type 0} (Q R : List T → C × P → Type 0) → ((es : List T) (w : C × P) → Q es w → R es w) → (entries : List (Option PreprocessedInstanceMeta)) (es : List T) (p : Option (PreprocessedTracesData C)) (kept : Option P)
    → IsPrepared Q entries es p kept → IsPrepared R entries es p kept
prepared_more Q R more entries [] p kept h = h
prepared_more Q R more entries (e ∷ es) None kept h = h
prepared_more Q R more entries (e ∷ es) (Some g) None h = h
prepared_more Q R more entries (e ∷ es) (Some g) (Some d) h = (h.0, h.1, more (e ∷ es) (g.commitment, d) h.2)
