-- The refusal of the first check that fails tells its fact.
use Rattle.std.proofs.Common.{ℕ, zero, suc, ◌<◌, ◌≤◌, List, [], ◌∷◌, ◌++◌, refl, sym, subst, inl, inr, arith}
use Rattle.p3_field.specs.Checks.{Check, in_turn}
use Rattle.p3_lookup.specs.Bound.{bus_load}
use Rattle.p3_lookup.specs.Bus.{batch_buses, bus_count}
use Rattle.batch_config.specs.Setting.{masks}
use Rattle.verifier_shape.specs.ShapeChecks.{heights_of}
use Rattle.prover_answer.specs.Backend.{ProverBackend}
use Rattle.prover_answer.specs.Batch.{Batch, table_count}
use Rattle.prover_answer.specs.Proving.{bound_part, extension_part, fraction_part, lookup_part, ood_part, opening_part, permutation_part, proving_checks, quotient_part, trace_part}
use Rattle.prover_answer.specs.Telling.{Tells}
use Rattle.prover_answer.specs.Verdict.{FirstRefused}
use Rattle.prover_answer.specs.declared.error.ProvingError.{ProvingError}

-- where each check's refusal tells a fact, the first that fails does
unfoldable EachTells : {R : Type 0} (T : R → Type 0) → List (Check R) → Type 0
EachTells T [] = Unit {0}
EachTells {R} T (c ∷ cs) = ((e : R) → c.refusal e → T e) × EachTells T cs

each_append : {R : Type 0} (T : R → Type 0) (xs ys : List (Check R)) → EachTells T xs → EachTells T ys → EachTells T (xs ++ ys)
unfolding EachTells
each_append T [] ys a b = b
each_append T (c ∷ xs) ys a b = (a.0, each_append T xs ys a.1 b)

one_tells : {R : Type 0} (T : R → Type 0) (c : Check R) → ((e : R) → c.refusal e → T e) → EachTells T (c ∷ [])
unfolding EachTells
one_tells T c h = (h, tt)

each_in_turn : {R : Type 0} (T : R → Type 0) (f : ℕ → List (Check R)) (n : ℕ) → ((i : ℕ) → i < n → EachTells T (f i)) → EachTells T (in_turn n f)
unfolding in_turn EachTells
each_in_turn T f zero h = tt
each_in_turn T f (suc n) h = each_append T (in_turn n f) (f n) (each_in_turn T f n (λ i l. h i (omega (arith, l)))) (h n (omega arith))

first_tells : {R : Type 0} (T : R → Type 0) (cs : List (Check R)) (e : R) → EachTells T cs → FirstRefused cs e → T e
unfolding FirstRefused EachTells
first_tells T [] e each f = absurd f
first_tells T (c ∷ cs) e each f = elim f [
  | inl later ↦ first_tells T cs e each.1 later.1
  | inr here ↦ each.0 e here
]

module _ {S F E C D P R : Type 0} (k : ProverBackend S F E C D P R) (b : Batch S F E C) where
  abbrev T : ProvingError R → Type 0
  T = Tells k b

  bounds_tell : EachTells T (bound_part b)
  bounds_tell =
      let lookups = b.statement.common.lookups in
      each_in_turn T _ (bus_count (batch_buses lookups)) (λ bus l.
      one_tells T _ (λ e r. subst T (sym r.0) (record { number = bus; named = refl; within = l; reaches = r.1 })))

  -- so the refusal of a prover tells its fact
  pub refusal_tells : (e : ProvingError R) → FirstRefused (proving_checks k b) e → T e
  refusal_tells e f =
      let traces : EachTells T (trace_part k b) = one_tells T _ (λ e r. subst T (sym r.1) r.2) in
      let pair : EachTells T (lookup_part b) = one_tells T _ (λ e r. subst T (sym r.0) r.1) in
      let fractions : EachTells T (fraction_part b) = one_tells T _ (λ e r. subst T (sym r.2) r.3) in
      let columns : EachTells T (permutation_part k b) = one_tells T _ (λ e r. subst T (sym r.2.1) (r.0, r.1, r.2.2)) in
      let extensions : EachTells T (in_turn (table_count b) (extension_part k b)) =
      each_in_turn T (extension_part k b) (table_count b) (λ i l. one_tells T _ (λ e r. subst T (sym r.2.1) (r.0, r.1, (i, l, r.2.2)))) in
      let quotients : EachTells T (quotient_part k b) = one_tells T _ (λ e r. subst T (sym r.2.2.1) (r.0, r.1, (r.2.0, r.2.1, r.2.2.2))) in
      let point : EachTells T (ood_part b) = one_tells T _ (λ e r. subst T (sym r.0) r.1) in
      let openings : EachTells T (opening_part k b) = one_tells T _ (λ e r. subst T (sym r.3.2.1) (r.0, r.1, r.2, (r.3.0, r.3.1, r.3.2.2))) in
      first_tells T (proving_checks k b) e
      (each_append T (bound_part b) _ bounds_tell
      (each_append T (trace_part k b) _ traces
      (each_append T (lookup_part b) _ pair
      (each_append T (fraction_part b) _ fractions
      (each_append T (permutation_part k b) _ columns
      (each_append T (in_turn (table_count b) (extension_part k b)) _ extensions
      (each_append T (quotient_part k b) _ quotients (each_append T (ood_part b) _ point openings))))))))
      f
