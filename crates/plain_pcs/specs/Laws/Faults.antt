-- An opening that is accepted has no fault, and one that isn't has exactly one first fault.
use Rattle.std.specs.Prelude.{◌≡◌, ℕ, List, [], ◌∷◌, Bool, All}
use Rattle.p3_field.specs.Checks.{check, NoneFails, AreSingle}
use Rattle.p3_field.specs.Laws.Checks.{none_first, some_first, same_first, none_single, check_single}
use Rattle.p3_matrix.specs.Matrix.{Rows}
use Rattle.p3_matrix.specs.declared.dense.Dimensions.{Dimensions as Size}
use Rattle.commit_core.specs.Periodic.{EachFrom}
use Rattle.commit_rows.specs.Batches.{IsRowOf}
use Rattle.commit_core.specs.Failure.{FaultUnless}
use Rattle.plain_pcs.specs.PlainMmcs.{row_opening_checks, HasOpeningShape, HaveOpeningShapes, AreTheRows, IsRowOpening, IsOpeningFault, AreRowOpenings, IsFaultOfOpenings}
use Rattle.plain_pcs.specs.declared.plain_mmcs.PlainMmcsError.{PlainMmcsError}
use Rattle.plain_pcs.specs.declared.plain_mmcs.PlainMmcsError.TheVariants.{Dimensions, Index, Value}

none_of_three : (Shape Place Values : Type 0) → Shape → Place → Values → NoneFails (row_opening_checks Shape Place Values)
unfolding NoneFails
none_of_three Shape Place Values s p v = (s, (p, (v, tt)))

-- what the three checks say, where none fails
three_of_none : (Shape Place Values : Type 0) → NoneFails (row_opening_checks Shape Place Values) → Shape × Place × Values
unfolding NoneFails
three_of_none Shape Place Values n = (n.0, n.1.0, n.1.1.0)

single : (Shape Place Values : Type 0) → AreSingle (row_opening_checks Shape Place Values)
single Shape Place Values =
    check_single Dimensions Shape (check Index Place ∷ check Value Values ∷ [])
    (check_single Index Place (check Value Values ∷ []) (check_single Value Values [] (none_single PlainMmcsError)))

module _ {T : Type 0} (eq : T → T → Bool) (ms : List (Rows T)) (ds : List Size) where
  pub opened_faultless : (i : ℕ) (rows : List (List T)) → IsRowOpening eq ms ds i rows → (e : PlainMmcsError) → IsOpeningFault eq ms ds i rows e → ⊥
  opened_faultless i rows h e f = none_first _ e (none_of_three (HasOpeningShape ms ds rows) (IsRowOf ms i) (AreTheRows eq ms i rows) h.shape h.place h.values) f

  pub some_opening_fault : (i : ℕ) (rows : List (List T)) → FaultUnless (IsRowOpening eq ms ds i rows) (IsOpeningFault eq ms ds i rows)
  some_opening_fault i rows = λ n f.
      let Shape : Type 0 = HasOpeningShape ms ds rows in
      let Place : Type 0 = IsRowOf ms i in
      let Values : Type 0 = AreTheRows eq ms i rows in
      some_first (row_opening_checks Shape Place Values) (single Shape Place Values)
      (λ none. let t = three_of_none Shape Place Values none in n (record { shape = t.0; place = t.1; values = t.2 })) f

  pub one_opening_fault : (i : ℕ) (rows : List (List T)) (e g : PlainMmcsError) → IsOpeningFault eq ms ds i rows e → IsOpeningFault eq ms ds i rows g → e ≡ g
  one_opening_fault i rows e g f h = same_first _ e g (single (HasOpeningShape ms ds rows) (IsRowOf ms i) (AreTheRows eq ms i rows)) f h

  pub all_opened_faultless : (is : List ℕ) (openings : List (List (List T))) → AreRowOpenings eq ms ds is openings → (e : PlainMmcsError) → IsFaultOfOpenings eq ms ds is openings e → ⊥
  all_opened_faultless is openings h e f =
      none_first _ e (none_of_three (HaveOpeningShapes ms ds is openings) (All (IsRowOf ms) is) (EachFrom is openings (AreTheRows eq ms)) h.shape h.places h.values) f

  pub some_fault_of_all : (is : List ℕ) (openings : List (List (List T))) → FaultUnless (AreRowOpenings eq ms ds is openings) (IsFaultOfOpenings eq ms ds is openings)
  some_fault_of_all is openings = λ n f.
      let Shape : Type 0 = HaveOpeningShapes ms ds is openings in
      let Places : Type 0 = All (IsRowOf ms) is in
      let Values : Type 0 = EachFrom is openings (AreTheRows eq ms) in
      some_first (row_opening_checks Shape Places Values) (single Shape Places Values)
      (λ none. let t = three_of_none Shape Places Values none in n (record { shape = t.0; places = t.1; values = t.2 })) f

  pub one_fault_of_all : (is : List ℕ) (openings : List (List (List T))) (e g : PlainMmcsError) → IsFaultOfOpenings eq ms ds is openings e → IsFaultOfOpenings eq ms ds is openings g → e ≡ g
  one_fault_of_all is openings e g f h = same_first _ e g (single (HaveOpeningShapes ms ds is openings) (All (IsRowOf ms) is) (EachFrom is openings (AreTheRows eq ms))) f h
