-- The first of the checks of claimed values that fails.
use Rattle.std.proofs.Common.{◌≡◌, ℕ, List, [], ◌∷◌, ◌++◌, Some, length, map, get_or, refl, subst}
use Rattle.std.proofs.lemmas.List.{length-map}
use Rattle.p3_field.specs.Ring.{Ring}
use Rattle.p3_field.specs.Checks.{Check, check, in_turn, IsFirstFailing}
use Rattle.p3_field.specs.Laws.Checks.{first_here, first_stops, first_after, refusal_later, none_alone, first_by}
use Rattle.plain_pcs.specs.Multilinear.{multilinear_value}
use Rattle.plain_pcs.specs.PlainMultilinear.{HasValues, HaveCoordinates, IsFirstUnfit, IsFirstDifferent, multilinear_values_at, point_check, multilinear_value_check, IsClaimFault}
use Rattle.plain_pcs.specs.Laws.Claims.{points_pass}
use Rattle.plain_pcs.specs.declared.plain_multilinear.PlainMultilinearError.{PlainMultilinearError}
use Rattle.plain_pcs.specs.declared.plain_multilinear.PlainMultilinearError.TheVariants.{Length, PointLength, Count, Value}

module _ {F E : Type 0} (s : Ring E) (embed : F → E) (m : ℕ) (vs : List F) (points : List (List E)) (ys : List E) where
  abbrev zs : List E
  zs = multilinear_values_at s embed vs points

  abbrev pointed : List (Check PlainMultilinearError)
  pointed = in_turn (length points) (point_check m points)

  abbrev valued : List (Check PlainMultilinearError)
  valued = in_turn (length points) (multilinear_value_check s ys zs)

  abbrev count : Check PlainMultilinearError
  count = check Count (length ys ≡ length points)

  pub length_fault : (HasValues m vs → ⊥) → IsClaimFault s embed m vs points ys Length
  length_fault n = first_here (check Length (HasValues m vs)) (pointed ++ count ∷ valued) Length n refl

  pub point_fault : (i : ℕ) → HasValues m vs → IsFirstUnfit m points i → IsClaimFault s embed m vs points ys (PointLength i)
  point_fault i h u =
      refusal_later (check Length (HasValues m vs)) (pointed ++ count ∷ valued) (Some (PointLength i)) h
      (first_stops pointed (count ∷ valued) (PointLength i)
      (first_by (point_check m points) (λ j. length (get_or points j []) ≡ m) (length points) i (PointLength i)
      (λ j b p. none_alone (check (PointLength j) (length (get_or points j []) ≡ m)) p)
      (λ l. first_here (check (PointLength i) (length (get_or points i []) ≡ m)) [] (PointLength i) l refl) u))

  pub count_fault : HasValues m vs → HaveCoordinates m points → (length ys ≡ length points → ⊥) → IsClaimFault s embed m vs points ys Count
  count_fault h c n =
      refusal_later (check Length (HasValues m vs)) (pointed ++ count ∷ valued) (Some Count) h
      (first_after pointed (count ∷ valued) Count (points_pass m points c) (first_here count valued Count n refl))

  pub value_fault : (i : ℕ) → HasValues m vs → HaveCoordinates m points → length ys ≡ length points → IsFirstDifferent s ys (multilinear_values_at s embed vs points) i
      → IsClaimFault s embed m vs points ys (Value i)
  value_fault i h c e d =
      let D : IsFirstFailing (length points) (λ j. get_or ys j s.zero ≡ get_or zs j s.zero) i =
      subst (λ n. IsFirstFailing n (λ j. get_or ys j s.zero ≡ get_or zs j s.zero) i) (length-map points (multilinear_value s (map embed vs))) d in
      refusal_later (check Length (HasValues m vs)) (pointed ++ count ∷ valued) (Some (Value i)) h
      (first_after pointed (count ∷ valued) (Value i) (points_pass m points c)
      (refusal_later count valued (Some (Value i)) e
      (first_by (multilinear_value_check s ys zs) (λ j. get_or ys j s.zero ≡ get_or zs j s.zero) (length points) i (Value i)
      (λ j b p. none_alone (check (Value j) (get_or ys j s.zero ≡ get_or zs j s.zero)) p)
      (λ l. first_here (check (Value i) (get_or ys i s.zero ≡ get_or zs i s.zero)) [] (Value i) l refl) D)))
