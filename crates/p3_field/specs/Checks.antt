-- Checks in order, of which the first that fails is named. They say nothing of a field: they stand in this crate because all others stand on it.
use Rattle.std.specs.Prelude.{◌≡◌, ℕ, zero, suc, ◌<◌, List, [], ◌∷◌, ◌++◌, length, slice_get, Option, None, Some, IfSome, ◌⊎◌, ⊤}

-- A check: what holds where it doesn't fail, and which refusals name it where it does. Two checks may be refused in the same words, and a check may have
-- a refusal that is chosen elsewhere, as a backend's own.
pub record Check (R : Type 0) : Type 1 where
  pub refusal : R → Type 0
  pub holds : Type 0

-- the check of P, with this refusal
abbrev pub check : {R : Type 0} → R → Type 0 → Check R
check r P = record { refusal = λ e. e ≡ r; holds = P }

-- no check fails
unfoldable pub NoneFails : {R : Type 0} → List (Check R) → Type 0
NoneFails [] = ⊤
NoneFails (c ∷ cs) = c.holds × NoneFails cs

-- the first check that fails is refused with e
unfoldable pub FirstFails : {R : Type 0} → List (Check R) → R → Type 0
FirstFails [] e = ⊥
FirstFails (c ∷ cs) e = (c.holds × FirstFails cs e) ⊎ ((c.holds → ⊥) × c.refusal e)

-- the refusal of the first check that fails, or None where none does
abbrev pub FirstRefusal : {R : Type 0} → List (Check R) → Option R → Type 0
FirstRefusal cs None = NoneFails cs
FirstRefusal cs (Some e) = FirstFails cs e

-- the checks of n things, one thing after the other
unfoldable pub in_turn : {R : Type 0} → ℕ → (ℕ → List (Check R)) → List (Check R)
in_turn zero f = []
in_turn (suc n) f = in_turn n f ++ f n

-- the checks of the items of a list, each with its number, one item after the other
unfoldable pub of_items : {X R : Type 0} → (ℕ → X → List (Check R)) → List X → List (Check R)
of_items f [] = []
of_items f (x ∷ xs) = f zero x ++ of_items (λ i. f (suc i)) xs

-- A check that fails has exactly one refusal: two are the same, and that there is none can't be. A refusal that is chosen elsewhere may be one only
-- where the check fails.
pub record HasOneRefusal {R : Type 0} (c : Check R) : Type 0 where
  pub same : (d e : R) → c.refusal d → c.refusal e → d ≡ e
  pub some : (c.holds → ⊥) → ((e : R) → c.refusal e → ⊥) → ⊥

-- each check has exactly one refusal where it fails
unfoldable pub AreSingle : {R : Type 0} → List (Check R) → Type 0
AreSingle [] = ⊤
AreSingle (c ∷ cs) = HasOneRefusal c × AreSingle cs

-- i is the first of the numbers below n for which P fails: the first refusal of `numbers n P`
pub record IsFirstFailing (n : ℕ) (P : ℕ → Type 0) (i : ℕ) : Type 0 where
  pub within : i < n
  pub fails : P i → ⊥
  pub earlier : (j : ℕ) → j < i → P j

-- that number, or None where P holds for all of them
abbrev pub FirstFailing : ℕ → (ℕ → Type 0) → Option ℕ → Type 0
FirstFailing n P None = (j : ℕ) → j < n → P j
FirstFailing n P (Some i) = IsFirstFailing n P i

-- the same as checks: of P for each of the numbers below n, refused with the number
abbrev pub number_check : (ℕ → Type 0) → ℕ → List (Check ℕ)
number_check P i = check i (P i) ∷ []

abbrev pub numbers : ℕ → (ℕ → Type 0) → List (Check ℕ)
numbers n P = in_turn n (number_check P)

-- item i is the first that lacks the property
abbrev pub IsFirstWithout : {X : Type 0} → (X → Type 0) → List X → ℕ → Type 0
IsFirstWithout P xs i = IsFirstFailing (length xs) (λ j. IfSome (slice_get xs j) P) i
