-- Checks with when each of them is asked, and which of those that are asked fail: all of them are named, in order.
use Rattle.std.specs.Prelude.{◌≡◌, ℕ, zero, suc, List, [], ◌∷◌, ◌++◌, ◌⊎◌, ⊤}
use Rattle.p3_field.specs.Checks.{Check}

-- a check, and what has to hold for it to be asked
pub record Asked (R : Type 0) : Type 1 where
  pub condition : Type 0
  pub check : Check R

-- checks that are asked always
unfoldable pub always : {R : Type 0} → List (Check R) → List (Asked R)
always [] = []
always (c ∷ cs) = record { condition = ⊤; check = c } ∷ always cs

-- the same checks, asked only where P holds too
unfoldable pub only : {R : Type 0} → Type 0 → List (Asked R) → List (Asked R)
only P [] = []
only P (q ∷ qs) = record { condition = P × q.condition; check = q.check } ∷ only P qs

-- checks of which a later one is asked only where the earlier ones hold
unfoldable pub in_order : {R : Type 0} → List (Check R) → List (Asked R)
in_order [] = []
in_order (c ∷ cs) = record { condition = ⊤; check = c } ∷ only c.holds (in_order cs)

-- those of n things, one thing after the other
unfoldable pub of_each : {R : Type 0} → ℕ → (ℕ → List (Asked R)) → List (Asked R)
of_each zero f = []
of_each (suc n) f = of_each n f ++ f n

-- the checks, asked or not
unfoldable pub checks_in : {R : Type 0} → List (Asked R) → List (Check R)
checks_in [] = []
checks_in (q ∷ qs) = q.check ∷ checks_in qs

-- the refusals of those that are asked and fail, in order
unfoldable pub AreNamed : {R : Type 0} → List (Asked R) → List R → Type 0
AreNamed [] es = es ≡ []
AreNamed {R} (q ∷ qs) es =
    ((q.condition → q.check.holds) × AreNamed qs es)
    ⊎ (q.condition × (q.check.holds → ⊥) × ((e : R) × (rest : List R) × q.check.refusal e × AreNamed qs rest × (es ≡ e ∷ rest)))

-- where H holds, each is asked if none before it fails
unfoldable pub AreAskedInTurn : {R : Type 0} → Type 0 → List (Asked R) → Type 0
AreAskedInTurn H [] = ⊤
AreAskedInTurn H (q ∷ qs) = (H → q.condition) × AreAskedInTurn (H × q.check.holds) qs
