-- Lists of checks of which each one holds, or is refused with what may come.
use Rattle.std.proofs.Common.{ℕ, zero, suc, ◌<◌, List, [], ◌∷◌, ◌++◌, sym, subst, inl, inr, arith}
use Rattle.p3_field.specs.Checks.{Check, check, FirstFails, NoneFails, in_turn}
use Rattle.p3_field.specs.Laws.Checks.{first_parted, none_first}
use Rattle.batch_statement.specs.declared.error.BatchVerificationError.{BatchVerificationError}
use Rattle.law_tool_refusals.specs.Possible.{MayCome}

-- the refusal of the first that fails may come
pub LeavesPossible : {R : Type 0} → List (Check (BatchVerificationError R)) → Type 0
LeavesPossible {R} cs = (e : BatchVerificationError R) → FirstFails cs e → MayCome e

pub left_none : (R : Type 0) → LeavesPossible {R = R} []
unfolding LeavesPossible FirstFails
left_none R e f = absurd f

module _ {R : Type 0} where
  -- where it is the list's
  pub left_first : (cs : List (Check (BatchVerificationError R))) (e : BatchVerificationError R) → LeavesPossible cs → FirstFails cs e → MayCome e
  unfolding LeavesPossible
  left_first cs e h f = h e f

  -- no check fails
  pub left_all : (cs : List (Check (BatchVerificationError R))) → NoneFails cs → LeavesPossible cs
  unfolding LeavesPossible
  left_all cs n e f = absurd (none_first cs e n f)

  -- one check before others: its refusals may come, or it holds
  pub left_before : (c : Check (BatchVerificationError R)) (cs : List (Check (BatchVerificationError R))) → ((e : BatchVerificationError R) → c.refusal e → MayCome e) → LeavesPossible cs
      → LeavesPossible (c ∷ cs)
  unfolding LeavesPossible FirstFails
  left_before c cs may rest e f = elim f [ inl t ↦ rest e t.1 | inr t ↦ may e t.1 ]

  pub left_check : (r : BatchVerificationError R) (P : Type 0) (cs : List (Check (BatchVerificationError R))) → MayCome r → LeavesPossible cs → LeavesPossible (check r P ∷ cs)
  left_check r P cs may rest = left_before (check r P) cs (λ e same. subst (λ (d : BatchVerificationError R). MayCome d) (sym same) may) rest

  pub left_held : (c : Check (BatchVerificationError R)) (cs : List (Check (BatchVerificationError R))) → c.holds → LeavesPossible cs → LeavesPossible (c ∷ cs)
  unfolding LeavesPossible FirstFails
  left_held c cs h rest e f = elim f [ inl t ↦ rest e t.1 | inr t ↦ absurd (t.0 h) ]

  -- lists one after another
  pub left_append : (xs ys : List (Check (BatchVerificationError R))) → LeavesPossible xs → LeavesPossible ys → LeavesPossible (xs ++ ys)
  unfolding LeavesPossible
  left_append xs ys a b e f = elim (first_parted xs ys e f) [ inl t ↦ a e t | inr t ↦ b e t.1 ]

  -- the checks of n things in turn
  pub left_in_turn : (f : ℕ → List (Check (BatchVerificationError R))) (n : ℕ) → ((i : ℕ) → i < n → LeavesPossible (f i)) → LeavesPossible (in_turn n f)
  unfolding in_turn
  left_in_turn f zero h = left_none R
  left_in_turn f (suc n) h = left_append (in_turn n f) (f n) (left_in_turn f n (λ i l. h i (omega (arith, l)))) (h n (omega arith))
