-- Lists that are written item after item.
use Rattle.std.proofs.Common.{◌≡◌, ℕ, ◌+◌, ◌<◌, ◌≤◌, ◌≢◌, List, length, get_or, set, inl, inr, sym, ◌∙◌, subst, arith, get_or-set_same, get_or-set_other}
use Rattle.std.proofs.lemmas.Bool.{cases_eq}

-- what holds of the items below n, and of the new item n
pub written_in : {X : Type 0} (d : X) (P : ℕ → X → Type 0) (xs : List X) (n : ℕ) (x : X) → n < length xs → P n x → ((k : ℕ) → k < n → P k (get_or xs k d)) → (k : ℕ) → k < n + 1 → P k (get_or (set xs n x) k d)
written_in d P xs n x inside here below k lt =
    elim (cases_eq k n) [
      | inl e ↦ subst (λ i. P i (get_or (set xs n x) i d)) (sym e) (subst (P n) (sym (get_or-set_same xs n x d inside)) here)
      | inr c ↦ subst (P k) (sym (get_or-set_other xs n k x d c)) (below k (omega (arith, lt, c)))
    ]

pub written : (P : ℕ → ℕ → Type 0) (xs : List ℕ) (n x : ℕ) → n < length xs → P n x → ((k : ℕ) → k < n → P k (get_or xs k 0)) → (k : ℕ) → k < n + 1 → P k (get_or (set xs n x) k 0)
written P xs n x inside here below k lt = written_in 0 P xs n x inside here below k lt

-- the items from n + 1 on are as before
pub unwritten : (xs ys : List ℕ) (n x : ℕ) → ((k : ℕ) → n ≤ k → get_or xs k 0 ≡ get_or ys k 0) → (k : ℕ) → n + 1 ≤ k → get_or (set xs n x) k 0 ≡ get_or ys k 0
unwritten xs ys n x h k le =
    let d : k ≢ n = omega (arith, le) in
    get_or-set_other xs n k x 0 d ∙ h k (omega (arith, le))
