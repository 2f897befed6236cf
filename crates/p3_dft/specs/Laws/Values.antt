-- The values of a polynomial at points, as a list.
use Rattle.std.proofs.Common.{◌≡◌, ℕ, ◌<◌, List, length, get_or}
use Rattle.p3_field.specs.Ring.{Ring}
use Rattle.p3_field.specs.Poly.{eval_poly}
use Rattle.p3_field.specs.Laws.Tabulate.{length-tabulate, get_or-tabulate}
use Rattle.p3_dft.specs.Transform.{values_at}

pub length-values_at : {A : Type 0} (r : Ring A) (p : ℕ → A) (n : ℕ) (f : List A) → length (values_at r p n f) ≡ n
unfolding values_at
length-values_at r p n f = length-tabulate n (λ i. eval_poly r f (p i))

pub get_or-values_at : {A : Type 0} (r : Ring A) (p : ℕ → A) (n : ℕ) (f : List A) (i : ℕ) (d : A) → i < n → get_or (values_at r p n f) i d ≡ eval_poly r f (p i)
unfolding values_at
get_or-values_at r p n f i d h = get_or-tabulate n (λ i. eval_poly r f (p i)) i d h
