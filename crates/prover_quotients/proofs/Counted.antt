-- How many of some first lists have something.
use Rattle.std.proofs.Common.{◌≡◌, ℕ, ◌+◌, ◌≤◌, ◌<◌, Bool, true, false, cond, List, length, get_or, take, arith}
use Rattle.std.specs.Prelude.{count_by}
use Rattle.std.proofs.lemmas.List.Sums.{count_by-le-length, count_by_more_no, count_by_more_yes}
use Rattle.std.proofs.lemmas.List.{length-take}

-- one list more
pub count_more : {X : Type 0} (p : X → Bool) (xs : List X) (i : ℕ) (d : X) (b : Bool) → i < length xs → p (get_or xs i d) ≡ b → count_by p (take (i + 1) xs) ≡ count_by p (take i xs) + cond b 1 0
count_more p xs i d true h e = count_by_more_yes p xs i d h e
count_more p xs i d false h e = let q = count_by_more_no p xs i d h e in omega (arith, q)

-- there are at most as many as lists
pub count_within : {X : Type 0} (p : X → Bool) (xs : List X) (i : ℕ) → count_by p (take i xs) ≤ i
count_within p xs i = let a = count_by-le-length p (take i xs) in let b = length-take i xs in omega (arith, a, b)

pub cond_small : (b : Bool) → cond b 1 0 ≤ 1
cond_small true = omega arith
cond_small false = omega arith
