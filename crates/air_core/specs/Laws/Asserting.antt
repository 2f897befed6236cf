-- One more assertion after others.
use Rattle.std.proofs.Common.{List, [], ◌∷◌, ◌++◌, refl, subst}
use Rattle.air_core.specs.Asserting.{AssertsEach}

pub asserts-more : {S E : Type 0} (asserts : S → E → S → Type 0) (xs : List E) (x : E) (a m b : S) → AssertsEach asserts xs a m → asserts m x b → AssertsEach asserts (xs ++ x ∷ []) a b
asserts-more {S = S} asserts [] x a m b h k = let P : S → Type 0 = λ s. asserts s x b in (b, (subst P h k, refl))
asserts-more asserts (y ∷ xs) x a m b h k = (h.0, (h.1.0, asserts-more asserts xs x h.0 m b h.1.1 k))
