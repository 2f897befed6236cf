-- The instances of a batch, one after another.
use Rattle.std.proofs.Common.{◌≡◌, ℕ, zero, suc, ◌+◌, ◌<◌, List, [], ◌∷◌, length, get_or, map, drop, sym, ◌∙◌, ap, arith}
use Rattle.p3_matrix.specs.Matrix.{Rows}
use Rattle.batch_setup.specs.Setup.{instances_of}

-- the instances from place i on are that at i and those after it
pub next : {A F X : Type 0} (f : X → List F) (bs : List A) (ts : List (Rows F)) (ps : List X) (i : ℕ) (a : A) (t : Rows F) (p : X)
    → i < length bs → i < length ts → i < length ps → a ≡ get_or bs i a → t ≡ get_or ts i t → p ≡ get_or ps i p
    → instances_of (drop i bs) (drop i ts) (drop i (map f ps)) ≡ record { air = a; trace = t; public_values = f p } ∷ instances_of (drop (i + 1) bs) (drop (i + 1) ts) (drop (i + 1) (map f ps))
next f [] ts ps i a t p h k l d e q = absurd (omega (arith, h))
next f (x ∷ bs) [] ps i a t p h k l d e q = absurd (omega (arith, k))
next f (x ∷ bs) (y ∷ ts) [] i a t p h k l d e q = absurd (omega (arith, l))
next f (x ∷ bs) (y ∷ ts) (z ∷ ps) zero a t p h k l d e q =
    let one : suc zero ≡ zero + 1 = omega arith in
    ap (λ b. record { air = b; trace = y; public_values = f z } ∷ instances_of bs ts (map f ps)) (sym d)
    ∙ ap (λ b. record { air = a; trace = b; public_values = f z } ∷ instances_of bs ts (map f ps)) (sym e)
    ∙ ap (λ b. record { air = a; trace = t; public_values = f b } ∷ instances_of bs ts (map f ps)) (sym q)
    ∙ ap (λ n. record { air = a; trace = t; public_values = f p } ∷ instances_of (drop n (x ∷ bs)) (drop n (y ∷ ts)) (drop n (f z ∷ map f ps))) one
next f (x ∷ bs) (y ∷ ts) (z ∷ ps) (suc i) a t p h k l d e q =
    let more : suc (i + 1) ≡ suc i + 1 = omega arith in
    next f bs ts ps i a t p (omega (arith, h)) (omega (arith, k)) (omega (arith, l)) d e q
    ∙ ap (λ n. record { air = a; trace = t; public_values = f p } ∷ instances_of (drop n (x ∷ bs)) (drop n (y ∷ ts)) (drop n (f z ∷ map f ps))) more
