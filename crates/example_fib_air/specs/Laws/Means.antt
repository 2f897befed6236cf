-- The equations mean that the public value is the number, and the trace meets them.
use Rattle.std.proofs.Common.{◌≡◌, ℕ, zero, suc, ◌+◌, ◌-◌, ◌%◌, ◌<◌, List, [], ◌∷◌, get_or, refl, sym, ◌∙◌, ap, arith}
use Rattle.std.proofs.Math.Nat.{mod-eq_of_lt}
use Rattle.p3_field.specs.Ring.{Ring}
use Rattle.air_core.specs.declared.cells.Cell.TheVariants.{Public, FirstRow}
use Rattle.air_core.specs.Tree.{cell}
use Rattle.air_equations.specs.Equation.{Equation}
use Rattle.air_equations.specs.Meets.{MeetsHere}
use Rattle.example_fib_air.specs.Fib.{FibMeans, FibMeets, fib, fib_equations, fib_row}

-- an equation for the places past a list, which are never asked for
abbrev none : {F : Type 0} → Equation F
none = record { selector = FirstRow; left = cell (Public 0); right = cell (Public 0) }

pub fib_means : {F : Type 0} (r : Ring F) → FibMeans r
unfolding fib
fib_means {F = F} r rows a x n pos meets =
    let last : (n - 1) + 1 ≡ n = omega (arith, pos) in
    let next : suc (n - 1) ≡ n = omega (arith, pos) in
    let low : n - 1 < n = omega (arith, pos) in
    sym (meets (n - 1) low 4 none (omega arith) last) ∙ ((row (n - 1) low).1 ∙ ap (fib r a) next)
  where
    row : (i : ℕ) → i < n → (get_or (rows i) 0 r.zero ≡ fib r a i) × (get_or (rows i) 1 r.zero ≡ fib r a (suc i))
    row zero h = (meets 0 h 0 none (omega arith) refl, meets 0 h 1 none (omega arith) refl)
    row (suc i) h =
        let low : i < n = omega (arith, h) in
        let room : i + 1 < n = omega (arith, h) in
        let after : (i + 1) % n ≡ suc i = let e : i + 1 ≡ suc i = omega arith in mod-eq_of_lt room ∙ e in
        let before = row i low in (
          ap (λ j. get_or (rows j) 0 r.zero) (sym after) ∙ (meets i low 2 none (omega arith) room ∙ before.1),
          ap (λ j. get_or (rows j) 1 r.zero) (sym after) ∙ (meets i low 3 none (omega arith) room ∙ (λ k. r.add (before.0 k) (before.1 k))),
        )

pub fib_meets : {F : Type 0} (r : Ring F) → FibMeets r
unfolding fib
fib_meets {F = F} r rows a n pos are i h k d l = at k d l
  where
    here : (c : ℕ) → get_or (rows i) c r.zero ≡ get_or (fib_row r a i) c r.zero
    here c = ap (λ (cells : List F). get_or cells c r.zero) (are i h)

    after : (c : ℕ) → i + 1 < n → get_or (rows ((i + 1) % n)) c r.zero ≡ get_or (fib_row r a (suc i)) c r.zero
    after c room =
        let e : i + 1 ≡ suc i = omega arith in
        ap (λ j. get_or (rows j) c r.zero) (mod-eq_of_lt room ∙ e) ∙ ap (λ (cells : List F). get_or cells c r.zero) (are (suc i) (omega (arith, room)))

    at : (k : ℕ) (d : Equation F) → k < 5 → MeetsHere r rows (a ∷ fib r a n ∷ []) n i (get_or fib_equations k d)
    at zero d l = λ first. here 0 ∙ ap (fib r a) first
    at (suc zero) d l = λ first. here 1 ∙ ap (λ j. fib r a (suc j)) first
    at (suc (suc zero)) d l = λ room. after 0 room ∙ sym (here 1)
    at (suc (suc (suc zero))) d l = λ room. after 1 room ∙ (λ j. r.add (sym (here 0) j) (sym (here 1) j))
    at (suc (suc (suc (suc zero)))) d l = λ last. let e : suc i ≡ n = omega (arith, last) in here 1 ∙ ap (fib r a) e
    at (suc (suc (suc (suc (suc k))))) d l = absurd (omega (arith, l))
