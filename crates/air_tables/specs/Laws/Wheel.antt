-- What the wheel reads.
use Rattle.std.proofs.Common.{◌≡◌, ℕ, zero, suc, List, length, All, arith}
use Rattle.std.proofs.lemmas.Bool.{false≢true}
use Rattle.p3_field.specs.Ring.{Ring}
use Rattle.air_core.specs.Shape.{ReadsDeclared, declared_shape}
use Rattle.air_tables.specs.Wheel.{wheel_trees, wheel_over}

-- its cell, its preprocessed cell and its periodic one
pub wheel-read : {F : Type 0} (r : Ring F) (k : ℕ) (periodic : List (List F)) → length periodic ≡ 1
    → All (ReadsDeclared {F = F} (declared_shape (wheel_over r k periodic))) wheel_trees
wheel-read r k periodic h zero d l =
    ((omega arith, λ e. absurd (false≢true e)), ((omega arith, λ e. absurd (false≢true e)), omega (arith, h)))
wheel-read r k periodic h (suc m) d l = absurd (omega (arith, l))
