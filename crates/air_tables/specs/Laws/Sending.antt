-- What the sending table reads.
use Rattle.std.proofs.Common.{◌≡◌, zero, suc, List, length, All, arith}
use Rattle.std.proofs.lemmas.Bool.{false≢true}
use Rattle.air_core.specs.Shape.{ReadsDeclared, declared_shape}
use Rattle.air_tables.specs.Sending.{sending_trees, sending_declaration}

-- the sending table reads its cell, its preprocessed cell and its periodic one
pub sending-read : {F : Type 0} (steps : List F) (periodic : List (List F)) → length periodic ≡ 1
    → All (ReadsDeclared {F = F} (declared_shape (sending_declaration steps periodic))) sending_trees
sending-read steps periodic h zero d l =
    ((omega arith, λ e. absurd (false≢true e)), ((omega arith, λ e. absurd (false≢true e)), omega (arith, h)))
sending-read steps periodic h (suc k) d l = absurd (omega (arith, l))
