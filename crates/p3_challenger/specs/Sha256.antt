-- `Sha256Challenger`: a chain of 32 bytes under SHA-256, and how many draws are left in it.
use Rattle.std.specs.Prelude.{ℕ, ◌-◌, ◌%◌, ◌^◌, List, ◌++◌, take, drop, ◌==◌, if◌then◌else◌}
use Rattle.std.specs.List.{fold}
use Rattle.std.specs.Int.{w32, w128, from_le_bytes, to_le_bytes}
use Rattle.sha2.specs.Sha256.{sha256}
use Rattle.p3_field.specs.declared.baby_bear.BabyBear.{BabyBear}
use Rattle.p3_field.specs.declared.quartic.QuarticExtension.{QuarticExtension}
use Rattle.p3_field.specs.BabyBear.{reduce}
use Rattle.p3_challenger.specs.declared.sha256_challenger.Sha256Challenger.{Sha256Challenger}

-- an element is hashed after the chain, as 4 bytes with the low one first, and no draw is left
unfoldable pub observed : Sha256Challenger → BabyBear → Sha256Challenger
observed s x = record { chain = sha256 (s.chain ++ to_le_bytes w32 x.value); left = 0 }

-- elements are observed in order
abbrev pub observed_all : Sha256Challenger → List BabyBear → Sha256Challenger
observed_all s xs = fold observed s xs

-- a chain with a draw in it: where none is left the chain is hashed, and has two
abbrev pub refilled : Sha256Challenger → Sha256Challenger
refilled s = if s.left == 0 then record { chain = sha256 s.chain; left = 2 } else s

-- the half of the chain whose turn it is: the first of two, then the second
abbrev pub chain_half : Sha256Challenger → List ℕ
chain_half s = if s.left == 2 then take 16 s.chain else drop 16 s.chain

-- the element that is drawn: the half as a number, with the low byte first, modulo the order
unfoldable pub drawn_element : Sha256Challenger → BabyBear
drawn_element s = reduce (from_le_bytes w128 (chain_half (refilled s)))

-- the state after a draw
unfoldable pub after_draw : Sha256Challenger → Sha256Challenger
after_draw s = record { chain = (refilled s).chain; left = (refilled s).left - 1 }

-- the low bits of a drawn element's value
abbrev pub bits_drawn : Sha256Challenger → ℕ → ℕ
bits_drawn s bits = (drawn_element s).value % 2 ^ bits

-- an extension element is observed as its coefficients, in basis order
unfoldable pub observed_extension : Sha256Challenger → QuarticExtension → Sha256Challenger
observed_extension s x = observed (observed (observed (observed s x.c0) x.c1) x.c2) x.c3

-- the extension element that is drawn: its coefficients are four draws, in basis order
unfoldable pub drawn_extension : Sha256Challenger → QuarticExtension
drawn_extension s = record {
  c0 = drawn_element s;
  c1 = drawn_element (after_draw s);
  c2 = drawn_element (after_draw (after_draw s));
  c3 = drawn_element (after_draw (after_draw (after_draw s)));
}

-- the state after an extension element's draw
unfoldable pub after_extension_draw : Sha256Challenger → Sha256Challenger
after_extension_draw s = after_draw (after_draw (after_draw (after_draw s)))
