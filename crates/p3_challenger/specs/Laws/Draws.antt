-- What is drawn.
use Rattle.std.proofs.Common.{ℕ, ◌^◌, ◌<◌}
use Rattle.std.proofs.lemmas.Nat.{mod_below, pow_pos}
use Rattle.p3_challenger.specs.declared.sha256_challenger.Sha256Challenger.{Sha256Challenger}
use Rattle.p3_challenger.specs.Sha256.{drawn_element, bits_drawn}

-- the bits that are drawn are so many
pub bits_drawn_below : (s : Sha256Challenger) (bits : ℕ) → bits_drawn s bits < 2 ^ bits
bits_drawn_below s bits = mod_below (drawn_element s).value (2 ^ bits) (pow_pos bits)
