use Rattle.std.proofs.Common.{◌≡◌, ◌∷◌, [], refl, arith}
use Rattle.std.specs.Int.{w32, to_le_bytes}
use Rattle.sha2.specs.Sha256.{sha256}
use Rattle.p3_challenger.specs.Sha256.{observed}
use Rattle.p3_challenger.proofs.Written.{written}
use Rattle.p3_challenger.proofs.sha256_challenger.Sha256ChallengerCanObserveBabyBear.observe.Goals as goal

pub returns : goal.returns
unfolding observed
returns c =
    let chain = c.copy_from_slice.ensures in
    let value = c.copy_from_slice-2.ensures in
    let message = written c.copy_from_slice.new.self (0 ∷ 0 ∷ 0 ∷ 0 ∷ []) c.copy_from_slice-2.new.self chain.len refl in
    let digest : c.digest-self.result ≡ sha256 _ = c.digest-self.ensures in
    let bytes : c.to_le_bytes.result ≡ to_le_bytes w32 c.args.value.now.value = grind (arith, c.to_le_bytes.ensures, c.as_canonical_u64.ensures) in
    cc (digest, message, value.after, chain.after, bytes)
