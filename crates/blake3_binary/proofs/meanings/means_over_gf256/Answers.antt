use Rattle.std.proofs.Common.{◌≡◌, refl}
use Rattle.p3_field.specs.Gf256.{gf256_ring}
use Rattle.blake3_binary.proofs.meanings.means_over_gf256.Goals as goal

two : gf256_ring.add gf256_ring.one gf256_ring.one ≡ gf256_ring.zero
unfolding gf256_ring
two = refl

pub row_means-requires : goal.row_means-requires
row_means-requires c = two

pub one_completion-requires : goal.one_completion-requires
one_completion-requires c = two
