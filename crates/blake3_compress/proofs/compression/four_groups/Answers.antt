use Rattle.std.proofs.Common.{ℕ, List, [], ◌∷◌, get_or}
use Rattle.air_core.specs.Joined.{joined}
use Rattle.blake3_compress.proofs.compression.four_groups.Goals as goal

abbrev groups : (a b c d : List ℕ) → List ℕ
groups a b c d =
    get_or a 0 0 ∷ get_or a 1 0 ∷ get_or a 2 0 ∷ get_or a 3 0 ∷ get_or b 0 0 ∷ get_or b 1 0 ∷ get_or b 2 0 ∷ get_or b 3 0
    ∷ get_or c 0 0 ∷ get_or c 1 0 ∷ get_or c 2 0 ∷ get_or c 3 0 ∷ get_or d 0 0 ∷ get_or d 1 0 ∷ get_or d 2 0 ∷ get_or d 3 0 ∷ []

pub returns : goal.returns
unfolding joined
returns c f p q r s = λ j. groups (p j) (q j) (r j) (s j)
