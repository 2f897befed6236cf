-- Words of 64 lanes: bit j of a word is lane j's.
use Rattle.std.specs.Prelude.{◌≡◌, ℕ, ◌+◌, ◌-◌, ◌*◌, ◌/◌, ◌%◌, ◌^◌, ◌<◌, ◌≤◌, List, [], ◌++◌, length}
use Rattle.std.specs.Prelude.{slice_index_or as get_or}
use Rattle.std.specs.Int.{bit_at}
use Rattle.blake3_compress.specs.Compress.{Input}
use Rattle.blake3_binary.specs.Sums.{carry}

-- so many words, in which lane j has the items of its list: bit j of word c is item c
pub record AreLanes (words : List ℕ) (n : ℕ) (lanes : ℕ → List ℕ) : Type 0 where
  pub long : length words ≡ n
  pub each : (j : ℕ) → j < 64 → length (lanes j) ≡ n
  pub bits : (j c : ℕ) → j < 64 → c < n → bit_at (get_or words c 0) j ≡ get_or (lanes j) c 0

-- so many words were pushed, in which lane j has the items of its list
pub record PushedLanes (old new : List ℕ) (n : ℕ) (lanes : ℕ → List ℕ) : Type 0 where
  pub words : List ℕ
  pub pushed : new ≡ old ++ words
  pub are_lanes : AreLanes words n lanes

-- 32 words are planes of a word in each lane: bit j of plane k is bit k of lane j's word
pub record ArePlanes (planes : List ℕ) (w : ℕ → ℕ) : Type 0 where
  pub long : length planes ≡ 32
  pub below : (j : ℕ) → j < 64 → w j < 2 ^ 32
  pub bits : (j k : ℕ) → j < 64 → k < 32 → bit_at (get_or planes k 0) j ≡ bit_at (w j) k

-- 32 words are the carries of a sum in each lane: bit j of word k is the carry into place k of lane j's sum
pub record AreCarries (planes : List ℕ) (v w : ℕ → ℕ) : Type 0 where
  pub long : length planes ≡ 32
  pub bits : (j k : ℕ) → j < 64 → k < 32 → bit_at (get_or planes k 0) j ≡ carry (v j) (w j) k

-- planes of each of n words
abbrev pub AreWordPlanes : ℕ → List (List ℕ) → (ℕ → Input) → Type 0
AreWordPlanes n words x = (i : ℕ) → i < n → ArePlanes (get_or words i []) (λ j. x j i)

-- bit j of word i of the one is bit i of word j of the other
abbrev pub IsTransposed : List ℕ → List ℕ → Type 0
IsTransposed xs ys = (i j : ℕ) → i < 64 → j < 64 → bit_at (get_or ys i 0) j ≡ bit_at (get_or xs j 0) i

-- a mask of the lower half of each run of 2 w bits
pub record IsHalving (w mask : ℕ) : Type 0 where
  pub bits : (j : ℕ) → j < 64 → bit_at mask j ≡ 1 - j / w % 2
  pub up : (j : ℕ) → j < 64 → j / w % 2 ≡ 0 → j + w < 64
  pub odd : (j : ℕ) → j < 64 → j / w % 2 ≡ 1 → w ≤ j
  pub down : (j : ℕ) → j < 64 → w ≤ j → (j - w) / w % 2 ≡ 1 - j / w % 2

-- rows p and p + 32 became rows 2 p and 2 p + 1, and exchanged halves of their runs of 2 w bits, as far as row 2 n
pub record ExchangedBelow (n w : ℕ) (xs ys : List ℕ) : Type 0 where
  pub low_even : (p j : ℕ) → p < n → j < 64 → j / w % 2 ≡ 0 → bit_at (get_or ys (2 * p) 0) j ≡ bit_at (get_or xs p 0) j
  pub low_odd : (p j : ℕ) → p < n → j < 64 → j / w % 2 ≡ 1 → bit_at (get_or ys (2 * p) 0) j ≡ bit_at (get_or xs (p + 32) 0) (j - w)
  pub high_even : (p j : ℕ) → p < n → j < 64 → j / w % 2 ≡ 0 → bit_at (get_or ys (2 * p + 1) 0) j ≡ bit_at (get_or xs p 0) (j + w)
  pub high_odd : (p j : ℕ) → p < n → j < 64 → j / w % 2 ≡ 1 → bit_at (get_or ys (2 * p + 1) 0) j ≡ bit_at (get_or xs (p + 32) 0) j

abbrev pub IsExchanged : ℕ → List ℕ → List ℕ → Type 0
IsExchanged w xs ys = ExchangedBelow 32 w xs ys
