-- The limit on what is read.
use Rattle.std.specs.Prelude.{ℕ}

-- the most bytes of an input: 64 times 2^20
abbrev pub most_bytes : ℕ
most_bytes = 67108864
