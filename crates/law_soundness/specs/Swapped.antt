-- What a table's last right cell is, where its rows are swaps of its first (not in Plonky3).
use Rattle.std.specs.Prelude.{◌≡◌, ℕ, zero, suc, List, [], ◌∷◌}

-- the public values of a swap table: its first row, and the last right cell
abbrev pub swap_publics : {F : Type 0} → (a b x : F) → List F
swap_publics a b x = a ∷ b ∷ x ∷ []

-- x is b in a table of one row, and a in a larger one of 2^log_height rows
abbrev pub EndsSwapped : {F : Type 0} → (log_height : ℕ) → (a b x : F) → Type 0
EndsSwapped zero a b x = x ≡ b
EndsSwapped (suc k) a b x = x ≡ a
