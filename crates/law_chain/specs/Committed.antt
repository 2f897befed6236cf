-- Committed tables that are chains of compressions (not in Plonky3).
use Rattle.std.specs.Prelude.{◌≡◌, ◌↔◌, ℕ, ◌≤◌, length}
use Rattle.p3_field.specs.BabyBear.{baby_bear_ring}
use Rattle.p3_field.specs.declared.baby_bear.BabyBear.{BabyBear}
use Rattle.p3_field.specs.declared.quartic.QuarticExtension.{QuarticExtension}
use Rattle.law_committed.specs.BaseRows.{main_row}
use Rattle.law_committed.specs.Committed.{CommittedTable, Holds, row_count_of}
use Rattle.law_committed.specs.Fields.{baby_bear_field, quartic_extension}
use Rattle.chain_air.specs.Chain.{AreChainRows, AreEight, publics_of}
use Rattle.chain_air.specs.Trees.{chain_trees}

-- A committed table of 9168 columns with the public values of a chain holds with the constraints of a chain exactly where its rows are
-- those of a chain of compressions between the two chaining values.
abbrev pub CommittedChains : Type 0
CommittedChains = (t : CommittedTable BabyBear QuarticExtension) (start end : ℕ → ℕ) → t.log_height ≤ 27 → AreEight start → AreEight end → length t.main ≡ 9168
    → t.public_values ≡ publics_of baby_bear_ring start end
    → Holds baby_bear_field quartic_extension t (chain_trees baby_bear_ring) ↔ AreChainRows baby_bear_ring (row_count_of t) (main_row baby_bear_field t) start end
