-- Tables of a batch on which the constraints of their lookups vanish, and what their terminals then say (not in Plonky3).
use Rattle.std.specs.Prelude.{◌≡◌, ◌⊎◌, ℕ, ◌<◌, Bool, List, length, flat_map, Option, Some, None, option_to_list}
use Rattle.std.specs.Prelude.{slice_index_or as get_or}
use Rattle.p3_field.specs.Ring.{Ring}
use Rattle.air_core.specs.declared.cells.Cell.{Cell}
use Rattle.air_core.specs.declared.cells.ExtCell.{ExtCell}
use Rattle.p3_lookup.specs.Messages.{Sender, HasBases, IsBalanced, argument_of, batch_messages}
use Rattle.p3_lookup.specs.Term.{sum_of}
use Rattle.stark_balance.specs.Unlucky.{AreBasesUnlucky}
use Rattle.stark_balance.specs.Vanishing.{AreVanishingRows}

module _ {F E : Type 0} (f : Ring F) (e : Ring E) (inv : E → E) (embed : F → E) (base : ℕ → E) (beta : E) where
  -- A table with the challenges of its lookups' buses: where it has lookups, it has a terminal, and their constraints vanish on its rows; else it has none.
  pub record IsVanishingTable (s : Sender F) (terminal : Option E) : Type 0 where
    pub challenges : List E
    pub bases : HasBases e.zero base beta s.bus (length s.lookups) challenges
    pub some_rows : 0 < s.rows
    pub without : length s.lookups ≡ 0 → terminal ≡ None
    pub with_lookups : 0 < length s.lookups → (x : E) × (at : ℕ → Cell → E) × (at_ext : ℕ → ExtCell → E) × (terminal ≡ Some x)
        × AreVanishingRows f embed (argument_of e inv embed challenges s) s.rows x at at_ext

  -- Where the lookups' constraints vanish on all rows of all tables, and the terminals that are there sum to zero, nothing is left over on any bus, or
  -- these bases and beta are unlucky.
  abbrev pub VanishingBatchBalances : (F → F → Bool) → List (Sender F) → List (Option E) → Type 0
  VanishingBatchBalances eq ss terminals =
      length terminals ≡ length ss → ((k : ℕ) (d : Sender F) → k < length ss → IsVanishingTable (get_or ss k d) (get_or terminals k None))
      → sum_of e (flat_map option_to_list terminals) ≡ e.zero
      → IsBalanced f eq (batch_messages ss) ⊎ AreBasesUnlucky f eq e inv embed base beta (batch_messages ss)
