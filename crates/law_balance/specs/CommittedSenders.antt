-- What the tables of a batch send, as a proof commits to them (not in Plonky3).
use Rattle.std.specs.Prelude.{◌≡◌, ◌⊎◌, ℕ, ◌≤◌, ◌++◌, Bool, List, [], length, All, Option, option_to_list}
use Rattle.std.specs.Prelude.{slice_index_or as get_or}
use Rattle.p3_field.specs.Field.{TwoAdic, Extension}
use Rattle.p3_field.specs.Poly.{tabulate}
use Rattle.air_core.specs.Shape.{Shape}
use Rattle.air_core.specs.Tree.{Tree}
use Rattle.p3_lookup.specs.Bus.{bus_in, widest}
use Rattle.p3_lookup.specs.Challenge.{bus_base}
use Rattle.p3_lookup.specs.Lookup.{LookupData, ReadsSent}
use Rattle.p3_lookup.specs.Messages.{Message, Sender, HasBases, IsBalanced, batch_messages}
use Rattle.p3_lookup.specs.Trees.{lookup_trees}
use Rattle.stark_balance.specs.Unlucky.{IsPairUnlucky}
use Rattle.law_committed.specs.Committed.{CommittedTable, Holds}
use Rattle.law_soundness.specs.CommittedBatch.{permutation_count}
use Rattle.law_balance.specs.CommittedRows.{committed_sender}

module _ {F E : Type 0} (f : TwoAdic F) (table : ℕ → CommittedTable F E) (lookups : List (List (LookupData F))) where
  -- the tables as far as they send, each lookup with the number of its bus in the batch
  abbrev pub committed_senders : List (Sender F)
  committed_senders = tabulate (length lookups) (λ i. committed_sender f (table i) (get_or lookups i []) (bus_in lookups i))

  -- their messages, row by row, table after table
  abbrev pub committed_messages : List (Message F)
  committed_messages = batch_messages committed_senders

-- Table i of a batch, with these lookups, holds with their constraints among its own. Its challenges are the bases of their buses for this pair, its lookups read
-- what a table may send, and it has a terminal exactly where it has lookups.
pub record IsHoldingTable {F E : Type 0} (f : TwoAdic F) (e : Extension F E) (top : ℕ) (lookups : List (List (LookupData F))) (alpha beta : E) (i : ℕ) (t : CommittedTable F E)
    (terminal : Option E) : Type 0 where
  pub fits : t.log_height ≤ top
  pub bases : HasBases e.ring.zero (bus_base e.ring alpha beta (widest lookups)) beta (bus_in lookups i) (length (get_or lookups i [])) t.challenges
  pub shape : Shape
  pub reads : All (ReadsSent shape) (get_or lookups i [])
  pub trees : List (Tree F)
  pub holds : Holds f e t (trees ++ lookup_trees f.ring (get_or lookups i []))
  pub terminal_is : t.terminals ≡ option_to_list terminal
  pub counted : length t.terminals ≡ permutation_count (length (get_or lookups i []))

-- nothing is left over of what the committed tables send, or the lookup pair is unlucky
abbrev pub CommittedBalance : {F E : Type 0} → (f : TwoAdic F) → (F → F → Bool) → (e : Extension F E) → (E → E) → (ℕ → CommittedTable F E) → List (List (LookupData F)) → (alpha beta : E)
    → Type 0
CommittedBalance f eq e inverse table lookups alpha beta =
    IsBalanced f.ring eq (committed_messages f table lookups) ⊎ IsPairUnlucky f.ring eq e.ring inverse e.embed (widest lookups) (committed_messages f table lookups) alpha beta
