-- What a committed table sends, row by row, over the base field (not in Plonky3).
use Rattle.std.specs.Prelude.{ℕ, ◌+◌, ◌%◌, false, List, [], map}
use Rattle.p3_field.specs.Domain.{point, subgroup}
use Rattle.p3_field.specs.Field.{TwoAdic}
use Rattle.p3_field.specs.Poly.{eval_poly}
use Rattle.air_core.specs.RowCheck.{Row}
use Rattle.p3_lookup.specs.Batch.{SendingTable}
use Rattle.p3_lookup.specs.Lookup.{LookupData}
use Rattle.p3_lookup.specs.Messages.{Sender}
use Rattle.stark_balance.specs.Sender.{sent_in_row}
use Rattle.law_committed.specs.BaseRows.{main_row}
use Rattle.law_committed.specs.Committed.{CommittedTable, row_count_of}

module _ {F E : Type 0} (f : TwoAdic F) (t : CommittedTable F E) where
  -- row i of some columns, as `main_row` is of the main ones: the values of their polynomials at the row's point
  abbrev pub columns_on_row : List (List F) → ℕ → List F
  columns_on_row columns i = map (λ g. eval_poly f.ring g (point f.ring f.root (subgroup f.ring t.log_height) i)) columns

  -- row i as far as lookups read it, with the next one; after the last row is the first
  abbrev pub sent_row : ℕ → Row F F
  sent_row i = record {
    main_local = main_row f t i;
    main_next = main_row f t ((i + 1) % row_count_of t);
    preprocessed_local = columns_on_row t.preprocessed i;
    preprocessed_next = columns_on_row t.preprocessed ((i + 1) % row_count_of t);
    periodic = [];
    public_values = t.public_values;
    is_first_row = false;
    is_last_row = false;
    permutation_local = [];
    permutation_next = [];
    challenges = [];
    terminals = [];
  }

  -- the table as far as it sends: these lookups, and the values of what they send on its rows
  abbrev pub committed_sending : List (LookupData F) → SendingTable F
  committed_sending lookups = record { lookups = lookups; rows = row_count_of t; value = λ i tree. sent_in_row f.ring (sent_row i) tree }

  -- the same, with the number of each lookup's bus
  abbrev pub committed_sender : List (LookupData F) → (bus : ℕ → ℕ) → Sender F
  committed_sender lookups bus = record { lookups = lookups; bus = bus; rows = row_count_of t; value = λ i tree. sent_in_row f.ring (sent_row i) tree }
