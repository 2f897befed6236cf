use Rattle.law_checked.specs.Laws.Checked.{checked_valid, found_holds}
use Rattle.law_checked.proofs.laws.checked_batches_are_valid.Goals as goal

pub returns-clause-table : goal.returns-clause-table
returns-clause-table g k c inverse t L T Q factors found = found_holds c inverse L t T Q factors found

pub returns-clause-batch : goal.returns-clause-batch
returns-clause-batch g k c inverse eq commitment_of s traces degree_bits L B factors found fits bounded balanced = checked_valid c inverse L eq commitment_of s traces degree_bits B factors found fits bounded balanced
