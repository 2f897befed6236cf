-- The parts of a table's statement, with the limits that its kind gives them.
use Rattle.std.proofs.Common.{◌≡◌, ℕ, List, subst}
use Rattle.p3_field.specs.declared.baby_bear.BabyBear.{BabyBear}
use Rattle.tool_lines.specs.Texts.{Between, ItemsWithin, Reads, Stops, Unlimited, element_numbers, items_numbers, one_number}
use Rattle.tool_proof_files.specs.Files.{least_log_rows, most_log_rows, public_count}
use Rattle.tool_proof_files.specs.Laws.Tables.{RowsWithin, PublicValuesWithin}

module _ (kind : ℕ) {old new : List ℕ} where
  pub rows-reads : (least most k : ℕ) → least ≡ least_log_rows kind → most ≡ most_log_rows kind → Reads (Between least most) one_number old new k → Reads (RowsWithin kind) one_number old new k
  rows-reads least most k e h r =
      subst (λ (m : ℕ). Reads (Between (least_log_rows kind) m) one_number old new k) h (subst (λ (n : ℕ). Reads (Between n most) one_number old new k) e r)

  pub rows-stops : (least most : ℕ) → least ≡ least_log_rows kind → most ≡ most_log_rows kind → Stops (Between least most) one_number old new → Stops (RowsWithin kind) one_number old new
  rows-stops least most e h s =
      subst (λ (m : ℕ). Stops (Between (least_log_rows kind) m) one_number old new) h (subst (λ (n : ℕ). Stops (Between n most) one_number old new) e s)

  pub values-reads : (count : ℕ) (xs : List BabyBear) → count ≡ public_count kind → Reads (ItemsWithin count Unlimited) (items_numbers element_numbers) old new xs → Reads (PublicValuesWithin kind) (items_numbers element_numbers) old new xs
  values-reads count xs e r = subst (λ (n : ℕ). Reads (ItemsWithin n Unlimited) (items_numbers element_numbers) old new xs) e r

  pub values-stops : (count : ℕ) → count ≡ public_count kind → Stops (ItemsWithin count Unlimited) (items_numbers element_numbers) old new → Stops (PublicValuesWithin kind) (items_numbers element_numbers) old new
  values-stops count e s = subst (λ (n : ℕ). Stops (ItemsWithin n Unlimited) (items_numbers element_numbers) old new) e s
