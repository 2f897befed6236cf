-- What is stated of a job's table.
use Rattle.std.specs.Prelude.{List, length, map}
use Rattle.p3_field.specs.declared.baby_bear.BabyBear.{BabyBear}
use Rattle.batch_setup.specs.Setup.{log_of}
use Rattle.tool_statement.specs.declared.table.TableStatement.{TableStatement}
use Rattle.tool_statement.specs.declared.table.TableStatement.TheVariants.{Swap, Wheel, Take, Give, Hash}
use Rattle.law_tool_valid.specs.Job.{JobTable, swap_of, wheel_of, take_of, give_of, hash_of, last_right}

-- its kind, the logarithm of its number of rows, and a swap table's first row and last right cell
abbrev pub statement_of : JobTable BabyBear → TableStatement
statement_of (swap_of k a b) = Swap k a b (last_right k a b)
statement_of (wheel_of k) = Wheel k
statement_of (take_of words) = Take (log_of (length words))
statement_of (give_of pairs) = Give (log_of (length pairs))
statement_of (hash_of rows) = Hash (log_of (length rows))

abbrev pub statements_for : List (JobTable BabyBear) → List TableStatement
statements_for job = map statement_of job
