use Rattle.std.specs.Prelude.{codes}
use Rattle.std.proofs.Common.{Err, ap}
use Rattle.json_forms.specs.Readings.{number_reading, list_reading, option_reading, element_reading, extension_reading, member_reading}
use Rattle.json_proof_files.specs.FileReadings.{commitments_reading}
use Rattle.json_proof_files.specs.OpeningReadings.{instance_reading}
use Rattle.json_proof_files.specs.TableTrees.{table_reading}
use Rattle.json_proof_files.specs.Laws.LeftOver.{eight_left_over}
use Rattle.json_proof_files.proofs.file.FileFormJsonForm.read.Goals as goal

pub returns-in_err-end-clause-err : goal.returns-in_err-end-clause-err
returns-in_err-end-clause-err c = λ e.
    eight_left_over
    (member_reading (codes "commitments") commitments_reading)
    (member_reading (codes "degree_bits") (list_reading 0 1024 (number_reading 0 255)))
    (member_reading (codes "lookup_pow_witness") (option_reading element_reading))
    (member_reading (codes "lookup_terminals") (list_reading 0 1024 (option_reading extension_reading)))
    (member_reading (codes "ood_pow_witness") element_reading)
    (member_reading (codes "opened_values") (list_reading 0 1024 instance_reading))
    (member_reading (codes "tables") (list_reading 1 8 table_reading))
    (member_reading (codes "version") (number_reading 1 2))
    _ _ _ _ _ _ _ _ _ _ _ _ _ _ _ _ _ _ _
    c.in_ok-members.ensures.ok c.in_ok-commitments.ensures.ok c.in_ok-degree_bits.ensures.ok c.in_ok-lookup_pow_witness.ensures.ok c.in_ok-lookup_terminals.ensures.ok
    c.in_ok-ood_pow_witness.ensures.ok c.in_ok-instances.ensures.ok c.in_ok-tables.ensures.ok c.in_ok-version.ensures.ok
    (c.in_err-end.ensures.err (ap Err c.in_err-end.ensures.no_memory))
