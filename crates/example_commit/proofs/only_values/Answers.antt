use Rattle.commit_core.specs.Laws.OneItem.{one_after, the_one, values_in, matrix_in, round_in}
use Rattle.example_commit.proofs.only_values.Goals as goal

pub only-requires : goal.only-requires
only-requires g c = one_after round_in c.args.opened.items _ c.requires.1

pub only-requires-2 : goal.only-requires-2
only-requires-2 g c =
    let matrices = the_one round_in c.args.opened.items c.only.result _ c.requires.1 c.only.ensures in
    one_after matrix_in c.only.result.items _ matrices

pub only-requires-3 : goal.only-requires-3
only-requires-3 g c =
    let matrices = the_one round_in c.args.opened.items c.only.result _ c.requires.1 c.only.ensures in
    let points = the_one matrix_in c.only.result.items c.only-2.result _ matrices c.only-2.ensures in
    one_after values_in c.only-2.result.items _ points
