use Rattle.blake3_packed.specs.Laws.Transposed.{halves_32, halves_16, halves_8, halves_4, halves_2, halves_1, all_exchanged}
use Rattle.blake3_packed.proofs.transposing.transposed.Goals as goal

pub exchanged-a-requires-clause-halving : goal.exchanged-a-requires-clause-halving
exchanged-a-requires-clause-halving c = halves_32

pub exchanged-b-requires-clause-halving : goal.exchanged-b-requires-clause-halving
exchanged-b-requires-clause-halving c = halves_16

pub exchanged-c-requires-clause-halving : goal.exchanged-c-requires-clause-halving
exchanged-c-requires-clause-halving c = halves_8

pub exchanged-d-requires-clause-halving : goal.exchanged-d-requires-clause-halving
exchanged-d-requires-clause-halving c = halves_4

pub exchanged-e-requires-clause-halving : goal.exchanged-e-requires-clause-halving
exchanged-e-requires-clause-halving c = halves_2

pub exchanged-requires-clause-halving : goal.exchanged-requires-clause-halving
exchanged-requires-clause-halving c = halves_1

pub returns : goal.returns
returns c =
    all_exchanged c.args.rows.now _ _ _ _ _ _ c.exchanged-a.ensures c.exchanged-b.ensures c.exchanged-c.ensures c.exchanged-d.ensures c.exchanged-e.ensures c.exchanged.ensures
