use Rattle.std.proofs.Common.{ℕ, ◌<◌, arith}
use Rattle.std.proofs.lemmas.List.Elements.{All-from_get_or}
use Rattle.example_air.specs.Laws.Sizes.{are_tables}
use Rattle.example_air.proofs.Meeting.{bytes_pass}
use Rattle.example_air.proofs.prove.prove_bytes.Goals as goal

pub prove_tables-requires : goal.prove_tables-requires
prove_tables-requires c = are_tables c.args.bytes.now _ _ c.in_ok-bits.ensures c.in_ok-times.ensures c.requires.power c.requires.few

pub returns-clause-accepted : goal.returns-clause-accepted
returns-clause-accepted c =
    bytes_pass c.baby_bear_has_laws.ensures c.rows_are_bytes.ensures c.args.bytes.now (All-from_get_or (λ (n : ℕ). n < 256) c.args.bytes.now 0 (λ k q. let fits = c.type_inv.bytes k in omega (arith, fits)))
    c.requires.power c.requires.few _ _ c.in_ok-bits.ensures c.in_ok-times.ensures c.prove_tables.result c.prove_tables.ensures.accepted
