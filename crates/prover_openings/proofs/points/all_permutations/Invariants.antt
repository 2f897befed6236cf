use Rattle.std.proofs.Common.{◌≡◌, ◌∷◌, [], get_or, map}
use Rattle.std.specs.Prelude.{option_to_list}
use Rattle.std.specs.List.{flat_map}
use Rattle.p3_field.specs.Poly.{tabulate}
use Rattle.p3_lookup.specs.Written.{read_all}
use Rattle.batch_statement.specs.Words.{bits_at}
use Rattle.batch_config.specs.Domains.{next_by}
use Rattle.law_honest.specs.HonestProof.{where_some}
use Rattle.prover_openings.proofs.points.all_permutations.Given as goal

abbrev pub invariant-loop-index : goal.invariant-loop-index
invariant-loop-index g l =
    map (λ x. x.items) l.points.items ≡ flat_map (λ i. option_to_list (where_some (get_or (map read_all l.lookups) i []) (l.zeta ∷ next_by g.E.RingCore.ring g.E.ExtensionField.embed g.F.TwoAdicCore.root l.masks l.zeta (bits_at l.degree_bits i) ∷ []))) (tabulate l.index (λ i. i))
