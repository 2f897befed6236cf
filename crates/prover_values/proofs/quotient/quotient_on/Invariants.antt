use Rattle.std.proofs.Common.{◌≡◌}
use Rattle.std.specs.Option.{option_map}
use Rattle.p3_field.specs.Poly.{tabulate}
use Rattle.p3_lookup.specs.Written.{read_all}
use Rattle.batch_constraints.specs.BatchTrees.{table_trees}
use Rattle.prover_values.specs.QuotientRows.{QuotientRows, quotient_term}
use Rattle.prover_values.proofs.quotient.quotient_on.Given as goal

abbrev pub invariant-loop-row : goal.invariant-loop-row
invariant-loop-row g l =
    let q : QuotientRows g.row.F.Denot g.row.E.Denot = record {
      main = l.main;
      preprocessed = option_map (λ m. m.now) l.preprocessed;
      permutation = option_map (λ m. m.now) l.permutation;
      public_values = l.public_values;
      challenges = l.challenges;
      terminals = l.terminals;
      first_row = l.selectors.is_first_row.items;
      last_row = l.selectors.is_last_row.items;
      transition = l.selectors.is_transition.items;
    } in
    l.values.items ≡ tabulate l.row (quotient_term g.F.RingCore.ring.zero g.E.RingCore.ring g.E.ExtensionField.embed q l.periodic (table_trees g.F.RingCore.ring (g.A.Air.trees l.air) (read_all l.lookups)) l.selectors.inv_vanishing.items l.step l.size l.fn.alpha)
