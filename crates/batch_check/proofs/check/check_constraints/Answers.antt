use Rattle.std.proofs.Common.{◌≡◌, ℕ, ◌<◌, inl, inr, length, subst, ◌∙◌, arith, rules}
use Rattle.std.specs.Option.{option_map}
use Rattle.std.proofs.lemmas.Bool.{cases_lt}
use Rattle.std.proofs.lemmas.List.{length-map}
use Rattle.air_core.specs.Check.{table_traces, HasHeight}
use Rattle.p3_lookup.specs.Written.{read, read_all}
use Rattle.batch_check.specs.BatchCheck.{checked_table, batch_values, HoldsInRow}
use Rattle.air_check.specs.Laws.Nonzero.{nonzero_empty, nonzero_fails}
use Rattle.batch_check.proofs.check.check_constraints.Goals as goal

pub loop-row-preserved : goal.loop-row-preserved
loop-row-preserved g c i lt =
    let f = g.F.RingCore.ring in
    let e = g.EF.RingCore.ring in
    let embed = g.EF.ExtensionField.embed in
    let row = c.loop-row.row in
    let own = table_traces c.args.main.now (option_map (λ m. m.now) c.args.preprocessed) (g.A.BaseAir.declaration c.args.air.now).periodic c.args.public_values.now in
    let table = checked_table own (read_all c.args.lookups.now) c.args.permutation.now c.args.permutation_challenges.now c.args.permutation_values.now in
    let trees = g.A.Air.trees c.args.air.now in
    let none : length c.in_ok-places.places.items ≡ 0 = search rules in
    let P : ℕ → Type 0 = λ j. HoldsInRow f e embed table trees j in
    elim (cases_lt i row) [
      | inl b ↦ c.loop-row.invariant i b
      | inr ge ↦
          let q : row ≡ i = omega (arith, lt, ge) in
          subst P q (nonzero_empty e (batch_values f e embed table trees row) c.in_ok-places.places.items c.in_ok-places.ensures none)
    ]

pub returns : goal.returns
returns g c =
    let long = length-map c.args.lookups.now read in
    let P : ℕ → Type 0 = λ n. HasHeight (option_map (λ m. m.now) c.args.preprocessed) n in
    let own = subst P c.height-height.ensures.result (c.has_height.ensures.0 (search rules)) in
    let columns = λ (some : 0 < length (read_all c.args.lookups.now)). c.have_height.ensures.0 (search rules) (omega (arith, long, some)) ∙ c.height-height.ensures.result in
    ((own, columns), λ i lt. c.loop-row.invariant i (omega (arith, lt)))

pub returns-then-not-is_empty : goal.returns-then-not-is_empty
returns-then-not-is_empty g c =
    let f = g.F.RingCore.ring in
    let e = g.EF.RingCore.ring in
    let embed = g.EF.ExtensionField.embed in
    let row = c.loop-row.row in
    let own = table_traces c.args.main.now (option_map (λ m. m.now) c.args.preprocessed) (g.A.BaseAir.declaration c.args.air.now).periodic c.args.public_values.now in
    let table = checked_table own (read_all c.args.lookups.now) c.args.permutation.now c.args.permutation_challenges.now c.args.permutation_values.now in
    let values = batch_values f e embed table (g.A.Air.trees c.args.air.now) row in
    let long = length-map c.args.lookups.now read in
    let P : ℕ → Type 0 = λ n. HasHeight (option_map (λ m. m.now) c.args.preprocessed) n in
    let main = subst P c.height-height.ensures.result (c.has_height.ensures.0 (search rules)) in
    let columns = λ (h : 0 < length (read_all c.args.lookups.now)). c.have_height.ensures.0 (search rules) (omega (arith, long, h)) ∙ c.height-height.ensures.result in
    let some : 0 < length c.in_ok-places.places.items = search rules in (
      (main, columns),
      record {
        within = search rules;
        fails = nonzero_fails e values c.in_ok-places.places.items c.in_ok-places.ensures some;
        earlier = c.loop-row.invariant;
      },
      c.in_ok-places.ensures,
    )
