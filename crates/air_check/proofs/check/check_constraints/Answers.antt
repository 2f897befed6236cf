use Rattle.std.proofs.Common.{◌≡◌, ℕ, ◌<◌, inl, inr, length, subst, arith, rules}
use Rattle.std.specs.Option.{option_map}
use Rattle.std.proofs.lemmas.Bool.{cases_lt}
use Rattle.air_core.specs.Check.{table_traces, row_values, HoldsAtRow, HasHeight}
use Rattle.air_check.specs.Laws.Nonzero.{nonzero_empty, nonzero_fails}
use Rattle.air_check.proofs.check.check_constraints.Goals as goal

pub loop-row-preserved : goal.loop-row-preserved
loop-row-preserved g c i lt =
    let r = g.F.RingCore.ring in
    let row = c.loop-row.row in
    let table = table_traces c.args.main.now (option_map (λ m. m.now) c.args.preprocessed) (g.A.BaseAir.declaration c.args.air.now).periodic c.args.public_values.now in
    let trees = g.A.Air.trees c.args.air.now in
    let none : length c.in_ok-places.places.items ≡ 0 = search rules in
    let P : ℕ → Type 0 = λ j. HoldsAtRow r table trees j in
    elim (cases_lt i row) [
      | inl b ↦ c.loop-row.invariant i b
      | inr ge ↦
          let e : row ≡ i = omega (arith, lt, ge) in
          subst P e (nonzero_empty r (row_values r table trees row) c.in_ok-places.places.items c.in_ok-places.ensures none)
    ]

pub returns : goal.returns
returns g c =
    let P : ℕ → Type 0 = λ n. HasHeight (option_map (λ m. m.now) c.args.preprocessed) n in
    (subst P c.height-height.ensures.result (c.has_height.ensures.0 (search rules)), λ i lt. c.loop-row.invariant i (omega (arith, lt)))

pub returns-then-not-is_empty : goal.returns-then-not-is_empty
returns-then-not-is_empty g c =
    let r = g.F.RingCore.ring in
    let row = c.loop-row.row in
    let table = table_traces c.args.main.now (option_map (λ m. m.now) c.args.preprocessed) (g.A.BaseAir.declaration c.args.air.now).periodic c.args.public_values.now in
    let values = row_values r table (g.A.Air.trees c.args.air.now) row in
    let P : ℕ → Type 0 = λ n. HasHeight (option_map (λ m. m.now) c.args.preprocessed) n in
    let some : 0 < length c.in_ok-places.places.items = search rules in (
      subst P c.height-height.ensures.result (c.has_height.ensures.0 (search rules)),
      record {
        within = search rules;
        fails = nonzero_fails r values c.in_ok-places.places.items c.in_ok-places.ensures some;
        earlier = c.loop-row.invariant;
      },
      c.in_ok-places.ensures,
    )
