use Rattle.std.proofs.Common.{◌≡◌, ℕ, suc, ◌+◌, ◌*◌, ◌∙◌, ap, arith, subst}
use Rattle.p3_field.specs.Ring.{Ring}
use Rattle.blake3_prime.specs.declared.places.Columns.{Columns}
use Rattle.blake3_compress.specs.TraceRow.{turn_of, d_turn, b_turn, message_of}
use Rattle.blake3_prime.specs.Trees.{place_of, columns_of_step, columns_trees, step_half_trees}
use Rattle.air_core.specs.Appended.{Appended, AppendedSome}
use Rattle.air_core.specs.Laws.Appended.{on_failure}
use Rattle.blake3_prime.proofs.rounds.assert_step_half.Goals as goal

is_step : {F : Type 0} (r : Ring F) (n g : ℕ) (b a : Columns) (m : ℕ) → b ≡ columns_of_step (place_of n) (turn_of n) g → a ≡ columns_of_step (place_of (n + 1)) (turn_of n) g → m ≡ 32 * message_of n g
    → columns_trees r (d_turn n) (b_turn n) b m a ≡ step_half_trees r n g
unfolding step_half_trees
is_step r n g b a m eb ea em =
    let e : n + 1 ≡ suc n = omega arith in
    ap (λ x. columns_trees r (d_turn n) (b_turn n) x m a) eb
    ∙ (ap (λ x. columns_trees r (d_turn n) (b_turn n) (columns_of_step (place_of n) (turn_of n) g) x a) em
    ∙ ap (columns_trees r (d_turn n) (b_turn n) (columns_of_step (place_of n) (turn_of n) g) (32 * message_of n g)) (ea ∙ ap (λ k. columns_of_step (place_of k) (turn_of n) g) e))

pub returns-clause-appends : goal.returns-clause-appends
returns-clause-appends g c =
    subst (Appended g.AB.AirBuilder.appends _ _)
    (is_step g.AB.F.RingCore.ring c.args.n c.args.g _ _ _ c.step_columns-before.ensures.columns c.step_columns-after.ensures.columns c.message_column-message.ensures.column)
    c.in_ok-assert_half.ensures.appends

pub returns-in_err-assert_half-clause-on_error : goal.returns-in_err-assert_half-clause-on_error
returns-in_err-assert_half-clause-on_error g c =
    on_failure (subst (AppendedSome g.AB.AirBuilder.appends _ _)
    (is_step g.AB.F.RingCore.ring c.args.n c.args.g _ _ _ c.step_columns-before.ensures.columns c.step_columns-after.ensures.columns c.message_column-message.ensures.column)
    c.in_err-assert_half.ensures.on_error.holds)
