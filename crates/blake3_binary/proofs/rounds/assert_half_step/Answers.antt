use Rattle.std.proofs.Common.{◌≡◌, ℕ, ◌+◌, ◌*◌, ◌%◌, ◌∙◌, ap, arith, subst}
use Rattle.p3_field.specs.Ring.{Ring}
use Rattle.blake3_binary.specs.declared.words.Word.{Word}
use Rattle.blake3_compress.specs.Compress.{column_of}
use Rattle.blake3_compress.specs.TraceRow.{turn_of, d_turn, b_turn, message_of}
use Rattle.blake3_binary.specs.Trees.{half_column, half_step_trees}
use Rattle.blake3_binary.specs.Places.{a_word, b_place, c_word, d_place, placed_trees}
use Rattle.blake3_binary.specs.Laws.Places.{half_placed}
use Rattle.air_core.specs.Appended.{Appended, AppendedSome}
use Rattle.air_core.specs.Laws.Appended.{on_failure}
use Rattle.blake3_binary.proofs.rounds.assert_half_step.Goals as goal

is_half : {F : Type 0} (r : Ring F) (n g : ℕ) (a : Word) (b : ℕ) (c : Word) (d m k : ℕ) → a ≡ a_word n (g % 4) → b ≡ b_place n ((g + turn_of n) % 4)
    → c ≡ c_word n ((g + 2 * turn_of n) % 4) → d ≡ d_place n ((g + 3 * turn_of n) % 4) → m ≡ 256 + 32 * message_of n g → k ≡ half_column n g
    → placed_trees r (d_turn n) (b_turn n) a b c d m k ≡ half_step_trees r n g
is_half r n g a b c d m k ea eb ec ed em ek =
    let e0 : g % 4 ≡ column_of (turn_of n) 0 g = omega arith in
    let e1 : (g + turn_of n) % 4 ≡ column_of (turn_of n) 1 g = omega arith in
    let e2 : (g + 2 * turn_of n) % 4 ≡ column_of (turn_of n) 2 g = omega arith in
    let e3 : (g + 3 * turn_of n) % 4 ≡ column_of (turn_of n) 3 g = omega arith in
    let fa = ea ∙ ap (a_word n) e0 in
    let fb = eb ∙ ap (b_place n) e1 in
    let fc = ec ∙ ap (c_word n) e2 in
    let fd = ed ∙ ap (d_place n) e3 in
    (λ i. placed_trees r (d_turn n) (b_turn n) (fa i) (fb i) (fc i) (fd i) (em i) (ek i)) ∙ half_placed r n g

pub returns-clause-appends : goal.returns-clause-appends
returns-clause-appends g c =
    subst (Appended g.AB.AirBuilder.appends _ _)
    (is_half g.AB.F.RingCore.ring c.args.n c.args.g _ _ _ _ _ _ c.a_word-a.ensures.word c.b_place-b.ensures.column c.c_word-c.ensures.word c.d_place-d.ensures.column c.message_column-message.ensures.column c.half_column-cells.ensures.column)
    c.in_ok-assert_placed.ensures.appends

pub returns-in_err-assert_placed-clause-on_error : goal.returns-in_err-assert_placed-clause-on_error
returns-in_err-assert_placed-clause-on_error g c =
    on_failure (subst (AppendedSome g.AB.AirBuilder.appends _ _)
    (is_half g.AB.F.RingCore.ring c.args.n c.args.g _ _ _ _ _ _ c.a_word-a.ensures.word c.b_place-b.ensures.column c.c_word-c.ensures.word c.d_place-d.ensures.column c.message_column-message.ensures.column c.half_column-cells.ensures.column)
    c.in_err-assert_placed.ensures.on_error.holds)
