-- Each choice of the input's cells has exactly one completion that meets the constraints of the steps.
use Rattle.std.proofs.Common.{◌≡◌, ℕ, ◌+◌, ◌<◌, ◌++◌, List, length, get_or, sym, ◌∙◌, ap, subst, arith}
use Rattle.std.proofs.lemmas.List.{get_or_append_left, get_or-append-add, ext_get_or}
use Rattle.p3_field.specs.Ring.{Ring, RingLaws}
use Rattle.air_core.specs.RowCheck.{Row, cell_value, ext_cell_value}
use Rattle.blake3_compress.specs.TraceRow.{turn_of, d_turn, b_turn, message_of}
use Rattle.blake3_binary.specs.Trees.{QuarterOf, four_taken, laid, binary_steps_trees}
use Rattle.blake3_binary.specs.Meanings.{Meets, OneCompletion}
use Rattle.blake3_binary.specs.Laws.Values.{carries_of, made_d, made_b}
use Rattle.blake3_binary.specs.Laws.Rounds.{values_after, message_values, steps_made}
use Rattle.blake3_binary.specs.Laws.Cells.{three, StepCells, step_cells, long3, long_laid, cover_steps}

module _ {A : Type 0} (r : Ring A) (L : RingLaws r) (two : r.add r.one r.one ≡ r.zero) where
  module _ (cells : ℕ → A) where
    abbrev before : ℕ → ℕ → QuarterOf (ℕ → A)
    before n g = four_taken (turn_of n) (values_after r cells n) g

    -- what step g of half round n makes
    abbrev pub made_carries : ℕ → ℕ → ℕ → A
    made_carries n g = carries_of r (before n g).a (before n g).b

    abbrev pub made_ds : ℕ → ℕ → ℕ → A
    made_ds n g = made_d r (d_turn n) (before n g) (message_values r cells (message_of n g))

    abbrev pub made_bs : ℕ → ℕ → ℕ → A
    made_bs n g = made_b r (d_turn n) (b_turn n) (before n g) (message_values r cells (message_of n g))

    -- the cells that the steps make
    abbrev pub completion : List A
    completion = laid (λ n g. three r.zero (made_carries n g) (made_ds n g) (made_bs n g))

    pub long_completion : length completion ≡ 10640
    long_completion =
        long_laid r.zero (λ n g. three r.zero (made_carries n g) (made_ds n g) (made_bs n g))
        (λ n g. long3 r.zero (made_carries n g) (made_ds n g) (made_bs n g))

    module _ (row : Row A A) (inputs : (k : ℕ) → k < 896 → get_or row.main_local k r.zero ≡ cells k) where
      -- a row meets the constraints of the steps exactly where its cells are those that the steps make
      pub meets_of_cells : StepCells r.zero row.main_local made_carries made_ds made_bs → Meets r row (binary_steps_trees r)
      meets_of_cells s =
          (steps_made r cells L two (cell_value r row) (ext_cell_value r.zero row) inputs).1 (λ n g ln lg. record {
            carries = λ o lo. s.first n g o ln lg lo;
            d_made = λ o lo. s.second n g o ln lg lo;
            b_made = λ o lo. s.third n g o ln lg lo;
          })

      pub cells_of_meets : Meets r row (binary_steps_trees r) → StepCells r.zero row.main_local made_carries made_ds made_bs
      cells_of_meets z =
          let each = (steps_made r cells L two (cell_value r row) (ext_cell_value r.zero row) inputs).0 z in
          record {
            first = λ n g o ln lg lo. (each n g ln lg).carries o lo;
            second = λ n g o ln lg lo. (each n g ln lg).d_made o lo;
            third = λ n g o ln lg lo. (each n g ln lg).b_made o lo;
          }

  -- two lists with the cells of the steps are one after the input's
  pub same_steps : (xs ys : List A) (c e b : ℕ → ℕ → ℕ → A) → StepCells r.zero xs c e b → StepCells r.zero ys c e b
      → (k : ℕ) → k < 10640 → get_or xs (896 + k) r.zero ≡ get_or ys (896 + k) r.zero
  same_steps xs ys c e b s t =
      cover_steps (λ k. get_or xs k r.zero ≡ get_or ys k r.zero)
      (λ n g o ln lg lo. s.first n g o ln lg lo ∙ sym (t.first n g o ln lg lo))
      (λ n g o ln lg lo. s.second n g o ln lg lo ∙ sym (t.second n g o ln lg lo))
      (λ n g o ln lg lo. s.third n g o ln lg lo ∙ sym (t.third n g o ln lg lo))

  pub one_completion : OneCompletion r
  one_completion inputs long =
      let cells : ℕ → A = λ k. get_or inputs k r.zero in
      let whole : List A = completion cells in
      let stand : StepCells r.zero (inputs ++ whole) (made_carries cells) (made_ds cells) (made_bs cells) =
      step_cells r.zero inputs (made_carries cells) (made_ds cells) (made_bs cells) long in
      let front : (row : Row A A) (others : List A) → row.main_local ≡ inputs ++ others → (k : ℕ) → k < 896 → get_or row.main_local k r.zero ≡ cells k = λ row others e k lt.
      ap (λ xs. get_or xs k r.zero) e ∙ get_or_append_left inputs others r.zero k (omega (arith, long, lt)) in (
        whole,
        record {
          long = long_completion cells;
          meets = λ row e. meets_of_cells cells row (front row whole e) (subst (λ xs. StepCells r.zero xs (made_carries cells) (made_ds cells) (made_bs cells)) (sym e) stand);
        },
        λ row others lo e z.
            let theirs = subst (λ xs. StepCells r.zero xs (made_carries cells) (made_ds cells) (made_bs cells)) e (cells_of_meets cells row (front row others e) z) in
            ext_get_or r.zero others whole (lo ∙ sym (long_completion cells)) (λ k lt.
            let s : 896 + k ≡ length inputs + k = omega (arith, long) in
            let here = same_steps (inputs ++ others) (inputs ++ whole) (made_carries cells) (made_ds cells) (made_bs cells) theirs stand k (omega (arith, lo, lt)) in
            sym (get_or-append-add inputs others k r.zero)
            ∙ (ap (λ i. get_or (inputs ++ others) i r.zero) (sym s) ∙ (here ∙ (ap (λ i. get_or (inputs ++ whole) i r.zero) s ∙ get_or-append-add inputs whole k r.zero)))),
      )
