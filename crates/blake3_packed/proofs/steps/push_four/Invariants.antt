use Rattle.std.proofs.Common.{◌≡◌, ℕ, ◌*◌, ◌%◌, List, length}
use Rattle.air_core.specs.Joined.{joined}
use Rattle.blake3_compress.specs.Compress.{Input, State, word, words_taken, step_of_word}
use Rattle.blake3_packed.specs.Lanes.{PushedLanes, AreWordPlanes}
use Rattle.blake3_packed.specs.States.{HasStates, made_twice, step_cells}
use Rattle.blake3_packed.specs.Laws.Steps.{going}
use Rattle.blake3_packed.proofs.steps.push_four.Given as goal

-- the words after the p-th four steps
abbrev pub after : (ℕ → Input) → ℕ → (ℕ → State) → ℕ → ℕ → ℕ → ℕ
after x p v row j i = word (made_twice (x j) p (step_of_word (p % 2) row i) (words_taken (p % 2) (v j) (step_of_word (p % 2) row i))) row

pub record Going (x : ℕ → Input) (p g : ℕ) (v : ℕ → State) (r0 r1 r2 r3 : List (List ℕ)) (old new : List ℕ) : Type 0 where
  pub rows0 : AreWordPlanes 4 r0 (going (step_of_word (p % 2) 0) g (after x p v 0) (λ j. v j 0))
  pub rows1 : AreWordPlanes 4 r1 (going (step_of_word (p % 2) 1) g (after x p v 1) (λ j. v j 1))
  pub rows2 : AreWordPlanes 4 r2 (going (step_of_word (p % 2) 2) g (after x p v 2) (λ j. v j 2))
  pub rows3 : AreWordPlanes 4 r3 (going (step_of_word (p % 2) 3) g (after x p v 3) (λ j. v j 3))
  pub pushed : PushedLanes old new (190 * g) (λ j. joined g (λ k. step_cells (x j) p k (words_taken (p % 2) (v j) k)))

abbrev pub invariant-loop-g : goal.invariant-loop-g
invariant-loop-g l = record {
  long0 : length l.state.row0 ≡ 4;
  long1 : length l.state.row1 ≡ 4;
  long2 : length l.state.row2 ≡ 4;
  long3 : length l.state.row3 ≡ 4;
  turned : l.turn ≡ l.p % 2;
  so_far : (x : ℕ → Input) (v : ℕ → State) → AreWordPlanes 28 l.words x → HasStates l.fn.state v → Going x l.p l.g v l.state.row0 l.state.row1 l.state.row2 l.state.row3 l.fn.values.items l.values.items;
}
