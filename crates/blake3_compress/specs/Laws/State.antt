-- Words that are a state after half rounds, and outputs with the same words.
use Rattle.std.proofs.Common.{◌≡◌, ℕ, suc, ◌<◌, subst, sym}
use Rattle.p3_field.specs.Poly.{tabulate}
use Rattle.p3_field.specs.Laws.Tabulate.{tabulate_same}
use Rattle.blake3_compress.specs.declared.words.StateWords.{StateWords}
use Rattle.blake3_compress.specs.Compress.{Input, first_state}
use Rattle.blake3_compress.specs.TraceRow.{state, half_round}
use Rattle.blake3_compress.specs.Generated.{IsState, words_of}
use Rattle.blake3_compress.specs.Laws.Pushing.{joined_same}

pub state_none : (x : Input) (s : StateWords) → IsState s (first_state x) → IsState s (state x 0)
unfolding state
state_none x s h = h

pub state_made : (x : Input) (s : StateWords) (n : ℕ) → IsState s (half_round x n (state x n)) → IsState s (state x (suc n))
unfolding state
state_made x s n h = h

pub state_next : (x : Input) (s : StateWords) (n m : ℕ) → m ≡ suc n → IsState s (half_round x n (state x n)) → IsState s (state x m)
state_next x s n m e h = subst (λ k. IsState s (state x k)) (sym e) (state_made x s n h)

pub same_output : (f g : ℕ → ℕ → ℕ) → ((k i : ℕ) → k < 4 → i < 4 → f k i ≡ g k i) → words_of f ≡ words_of g
same_output f g h = joined_same 4 (λ k. tabulate 4 (f k)) (λ k. tabulate 4 (g k)) (λ k lk. tabulate_same 4 (f k) (g k) (λ i li. h k i lk li))
