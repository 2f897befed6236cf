use Rattle.std.proofs.Common.{◌≡◌, ℕ, suc, ◌+◌, List, ap, ◌∙◌, arith}
use Rattle.rand_xoshiro.specs.Xoshiro256.{plus_plus}
use Rattle.tool_demo.specs.Demo.{state_after, word_at}
use Rattle.tool_demo.proofs.generator.next_word.Goals as goal

word_is : (w seed n : ℕ) (s t : List ℕ) → (w, t) ≡ plus_plus s → s ≡ state_after seed n → w ≡ word_at seed n
unfolding word_at
word_is w seed n s t e f = ap (λ p. p.0) e ∙ ap (λ u. (plus_plus u).0) f

state_is : (w seed n : ℕ) (s t : List ℕ) → (w, t) ≡ plus_plus s → s ≡ state_after seed n → t ≡ state_after seed (n + 1)
unfolding state_after
state_is w seed n s t e f =
    let next : suc n ≡ n + 1 = omega arith in
    ap (λ p. p.1) e ∙ (ap (λ u. (plus_plus u).1) f ∙ ap (state_after seed) next)

pub returns : goal.returns
returns c = record {
  word = λ seed n e. word_is _ seed n _ _ c.next_word.ensures e;
  state = λ seed n e. state_is _ seed n _ _ c.next_word.ensures e;
}
