use Rattle.std.proofs.Common.{◌≡◌, ℕ, suc, ◌+◌, ◌%◌, ◌^◌, List, ap, ◌∙◌, arith}
use Rattle.rand_xoshiro.specs.Xoshiro256.{plus_plus}
use Rattle.blake3_prime.specs.Random.{state_after, random_word}
use Rattle.blake3_prime.proofs.random.next_word.Goals as goal

word_is : (w n : ℕ) (s t : List ℕ) → (w, t) ≡ plus_plus s → s ≡ state_after n → w % 2 ^ 32 ≡ random_word n
unfolding random_word
word_is w n s t e f = ap (λ p. p.0 % 2 ^ 32) e ∙ ap (λ u. (plus_plus u).0 % 2 ^ 32) f

state_is : (w n : ℕ) (s t : List ℕ) → (w, t) ≡ plus_plus s → s ≡ state_after n → t ≡ state_after (n + 1)
unfolding state_after
state_is w n s t e f =
    let next : suc n ≡ n + 1 = omega arith in
    ap (λ p. p.1) e ∙ (ap (λ u. (plus_plus u).1) f ∙ ap state_after next)

pub returns : goal.returns
returns c = record {
  word = λ n e. word_is _ n _ _ c.next_word.ensures e;
  state = λ n e. state_is _ n _ _ c.next_word.ensures e;
}
