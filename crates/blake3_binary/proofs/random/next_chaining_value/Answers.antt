use Rattle.std.proofs.Common.{◌≡◌, ℕ, ◌+◌, ◌<◌, List, get_or, set, length, inl, inr, ap, sym, ◌∙◌, arith, length-set, get_or-set_same, get_or-set_other}
use Rattle.std.proofs.lemmas.Bool.{cases_eq}
use Rattle.p3_field.specs.Laws.Tabulate.{tabulate_items, tabulate_same}
use Rattle.blake3_binary.specs.Random.{state_after, random_word, random_words}
use Rattle.blake3_binary.proofs.random.next_chaining_value.Goals as goal

at : (s : List ℕ) (n k : ℕ) → n ≡ k → s ≡ state_after n → s ≡ state_after k
at s n k e f = f ∙ ap state_after e

words_are : (n : ℕ) (ws : List ℕ) → length ws ≡ 8 → ((i : ℕ) → i < 8 → get_or ws i 0 ≡ random_word (n + i)) → ws ≡ random_words n 8
words_are n ws e h = tabulate_items 0 ws 8 e ∙ tabulate_same 8 (λ i. get_or ws i 0) (λ i. random_word (n + i)) h

pub loop-k-init : goal.loop-k-init
loop-k-init c = record {
  long = omega arith;
  state = λ n e. at _ n (n + 0) (omega arith) e;
  so_far = λ n e i lt. absurd (omega (arith, lt));
}

pub loop-k-preserved : goal.loop-k-preserved
loop-k-preserved c =
    let k = c.loop-k.k in
    let old = c.loop-k.words in
    let x = c.next_word.result in
    let inside : k < length old = omega (arith, c.loop-k.invariant.long) in
    record {
      long = length-set old k x ∙ c.loop-k.invariant.long;
      state = λ n e. at _ (n + k + 1) (n + (k + 1)) (omega arith) (c.next_word.ensures.state (n + k) (c.loop-k.invariant.state n e));
      so_far = λ n e i lt. elim (cases_eq i k) [
        | inl same ↦
            ap (λ j. get_or (set old k x) j 0) same
            ∙ (get_or-set_same old k x 0 inside ∙ (c.next_word.ensures.word (n + k) (c.loop-k.invariant.state n e) ∙ ap (λ j. random_word (n + j)) (sym same)))
        | inr other ↦ get_or-set_other old k i x 0 other ∙ c.loop-k.invariant.so_far n e i (omega (arith, lt, other))
      ];
    }

pub returns : goal.returns
returns c = record {
  words = λ n e. words_are n c.loop-k.words c.loop-k.invariant.long (λ i lt. c.loop-k.invariant.so_far n e i (omega (arith, lt)));
  state = λ n e. at _ (n + c.loop-k.k) (n + 8) (omega arith) (c.loop-k.invariant.state n e);
}
