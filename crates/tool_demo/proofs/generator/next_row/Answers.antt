use Rattle.std.proofs.Common.{◌≡◌, ℕ, ◌+◌, ◌*◌, ◌%◌, ◌^◌, ◌<◌, List, get_or, set, length, inl, inr, ap, sym, ◌∙◌, arith, length-set, get_or-set_same, get_or-set_other}
use Rattle.std.proofs.lemmas.Bool.{cases_eq}
use Rattle.p3_field.specs.Laws.Tabulate.{tabulate_items, tabulate_same}
use Rattle.tool_demo.specs.Demo.{state_after, word_at, hash_row}
use Rattle.tool_demo.proofs.generator.next_row.Goals as goal

at : (seed : ℕ) (s : List ℕ) (n k : ℕ) → n ≡ k → s ≡ state_after seed n → s ≡ state_after seed k
at seed s n k e f = f ∙ ap (state_after seed) e

row_is : (seed i : ℕ) (ws : List ℕ) → length ws ≡ 24 → ((k : ℕ) → k < 24 → get_or ws k 0 ≡ word_at seed (1026 + 24 * i + k) % 2 ^ 32) → ws ≡ hash_row seed i
row_is seed i ws e h = tabulate_items 0 ws 24 e ∙ tabulate_same 24 (λ k. get_or ws k 0) (λ k. word_at seed (1026 + 24 * i + k) % 2 ^ 32) h

pub loop-k-init : goal.loop-k-init
loop-k-init c = record {
  long = omega arith;
  state = λ seed n e. at seed _ n (n + 0) (omega arith) e;
  so_far = λ seed n e j lt. absurd (omega (arith, lt));
}

pub loop-k-preserved : goal.loop-k-preserved
loop-k-preserved c =
    let k = c.loop-k.k in
    let old = c.loop-k.row in
    let w = c.next_word.result in
    let x = w % 4294967296 in
    let inside : k < length old = omega (arith, c.loop-k.invariant.long) in
    record {
      long = length-set old k x ∙ c.loop-k.invariant.long;
      state = λ seed n e. at seed _ (n + k + 1) (n + (k + 1)) (omega arith) (c.next_word.ensures.state seed (n + k) (c.loop-k.invariant.state seed n e));
      so_far = λ seed n e j lt. elim (cases_eq j k) [
        | inl same ↦
            ap (λ m. get_or (set old k x) m 0) same
            ∙ (get_or-set_same old k x 0 inside
            ∙ (ap (λ (v : ℕ). v % 4294967296) (c.next_word.ensures.word seed (n + k) (c.loop-k.invariant.state seed n e)) ∙ ap (λ m. word_at seed (n + m) % 2 ^ 32) (sym same)))
        | inr other ↦ get_or-set_other old k j x 0 other ∙ c.loop-k.invariant.so_far seed n e j (omega (arith, lt, other))
      ];
    }

pub returns : goal.returns
returns c = record {
  row = λ seed i e. row_is seed i c.loop-k.row c.loop-k.invariant.long (λ k lt. c.loop-k.invariant.so_far seed (1026 + 24 * i) e k (omega (arith, lt)));
  state = λ seed i e. at seed _ (1026 + 24 * i + c.loop-k.k) (1026 + 24 * (i + 1)) (omega arith) (c.loop-k.invariant.state seed (1026 + 24 * i) e);
}
