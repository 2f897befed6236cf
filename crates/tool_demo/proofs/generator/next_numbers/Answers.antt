use Rattle.std.proofs.Common.{◌≡◌, ℕ, ◌+◌, ◌%◌, List, [], ◌∷◌, ◌++◌, ap, ◌∙◌, arith}
use Rattle.p3_field.specs.Laws.Tabulate.{tabulate_push}
use Rattle.tool_demo.specs.Demo.{state_after, taken_numbers, word_at}
use Rattle.tool_demo.proofs.generator.next_numbers.Goals as goal

-- no number yet, and one more
none_yet : (seed : ℕ) (xs : List ℕ) → xs ≡ [] → xs ≡ taken_numbers seed 0
unfolding taken_numbers
none_yet seed xs e = e

one_more : (seed n w : ℕ) (old new : List ℕ) → old ≡ taken_numbers seed n → w ≡ word_at seed (2 + n) → new ≡ old ++ (w % 64) ∷ [] → new ≡ taken_numbers seed (n + 1)
unfolding taken_numbers
one_more seed n w old new h e f = f ∙ tabulate_push n (λ i. word_at seed (2 + i) % 64) old (w % 64) h (ap (λ (v : ℕ). v % 64) e)

at : (seed : ℕ) (s : List ℕ) (n k : ℕ) → n ≡ k → s ≡ state_after seed n → s ≡ state_after seed k
at seed s n k e f = f ∙ ap (state_after seed) e

pub loop-i-init : goal.loop-i-init
loop-i-init c = record { state = λ seed e. e; so_far = λ seed e. none_yet seed _ c.new-numbers.ensures.items }

pub loop-i-preserved : goal.loop-i-preserved
loop-i-preserved c =
    let n = c.loop-i._i in
    record {
      state = λ seed e. at seed _ (2 + n + 1) (2 + (n + 1)) (omega arith) (c.next_word.ensures.state seed (2 + n) (c.loop-i.invariant.state seed e));
      so_far = λ seed e.
          one_more seed n c.next_word.result _ _ (c.loop-i.invariant.so_far seed e) (c.next_word.ensures.word seed (2 + n) (c.loop-i.invariant.state seed e)) c.in_ok-push.ensures.items;
    }

pub returns : goal.returns
returns c =
    let n = c.loop-i._i in
    let end : n ≡ 1024 = omega arith in
    record {
      numbers = λ seed e. c.loop-i.invariant.so_far seed e ∙ ap (taken_numbers seed) end;
      state = λ seed e. at seed _ (2 + n) 1026 (omega arith) (c.loop-i.invariant.state seed e);
    }
