use Rattle.std.proofs.Common.{◌≡◌, ℕ, ◌+◌, List, [], ◌∷◌, ◌++◌, ap, ◌∙◌, arith}
use Rattle.p3_field.specs.Laws.Tabulate.{tabulate_push}
use Rattle.tool_demo.specs.Demo.{hash_row, hash_rows}
use Rattle.tool_demo.proofs.generator.next_rows.Goals as goal

-- no row yet, and one more
none_yet : (seed : ℕ) (xs : List (List ℕ)) → xs ≡ [] → xs ≡ hash_rows seed 0
unfolding hash_rows
none_yet seed xs e = e

one_more : (seed n : ℕ) (row : List ℕ) (old new : List (List ℕ)) → old ≡ hash_rows seed n → row ≡ hash_row seed n → new ≡ old ++ row ∷ [] → new ≡ hash_rows seed (n + 1)
unfolding hash_rows
one_more seed n row old new h e f = f ∙ tabulate_push n (hash_row seed) old row h e

pub loop-i-init : goal.loop-i-init
loop-i-init c = record { state = λ seed e. e; so_far = λ seed e. none_yet seed _ c.new-rows.ensures.items }

pub loop-i-preserved : goal.loop-i-preserved
loop-i-preserved c =
    let n = c.loop-i._i in
    record {
      state = λ seed e. c.next_row.ensures.state seed n (c.loop-i.invariant.state seed e);
      so_far = λ seed e.
          one_more seed n c.next_row.result _ _ (c.loop-i.invariant.so_far seed e) (c.next_row.ensures.row seed n (c.loop-i.invariant.state seed e)) c.in_ok-push.ensures.items;
    }

pub returns : goal.returns
returns c seed e =
    let end : c.loop-i._i ≡ 8 = omega arith in
    c.loop-i.invariant.so_far seed e ∙ ap (hash_rows seed) end
