use Rattle.std.proofs.Common.{◌≡◌, ℕ, ◌+◌, ◌==◌, List, [], ◌∷◌, ◌++◌, map, ap, ◌∙◌, arith}
use Rattle.std.specs.Prelude.{count_by}
use Rattle.std.proofs.lemmas.List.{map-append}
use Rattle.p3_field.specs.Laws.Tabulate.{tabulate_push}
use Rattle.tool_demo.specs.Demo.{element_of, given_pairs}
use Rattle.tool_jobs.specs.Jobs.{read_given}
use Rattle.tool_jobs.specs.declared.table.GivenWord.{GivenWord}
use Rattle.tool_demo.proofs.tables.given_words.Goals as goal

-- no pair yet, and one more
none_yet : (taken : List ℕ) (xs : List GivenWord) → xs ≡ [] → map read_given xs ≡ given_pairs 0 taken
unfolding given_pairs
none_yet taken xs e = ap (map read_given) e

one_more : (taken : List ℕ) (n : ℕ) (w : GivenWord) (old new : List GivenWord) → map read_given old ≡ given_pairs n taken
    → read_given w ≡ (element_of n, count_by (λ x. x == n) taken) → new ≡ old ++ w ∷ [] → map read_given new ≡ given_pairs (n + 1) taken
unfolding given_pairs
one_more taken n w old new h e f =
    ap (map read_given) f ∙ (map-append read_given old (w ∷ []) ∙ tabulate_push n (λ v. (element_of v, count_by (λ x. x == v) taken)) (map read_given old) (read_given w) h e)

pub loop-number-init : goal.loop-number-init
loop-number-init c = none_yet c.args.numbers.now _ c.new-words.ensures.items

pub loop-number-preserved : goal.loop-number-preserved
loop-number-preserved c = one_more c.args.numbers.now c.loop-number.number c.given_word.result _ _ c.loop-number.invariant c.given_word.ensures c.in_ok-push.ensures.items

pub returns : goal.returns
returns c =
    let end : c.loop-number.number ≡ 64 = omega arith in
    c.loop-number.invariant ∙ ap (λ n. given_pairs n c.args.numbers.now) end
