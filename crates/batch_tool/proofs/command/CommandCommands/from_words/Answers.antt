use Rattle.std.proofs.Common.{◌≡◌, [], ◌∷◌, List, ℕ, ap, sym, ◌∙◌}
use Rattle.std.specs.Prelude.{codes}
use Rattle.std.specs.Bool.{Decides}
use Rattle.std.proofs.lemmas.Slice.Eq.{slice_eq-Decides}
use Rattle.std.proofs.lemmas.Bool.Decides.{Decides-eqb}
use Rattle.tool_run.specs.Laws.Words.{one-word, two-words}
use Rattle.batch_tool.proofs.command.CommandCommands.from_words.Goals as goal

pub returns-in-len1 : goal.returns-in-len1
returns-in-len1 c =
    let e = one-word c.args.words.now c.word-item.result c.in-len1.len_at_least c.in-len1.len_below c.word-item.is in
    let d : Decides c.eq.result (c.as_str.result.now ≡ codes "prove") = slice_eq-Decides Decides-eqb _ _ _ c.eq.ensures in
    e ∙ ap (λ (b : List ℕ). b ∷ []) (sym c.as_str.ensures.value ∙ d.0 c.if-eq.true)

pub returns-in-len1-2 : goal.returns-in-len1-2
returns-in-len1-2 c =
    let e = one-word c.args.words.now c.word-item-then-words-lt2.result c.in-len1.len_at_least c.in-len1.len_below c.word-item-then-words-lt2.is in
    let d : Decides c.eq-then-words-lt2.result (c.as_str-then-words-lt2.result.now ≡ codes "verify") = slice_eq-Decides Decides-eqb _ _ _ c.eq-then-words-lt2.ensures in
    e ∙ ap (λ (b : List ℕ). b ∷ []) (sym c.as_str-then-words-lt2.ensures.value ∙ d.0 c.if-eq-2.true)

pub returns-in-len1-3 : goal.returns-in-len1-3
returns-in-len1-3 c =
    let e = one-word c.args.words.now c.word-item-then-words-lt2-2.result c.in-len1.len_at_least c.in-len1.len_below c.word-item-then-words-lt2-2.is in
    let d : Decides c.eq-then-words-lt2-2.result (c.as_str-then-words-lt2-2.result.now ≡ codes "balance") = slice_eq-Decides Decides-eqb _ _ _ c.eq-then-words-lt2-2.ensures in
    e ∙ ap (λ (b : List ℕ). b ∷ []) (sym c.as_str-then-words-lt2-2.ensures.value ∙ d.0 c.if-eq-3.true)

pub returns-in-len2 : goal.returns-in-len2
returns-in-len2 c =
    let e = two-words c.args.words.now c.word-item-then-words-lt3.result c.version-item.result c.in-len2.len_at_least c.in-len2.len_below c.word-item-then-words-lt3.is c.version-item.is in
    let d : Decides c.eq-then-words-lt3.result (c.as_str-then-words-lt3.result.now ≡ codes "prove") = slice_eq-Decides Decides-eqb _ _ _ c.eq-then-words-lt3.ensures in
    let f : Decides c.eq-then-eq-4.result (c.as_str-then-eq-4.result.now ≡ codes "1") = slice_eq-Decides Decides-eqb _ _ _ c.eq-then-eq-4.ensures in
    let first = sym c.as_str-then-words-lt3.ensures.value ∙ d.0 c.if-eq-4.true in
    let second = sym c.as_str-then-eq-4.ensures.value ∙ f.0 c.if-eq-5.true in
    e ∙ λ i. first i ∷ second i ∷ []

pub returns-in-Some : goal.returns-in-Some
returns-in-Some c =
    let read = c.in-Some.ensures in
    let e = two-words c.args.words.now c.word-item-then-words-lt3-2.result c.number-item.result c.in-len2.len_at_least c.in-len2.len_below c.word-item-then-words-lt3-2.is c.number-item.is in
    let d : Decides c.eq-then-words-lt3-2.result (c.as_str-then-words-lt3-2.result.now ≡ codes "demo") = slice_eq-Decides Decides-eqb _ _ _ c.eq-then-words-lt3-2.ensures in
    let first = sym c.as_str-then-words-lt3-2.ensures.value ∙ d.0 c.if-eq-6.true in
    let second = sym c.as_str-in-len2-2.ensures.value ∙ read.1 in
    (read.0, e ∙ λ i. first i ∷ second i ∷ [])
