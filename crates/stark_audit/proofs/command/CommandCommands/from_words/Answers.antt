use Rattle.std.proofs.Common.{◌≡◌, [], ◌∷◌, List, ℕ, ap, sym, ◌∙◌}
use Rattle.std.specs.Prelude.{codes}
use Rattle.std.specs.Bool.{Decides}
use Rattle.std.proofs.lemmas.Slice.Eq.{slice_eq-Decides}
use Rattle.std.proofs.lemmas.Bool.Decides.{Decides-eqb}
use Rattle.tool_run.specs.Laws.Words.{one-word}
use Rattle.stark_audit.proofs.command.CommandCommands.from_words.Goals as goal

pub returns-in-len1 : goal.returns-in-len1
returns-in-len1 c =
    let e = one-word c.args.words.now c.word-item.result c.in-len1.len_at_least c.in-len1.len_below c.word-item.is in
    let d : Decides c.eq.result (c.as_str.result.now ≡ codes "explain") = slice_eq-Decides Decides-eqb _ _ _ c.eq.ensures in
    e ∙ ap (λ (b : List ℕ). b ∷ []) (sym c.as_str.ensures.value ∙ d.0 c.if-eq.true)
