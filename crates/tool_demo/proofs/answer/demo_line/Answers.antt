use Rattle.std.proofs.Common.{◌≡◌, ℕ, List, [], ◌∷◌, ◌++◌, sym, ◌∙◌, ap, append_assoc}
use Rattle.std.specs.Prelude.{codes, decimal}
use Rattle.tool_demo.specs.DemoAnswer.{demo_text, line_count}
use Rattle.tool_demo.proofs.answer.demo_line.Goals as goal

-- the pieces of a line, one after the other
line_is : (number lines count : ℕ) (none digits a b c d : List ℕ) → none ≡ [] → a ≡ none ++ codes "demo " → digits ≡ decimal number → b ≡ a ++ digits
    → c ≡ b ++ codes " tables 5 lines " → d ≡ c ++ (decimal lines ++ 10 ∷ []) → lines ≡ count → d ≡ demo_text number count
line_is number lines count none digits a b c d en ea eg eb ec ed el =
    let first : a ≡ codes "demo " = ea ∙ ap (λ l. l ++ codes "demo ") en in
    let second : b ≡ codes "demo " ++ decimal number = eb ∙ λ i. first i ++ eg i in
    let third : c ≡ codes "demo " ++ decimal number ++ codes " tables 5 lines " = ec ∙ ap (λ l. l ++ codes " tables 5 lines ") second in
    let whole : d ≡ (codes "demo " ++ decimal number ++ codes " tables 5 lines ") ++ (decimal count ++ 10 ∷ []) = ed ∙ λ i. third i ++ (decimal (el i) ++ 10 ∷ []) in
    whole ∙ sym (append_assoc (codes "demo " ++ decimal number ++ codes " tables 5 lines ") (decimal count) (10 ∷ []))

pub returns : goal.returns
returns c =
    line_is c.args.number c.lines_of-lines.result (line_count c.args.file.now) c.new-line.result.items c.as_bytes.result.now _ _ _ _ c.new-line.ensures.items
    c.in_ok-extend_from_slice.ensures.items (c.as_bytes.ensures.value ∙ c.format.ensures.text) c.in_ok-extend_from_slice-2.ensures.items c.in_ok-extend_from_slice-3.ensures.items
    c.in_ok-push_number.ensures c.lines_of-lines.ensures
