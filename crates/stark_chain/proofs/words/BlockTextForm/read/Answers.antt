use Rattle.tool_lines.specs.Laws.Stops.{handed-on, same-stops}
use Rattle.stark_chain.specs.Laws.Texts.{same-words}
use Rattle.stark_chain.specs.Texts.{AreWordsOf, words_numbers}
use Rattle.stark_chain.proofs.words.BlockTextForm.read.Goals as goal

pub returns-in_err-items : goal.returns-in_err-items
returns-in_err-items c = handed-on (λ words. words) (AreWordsOf 16) words_numbers _ _ _ c.in_err-items.field-0.0 c.from_residual.ensures.1 (λ m. same-stops (same-words 16) (c.in_err-items.ensures m))
