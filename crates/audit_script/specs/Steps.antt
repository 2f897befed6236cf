-- The steps of a script as they are printed: each with its number and its label, a challenge with its coefficients, a grinding value with the answer of the
-- challenger's own test, after which the script goes on in either case.
use Rattle.std.specs.Prelude.{ℕ, ◌+◌, Bool, cond, List, [], ◌∷◌, ◌++◌, codes, decimal, flat_map}
use Rattle.p3_field.specs.Ring.{Ring}
use Rattle.p3_challenger.specs.Script.{ChallengerOf, Played, Transcript, observe_value, passes, after_grinding, amount, begun, play, steps_of}
use Rattle.p3_challenger.specs.declared.script.Interaction.{Interaction}
use Rattle.p3_challenger.specs.declared.script.InteractionKind.{InteractionKind}
use Rattle.p3_challenger.specs.declared.script.InteractionKind.TheVariants.{Message, Public, Challenge, Pow, Protocol}
use Rattle.batch_transcript.specs.BatchScript.{BatchShapeData, Draws, Given, script, seeded}
use Rattle.audit_script.specs.declared.script.ScriptDraws.{ScriptDraws}

-- a space and the decimal digits of each number
abbrev pub spaced_numbers : List ℕ → List ℕ
spaced_numbers numbers = flat_map (λ n. 32 ∷ decimal n) numbers

-- the number of a step and its label
abbrev pub step_head : ℕ → List ℕ → List ℕ
step_head i label = codes "step " ++ decimal i ++ 32 ∷ [] ++ label

-- its line, which ends in this
abbrev pub step_line : ℕ → (label rest : List ℕ) → List ℕ
step_line i label rest = step_head i label ++ rest ++ 10 ∷ []

-- the word for a grinding value's test
abbrev pub test_word : Bool → List ℕ
test_word passed = cond passed (codes " passes") (codes " fails")

-- the line of a step by the challenges that are still to be printed and the tests' answers, of which it takes the first; and what is left of both
abbrev pub line_of : {E : Type 0} → (numbers : E → List ℕ) → InteractionKind → ℕ → (label : List ℕ) → List E → List Bool → List ℕ
line_of numbers Message i label drawn passed = step_line i label []
line_of numbers Public i label drawn passed = step_line i label []
line_of numbers Challenge i label [] passed = step_line i label []
line_of numbers Challenge i label (x ∷ xs) passed = step_line i label (spaced_numbers (numbers x))
line_of numbers Pow i label drawn [] = step_line i label []
line_of numbers Pow i label drawn (b ∷ bs) = step_line i label (test_word b)
line_of numbers Protocol i label drawn passed = step_line i label []

abbrev pub drawn_after : {E : Type 0} → InteractionKind → List E → List E
drawn_after Message drawn = drawn
drawn_after Public drawn = drawn
drawn_after Challenge [] = []
drawn_after Challenge (x ∷ xs) = xs
drawn_after Pow drawn = drawn
drawn_after Protocol drawn = drawn

abbrev pub passed_after : InteractionKind → List Bool → List Bool
passed_after Message passed = passed
passed_after Public passed = passed
passed_after Challenge passed = passed
passed_after Pow [] = []
passed_after Pow (b ∷ bs) = bs
passed_after Protocol passed = passed

-- the lines of these steps, numbered from i on
unfoldable pub lines_of : {E : Type 0} → (numbers : E → List ℕ) → ℕ → List Interaction → List E → List Bool → List ℕ
lines_of numbers i [] drawn passed = []
lines_of numbers i (s ∷ steps) drawn passed =
    line_of numbers s.kind i s.label drawn passed ++ lines_of numbers (i + 1) steps (drawn_after s.kind drawn) (passed_after s.kind passed)

-- The lines of a batch's script, from the seeded state on. The challenges and the answers of the tests are those of the script's fold, as are the draws of a
-- verifier.
unfoldable pub script_text : {S F E M : Type 0} → ChallengerOf S F E M → (numbers : E → List ℕ) → Ring F → Ring E → ℕ → S → BatchShapeData → Given F E M → List ℕ
script_text {E = E} c numbers f r d initial s g =
    let played = script r d s g in
    let t = play c (begun E (seeded c f d s initial)) played in
    lines_of numbers 0 (steps_of played) t.challenges t.passed

-- what was drawn along a script, as a verifier's draws
abbrev pub draws_told : {S E : Type 0} → ScriptDraws S E → Draws S E
draws_told w = record {
  lookup_alpha = w.lookup_alpha;
  lookup_beta = w.lookup_beta;
  alpha = w.alpha;
  zeta = w.zeta;
  lookup_passed = w.lookup_passed;
  ood_passed = w.ood_passed;
  opening = w.challenger;
}

-- The same step by step: a challenger with what it drew and tested, the number of the next step, and the lines so far.
pub record Printing (S E : Type 0) : Type 0 where
  pub state : S
  pub challenges : List E
  pub passed : List Bool
  pub index : ℕ
  pub text : List ℕ

-- a transcript that has printed nothing yet
abbrev pub unprinted : {S : Type 0} (E : Type 0) → S → Printing S E
unprinted E s = record { state = s; challenges = []; passed = []; index = 0; text = [] }

-- what it drew and tested, as a transcript
abbrev pub transcript_of : {S E : Type 0} → Printing S E → Transcript S E
transcript_of t = record { state = t.state; challenges = t.challenges; passed = t.passed }

-- one line more, after which the challenger is in this state
abbrev pub with_line : {S E : Type 0} → Printing S E → (label rest : List ℕ) → S → Printing S E
with_line t label rest s = record { state = s; challenges = t.challenges; passed = t.passed; index = t.index + 1; text = t.text ++ step_line t.index label rest }

-- one line more, of a challenge, and of a test
abbrev pub with_challenge : {S E : Type 0} → (numbers : E → List ℕ) → Printing S E → (label : List ℕ) → E → S → Printing S E
with_challenge numbers t label x s = record {
  state = s;
  challenges = t.challenges ++ x ∷ [];
  passed = t.passed;
  index = t.index + 1;
  text = t.text ++ step_line t.index label (spaced_numbers (numbers x));
}

abbrev pub with_test : {S E : Type 0} → Printing S E → (label : List ℕ) → Bool → S → Printing S E
with_test t label b s = record {
  state = s;
  challenges = t.challenges;
  passed = t.passed ++ b ∷ [];
  index = t.index + 1;
  text = t.text ++ step_line t.index label (test_word b);
}

module _ {S F E M : Type 0} (c : ChallengerOf S F E M) (numbers : E → List ℕ) where
  -- one step, by its kind
  abbrev pub print_kind : InteractionKind → Printing S E → Played F E M → Printing S E
  print_kind Message t p = with_line t p.step.label [] (observe_value c t.state p.value)
  print_kind Public t p = with_line t p.step.label [] (observe_value c t.state p.value)
  print_kind Challenge t p = with_challenge numbers t p.step.label (c.draw t.state) (c.after_draw t.state)
  print_kind Pow t p = with_test t p.step.label (passes c t.state (amount p.step.length) p.value) (after_grinding c t.state (amount p.step.length) p.value)
  print_kind Protocol t p = with_line t p.step.label [] t.state

  -- a script, step by step
  unfoldable pub printed : Printing S E → List (Played F E M) → Printing S E
  printed t [] = t
  printed t (p ∷ ps) = printed (print_kind p.step.kind t p) ps
