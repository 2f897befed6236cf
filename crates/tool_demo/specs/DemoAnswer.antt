-- What `demo N` answers: a status and a text.
use Rattle.std.specs.Prelude.{◌≡◌, ◌==◌, ◌≤◌, ◌≢◌, ℕ, List, [], ◌∷◌, ◌++◌, codes, count_by, decimal, Option, MatchOption}
use Rattle.transcript_version.specs.declared.TranscriptVersion.TheVariants.{V2}
use Rattle.tool_demo.specs.Demo.{demo_job}
use Rattle.tool_prover.specs.JobAnswer.{IsJobAnswer}
use Rattle.tool_verifier.specs.declared.status.Status.{Status}
use Rattle.tool_verifier.specs.declared.status.Status.TheVariants.{Done, Refused, Usage, BadInput, ReadFault, WriteFault, TooLarge, OutOfMemory}

-- the most that N may be
abbrev pub most_number : ℕ
most_number = 4294967295

-- the number that a word writes in decimal, without a leading zero, where it writes one up to the most
abbrev pub WritesNumber : List ℕ → Option ℕ → Type 0
WritesNumber word answer = MatchOption answer ((n : ℕ) → n ≤ most_number → word ≢ decimal n) (λ n. (n ≤ most_number) × (word ≡ decimal n))

-- how many lines a text has
abbrev pub line_count : List ℕ → ℕ
line_count text = count_by (λ b. b == 10) text

-- the line of a job whose proof file has so many lines
abbrev pub demo_text : ℕ → ℕ → List ℕ
demo_text number lines = codes "demo " ++ decimal number ++ codes " tables 5 lines " ++ decimal lines ++ 10 ∷ []

-- what `prove` answers for the number's job, over the transcript of version 2, but with the line of the proof file's number of lines in place of the file
unfoldable pub IsDemoAnswer : ℕ → Status → List ℕ → Type 0
IsDemoAnswer number Done text = (file : List ℕ) × IsJobAnswer V2 (demo_job number) Done file × (text ≡ demo_text number (line_count file))
IsDemoAnswer number Refused text = IsJobAnswer V2 (demo_job number) Refused text
IsDemoAnswer number Usage text = ⊥
IsDemoAnswer number BadInput text = ⊥
IsDemoAnswer number ReadFault text = ⊥
IsDemoAnswer number WriteFault text = ⊥
IsDemoAnswer number OutOfMemory text = ⊥
IsDemoAnswer number TooLarge text = ⊥
