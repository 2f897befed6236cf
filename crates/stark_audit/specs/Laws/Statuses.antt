-- The statuses of the command's answers: it did its work, refused its input, or found it to be no text of its grammar.
use Rattle.std.specs.Prelude.{ℕ, List}
use Rattle.tool_run.specs.Program.{AnswersOnly, IsAnswerStatus}
use Rattle.tool_verifier.specs.declared.status.Status.{Status}
use Rattle.tool_verifier.specs.declared.status.Status.TheVariants.{Done, Refused, Usage, BadInput, ReadFault, WriteFault, OutOfMemory, TooLarge}
use Rattle.stark_audit.specs.Answer.{IsExplainAnswer, audit_program}
use Rattle.stark_audit.specs.declared.command.Command.{Command}
use Rattle.stark_audit.specs.declared.command.Command.TheVariants.{Explain}

explain-status : (bytes : List ℕ) (status : Status) (text : List ℕ) → IsExplainAnswer bytes status text → IsAnswerStatus status
explain-status bytes Done text a = tt
explain-status bytes BadInput text a = tt
explain-status bytes Refused text a = tt
explain-status bytes Usage text a = absurd a.3
explain-status bytes ReadFault text a = absurd a.3
explain-status bytes WriteFault text a = absurd a.3
explain-status bytes OutOfMemory text a = absurd a.3
explain-status bytes TooLarge text a = absurd a.3

answer-status : (command : Command) (bytes : List ℕ) (status : Status) (text : List ℕ) → audit_program.answers command bytes status text → IsAnswerStatus status
answer-status Explain bytes status text a = explain-status bytes status text a

pub answers-only : AnswersOnly audit_program
answers-only command bytes status text a = answer-status command bytes status text a
