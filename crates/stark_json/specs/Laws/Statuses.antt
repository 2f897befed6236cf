-- The statuses of a command's answers: the command did its work, refused its input, or found it to be no text of its grammar.
use Rattle.std.specs.Prelude.{ℕ, List}
use Rattle.tool_run.specs.Program.{AnswersOnly, IsAnswerStatus}
use Rattle.tool_verifier.specs.FileAnswer.{IsFileAnswer}
use Rattle.tool_verifier.specs.declared.status.Status.{Status}
use Rattle.tool_verifier.specs.declared.status.Status.TheVariants.{Done, Refused, Usage, BadInput, ReadFault, WriteFault, OutOfMemory, TooLarge}
use Rattle.stark_json.specs.Answer.{IsFromJsonAnswer, IsToJsonAnswer, IsVerifyJsonAnswer, json_program}
use Rattle.stark_json.specs.declared.command.Command.{Command}
use Rattle.stark_json.specs.declared.command.Command.TheVariants.{ToJson, FromJson, VerifyJson}

to-status : (bytes : List ℕ) (status : Status) (text : List ℕ) → IsToJsonAnswer bytes status text → IsAnswerStatus status
to-status bytes Done text a = tt
to-status bytes BadInput text a = tt
to-status bytes Refused text a = absurd a
to-status bytes Usage text a = absurd a
to-status bytes ReadFault text a = absurd a
to-status bytes WriteFault text a = absurd a
to-status bytes OutOfMemory text a = absurd a
to-status bytes TooLarge text a = absurd a

from-status : (bytes : List ℕ) (status : Status) (text : List ℕ) → IsFromJsonAnswer bytes status text → IsAnswerStatus status
from-status bytes Done text a = tt
from-status bytes BadInput text a = tt
from-status bytes Refused text a = absurd a
from-status bytes Usage text a = absurd a
from-status bytes ReadFault text a = absurd a
from-status bytes WriteFault text a = absurd a
from-status bytes OutOfMemory text a = absurd a
from-status bytes TooLarge text a = absurd a

verify-status : (bytes : List ℕ) (status : Status) (text : List ℕ) → IsVerifyJsonAnswer bytes status text → IsAnswerStatus status
unfolding IsFileAnswer
verify-status bytes Done text a = tt
verify-status bytes BadInput text a = tt
verify-status bytes Refused text a = tt
verify-status bytes Usage text a = absurd a.2
verify-status bytes ReadFault text a = absurd a.2
verify-status bytes WriteFault text a = absurd a.2
verify-status bytes OutOfMemory text a = absurd a.2
verify-status bytes TooLarge text a = absurd a.2

answer-status : (command : Command) (bytes : List ℕ) (status : Status) (text : List ℕ) → json_program.answers command bytes status text → IsAnswerStatus status
answer-status ToJson bytes status text a = to-status bytes status text a
answer-status FromJson bytes status text a = from-status bytes status text a
answer-status VerifyJson bytes status text a = verify-status bytes status text a

pub answers-only : AnswersOnly json_program
answers-only command bytes status text a = answer-status command bytes status text a
