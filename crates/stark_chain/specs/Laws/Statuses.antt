-- The statuses of a command's answers: the command did its work, refused its input, or found it to be no text of its grammar.
use Rattle.std.specs.Prelude.{ℕ, List}
use Rattle.tool_run.specs.Program.{AnswersOnly, IsAnswerStatus}
use Rattle.tool_verifier.specs.declared.status.Status.{Status}
use Rattle.tool_verifier.specs.declared.status.Status.TheVariants.{Done, Refused, Usage, BadInput, ReadFault, WriteFault, OutOfMemory, TooLarge}
use Rattle.stark_chain.specs.Answer.{IsCommandAnswer, IsFileAnswer, IsJobAnswer, chain_program}
use Rattle.stark_chain.specs.Texts.{FileData, JobData}
use Rattle.stark_chain.specs.declared.command.ChainCommand.{ChainCommand}
use Rattle.stark_chain.specs.declared.command.ChainCommand.TheVariants.{Prove, Verify}

-- a job, or a file, is never answered so
pub job-bad : (job : JobData) (text : List ℕ) → IsJobAnswer job BadInput text → ⊥
unfolding IsJobAnswer
job-bad job text a = a

pub file-bad : (file : FileData) (text : List ℕ) → IsFileAnswer file BadInput text → ⊥
unfolding IsFileAnswer
file-bad file text a = a

job-status : (job : JobData) (status : Status) (text : List ℕ) → IsJobAnswer job status text → IsAnswerStatus status
unfolding IsJobAnswer
job-status job Done text a = tt
job-status job Refused text a = tt
job-status job BadInput text a = tt
job-status job Usage text a = a
job-status job ReadFault text a = a
job-status job WriteFault text a = a
job-status job OutOfMemory text a = a
job-status job TooLarge text a = a

file-status : (file : FileData) (status : Status) (text : List ℕ) → IsFileAnswer file status text → IsAnswerStatus status
unfolding IsFileAnswer
file-status file Done text a = tt
file-status file Refused text a = tt
file-status file BadInput text a = tt
file-status file Usage text a = a
file-status file ReadFault text a = a
file-status file WriteFault text a = a
file-status file OutOfMemory text a = a
file-status file TooLarge text a = a

answer-status : (command : ChainCommand) (bytes : List ℕ) (status : Status) (text : List ℕ) → IsCommandAnswer command bytes status text → IsAnswerStatus status
answer-status Prove bytes Done text a = tt
answer-status Prove bytes Refused text a = tt
answer-status Prove bytes BadInput text a = tt
answer-status Prove bytes Usage text a = job-status a.0 Usage text a.3
answer-status Prove bytes ReadFault text a = job-status a.0 ReadFault text a.3
answer-status Prove bytes WriteFault text a = job-status a.0 WriteFault text a.3
answer-status Prove bytes OutOfMemory text a = job-status a.0 OutOfMemory text a.3
answer-status Prove bytes TooLarge text a = job-status a.0 TooLarge text a.3
answer-status Verify bytes Done text a = tt
answer-status Verify bytes Refused text a = tt
answer-status Verify bytes BadInput text a = tt
answer-status Verify bytes Usage text a = file-status a.0 Usage text a.3
answer-status Verify bytes ReadFault text a = file-status a.0 ReadFault text a.3
answer-status Verify bytes WriteFault text a = file-status a.0 WriteFault text a.3
answer-status Verify bytes OutOfMemory text a = file-status a.0 OutOfMemory text a.3
answer-status Verify bytes TooLarge text a = file-status a.0 TooLarge text a.3

pub answers-only : AnswersOnly chain_program
answers-only command bytes status text a = answer-status command bytes status text a
