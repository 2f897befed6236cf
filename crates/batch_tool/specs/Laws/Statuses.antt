-- The statuses of a command's answers: the command did its work, refused its input, or found it to be no text of its grammar.
use Rattle.std.specs.Prelude.{ℕ, List, ⊤}
use Rattle.p3_field.specs.declared.baby_bear.BabyBear.{BabyBear}
use Rattle.transcript_version.specs.declared.TranscriptVersion.{TranscriptVersion}
use Rattle.law_tool_valid.specs.Job.{JobTable}
use Rattle.tool_prover.specs.JobAnswer.{IsJobAnswer}
use Rattle.tool_statement.specs.declared.table.TableStatement.{TableStatement}
use Rattle.tool_proof_text.specs.ProofText.{ToolProofData}
use Rattle.tool_proof_files.specs.Files.{version_of}
use Rattle.tool_verifier.specs.FileAnswer.{IsFileAnswer}
use Rattle.tool_balance.specs.FileBalance.{IsFileBalance}
use Rattle.tool_demo.specs.DemoAnswer.{IsDemoAnswer}
use Rattle.tool_run.specs.Program.{AnswersOnly, IsAnswerStatus}
use Rattle.batch_tool.specs.Answer.{IsCommandAnswer, batch_program}
use Rattle.batch_tool.specs.declared.command.Command.{Command}
use Rattle.batch_tool.specs.declared.command.Command.TheVariants.{Prove, Verify, Balance, Demo}
use Rattle.tool_verifier.specs.declared.status.Status.{Status}
use Rattle.tool_verifier.specs.declared.status.Status.TheVariants.{Done, Refused, Usage, BadInput, ReadFault, WriteFault, OutOfMemory, TooLarge}

-- the command did its work, or refused its input
abbrev pub IsJobStatus : Status → Type 0
IsJobStatus Done = ⊤
IsJobStatus Refused = ⊤
IsJobStatus other = ⊥

pub job-status : (version : TranscriptVersion) (job : List (JobTable BabyBear)) (status : Status) (text : List ℕ) → IsJobAnswer version job status text → IsJobStatus status
unfolding IsJobAnswer
job-status version job Done text a = tt
job-status version job Refused text a = tt
job-status version job Usage text a = a
job-status version job BadInput text a = a
job-status version job ReadFault text a = a
job-status version job WriteFault text a = a
job-status version job OutOfMemory text a = a
job-status version job TooLarge text a = a

pub file-status : (version : TranscriptVersion) (tables : List TableStatement) (p : ToolProofData) (status : Status) (text : List ℕ) → IsFileAnswer version tables p status text → IsJobStatus status
unfolding IsFileAnswer
file-status version tables p Done text a = tt
file-status version tables p Refused text a = tt
file-status version tables p Usage text a = a
file-status version tables p BadInput text a = a
file-status version tables p ReadFault text a = a
file-status version tables p WriteFault text a = a
file-status version tables p OutOfMemory text a = a
file-status version tables p TooLarge text a = a

pub balance-status : (version : TranscriptVersion) (tables : List TableStatement) (p : ToolProofData) (status : Status) (text : List ℕ) → IsFileBalance version tables p status text → IsJobStatus status
unfolding IsFileBalance
balance-status version tables p Done text a = tt
balance-status version tables p Refused text a = tt
balance-status version tables p Usage text a = a
balance-status version tables p BadInput text a = a
balance-status version tables p ReadFault text a = a
balance-status version tables p WriteFault text a = a
balance-status version tables p OutOfMemory text a = a
balance-status version tables p TooLarge text a = a

pub demo-status : (number : ℕ) (status : Status) (text : List ℕ) → IsDemoAnswer number status text → IsJobStatus status
unfolding IsDemoAnswer
demo-status number Done text a = tt
demo-status number Refused text a = tt
demo-status number Usage text a = a
demo-status number BadInput text a = a
demo-status number ReadFault text a = a
demo-status number WriteFault text a = a
demo-status number OutOfMemory text a = a
demo-status number TooLarge text a = a

answer-status : (command : Command) (bytes : List ℕ) (status : Status) (text : List ℕ) → IsCommandAnswer command bytes status text → IsAnswerStatus status
answer-status (Prove version) bytes Done text a = tt
answer-status (Prove version) bytes Refused text a = tt
answer-status (Prove version) bytes BadInput text a = tt
answer-status (Prove version) bytes Usage text a = job-status version a.0 Usage text a.3
answer-status (Prove version) bytes ReadFault text a = job-status version a.0 ReadFault text a.3
answer-status (Prove version) bytes WriteFault text a = job-status version a.0 WriteFault text a.3
answer-status (Prove version) bytes OutOfMemory text a = job-status version a.0 OutOfMemory text a.3
answer-status (Prove version) bytes TooLarge text a = job-status version a.0 TooLarge text a.3
answer-status Verify bytes Done text a = tt
answer-status Verify bytes Refused text a = tt
answer-status Verify bytes BadInput text a = tt
answer-status Verify bytes Usage text a = file-status (version_of a.0.version) a.0.tables a.0.proof Usage text a.3
answer-status Verify bytes ReadFault text a = file-status (version_of a.0.version) a.0.tables a.0.proof ReadFault text a.3
answer-status Verify bytes WriteFault text a = file-status (version_of a.0.version) a.0.tables a.0.proof WriteFault text a.3
answer-status Verify bytes OutOfMemory text a = file-status (version_of a.0.version) a.0.tables a.0.proof OutOfMemory text a.3
answer-status Verify bytes TooLarge text a = file-status (version_of a.0.version) a.0.tables a.0.proof TooLarge text a.3
answer-status Balance bytes Done text a = tt
answer-status Balance bytes Refused text a = tt
answer-status Balance bytes BadInput text a = tt
answer-status Balance bytes Usage text a = balance-status (version_of a.0.version) a.0.tables a.0.proof Usage text a.3
answer-status Balance bytes ReadFault text a = balance-status (version_of a.0.version) a.0.tables a.0.proof ReadFault text a.3
answer-status Balance bytes WriteFault text a = balance-status (version_of a.0.version) a.0.tables a.0.proof WriteFault text a.3
answer-status Balance bytes OutOfMemory text a = balance-status (version_of a.0.version) a.0.tables a.0.proof OutOfMemory text a.3
answer-status Balance bytes TooLarge text a = balance-status (version_of a.0.version) a.0.tables a.0.proof TooLarge text a.3
answer-status (Demo number) bytes Done text a = tt
answer-status (Demo number) bytes Refused text a = tt
answer-status (Demo number) bytes BadInput text a = tt
answer-status (Demo number) bytes Usage text a = demo-status number Usage text a
answer-status (Demo number) bytes ReadFault text a = demo-status number ReadFault text a
answer-status (Demo number) bytes WriteFault text a = demo-status number WriteFault text a
answer-status (Demo number) bytes OutOfMemory text a = demo-status number OutOfMemory text a
answer-status (Demo number) bytes TooLarge text a = demo-status number TooLarge text a

pub answers-only : AnswersOnly batch_program
answers-only command bytes status text a = answer-status command bytes status text a
