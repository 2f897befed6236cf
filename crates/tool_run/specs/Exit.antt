-- The status that an exit code tells.
use Rattle.std.specs.Prelude.{List, [], ◌∷◌, get_or}
use Rattle.std.specs.Process.{exit_status}
use Rattle.std.specs.declared.process.ExitCode.{ExitCode}
use Rattle.tool_verifier.specs.declared.status.Status.{Status}
use Rattle.tool_verifier.specs.declared.status.Status.TheVariants.{Done, Refused, Usage, BadInput, ReadFault, WriteFault, OutOfMemory, TooLarge}

-- the statuses by their numbers
abbrev pub statuses : List Status
statuses = Done ∷ Refused ∷ Usage ∷ BadInput ∷ ReadFault ∷ WriteFault ∷ OutOfMemory ∷ TooLarge ∷ []

-- the status of that number, where the code is the number of one
abbrev pub status_told : ExitCode → Status
status_told code = get_or statuses (exit_status code) TooLarge
