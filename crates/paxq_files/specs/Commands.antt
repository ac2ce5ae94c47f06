-- What the commands and the faults of the code say.
use Rattle.std.specs.Prelude.{◌≡◌, string_bytes}
use Rattle.paxq_files.specs.Script.{Command, submit, ask, ask_at, ScriptRead, wrong}
use Rattle.paxq_files.specs.declared.script.Command as declared
use Rattle.paxq_files.specs.declared.script.Command.TheVariants as variant
use Rattle.paxq_files.specs.declared.script.ScriptFault.{ScriptFault}
use Rattle.paxq_files.specs.declared.script.ScriptFault.TheVariants.{Memory, Line}

-- what a command of the code asks for
abbrev pub command_term : declared.Command → Command
command_term (variant.Submit request) = submit request
command_term (variant.Ask level text) = ask level (string_bytes text)
command_term (variant.AskAt level floor text) = ask_at level floor (string_bytes text)

-- the fault is the first wrong line, or says nothing of the text
abbrev pub IsFaultOf : ScriptRead → ScriptFault → Type 0
IsFaultOf read Memory = Unit {0}
IsFaultOf read (Line number) = read ≡ wrong number
