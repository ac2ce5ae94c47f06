-- The event file that bytes are: lines that end with line feeds, of which the last need not.
use Rattle.std.specs.Prelude.{◌≡◌, ℕ, suc, Bool, true, false, ◌&&◌, ◌==◌, if◌then◌else◌, List, [], ◌∷◌, ◌++◌}
use Rattle.std.specs.List.{slice_split}
use Rattle.std.specs.Option.{option_map_or}
use Rattle.event_files.specs.Forms.{command_of, failure_of, group_of}
use Rattle.event_files.specs.declared.command.Command.{Command}
use Rattle.event_files.specs.declared.file.EventFile.{EventFile}
use Rattle.event_files.specs.declared.file.EventFileFault.{EventFileFault}
use Rattle.event_files.specs.declared.file.EventFileFault.TheVariants as fault
use Rattle.event_files.specs.declared.first.Failure.{Failure}
use Rattle.event_files.specs.declared.first.Group.{Group}

-- the members and the documents, the writes that fail, and the commands in order
pub record EventFileTerm : Type 0 where
  pub group : Group
  pub failures : List Failure
  pub commands : List Command

-- an event file, or the number of the first wrong line
pub data EventFileRead : Type 0 where
  event_file : EventFileTerm → EventFileRead
  wrong : ℕ → EventFileRead

abbrev pub is_line_feed : ℕ → Bool
is_line_feed b = b == 10

abbrev pub is_empty : {A : Type 0} → List A → Bool
is_empty [] = true
is_empty (x ∷ xs) = false

-- all of the lists but the last one, if that is empty
abbrev pub without_last_empty : List (List ℕ) → List (List ℕ)
without_last_empty [] = []
without_last_empty (line ∷ lines) = if is_empty line && is_empty lines then [] else line ∷ without_last_empty lines

-- the lines of a file: each ends with a line feed, but the last need not
unfoldable pub lines_of : List ℕ → List (List ℕ)
lines_of bytes = without_last_empty (slice_split is_line_feed bytes)

-- the file whose commands are some, and then those of these lines, the first of which has that number
abbrev pub commands_from : Group → List Failure → List Command → ℕ → List (List ℕ) → EventFileRead
commands_from group failures done number [] = event_file (record { group = group; failures = failures; commands = done })
commands_from group failures done number (line ∷ lines) =
    option_map_or (λ command. commands_from group failures (done ++ command ∷ []) (suc number) lines) (command_of group.members line) (wrong number)

-- the file in which some writes fail, and then those that these lines begin with
abbrev pub failures_from : Group → List Failure → ℕ → List (List ℕ) → EventFileRead
failures_from group done number [] = commands_from group done [] number []
failures_from group done number (line ∷ lines) =
    option_map_or (λ failure. failures_from group (done ++ failure ∷ []) (suc number) lines) (failure_of group.members line) (commands_from group done [] number (line ∷ lines))

-- the file of these lines: the group, the writes that fail, and the commands
abbrev pub file_from : List (List ℕ) → EventFileRead
file_from [] = wrong 1
file_from (line ∷ lines) = option_map_or (λ group. failures_from group [] 2 lines) (group_of line) (wrong 1)

-- the event file of a file's bytes
unfoldable pub file_of : List ℕ → EventFileRead
file_of bytes = file_from (lines_of bytes)

-- what was read
abbrev pub file_term : EventFile → EventFileTerm
file_term f = record { group = f.group; failures = f.failures.items; commands = f.commands.items }

-- the fault is the first wrong line, or says nothing of the bytes
abbrev pub IsFaultOf : EventFileRead → EventFileFault → Type 0
IsFaultOf read fault.Memory = Unit {0}
IsFaultOf read (fault.Line number) = read ≡ wrong number
