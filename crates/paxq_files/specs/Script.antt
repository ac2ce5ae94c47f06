-- The script that a text is: lines that end with line feeds, each a command.
use Rattle.std.specs.Prelude.{ℕ, suc, Bool, ◌&&◌, not, nat_lt, ◌==◌, if◌then◌else◌, List, [], ◌∷◌, ◌++◌, length, filter, codes, Option, Some, None}
use Rattle.std.specs.Option.{option_map, option_map_or}
use Rattle.std.specs.List.{list_any, slice_split, before_first, after_first, enumerate_from, starts_with}
use Rattle.document_names.specs.Names.{are_document_names}
use Rattle.line_parts.specs.Parts.{number_below, is_space, has_text_length, request_of, text_after, ◌>>=◌}
use Rattle.ballots.specs.Terms.{Request as RequestTerm}
use Rattle.ballots.specs.Values.{positions}

-- what a line asks for, a question at which level of the language
pub data Command : Type 0 where
  submit : RequestTerm → Command
  ask : (level : ℕ) → List ℕ → Command
  ask_at : (level floor : ℕ) → List ℕ → Command

-- the names of the documents, and the commands in order
pub record ScriptTerm : Type 0 where
  pub names : List (List ℕ)
  pub commands : List Command

-- a script, or the number of the first wrong line
pub data ScriptRead : Type 0 where
  script : ScriptTerm → ScriptRead
  wrong : ℕ → ScriptRead

-- `CLIENT NUMBER TEXT`, at a level
abbrev pub submit_of : (level : ℕ) → List ℕ → Option Command
submit_of level parts = option_map submit (request_of level parts)

-- `TEXT`
abbrev pub ask_of : (level : ℕ) → List ℕ → Option Command
ask_of level text = if has_text_length text then Some (ask level text) else None

-- `FLOOR TEXT`: the same, to be answered where so many positions are applied
abbrev pub ask_at_with : (level floor : ℕ) → List ℕ → Option Command
ask_at_with level floor text = if has_text_length text then Some (ask_at level floor text) else None

abbrev pub ask_at_of : (level : ℕ) → List ℕ → Option Command
ask_at_of level parts = number_below (suc positions) (before_first is_space parts) >>= λ floor. ask_at_with level floor (after_first is_space parts)

-- `submit CLIENT NUMBER TEXT`, `askat FLOOR TEXT` or `ask TEXT` at level 1
unfoldable pub command_at_1 : List ℕ → Option Command
command_at_1 line = option_map_or (submit_of 1) (text_after (codes "submit ") line) (option_map_or (ask_at_of 1) (text_after (codes "askat ") line) (text_after (codes "ask ") line >>= ask_of 1))

-- the same words with a 2 at level 2
unfoldable pub command_of : List ℕ → Option Command
command_of line =
    option_map_or (submit_of 2) (text_after (codes "submit2 ") line) (option_map_or (ask_at_of 2) (text_after (codes "askat2 ") line) (option_map_or (ask_of 2) (text_after (codes "ask2 ") line) (command_at_1 line)))

-- what a text asks for that is one line, without its line feed
abbrev pub command_alone : List ℕ → Option Command
command_alone text = if list_any (λ b. b == 10) text then None else command_of text

-- the names of a line `docs NAME ..`
abbrev pub docs_of : List ℕ → Option (List (List ℕ))
docs_of line = option_map (slice_split is_space) (text_after (codes "docs ") line)

-- empty lines and lines that begin with `#` say nothing
abbrev pub says_something : ℕ × List ℕ → Bool
says_something line = not (starts_with ◌==◌ line.1 (35 ∷ [])) && nat_lt 0 (length line.1)

-- the lines that say something, with their numbers from 1
unfoldable pub lines_of : List ℕ → List (ℕ × List ℕ)
lines_of bytes = filter says_something (enumerate_from 1 (slice_split (λ b. b == 10) bytes))

-- the script of these names whose commands are some, and then those of these lines
abbrev pub commands_from : List (List ℕ) → List Command → List (ℕ × List ℕ) → ScriptRead
commands_from names done [] = script (record { names = names; commands = done })
commands_from names done (line ∷ lines) = option_map_or (λ command. commands_from names (done ++ command ∷ []) lines) (command_of line.1) (wrong line.0)

-- the lines after a first one that gives these names
abbrev pub after_docs : ℕ → List (List ℕ) → List (ℕ × List ℕ) → ScriptRead
after_docs number names lines = if are_document_names names then commands_from names [] lines else wrong number

-- the first line may give the names of the documents; else there is `db`
abbrev pub script_from : List (ℕ × List ℕ) → ScriptRead
script_from [] = script (record { names = codes "db" ∷ []; commands = [] })
script_from (line ∷ lines) = option_map_or (λ names. after_docs line.0 names lines) (docs_of line.1) (commands_from (codes "db" ∷ []) [] (line ∷ lines))

-- the script of a text
unfoldable pub script_of : List ℕ → ScriptRead
script_of bytes = script_from (lines_of bytes)
