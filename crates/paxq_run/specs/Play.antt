-- What a run of a script prints: a function of the file's name and its bytes.
use Rattle.std.specs.Prelude.{◌≡◌, ℕ, ◌+◌, Bool, true, false, nat_lt, ◌⊎◌, IfSome, cond, List, [], ◌∷◌, ◌++◌, length, Option, codes}
use Rattle.std.specs.Option.{option_map_or}
use Rattle.std.specs.Fmt.{decimal}
use Rattle.std.specs.Io.KnownBytes.{Appends}
use Rattle.std.specs.Str.{IsUtf8}
use Rattle.ballots.specs.declared.value.Value.{Value}
use Rattle.ballots.specs.declared.value.Value.TheVariants.{Request}
use Rattle.ballots.specs.Terms.{Request as RequestTerm}
use Rattle.ballots.specs.Values.{positions}
use Rattle.sessions.specs.Terms.{id_of}
use Rattle.sessions.specs.Meaning.{request_ran, store_of, kept_reply, reply_for}
use Rattle.sessions.specs.Session.{SessionTerm, Means}
use Rattle.questions.specs.Answers.{answer}
use Rattle.paxq_run.specs.declared.run.Stop.{Stop}
use Rattle.paxq_run.specs.declared.run.Stop.TheVariants.{Memory, Output}
use Rattle.printed_replies.specs.Lines.{reply_text, answer_text, behind_text}
use Rattle.program_reports.specs.Reports.{line_feed, Run, Ran, unreadable_run}
use Rattle.paxq_files.specs.Script.{Command, submit, ask, ask_at, ScriptRead, script, wrong, script_of}

-- ---- one command
-- what is printed, the values that are applied then, and whether the run goes on
pub record Turn : Type 0 where
  pub printed : List ℕ
  pub values : List Value
  pub goes_on : Bool

-- a request that is new is applied at the next position, if there is one
abbrev pub new_turn : List (List ℕ) → List Value → RequestTerm → Turn
new_turn names values r =
    cond (nat_lt (length values) positions)
    (record { printed = reply_text (reply_for (request_ran (store_of names values) r).ending (length values + 1)); values = values ++ Request r ∷ []; goes_on = true })
    (record { printed = codes "no answer" ++ line_feed; values = values; goes_on = false })

-- a question is answered from the store, at its level
abbrev pub asked_turn : List (List ℕ) → List Value → (level : ℕ) → List ℕ → Turn
asked_turn names values level question = record { printed = answer_text (length values) (answer (store_of names values) level question); values = values; goes_on = true }

-- a request that has a reply gets it and no position; a question is answered, unless fewer values are applied than its floor
abbrev pub turn_of : List (List ℕ) → List Value → Command → Turn
turn_of names values (submit r) = option_map_or (λ reply. record { printed = reply_text reply; values = values; goes_on = true }) (kept_reply names values (id_of r)) (new_turn names values r)
turn_of names values (ask level question) = asked_turn names values level question
turn_of names values (ask_at level floor question) = cond (nat_lt (length values) floor) (record { printed = behind_text (length values); values = values; goes_on = true }) (asked_turn names values level question)

-- ---- a run
abbrev pub after : List ℕ → Run → Run
after printed r = record r { output = printed ++ r.output }

-- the commands in turn, until one gets no answer: status 3
abbrev pub commands_run : List (List ℕ) → List Value → List Command → Run
commands_run names values [] = record { status = 0; output = []; errors = [] }
commands_run names values (command ∷ commands) =
    let turn = turn_of names values command in cond turn.goes_on (after turn.printed (commands_run names turn.values commands)) (record { status = 3; output = turn.printed; errors = [] })

abbrev pub read_run : ScriptRead → Run
read_run (script s) = commands_run s.names [] s.commands
read_run (wrong number) = record { status = 1; output = []; errors = codes "paxq: line " ++ decimal number ++ line_feed }

-- a run of the script that a text is
unfoldable pub text_run : List ℕ → Run
text_run bytes = read_run (script_of bytes)

-- a turn printed what it should, told whether the run goes on, and left the state that the values mean
pub record IsTurn (names : List (List ℕ)) (turn : Turn) (printed : List ℕ) (goes_on : Bool) (state : SessionTerm) : Type 0 where
  pub text : printed ≡ turn.printed
  pub goes : goes_on ≡ turn.goes_on
  pub means : Means names turn.values state

-- the commands were run to their end: what was printed, and the exit status
pub record IsPlayed (run : Run) (status : ℕ) (old new : Option (List ℕ)) : Type 0 where
  pub ended : status ≡ run.status
  pub printed : Appends old new run.output

-- a beginning of what the commands print was printed
pub record IsCut (run : Run) (old new : Option (List ℕ)) : Type 0 where
  pub written : List ℕ
  pub left : List ℕ
  pub beginning : written ++ left ≡ run.output
  pub printed : Appends old new written

-- a fact for a stop for want of memory
abbrev pub IfMemory : Stop → Type 0 → Type 0
IfMemory Memory P = P
IfMemory (Output error) P = Unit {0}

-- a run of the script that these bytes are, or of a file that is no text
abbrev pub BytesRan : List ℕ → List ℕ → Option (List ℕ) × Option (List ℕ) → Option (List ℕ) × Option (List ℕ) → ℕ → Type 0
BytesRan file bytes output errors status = (IsUtf8 bytes × Ran output errors (text_run bytes) status) ⊎ ((¬ (IsUtf8 bytes)) × Ran output errors (unreadable_run file) status)

-- a run of a file whose reader gives these bytes, where they are known; or the reader failed
abbrev pub FileRan : List ℕ → Option (List ℕ) → Option (List ℕ) × Option (List ℕ) → Option (List ℕ) × Option (List ℕ) → ℕ → Type 0
FileRan file known output errors status = ((bytes : List ℕ) × IfSome known (λ given. bytes ≡ given) × BytesRan file bytes output errors status) ⊎ Ran output errors (unreadable_run file) status
