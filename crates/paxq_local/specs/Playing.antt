-- What runs of `paxq local` and `paxq send` print.
use Rattle.std.specs.Prelude.{◌≡◌, ◌⊎◌, ℕ, max, Bool, List, [], ◌∷◌, ◌++◌, Option, Some, None, IfSome, Result, Ok, Err, codes, string_bytes}
use Rattle.std.specs.Fmt.{decimal}
use Rattle.std.specs.Io.KnownBytes.{Appends}
use Rattle.std.specs.Str.{IsUtf8}
use Rattle.paxq_files.specs.Script.{Command, ScriptTerm, script, wrong, script_of, command_alone}
use Rattle.paxq_local.specs.Asking.{CanBeAsked, form_of, id_of}
use Rattle.paxq_local.specs.Members.{AreDiffering, IsSaidTo, number_after, question_after}
use Rattle.paxq_local.specs.Sent.{AreAllAsked, AreAskedInVain, AreSentFor}
use Rattle.paxq_local.specs.Told.{IsSaid, told_by_one}
use Rattle.paxq_local.specs.declared.answers.Told.{Told}
use Rattle.paxq_local.specs.declared.answers.Told.TheVariants.{Said, Differ, NoAnswer}
use Rattle.paxq_local.specs.declared.local.Stop.{Stop}
use Rattle.paxq_local.specs.declared.local.Stop.TheVariants.{Memory, Output}
use Rattle.program_reports.specs.Reports.{Run, line_feed, unreadable_run}
use Rattle.wires.specs.Wires.{Carried}

-- ---- a run
abbrev pub printed_run : (status : ℕ) → List ℕ → Run
printed_run status output = record { status = status; output = output; errors = [] }

abbrev pub reported_run : (status : ℕ) → List ℕ → Run
reported_run status errors = record { status = status; output = []; errors = errors }

abbrev pub no_memory_run : Run
no_memory_run = reported_run 4 (codes "paxq: no memory" ++ line_feed)

abbrev pub wrong_line_run : ℕ → Run
wrong_line_run number = reported_run 1 (codes "paxq: line " ++ decimal number ++ line_feed)

-- The commands in turn, of a group of so many members at these addresses, before which so many were asked, at that floor: while each is asked some
-- datagrams come, and the client sends its datagram and no other; and of each a line is printed that those say, until one gets no answer, or different ones,
-- or memory is refused. The floor is the highest position that a reply named before.
module _ {A : Type 0} (eq : A → A → Bool) (peers : List A) (members : ℕ) where
  pub data Played : (asked floor : ℕ) → List Command → (brought went : List (Carried A)) → Run → Type 0 where
    ended : (asked floor : ℕ) → Played asked floor [] [] [] (printed_run 0 [])
    said : (asked floor : ℕ) (command : Command) (commands : List Command) (came brought sent went : List (Carried A)) (to text : List ℕ) (position : ℕ) (run : Run)
        → IsSaidTo eq peers came members (form_of command) (id_of (question_after asked) command) text position → AreSentFor peers asked floor command to sent → AreAllAsked peers (form_of command) to
        → Played (number_after asked) (max floor position) commands brought went run
        → Played asked floor (command ∷ commands) (came ++ brought) (sent ++ went) (record run { output = text ++ run.output })
    differed : (asked floor : ℕ) (command : Command) (commands : List Command) (came sent : List (Carried A)) (to : List ℕ)
        → AreDiffering eq peers came members (form_of command) (id_of (question_after asked) command) → AreSentFor peers asked floor command to sent → AreAllAsked peers (form_of command) to
        → Played asked floor (command ∷ commands) came sent (printed_run 3 (codes "differ" ++ line_feed))
    unanswered : (asked floor : ℕ) (command : Command) (commands : List Command) (came sent : List (Carried A)) (to : List ℕ)
        → AreSentFor peers asked floor command to sent → (CanBeAsked floor command → AreAskedInVain peers (form_of command) to)
        → Played asked floor (command ∷ commands) came sent (printed_run 3 (codes "no answer" ++ line_feed))
    refused : (asked floor : ℕ) (command : Command) (commands : List Command) (came sent : List (Carried A)) (to : List ℕ)
        → AreSentFor peers asked floor command to sent → Played asked floor (command ∷ commands) came sent no_memory_run
    unbegun : (asked floor : ℕ) (commands : List Command) → Played asked floor commands [] [] no_memory_run

-- the output could not be written
abbrev pub IsOfOutput : Stop → Type 0
IsOfOutput Memory = ⊥
IsOfOutput (Output error) = Unit {0}

-- a last line was printed, and the status is 3
abbrev pub IsEnded : (line : List ℕ) → (old new : Option (List ℕ)) → Result (Option ℕ) Stop → Type 0
IsEnded line old new (Ok (Some status)) = (status ≡ 3) × Appends old new line
IsEnded line old new (Ok None) = ⊥
IsEnded line old new (Err stop) = IsOfOutput stop

-- what came of a command was printed, and whether that ends the run
abbrev pub IsPrinted : Told → (old new : Option (List ℕ)) → Result (Option ℕ) Stop → Type 0
IsPrinted (Said text) old new (Ok None) = Appends old new (string_bytes text)
IsPrinted (Said text) old new (Ok (Some status)) = ⊥
IsPrinted (Said text) old new (Err stop) = IsOfOutput stop
IsPrinted Differ old new result = IsEnded (codes "differ" ++ line_feed) old new result
IsPrinted NoAnswer old new result = IsEnded (codes "no answer" ++ line_feed) old new result

-- How far the commands were run, and what was printed: to their end, or until memory was refused. Or it could not be written.
module _ {A : Type 0} (eq : A → A → Bool) (peers : List A) (members asked floor : ℕ) (commands : List Command) (brought went : List (Carried A)) where
  abbrev pub IsPlayed : (old new : Option (List ℕ)) → Result ℕ Stop → Type 0
  IsPlayed old new (Ok status) = (printed : List ℕ) × Played eq peers members asked floor commands brought went (printed_run status printed) × Appends old new printed
  IsPlayed old new (Err Memory) = (printed : List ℕ) × Played eq peers members asked floor commands brought went (record no_memory_run { output = printed }) × Appends old new printed
  IsPlayed old new (Err (Output error)) = Unit {0}

-- A run of the script that these bytes are, on a group of so many members at these addresses, in which the wire brought these, and the client sent those. At
-- a wrong line nothing is asked, so nothing comes, and nothing is sent.
pub data LocalRun {A : Type 0} (eq : A → A → Bool) (peers : List A) (members : ℕ) (file bytes : List ℕ) : (brought went : List (Carried A)) → Run → Type 0 where
  is_no_text : ¬ (IsUtf8 bytes) → LocalRun eq peers members file bytes [] [] (unreadable_run file)
  is_no_script : (number : ℕ) → IsUtf8 bytes → script_of bytes ≡ wrong number → LocalRun eq peers members file bytes [] [] (wrong_line_run number)
  is_played : (s : ScriptTerm) (brought went : List (Carried A)) (run : Run) → IsUtf8 bytes → script_of bytes ≡ script s → Played eq peers members 0 0 s.commands brought went run
      → LocalRun eq peers members file bytes brought went run
  lacked_memory : LocalRun eq peers members file bytes [] [] no_memory_run

-- a run of a file whose reader gives these bytes, where they are known; or the reader failed, or memory was refused
abbrev pub FileRun : {A : Type 0} → (eq : A → A → Bool) → (peers : List A) → (members : ℕ) → (file : List ℕ) → Option (List ℕ) → (brought went : List (Carried A)) → Run → Type 0
FileRun eq peers members file known brought went run =
    ((bytes : List ℕ) × IfSome known (λ given. bytes ≡ given) × LocalRun eq peers members file bytes brought went run)
    ⊎ ((brought ≡ []) × (went ≡ []) × (run ≡ unreadable_run file)) ⊎ ((brought ≡ []) × (went ≡ []) × (run ≡ no_memory_run))

-- ---- one line
-- A command that a single node is asked: a question goes by the number 0 of client 0. What answers it is printed, or that nothing does.
pub data AskedRun {A : Type 0} (group : ℕ) (brought : List (Carried A)) (command : Command) : Run → Type 0 where
  answered : (text : List ℕ) → IsSaid brought (told_by_one (form_of command)) group (id_of (record { client = 0; number = 0 }) command) text → AskedRun group brought command (printed_run 0 text)
  got_nothing : AskedRun group brought command (printed_run 3 (codes "no answer" ++ line_feed))
  had_no_memory : AskedRun group brought command no_memory_run

-- the same of a line that has to be one command
pub data SentRun {A : Type 0} (group : ℕ) (brought : List (Carried A)) (line : List ℕ) : Run → Type 0 where
  is_no_command : command_alone line ≡ None → SentRun group brought line (wrong_line_run 1)
  is_command : (command : Command) (run : Run) → command_alone line ≡ Some command → AskedRun group brought command run → SentRun group brought line run
  no_memory : SentRun group brought line no_memory_run
