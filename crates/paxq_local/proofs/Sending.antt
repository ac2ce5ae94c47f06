-- Runs of one line.
use Rattle.std.proofs.Common.{◌≡◌, ◌⊎◌, ℕ, List, ◌++◌, Option, Some, None, Result, Ok, IfOk, IfSome, codes, refl, subst, inl, inr, string_bytes}
use Rattle.std.specs.Io.KnownBytes.{Appends}
use Rattle.std.specs.Fmt.{decimal}
use Rattle.paxq_files.specs.Script.{Command, command_alone}
use Rattle.program_reports.specs.Reports.{Run, Wrote, line_feed}
use Rattle.program_reports.proofs.Reported.{Appends-none}
use Rattle.paxq_local.specs.Asking.{form_of, id_of}
use Rattle.paxq_local.specs.Playing.{AskedRun, answered, got_nothing, had_no_memory, no_memory, SentRun, is_no_command, is_command, no_memory_run, printed_run, wrong_line_run}
use Rattle.paxq_local.specs.Told.{Brings, IsSaid, told_by_one}
use Rattle.paxq_local.specs.declared.asked.Said.{Said}
use Rattle.paxq_local.proofs.Brought.{brings-as, brings-none}
use Rattle.wires.specs.Wires.{Carried}

-- a command was answered so
abbrev pub Answered : {A : Type 0} → (brought : List (Carried A)) → (group : ℕ) → Command → Said → Type 0
Answered brought group command s = IsSaid brought (told_by_one (form_of command)) group (id_of (record { client = 0; number = 0 }) command) (string_bytes s.text)

-- a run that wrote this came of a command
abbrev pub Asked : {A : Type 0} → (group : ℕ) → Command → (out out' err err' : Option (List ℕ)) → (status : ℕ) → (brought : List (Carried A)) → Type 0
Asked group command out out' err err' status brought = (run : Run) × Wrote (out, out') (err, err') status run × AskedRun group brought command run

-- the same of a line
abbrev pub Sent : {A : Type 0} → (group : ℕ) → (line : List ℕ) → (out out' err err' : Option (List ℕ)) → (status : ℕ) → (brought : List (Carried A)) → Type 0
Sent group line out out' err err' status brought = (run : Run) × Wrote (out, out') (err, err') status run × SentRun group brought line run

module _ {W A E : Type 0} (H : W → List (Carried A) → Type 0) (a b : W) (group : ℕ) (command : Command) (r : Result (Option Said) E) where
  pub asked-answered : (s : Said) (out out' err : Option (List ℕ)) → Brings H a b (λ xs. IfOk r (λ o. IfSome o (λ (t : Said). Answered xs group command t))) → r ≡ Ok (Some s) → Appends out out' (string_bytes s.text)
      → Brings H a b (Asked group command out out' err err 0)
  asked-answered s out out' err first is wrote =
      brings-as H a b (λ xs. IfOk r (λ o. IfSome o (λ (t : Said). Answered xs group command t))) (Asked group command out out' err err 0) first
      (λ xs p. (
        printed_run 0 (string_bytes s.text),
        record { ended = refl; printed = wrote; reported = Appends-none err },
        answered (string_bytes s.text) (subst (λ (x : Result (Option Said) E). IfOk x (λ o. IfSome o (λ (t : Said). Answered xs group command t))) is p),
      ))

  pub asked-unanswered : (out out' err : Option (List ℕ)) → Brings H a b (λ xs. IfOk r (λ o. IfSome o (λ (t : Said). Answered xs group command t))) → Appends out out' (codes "no answer" ++ line_feed)
      → Brings H a b (Asked group command out out' err err 3)
  asked-unanswered out out' err first wrote =
      brings-as H a b (λ xs. IfOk r (λ o. IfSome o (λ (t : Said). Answered xs group command t))) (Asked group command out out' err err 3) first
      (λ xs p. (printed_run 3 (codes "no answer" ++ line_feed), record { ended = refl; printed = wrote; reported = Appends-none err }, got_nothing))

  pub asked-no-memory : (out err err' : Option (List ℕ)) (status : ℕ) → Brings H a b (λ xs. IfOk r (λ o. IfSome o (λ (t : Said). Answered xs group command t))) → status ≡ 4 → Appends err err' (codes "paxq: no memory" ++ line_feed)
      → Brings H a b (Asked group command out out err err' status)
  asked-no-memory out err err' status first four wrote =
      brings-as H a b (λ xs. IfOk r (λ o. IfSome o (λ (t : Said). Answered xs group command t))) (Asked group command out out err err' status) first
      (λ xs p. (no_memory_run, record { ended = four; printed = Appends-none out; reported = wrote }, had_no_memory))

module _ {W A : Type 0} (H : W → List (Carried A) → Type 0) where
  pub sent-command : (a b : W) (group : ℕ) (line : List ℕ) (command : Command) (out out' err err' : Option (List ℕ)) (status : ℕ) → command_alone line ≡ Some command
      → Brings H a b (Asked group command out out' err err' status) → Brings H a b (Sent group line out out' err err' status)
  sent-command a b group line command out out' err err' status is first =
      brings-as H a b (Asked group command out out' err err' status) (Sent group line out out' err err' status) first (λ xs p. (p.0, p.1, is_command command p.0 is p.2))

  pub sent-no-memory : (a : W) (group : ℕ) (line : List ℕ) (out err err' : Option (List ℕ)) (status : ℕ) → status ≡ 4 → Appends err err' (codes "paxq: no memory" ++ line_feed) → Brings H a a (Sent group line out out err err' status)
  sent-no-memory a group line out err err' status four wrote =
      brings-none H a (Sent group line out out err err' status) (no_memory_run, record { ended = four; printed = Appends-none out; reported = wrote }, no_memory)

  pub sent-no-command : (a : W) (group : ℕ) (line : List ℕ) (out err err' : Option (List ℕ)) (status : ℕ) → command_alone line ≡ None
      → ((status ≡ 1) × Appends err err' (codes "paxq: line " ++ decimal 1 ++ line_feed)) ⊎ ((status ≡ 4) × Appends err err' (codes "paxq: no memory" ++ line_feed)) → Brings H a a (Sent group line out out err err' status)
  sent-no-command a group line out err err' status none (inl h) =
      brings-none H a (Sent group line out out err err' status) (wrong_line_run 1, record { ended = h.0; printed = Appends-none out; reported = h.1 }, is_no_command none)
  sent-no-command a group line out err err' status none (inr h) = sent-no-memory a group line out err err' status h.0 h.1
