-- What is written for an event file, and the exit status.
use Rattle.std.specs.Prelude.{◌≡◌, ℕ, ◌⊎◌, IfSome, List, [], ◌++◌, Option, codes}
use Rattle.std.specs.Str.{IsUtf8}
use Rattle.std.specs.Fmt.{decimal}
use Rattle.event_files.specs.EventFiles.{EventFileRead, EventFileTerm, event_file, wrong, file_of}
use Rattle.program_reports.specs.Reports.{Ran, Run, Wrote, line_feed, unreadable_run}
use Rattle.paxos.specs.Application.{Application}
use Rattle.paxq_sim.specs.Play.{IsSimulated}

-- a text is written, and nothing is reported
abbrev pub text_run : List ℕ → Run
text_run text = record { status = 0; output = text; errors = [] }

-- the report of a wrong line
abbrev pub wrong_run : (line : ℕ) → Run
wrong_run k = record { status = 1; output = []; errors = codes "paxq: line " ++ decimal k ++ line_feed }

-- the report that memory was refused
abbrev pub memory_run : Run
memory_run = record { status = 4; output = []; errors = codes "paxq: no memory" ++ line_feed }

-- The pairs are what the writers held before and after: memory was refused, and nothing was printed.
abbrev pub WroteMemory : (output errors : Option (List ℕ) × Option (List ℕ)) (status : ℕ) → Type 0
WroteMemory output errors status = Wrote output errors status memory_run

-- what a simulation prints was written, where an application means that; or memory was refused
abbrev pub FileRan : (meaning : List (List ℕ) → Application) → EventFileTerm → (output errors : Option (List ℕ) × Option (List ℕ)) (status : ℕ) → Type 0
FileRan meaning f output errors status = ((text : List ℕ) × IsSimulated meaning f text × Wrote output errors status (text_run text)) ⊎ WroteMemory output errors status

-- so for an event file, and for the first wrong line
abbrev pub ReadRan : (meaning : List (List ℕ) → Application) → EventFileRead → (output errors : Option (List ℕ) × Option (List ℕ)) (status : ℕ) → Type 0
ReadRan meaning (event_file f) output errors status = FileRan meaning f output errors status
ReadRan meaning (wrong k) output errors status = Wrote output errors status (wrong_run k) ⊎ WroteMemory output errors status

-- so for bytes, or for a file that is no text in UTF-8
abbrev pub BytesRan : (meaning : List (List ℕ) → Application) → (file bytes : List ℕ) (output errors : Option (List ℕ) × Option (List ℕ)) (status : ℕ) → Type 0
BytesRan meaning file bytes output errors status = (IsUtf8 bytes × ReadRan meaning (file_of bytes) output errors status) ⊎ ((¬ (IsUtf8 bytes)) × Ran output errors (unreadable_run file) status)

-- so for a file whose reader gives some bytes, where they are known; or the reader failed
abbrev pub EventsRan : (meaning : List (List ℕ) → Application) → (file : List ℕ) (known : Option (List ℕ)) (output errors : Option (List ℕ) × Option (List ℕ)) (status : ℕ) → Type 0
EventsRan meaning file known output errors status = ((bytes : List ℕ) × IfSome known (λ given. bytes ≡ given) × BytesRan meaning file bytes output errors status) ⊎ Ran output errors (unreadable_run file) status
