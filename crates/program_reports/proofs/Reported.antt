-- How a run ends with a report.
use Rattle.std.proofs.Common.{◌≡◌, ℕ, List, [], ◌++◌, codes, Option, Some, None, Result, Ok, Err, IfOk, refl, sym, append-nil, inl, inr}
use Rattle.std.specs.Io.KnownBytes.{Appends}
use Rattle.program_reports.specs.Reports.{Run, Ran, unreadable_run, line_feed}

-- what holds of an Ok, with what it was made of
pub ok-gives : {A E : Type 0} {P Q : A → Type 0} (r : Result A E) → IfOk r P → ((x : A) → P x → Q x) → IfOk r Q
ok-gives (Ok x) h f = f x h
ok-gives (Err e) h f = tt

pub Appends-none : (old : Option (List ℕ)) → Appends old old []
Appends-none None = tt
Appends-none (Some xs) = sym (append-nil xs)

-- memory was refused before anything was printed
pub ran-nothing : (out err err' : Option (List ℕ)) (run : Run) (status : ℕ) → status ≡ 4 → Appends err err' (codes "paxq: no memory" ++ line_feed) → Ran (out, out) (err, err') run status
ran-nothing out err err' run status four reported = inr (record { written = []; left = run.output; beginning = refl; ended = four; printed = Appends-none out; reported = reported })

-- a file that cannot be read was reported
pub ran-unreadable : (file : List ℕ) (out err err' : Option (List ℕ)) → Appends err err' (codes "paxq: cannot read " ++ file ++ line_feed) → Ran (out, out) (err, err') (unreadable_run file) 1
ran-unreadable file out err err' reported = inl (record { ended = refl; printed = Appends-none out; reported = reported })
