-- How a run ends.
use Rattle.std.proofs.Common.{◌≡◌, ℕ, Bool, true, false, Result, Ok, Err, List, [], ◌∷◌, ◌++◌, cond, codes, Option, refl, ap, sym, subst, inl, inr, ◌⊎◌}
use Rattle.std.specs.Fmt.{decimal}
use Rattle.std.specs.Io.KnownBytes.{Appends}
use Rattle.ballots.specs.declared.value.Value.{Value}
use Rattle.paxq_files.specs.Script.{Command, ScriptRead, script_of, wrong}
use Rattle.program_reports.specs.Reports.{Run, line_feed, Ran}
use Rattle.program_reports.proofs.Reported.{Appends-none, ran-nothing}
use Rattle.std.specs.Prelude.{IfErr}
use Rattle.paxq_run.specs.Play.{turn_of, after, commands_run, read_run, text_run, IsPlayed, IsCut, IfMemory}
use Rattle.paxq_run.specs.declared.run.Stop.{Stop}
use Rattle.paxq_run.specs.declared.run.Stop.TheVariants.{Memory, Output}

-- commands report nothing
errors-none : (names : List (List ℕ)) (values : List Value) (commands : List Command) → (commands_run names values commands).errors ≡ []
errors-none names values [] = refl
errors-none names values (command ∷ commands) = cases (turn_of names values command).goes_on (errors-none names (turn_of names values command).values commands)
  where
    cases : (on : Bool) → (commands_run names (turn_of names values command).values commands).errors ≡ []
        → (cond {A = Run} on (after (turn_of names values command).printed (commands_run names (turn_of names values command).values commands)) (record { status = 3; output = (turn_of names values command).printed; errors = [] })).errors ≡ []
    cases true e = e
    cases false e = refl

module _ (out out' err err' : Option (List ℕ)) (run : Run) (status : ℕ) where
  pub ran-played : IsPlayed run status out out' → run.errors ≡ [] → Ran (out, out') (err, err) run status
  ran-played played none = inl (record { ended = played.ended; printed = played.printed; reported = (let P : List ℕ → Type 0 = Appends err err in subst P (sym none) (Appends-none err)) })

  pub ran-cut : IsCut run out out' → status ≡ 4 → Appends err err' (codes "paxq: no memory" ++ line_feed) → Ran (out, out') (err, err') run status
  ran-cut cut four reported = inr (record { written = cut.written; left = cut.left; beginning = cut.beginning; ended = four; printed = cut.printed; reported = reported })

-- the run of the commands of a script
pub ran-commands : (out out' err : Option (List ℕ)) (names : List (List ℕ)) (commands : List Command) (status : ℕ) → IsPlayed (commands_run names [] commands) status out out' → Ran (out, out') (err, err) (commands_run names [] commands) status
ran-commands out out' err names commands status played = ran-played out out' err err (commands_run names [] commands) status played (errors-none names [] commands)

-- the run of a text
pub text_run-read : (text : List ℕ) (read : ScriptRead) → script_of text ≡ read → text_run text ≡ read_run read
unfolding text_run
text_run-read text read e = ap read_run e

-- the run of a text that is no script
pub ran-wrong : (text : List ℕ) (number : ℕ) (out err err' : Option (List ℕ)) (status : ℕ) → script_of text ≡ wrong number
    → ((status ≡ 1) × Appends err err' (codes "paxq: line " ++ decimal number ++ line_feed)) ⊎ ((status ≡ 4) × Appends err err' (codes "paxq: no memory" ++ line_feed)) → Ran (out, out) (err, err') (text_run text) status
ran-wrong text number out err err' status e (inl h) =
    (let P : Run → Type 0 = λ r. Ran (out, out) (err, err') r status in subst P (sym (text_run-read text (wrong number) e)) (inl (record { ended = h.0; printed = Appends-none out; reported = h.1 })))
ran-wrong text number out err err' status e (inr h) = ran-nothing out err err' (text_run text) status h.0 h.1

-- what holds where memory was refused, by what does
pub cut_by : {P Q : Type 0} (r : Result ℕ Stop) → (P → Q) → IfErr r (λ stop. IfMemory stop P) → IfErr r (λ stop. IfMemory stop Q)
cut_by (Ok status) f h = tt
cut_by (Err Memory) f h = f h
cut_by (Err (Output error)) f h = tt
