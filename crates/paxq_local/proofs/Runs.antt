-- What is written of a run.
use Rattle.std.proofs.Common.{◌≡◌, ◌⊎◌, ℕ, Bool, List, [], ◌++◌, Option, Result, Ok, Err, refl, subst, inl, inr, codes}
use Rattle.std.specs.Fmt.{decimal}
use Rattle.std.specs.Io.KnownBytes.{Appends}
use Rattle.paxq_files.specs.Script.{Command}
use Rattle.program_reports.specs.Reports.{Ran, Run, Wrote, line_feed, unreadable_run}
use Rattle.program_reports.proofs.Reported.{Appends-none}
use Rattle.paxq_local.specs.Playing.{IsPlayed, Played, no_memory_run, printed_run, wrong_line_run}
use Rattle.paxq_local.specs.Asking.{GivesNothing}
use Rattle.paxq_local.specs.declared.local.Stop.{Stop}
use Rattle.paxq_local.specs.declared.local.Stop.TheVariants.{Memory}
use Rattle.paxq_local.proofs.Both.{Both, both-after, both-as, both-still}
use Rattle.wires.specs.Wires.{Carried}

-- what came of a run was written, while these came and those were sent
abbrev pub Came : {A : Type 0} → (P : List (Carried A) → List (Carried A) → Run → Type 0) → (out out' err err' : Option (List ℕ)) → (status : ℕ) → (brought went : List (Carried A)) → Type 0
Came P out out' err err' status brought went = (run : Run) × Wrote (out, out') (err, err') status run × P brought went run

module _ {W A : Type 0} (H G : W → List (Carried A) → Type 0) (a b : W) (keeps : (ds : List (Carried A)) → H a ds → H b ds) (nothing : GivesNothing G a b) where
  -- while nothing came, and nothing was sent
  module _ (P : List (Carried A) → List (Carried A) → Run → Type 0) (out err err' : Option (List ℕ)) (status : ℕ) where
    came-none : Came P out out err err' status [] [] → Both H G a b (Came P out out err err' status)
    came-none h = both-still H G a b (Came P out out err err' status) keeps nothing h

    pub came-no-memory : (status ≡ 4) × Appends err err' (codes "paxq: no memory" ++ line_feed) → P [] [] no_memory_run → Both H G a b (Came P out out err err' status)
    came-no-memory h q = came-none (no_memory_run, record { ended = h.0; printed = Appends-none out; reported = h.1 }, q)

    pub came-unreadable : (file : List ℕ) → Ran (out, out) (err, err') (unreadable_run file) status → P [] [] (unreadable_run file) → P [] [] no_memory_run → Both H G a b (Came P out out err err' status)
    came-unreadable file (inl wrote) p q = came-none (unreadable_run file, wrote, p)
    came-unreadable file (inr stopped) p q = came-no-memory (stopped.ended, stopped.reported) q

    pub came-wrong-line : (number : ℕ) → ((status ≡ 1) × Appends err err' (codes "paxq: line " ++ decimal number ++ line_feed)) ⊎ ((status ≡ 4) × Appends err err' (codes "paxq: no memory" ++ line_feed))
        → P [] [] (wrong_line_run number) → P [] [] no_memory_run → Both H G a b (Came P out out err err' status)
    came-wrong-line number (inl h) p q = came-none (wrong_line_run number, record { ended = h.0; printed = Appends-none out; reported = h.1 }, p)
    came-wrong-line number (inr h) p q = came-no-memory h q

  -- the commands were played
  module _ (c : W) (eq : A → A → Bool) (peers : List A) (members asked floor : ℕ) (commands : List Command) (out out' : Option (List ℕ)) (r : Result ℕ Stop) (start : asked ≡ 0) (lowest : floor ≡ 0)
      (played : Both H G b c (λ came went. IsPlayed eq peers members asked floor commands came went out out' r)) where
    played-as : (s : Result ℕ Stop) → r ≡ s → Both H G a c (λ came went. IsPlayed eq peers members 0 0 commands came went out out' s)
    played-as s is =
        both-after H G a b c (λ came went. IsPlayed eq peers members 0 0 commands came went out out' s) keeps nothing
        (subst (λ (x : Result ℕ Stop). Both H G b c (λ came went. IsPlayed eq peers members 0 0 commands came went out out' x)) is
        (subst (λ (n : ℕ). Both H G b c (λ came went. IsPlayed eq peers members n 0 commands came went out out' r)) start
        (subst (λ (n : ℕ). Both H G b c (λ came went. IsPlayed eq peers members asked n commands came went out out' r)) lowest played)))

    pub came-played : (status : ℕ) (err : Option (List ℕ)) → r ≡ Ok status → Both H G a c (Came (Played eq peers members 0 0 commands) out out' err err status)
    came-played status err is =
        both-as H G a c (λ came went. IsPlayed eq peers members 0 0 commands came went out out' (Ok status)) (Came (Played eq peers members 0 0 commands) out out' err err status) (played-as (Ok status) is)
        (λ xs us p. (printed_run status p.0, record { ended = refl; printed = p.2; reported = Appends-none err }, p.1))

    pub came-refused : (status : ℕ) (err err' : Option (List ℕ)) → r ≡ Err Memory → (status ≡ 4) × Appends err err' (codes "paxq: no memory" ++ line_feed) → Both H G a c (Came (Played eq peers members 0 0 commands) out out' err err' status)
    came-refused status err err' is h =
        both-as H G a c (λ came went. IsPlayed eq peers members 0 0 commands came went out out' (Err Memory)) (Came (Played eq peers members 0 0 commands) out out' err err' status) (played-as (Err Memory) is)
        (λ xs us p. (record no_memory_run { output = p.0 }, record { ended = h.0; printed = p.2; reported = h.1 }, p.1))

-- what holds of a run holds of what it is a part of
pub came-as : {W A : Type 0} (H G : W → List (Carried A) → Type 0) (a b : W) (P Q : List (Carried A) → List (Carried A) → Run → Type 0) (out out' err err' : Option (List ℕ)) (status : ℕ)
    → Both H G a b (Came P out out' err err' status) → ((xs us : List (Carried A)) (run : Run) → P xs us run → Q xs us run) → Both H G a b (Came Q out out' err err' status)
came-as H G a b P Q out out' err err' status came f = both-as H G a b (Came P out out' err err' status) (Came Q out out' err err' status) came (λ xs us p. (p.0, p.1, f xs us p.0 p.2))
