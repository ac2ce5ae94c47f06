-- How a simulation ends.
use Rattle.std.proofs.Common.{◌≡◌, ℕ, List, ◌++◌, codes, Option, refl, sym, subst, inl, inr, ◌⊎◌}
use Rattle.std.specs.Fmt.{decimal}
use Rattle.std.specs.Io.KnownBytes.{Appends}
use Rattle.event_files.specs.EventFiles.{EventFileRead, EventFileTerm, event_file, wrong, file_of}
use Rattle.program_reports.specs.Reports.{line_feed}
use Rattle.program_reports.proofs.Reported.{Appends-none}
use Rattle.paxos.specs.Application.{Application}
use Rattle.paxq_sim.specs.Play.{IsSimulated}
use Rattle.paxq_sim.specs.Ran.{FileRan, ReadRan, WroteMemory}

module _ (meaning : List (List ℕ) → Application) (out out' err err' : Option (List ℕ)) (status : ℕ) where
  -- memory was refused
  pub wrote_memory : status ≡ 4 → Appends err err' (codes "paxq: no memory" ++ line_feed) → WroteMemory (out, out) (err, err') status
  wrote_memory four reported = record { ended = four; printed = Appends-none out; reported = reported }

  -- what was simulated was written
  pub wrote_text : (f : EventFileTerm) (text : List ℕ) → IsSimulated meaning f text → Appends out out' text → FileRan meaning f (out, out') (err, err) 0
  wrote_text f text is printed = inl (text, is, record { ended = refl; printed = printed; reported = Appends-none err })

  -- a wrong line was reported
  pub wrote_wrong : (bytes : List ℕ) (number : ℕ) → file_of bytes ≡ wrong number
      → ((status ≡ 1) × Appends err err' (codes "paxq: line " ++ decimal number ++ line_feed)) ⊎ ((status ≡ 4) × Appends err err' (codes "paxq: no memory" ++ line_feed)) → ReadRan meaning (file_of bytes) (out, out) (err, err') status
  wrote_wrong bytes number e h = subst (λ (r : EventFileRead). ReadRan meaning r (out, out) (err, err') status) (sym e) (by h)
    where
      by : ((status ≡ 1) × Appends err err' (codes "paxq: line " ++ decimal number ++ line_feed)) ⊎ ((status ≡ 4) × Appends err err' (codes "paxq: no memory" ++ line_feed)) → ReadRan meaning (wrong number) (out, out) (err, err') status
      by (inl w) = inl (record { ended = w.0; printed = Appends-none out; reported = w.1 })
      by (inr w) = inr (wrote_memory w.0 w.1)

  -- memory was refused before it was known what the bytes are
  pub wrote_none : (read : EventFileRead) → status ≡ 4 → Appends err err' (codes "paxq: no memory" ++ line_feed) → ReadRan meaning read (out, out) (err, err') status
  wrote_none (event_file f) four reported = inr (wrote_memory four reported)
  wrote_none (wrong k) four reported = inr (wrote_memory four reported)
