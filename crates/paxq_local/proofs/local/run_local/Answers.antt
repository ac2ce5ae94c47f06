use Rattle.std.proofs.Common.{◌≡◌, ℕ, List, [], IfSome, inl, inr, refl, sym, subst}
use Rattle.program_reports.proofs.Reported.{ok-gives}
use Rattle.paxq_local.specs.Playing.{FileRun, LocalRun}
use Rattle.paxq_local.proofs.Giving.{nothing-none}
use Rattle.paxq_local.proofs.Runs.{came-as, came-no-memory, came-unreadable}
use Rattle.paxq_local.proofs.local.run_local.Goals as goal

pub returns-in-Ok : goal.returns-in-Ok
returns-in-Ok g c =
    ok-gives c.run_bytes.result c.run_bytes.ensures
    (λ status h. (
      h.0,
      came-as g.W.Wire.has_brought g.W.Wire.was_given c.args.wire.now c.run_bytes.new.wire (LocalRun g.W.Address.PartialEq.eq h.0 c.args.members c.args.file.now c.deref.result.now) (FileRun g.W.Address.PartialEq.eq h.0 c.args.members c.args.file.now (g.R.Read.remaining c.args.reader.now))
          (g.O.Write.contents c.args.output.now) (g.O.Write.contents c.run_bytes.new.output) (g.E.Write.contents c.args.errors.now) (g.E.Write.contents c.run_bytes.new.errors) status h.1
          (λ xs us run p. inl (c.deref.result.now, subst (λ (bs : List ℕ). IfSome (g.R.Read.remaining c.args.reader.now) (λ given. bs ≡ given)) (sym c.deref.ensures.value) c.in-Ok.ensures, p)),
    ))

pub returns-in-Err-Failed : goal.returns-in-Err-Failed
returns-in-Err-Failed g c =
    ok-gives c.cannot_read.result c.cannot_read.ensures
    (λ status h. (
      [],
      came-unreadable g.W.Wire.has_brought g.W.Wire.was_given c.args.wire.now c.args.wire.now (λ ds k. k) (nothing-none g.W.Wire.was_given c.args.wire.now) (FileRun g.W.Address.PartialEq.eq [] c.args.members c.args.file.now (g.R.Read.remaining c.args.reader.now))
          (g.O.Write.contents c.args.output.now) (g.E.Write.contents c.args.errors.now) (g.E.Write.contents c.cannot_read.new.errors) status c.args.file.now (h (g.O.Write.contents c.args.output.now)) (inr (inl (refl, refl, refl))) (inr (inr (refl, refl, refl))),
    ))

pub returns-in-Err-Memory : goal.returns-in-Err-Memory
returns-in-Err-Memory g c =
    ok-gives c.no_memory.result c.no_memory.ensures
    (λ status h. (
      [],
      came-no-memory g.W.Wire.has_brought g.W.Wire.was_given c.args.wire.now c.args.wire.now (λ ds k. k) (nothing-none g.W.Wire.was_given c.args.wire.now) (FileRun g.W.Address.PartialEq.eq [] c.args.members c.args.file.now (g.R.Read.remaining c.args.reader.now))
          (g.O.Write.contents c.args.output.now) (g.E.Write.contents c.args.errors.now) (g.E.Write.contents c.no_memory.new.errors) status h (inr (inr (refl, refl, refl))),
    ))
