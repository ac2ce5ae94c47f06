use Rattle.std.proofs.Common.{◌≡◌, inl, inr, refl, sym, ◌∙◌, arith, rules}
use Rattle.sqlite.specs.State.{HasCleanDisk}
use Rattle.sqlite.specs.Held.{state}
use Rattle.record_writes.specs.Faults.{StoreFailed}
use Rattle.record_writes.proofs.Failing.{later, since, store_still}
use Rattle.record_writes.proofs.Holding.{holds_weaker}
use Rattle.record_writes.proofs.group.put_all.Goals as goal

pub returns-in-Err-clause-law : goal.returns-in-Err-clause-law
returns-in-Err-clause-law g c clean o last members due h = c.in-Err.ensures.holds clean o last last h

pub returns-in-Err-2-clause-law : goal.returns-in-Err-2-clause-law
returns-in-Err-2-clause-law g c clean o last members due h = holds_weaker _ o last _ (c.in-Err-2.ensures.holds clean o last last h)

pub returns-in-Ok-run-clause-law : goal.returns-in-Ok-run-clause-law
returns-in-Ok-run-clause-law g c clean o last members due h =
    let mid : HasCleanDisk (state g.S.Store c.look.new.connection) = omega (arith, c.run.ensures.clean) in
    c.in-Ok-run.ensures.law clean o last members (c.in-Ok.ensures.open mid).0 (due (c.in-Ok.ensures.open mid).1) (c.in-Ok.ensures.holds mid o last last h)

pub returns-in-Err-run-clause-law : goal.returns-in-Err-run-clause-law
returns-in-Err-run-clause-law g c clean o last members due h =
    let wrote : HasCleanDisk (state g.S.Store c.run.new.connection) = omega (arith, c.judge.ensures.clean) in
    let mid : HasCleanDisk (state g.S.Store c.look.new.connection) = omega (arith, c.run.ensures.clean) in
    c.judge.ensures.law clean o last _ (c.in-Err-run.ensures.law wrote o last members (c.in-Ok.ensures.open mid).0 (due (c.in-Ok.ensures.open mid).1) (c.in-Ok.ensures.holds mid o last last h))

pub returns-then-not-is_autocommit-clause-law : goal.returns-then-not-is_autocommit-clause-law
returns-then-not-is_autocommit-clause-law g c clean o last members due h = holds_weaker _ o last _ (c.in-Ok.ensures.holds clean o last last h)

pub returns-in-Err-2-clause-store : goal.returns-in-Err-2-clause-store
returns-in-Err-2-clause-store g c clean o last fits members may h fault =
    let same : c.in-Err-2.field-0 ≡ c.in-Err.error = let one = c.in-Err.is in let two = c.in-Err-2.is in cc in
    c.in-Err-2.ensures.store clean (inl refl) h.known (λ is. absurd (let no = c.if-is_memory.ensures.1 (sym same ∙ is) in cc))

pub returns-then-not-is_autocommit-clause-store : goal.returns-then-not-is_autocommit-clause-store
returns-then-not-is_autocommit-clause-store g c clean o last fits members may h fault =
    let held = c.in-Ok.ensures.holds clean o last last h in
    absurd (let mode = held.mode in let value = c.is_autocommit.ensures.value in let no = c.if-not-is_autocommit in search rules)

pub returns-in-Err-run-clause-store : goal.returns-in-Err-run-clause-store
returns-in-Err-run-clause-store g c clean o last fits members may h fault =
    let old = state g.S.Store c.args.connection.now in
    let read = state g.S.Store c.look.new.connection in
    let wrote = state g.S.Store c.run.new.connection in
    let new = state g.S.Store c.judge.new.connection in
    let wrote_clean : HasCleanDisk wrote = omega (arith, c.judge.ensures.clean) in
    let mid : HasCleanDisk read = omega (arith, c.run.ensures.clean) in
    let held = c.in-Ok.ensures.holds mid o last last h in
    let up = (c.in-Ok.ensures.open mid).0 in
    let due = may (c.in-Ok.ensures.open mid).1 in
    let wrong = c.in-Err-run.ensures.law wrote_clean o last members up due held in
    let failed : StoreFailed read new = elim (c.judge.ensures.store clean wrong.0.known fault) [
      | inl other ↦ store_still read wrote new c.judge.ensures.faults (c.in-Err-run.ensures.store wrote_clean o last fits members up due held other)
      | inr again ↦ later read wrote new _ wrote_clean c.run.ensures.survives c.judge.ensures.faults again
    ] in
    since old read new _ (c.in-Ok.ensures.same mid) c.look.ensures.survives failed
