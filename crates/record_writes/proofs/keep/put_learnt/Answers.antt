use Rattle.std.proofs.Common.{◌≡◌, inl, inr, refl, sym, ◌∙◌, arith}
use Rattle.sqlite.specs.State.{HasCleanDisk}
use Rattle.sqlite.specs.Held.{state}
use Rattle.record_writes.specs.Faults.{StoreFailed}
use Rattle.record_writes.proofs.Failing.{later, since, store_still}
use Rattle.record_writes.proofs.Holding.{holds_weaker}
use Rattle.record_writes.proofs.keep.put_learnt.Goals as goal

pub returns-in-Err-clause-law : goal.returns-in-Err-clause-law
returns-in-Err-clause-law g c clean o last v is good next h = c.in-Err.ensures.holds clean o last last h

pub returns-in-Err-2-clause-law : goal.returns-in-Err-2-clause-law
returns-in-Err-2-clause-law g c clean o last v is good next h = holds_weaker _ o last _ (c.in-Err-2.ensures.holds clean o last last h)

pub returns-in-Ok-write-clause-law : goal.returns-in-Ok-write-clause-law
returns-in-Ok-write-clause-law g c clean o last v is good next h =
    let mid : HasCleanDisk (state g.S.Store c.look.new.connection) = omega (arith, c.write.ensures.clean) in
    c.in-Ok-write.ensures.law clean (c.in-Ok.ensures.text mid) (c.in-Ok.ensures.open mid).0 o last v is good (next (c.in-Ok.ensures.open mid).1) (c.in-Ok.ensures.holds mid o last last h)

pub returns-clause-law : goal.returns-clause-law
returns-clause-law g c clean o last v is good next h =
    let wrote : HasCleanDisk (state g.S.Store c.write.new.connection) = omega (arith, c.judge.ensures.clean) in
    let mid : HasCleanDisk (state g.S.Store c.look.new.connection) = omega (arith, c.write.ensures.clean) in
    c.judge.ensures.law clean o last _ (c.in-Err-write.ensures.law wrote (c.in-Ok.ensures.text mid) (c.in-Ok.ensures.open mid).0 o last v is good (next (c.in-Ok.ensures.open mid).1) (c.in-Ok.ensures.holds mid o last last h))

pub returns-in-Err-2-clause-store : goal.returns-in-Err-2-clause-store
returns-in-Err-2-clause-store g c clean o last v is good next h fault =
    let same : c.in-Err-2.field-0 ≡ c.in-Err.error = let one = c.in-Err.is in let two = c.in-Err-2.is in cc in
    c.in-Err-2.ensures.store clean (inr refl) h.known (λ is. absurd (let no = c.if-is_memory.ensures.1 (sym same ∙ is) in cc))

pub returns-clause-store : goal.returns-clause-store
returns-clause-store g c clean o last v is good next h fault =
    let old = state g.S.Store c.args.connection.now in
    let read = state g.S.Store c.look.new.connection in
    let wrote = state g.S.Store c.write.new.connection in
    let new = state g.S.Store c.judge.new.connection in
    let wrote_clean : HasCleanDisk wrote = omega (arith, c.judge.ensures.clean) in
    let mid : HasCleanDisk read = omega (arith, c.write.ensures.clean) in
    let held = c.in-Ok.ensures.holds mid o last last h in
    let failed : StoreFailed read new = elim (c.judge.ensures.store clean (c.in-Err-write.ensures.known wrote_clean o last held) fault) [
      | inl other ↦ store_still read wrote new c.judge.ensures.faults (c.in-Err-write.ensures.store wrote_clean (c.in-Ok.ensures.text mid) (c.in-Ok.ensures.open mid).0 o last v is good (next (c.in-Ok.ensures.open mid).1) held other)
      | inr again ↦ later read wrote new _ wrote_clean c.write.ensures.survives c.judge.ensures.faults again
    ] in
    since old read new _ (c.in-Ok.ensures.same mid) c.look.ensures.survives failed
