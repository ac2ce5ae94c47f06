use Rattle.std.proofs.Common.{inl, inr, refl}
use Rattle.record_writes.proofs.promise.judge.Goals as goal

pub returns-then-is_memory-clause-law : goal.returns-then-is_memory-clause-law
returns-then-is_memory-clause-law g c clean o last next f = (c.in-Err.ensures.holds clean o last next f.0, λ up. c.in-Err.ensures.holds clean o last last (f.1 (c.in-Err.ensures.was_open clean up)))

pub returns-clause-law : goal.returns-clause-law
returns-clause-law g c clean o last next f = c.in-Err.ensures.holds clean o last next f.0

pub returns-clause-store : goal.returns-clause-store
returns-clause-store g c clean known fault = inr (c.in-Err.ensures.store clean (inl refl) known (λ is. absurd (let no = c.if-is_memory.ensures.1 is in cc)))
