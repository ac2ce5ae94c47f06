-- Deletions, one after the other.
use Rattle.std.proofs.Common.{ℕ, [], ap, Ok}
use Rattle.values.specs.declared.fault.ValueFault.{ValueFault}
use Rattle.values.specs.declared.fault.ValueFault.TheVariants as fault
use Rattle.pending.specs.Primitives.{delete}
use Rattle.query_meaning.specs.Running.{Run, and_then, adding, pure}
use Rattle.evaluation.specs.Gives.{Any, Fails, GivesIn}
use Rattle.query_updates.specs.Parts.{deleted}

-- one node more
pub deleted_gives : (i : ℕ) (old new : Run) → GivesIn Any (adding (delete i)) old (Ok tt) new → GivesIn Any (deleted [] i) old (Ok []) new
deleted_gives i old new g = (ap (λ o. and_then o (λ _. pure [])) g.0, (g.1.0, tt))

pub deleted_fails : (i : ℕ) (old : Run) (found : ValueFault) → Fails (adding (delete i) old) found → Fails (deleted [] i old) found
deleted_fails i old fault.Memory h = tt
deleted_fails i old (fault.Code code) h = ap (λ o. and_then o (λ _. pure [])) h
