use Rattle.std.proofs.Common.{◌≡◌, ◌-◌, length}
use Rattle.published.proofs.Asked.{IsServed}
use Rattle.sight.specs.Sights.{IsSight}
use Rattle.published.proofs.serving.serve.Given as goal

abbrev pub invariant-loop-level : goal.invariant-loop-level
invariant-loop-level g l =
    IsServed (g.A.Application.meaning g.J.Opening.names) l.fn.reader.sight l.fn.asks l.answers.items l.reader.sight × (l.reader.number ≡ l.fn.reader.number) × IsSight l.fn.reader.shown l.reader.shown

abbrev pub decreases-loop-level : goal.decreases-loop-level
decreases-loop-level g l = length l.fn.asks - length l.answers.items
