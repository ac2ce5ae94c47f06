use Rattle.std.proofs.Common.{◌≡◌, ◌+◌, ◌∷◌, [], ◌++◌, ◌∙◌, arith}
use Rattle.messages.proofs.Elements.{next_entry, no_entry, one_fewer}
use Rattle.messages.proofs.lists.split_entries.Goals as goal

pub returns-in-Err-clause-fault : goal.returns-in-Err-clause-fault
returns-in-Err-clause-fault c other =
    c.loop-left.invariant ∙ no_entry _ _ _ _ _ _ _ _ (one_fewer _ c.loop-left-test.true) (c.in-Err.ensures.fault other)

pub loop-left-preserved : goal.loop-left-preserved
loop-left-preserved c =
    let pushed : c.push.new.self.items ≡ c.loop-left.entries.items ++ c.in-Ok.read.0 ∷ [] = grind (arith, c.push.ensures.items, c.is_err.ensures.value, c.if-is_err.false) in
    c.loop-left.invariant ∙ rw pushed (next_entry _ _ (c.in-Ok.read.0.position + 1) _ _ _ _ _ _ c.in-Ok.read.0 (one_fewer _ c.loop-left-test.true) (omega arith) c.in-Ok.ensures.value)
