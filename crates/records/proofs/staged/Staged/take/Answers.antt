use Rattle.std.proofs.Common.{◌≡◌, [], ◌∷◌, ◌++◌, rules}
use Rattle.paxos.specs.Records.{written}
use Rattle.records.specs.Group.{write_of}
use Rattle.records.proofs.Groups.{behind_more, is_behind_more, writes_more}
use Rattle.records.proofs.staged.Staged.take.Goals as goal

pub invariant_of-self-2 : goal.invariant_of-self-2
invariant_of-self-2 g c =
    let due = rw (← c.self.view_is) at c.requires.due in
    let items : c.push_reserved.new.self.items ≡ c.self.inside.pending.items ++ c.args.write ∷ [] = search rules in
    let made : c.copy_write.new.kept ≡ written (write_of c.args.write) c.self.inside.taken = c.in_ok-copy_write.ensures.made in
    rw (items, made) (writes_more _ _ c.self.invariant.0 c.requires.write, λ running kept. behind_more g.R.Records.stands c.self.inside.store _ _ _ (c.self.invariant.1 running kept) (due kept))

pub returns-clause-base : goal.returns-clause-base
returns-clause-base g c =
    let due = rw (← c.self.view_is) at c.requires.due in
    let items : c.push_reserved.new.self.items ≡ c.self.inside.pending.items ++ c.args.write ∷ [] = search rules in
    let made : c.copy_write.new.kept ≡ written (write_of c.args.write) c.self.inside.taken = c.in_ok-copy_write.ensures.made in
    rw (items, made, ← c.self.view_is) (λ kept a was. is_behind_more g.R.Records.stands c.self.inside.store _ _ _ a was (due kept))
