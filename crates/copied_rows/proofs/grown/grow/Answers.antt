use Rattle.std.proofs.Common.{ap}
use Rattle.copied_rows.proofs.PutBack.{places-back, table-back, where-not}
use Rattle.copied_rows.proofs.grown.grow.Goals as goal

pub returns-then-not-matches-clause-refused : goal.returns-then-not-matches-clause-refused
returns-then-not-matches-clause-refused c =
    let a = c.add_grown-grown.ensures in
    let r = c.remove_range.ensures in
    let removed = rw c.number-identity.ensures at r.removed in
    let below = rw c.number-identity.ensures at r.below in
    where-not _ _ (table-back c.args.rows.now c.add_grown-grown.new.rows c.remove_range.new.rows c.args.node.identity c.add_grown-grown.new.copying.next c.requires.fresh a.same a.fresh a.places removed below r.above)

pub returns-then-not-matches-clause-same : goal.returns-then-not-matches-clause-same
returns-then-not-matches-clause-same c = λ i l.
    (let a = c.add_grown-grown.ensures in
    let r = c.remove_range.ensures in
    let removed = rw c.number-identity.ensures at r.removed in
    let below = rw c.number-identity.ensures at r.below in
    ap (λ h. h i) (table-back c.args.rows.now c.add_grown-grown.new.rows c.remove_range.new.rows c.args.node.identity c.add_grown-grown.new.copying.next c.requires.fresh a.same a.fresh a.places removed below r.above))

pub returns-then-not-matches-clause-places : goal.returns-then-not-matches-clause-places
returns-then-not-matches-clause-places c =
    let a = c.add_grown-grown.ensures in
    let r = c.remove_range.ensures in
    let removed = rw c.number-identity.ensures at r.removed in
    let below = rw c.number-identity.ensures at r.below in
    places-back c.args.rows.now c.add_grown-grown.new.rows c.remove_range.new.rows c.args.node.identity c.add_grown-grown.new.copying.next c.requires.fresh a.same a.fresh a.places removed below r.above
