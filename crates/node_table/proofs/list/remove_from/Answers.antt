use Rattle.std.proofs.Common.{◌≡◌, ◌<◌, ◌++◌, length, take, drop, filter, not, eqb, sym, ◌∙◌, ap, arith, add-one, take_all, ◌≤◌}
use Prim.Native.Nat.{suc}
use Rattle.data_model.specs.Walks.{held}
use Rattle.node_table.proofs.Onces.{held-first, held-next, held-none}
use Rattle.node_table.proofs.list.remove_from.Goals as goal

first : (c : goal.After-remove) → (take c.loop-at.at c.loop-at.ids.items ++ drop (suc c.loop-at.at) c.loop-at.ids.items ≡ filter (λ j. not (eqb c.args.id j)) c.loop-at.ids.items) × (held c.args.id c.loop-at.ids.items ≡ 1)
first c =
    let here : c.loop-at.at < length c.args.ids.now.items = (let test = c.loop-at-test.true in let len = c.len-at-end.ensures in let ok = c.args.ids.now.ok in omega arith) in
    held-first c.args.id c.index.result.now c.loop-at.ids.items c.loop-at.at (rw c.loop-at.invariant.0 here) c.index.ensures (sym c.eq.ensures ∙ c.if-eq.true) c.loop-at.invariant.1 (rw c.loop-at.invariant.0 c.requires)

pub returns-then-eq-clause-removed : goal.returns-then-eq-clause-removed
returns-then-eq-clause-removed c = c.remove.ensures.items ∙ (first c).0 ∙ ap (filter (λ i. not (eqb c.args.id i))) c.loop-at.invariant.0

pub returns-then-eq-clause-had : goal.returns-then-eq-clause-had
returns-then-eq-clause-had c = ap (held c.args.id) (sym c.loop-at.invariant.0) ∙ (first c).1

pub loop-at-preserved : goal.loop-at-preserved
loop-at-preserved c =
    let here : c.loop-at.at < length c.args.ids.now.items = (let test = c.loop-at-test.true in let len = c.len-at-end.ensures in let ok = c.args.ids.now.ok in omega arith) in
    (c.loop-at.invariant.0, rw add-one (held-next c.args.id c.index.result.now c.loop-at.ids.items c.loop-at.at (rw c.loop-at.invariant.0 here) c.index.ensures (sym c.eq.ensures ∙ c.if-eq.false) c.loop-at.invariant.1))

pub returns-clause-removed : goal.returns-clause-removed
returns-clause-removed c =
    let all : length c.args.ids.now.items ≤ c.loop-at.at = (let test = c.loop-at-test.false in let len = c.len-at-end.ensures in let ok = c.args.ids.now.ok in omega arith) in
    let none : held c.args.id c.args.ids.now.items ≡ 0 = rw (c.loop-at.invariant.0, take_all c.loop-at.at c.args.ids.now.items all) at c.loop-at.invariant.1 in
    c.loop-at.invariant.0 ∙ sym (held-none c.args.id c.args.ids.now.items none)
