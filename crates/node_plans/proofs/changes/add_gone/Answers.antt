use Rattle.std.proofs.Common.{◌∙◌, ℕ, List, ap, sym, None, cond, nat_eq}
use Rattle.std.specs.List.{list_any}
use Rattle.node_table.specs.Plans.{over}
use Rattle.node_plans.proofs.Plans.{remove-step}
use Rattle.node_plans.proofs.Added.{over-added}
use Rattle.node_plans.proofs.changes.add_gone.Goals as goal

pub loop-id-preserved : goal.loop-id-preserved
loop-id-preserved c = λ r i.
    let now = over c.loop-id.changes.items r i in
    let one = remove-step c.next.new.self c.in-Some.id i now in
    let left = ap (λ (xs : List ℕ). cond (list_any (nat_eq i) xs) None now) (sym c.in-Some.ensures.steps) in
    rw (c.in_ok-push.ensures.items, over-added, c.new.ensures) (one ∙ left ∙ c.loop-id.invariant r i)
