use Rattle.std.proofs.Common.{◌∙◌, ℕ, List, ap, sym, arith, None, cond, nat_eq}
use Rattle.std.specs.List.{list_any}
use Rattle.node_table.specs.Rows.{row_of}
use Rattle.node_plans.proofs.Plans.{remove-step}
use Rattle.node_plans.proofs.plan.remove_rows.Goals as goal

pub loop-id-preserved : goal.loop-id-preserved
loop-id-preserved c =
    let left = c.in-Some.ensures.steps in
    record {
      removed = λ i. rw c.remove_row.ensures.removed (remove-step c.next.new.self c.in-Some.id i (row_of c.loop-id.rows i) ∙ ap (λ (xs : List ℕ). cond (list_any (nat_eq i) xs) None (row_of c.loop-id.rows i)) (sym left) ∙ c.loop-id.invariant.removed i);
      spare = omega (arith, c.remove_row.ensures.spare, c.loop-id.invariant.spare);
    }
