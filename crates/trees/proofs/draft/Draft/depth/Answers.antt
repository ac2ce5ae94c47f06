use Rattle.std.proofs.Common.{◌∙◌, sym, arith}
use Rattle.data_model.proofs.Paths.{path-up, path-top, depth-size}
use Rattle.trees.proofs.draft.Draft.depth.Goals as goal

pub overflow_add-levels : goal.overflow_add-levels
overflow_add-levels c =
    let few = c.facts.ensures.few in
    let bound = c.facts.ensures.bound in
    let deep = depth-size c.args.id c.args.self.now.after in
    let i = c.loop-parent.invariant.1 in
    omega arith

pub loop-parent-preserved : goal.loop-parent-preserved
loop-parent-preserved c =
    let i = c.loop-parent.invariant in
    let up = path-up c.loop-parent.at c.in-Some.parent c.args.self.now.after c.facts.ensures.distinct i.0 (sym c.parent.ensures ∙ c.in-Some.is) in
    let level = up.1 in
    let was = i.1 in (up.0, omega arith)

pub loop-parent-smaller : goal.loop-parent-smaller
loop-parent-smaller c =
    let up = path-up c.loop-parent.at c.in-Some.parent c.args.self.now.after c.facts.ensures.distinct c.loop-parent.invariant.0 (sym c.parent.ensures ∙ c.in-Some.is) in
    let level = up.1 in omega arith

pub returns : goal.returns
returns c =
    let i = c.loop-parent.invariant in
    let top = path-top c.loop-parent.at c.args.self.now.after c.facts.ensures.distinct i.0 (sym c.parent.ensures ∙ c.in_default.is) in
    let level = top.1 in
    let was = i.1 in omega arith
