use Rattle.std.proofs.Common.{◌≢◌, ℕ, ◌≤◌, ◌∙◌, sym, arith, ap}
use Rattle.data_model.specs.Walks.{depth_of}
use Rattle.node_table.proofs.LabelSteps.{order-lift, order-parent}
use Rattle.data_model.proofs.Paths.{path-up, path-top}
use Rattle.data_model.proofs.Climbs.{there-counts}
use Rattle.trees.proofs.forest.Forest.lifted.Goals as goal

pub loop-preserved : goal.loop-preserved
loop-preserved c =
    let i = c.loop.invariant in
    let ts = c.args.self.now.trees in
    let up = path-up c.loop.at c.in-Some.parent ts c.facts.ensures.distinct i.there (sym c.parent.ensures ∙ c.in-Some.is) in
    let level = up.1 in
    let was = i.level in
    let w = c.numbered.ensures.0 in
    let o = c.numbered.ensures.1 in
    let p = c.in-Some.parent in
    let x = c.loop.at in
    let is = sym c.parent.ensures ∙ c.in-Some.is in
    let deeper : (y : ℕ) → depth_of y ts ≤ depth_of p ts → y ≢ x = λ y l same. (let e = ap (λ j. depth_of j ts) same in absurd (omega arith)) in
    record {
      there = up.0;
      level = omega arith;
      own = λ e. absurd (omega arith);
      above = λ l. (let old = i.order p up.0 (omega arith) (deeper p (omega arith)) in let one = order-parent w ts o x p (there-counts x ts i.there) is in (old.1 ∙ one.0, old.0 ∙ one.1));
      order = λ y hy deep ne. (let old = i.order y hy (omega arith) (deeper y deep) in
          let lift = order-lift w ts o x p y (there-counts x ts i.there) (there-counts y ts hy) is deep ne in
          (old.0 ∙ lift.0, old.1 ∙ lift.1));
    }

pub returns-in_default-clause-level : goal.returns-in_default-clause-level
returns-in_default-clause-level c =
    let i = c.loop.invariant in
    let top = path-top c.loop.at c.args.self.now.trees c.facts.ensures.distinct i.there (sym c.parent.ensures ∙ c.in_default.is) in
    let level = top.1 in
    let was = i.level in
    let more = c.loop-test.true in
    let enough = c.requires.enough in
    absurd (omega arith)

never : (c : goal.In_default) → ⊥
never c =
    let i = c.loop.invariant in
    let top = path-top c.loop.at c.args.self.now.trees c.facts.ensures.distinct i.there (sym c.parent.ensures ∙ c.in_default.is) in
    let level = top.1 in
    let was = i.level in
    let more = c.loop-test.true in
    let enough = c.requires.enough in
    absurd (omega arith)

pub returns-in_default-clause-own : goal.returns-in_default-clause-own
returns-in_default-clause-own c = absurd (never c)

pub returns-in_default-clause-above : goal.returns-in_default-clause-above
returns-in_default-clause-above c = absurd (never c)
