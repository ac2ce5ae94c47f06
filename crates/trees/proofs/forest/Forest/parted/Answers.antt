use Rattle.std.proofs.Common.{◌≡◌, ap, sym, ◌∙◌, arith, Some}
use Rattle.data_model.specs.Trees.{parent_of}
use Rattle.node_table.specs.Rows.{table_of}
use Rattle.node_table.specs.Labels.{place_of}
use Rattle.data_model.proofs.Climbs.{there-counts}
use Rattle.data_model.proofs.Firsts.{lt-is}
use Rattle.trees.proofs.Forests.{now-table}
use Rattle.node_table.proofs.LabelSteps.{order-siblings, order-both}
use Rattle.node_table.proofs.Ups.{orders-of, order-roots, parent-zero, same-ids, other-ids}
use Rattle.data_model.proofs.Paths.{path-up, path-top}
use Rattle.trees.proofs.forest.Forest.parted.Goals as goal

pub loop-above_first-smaller : goal.loop-above_first-smaller
loop-above_first-smaller c =
    let up = path-up c.loop-above_first.first c.in-Some.above_first c.args.self.now.trees c.facts.ensures.distinct c.loop-above_first.invariant.first (sym c.parent.ensures ∙ c.in-Some.is) in
    let above = up.1 in omega arith

pub loop-above_first-preserved : goal.loop-above_first-preserved
loop-above_first-preserved c =
    let i = c.loop-above_first.invariant in
    let ts = c.args.self.now.trees in
    let w = place_of c.self.inside.rows in
    let o = orders-of w (table_of c.self.inside.rows) c.self.inside.next ts (now-table c.self.inside c.args.self.now c.self.view_is c.self.invariant) c.self.invariant.numbered in
    let x = c.loop-above_first.first in
    let y = c.loop-above_first.second in
    let p = c.in-Some.above_first in
    let q = c.in-Some-parent.above_second in
    let is = sym c.parent.ensures ∙ c.in-Some.is in
    let js = sym c.parent-in-Some.ensures ∙ c.in-Some-parent.is in
    let ne = other-ids p q (sym c.eq.ensures ∙ c.if-eq.false) in
    let up = path-up x p ts c.facts.ensures.distinct i.first is in
    let vp = path-up y q ts c.facts.ensures.distinct i.second js in
    let lp = up.1 in
    let lq = vp.1 in
    let level = i.level in
    record {
      first = up.0;
      second = vp.0;
      level = omega arith;
      apart = ne;
      order = i.order ∙ order-both w ts o x y p q (there-counts x ts i.first) (there-counts y ts i.second) is js (omega arith) ne;
    }

-- the parents are one
pub returns-then-eq : goal.returns-then-eq
returns-then-eq c =
    let i = c.loop-above_first.invariant in
    let ts = c.args.self.now.trees in
    let w = place_of c.self.inside.rows in
    let o = orders-of w (table_of c.self.inside.rows) c.self.inside.next ts (now-table c.self.inside c.args.self.now c.self.view_is c.self.invariant) c.self.invariant.numbered in
    let x = c.loop-above_first.first in
    let y = c.loop-above_first.second in
    let p = c.in-Some.above_first in
    let same = same-ids p c.in-Some-parent.above_second (sym c.eq.ensures ∙ c.if-eq.true) in
    let js : parent_of y ts ≡ Some p = sym c.parent-in-Some.ensures ∙ c.in-Some-parent.is ∙ ap Some (sym same) in
    rw (c.place-place.ensures, c.place.ensures) (sym (i.order ∙ order-siblings w ts o x y p (there-counts x ts i.first) (there-counts y ts i.second) (sym c.parent.ensures ∙ c.in-Some.is) js))

-- one is a root, so both are
pub returns-in_default-parent : goal.returns-in_default-parent
returns-in_default-parent c =
    let i = c.loop-above_first.invariant in
    let ts = c.args.self.now.trees in
    let up = path-up c.loop-above_first.first c.in-Some.above_first ts c.facts.ensures.distinct i.first (sym c.parent.ensures ∙ c.in-Some.is) in
    let top = path-top c.loop-above_first.second ts c.facts.ensures.distinct i.second (sym c.parent-in-Some.ensures ∙ c.in_default-parent.is) in
    let level = top.1 in
    let above = up.1 in
    let even = i.level in
    absurd (omega arith)

pub returns : goal.returns
returns c =
    let i = c.loop-above_first.invariant in
    let ts = c.args.self.now.trees in
    let w = place_of c.self.inside.rows in
    let o = orders-of w (table_of c.self.inside.rows) c.self.inside.next ts (now-table c.self.inside c.args.self.now c.self.view_is c.self.invariant) c.self.invariant.numbered in
    let x = c.loop-above_first.first in
    let y = c.loop-above_first.second in
    let is = sym c.parent.ensures ∙ c.in_default.is in
    let top = path-top x ts c.facts.ensures.distinct i.first is in
    let level = top.1 in
    let even = i.level in
    c.lt.ensures ∙ lt-is x y ∙ sym (i.order ∙ order-roots w ts o x y i.first i.second is (parent-zero y ts c.facts.ensures.distinct i.second (omega arith)))
