use Rattle.std.proofs.Common.{◌≡◌, Some, sym, refl, ◌∙◌, subst, IsSome, ltb}
use Rattle.data_model.specs.Order.{precedes}
use Rattle.data_model.specs.Trees.{find}
use Rattle.node_table.specs.Rising.{AreSiblings, IsAbove}
use Rattle.node_table.specs.Labels.{parent_in}
use Rattle.node_table.specs.Rows.{table_of, trees_of}
use Rattle.node_table.proofs.Rising.{siblings, cousins, siblings-parents}
use Rattle.node_table.proofs.Ups.{same-ids, other-ids}
use Rattle.node_table.proofs.order.level_order.Goals as goal

pub loop-init : goal.loop-init
loop-init c = record { rows = refl; ends = λ there here level. (there, here, refl); begun = λ h. (refl, refl, refl) }

-- the parents are one: both nodes are at one level
met : (c : goal.Then-eq) → IsSome (find c.args.b (trees_of (table_of c.args.rows.now) c.args.levels))
    × (precedes c.args.a c.args.b (trees_of (table_of c.args.rows.now) c.args.levels) ≡ ltb c.in_ok-above_first.above_first.1 c.in_ok-above_second.above_second.1)
met c =
    let i = c.loop.invariant in
    let x = c.in_ok-above_first.above_first in
    let y = c.in_ok-above_second.above_second in
    let first = subst (λ r. IsAbove r c.loop.first x) i.rows (c.in_ok-above_first.ensures.parent, c.in_ok-above_first.ensures.place) in
    let second = subst (λ r. IsAbove r c.loop.second y) (c.place_below.ensures.same ∙ i.rows) (c.in_ok-above_second.ensures.parent, c.in_ok-above_second.ensures.place) in
    let s = siblings c.args.rows.now c.args.levels c.requires.rows c.loop.first c.loop.second x y first second (same-ids x.0 y.0 (sym c.eq.ensures ∙ c.if-eq.true)) in
    let e = i.ends s.0 s.1 s.2 in
    (e.1, e.2 ∙ s.3)

pub returns-then-eq-clause-has_b : goal.returns-then-eq-clause-has_b
returns-then-eq-clause-has_b c = (met c).0

pub returns-then-eq-clause-before : goal.returns-then-eq-clause-before
returns-then-eq-clause-before c = sym (met c).1

-- siblings have one parent
parted : (c : goal.Else-eq) → AreSiblings c.args.a c.args.b (table_of c.args.rows.now) → ⊥
parted c h =
    let i = c.loop.invariant in
    let x = c.in_ok-above_first.above_first in
    let y = c.in_ok-above_second.above_second in
    let first = subst (λ r. IsAbove r c.loop.first x) i.rows (c.in_ok-above_first.ensures.parent, c.in_ok-above_first.ensures.place) in
    let second = subst (λ r. IsAbove r c.loop.second y) (c.place_below.ensures.same ∙ i.rows) (c.in_ok-above_second.ensures.parent, c.in_ok-above_second.ensures.place) in
    let begun = i.begun h in
    let f = table_of c.args.rows.now in
    let one = subst (λ j. parent_in (f j) ≡ Some x.0) begun.1 first.0 in
    let other = subst (λ j. parent_in (f j) ≡ Some y.0) begun.2 second.0 in
    other-ids x.0 y.0 (sym c.eq.ensures ∙ c.if-eq.false) (siblings-parents f c.args.a c.args.b x.0 y.0 h.0 one other h.1 h.2)

pub loop-preserved : goal.loop-preserved
loop-preserved c =
    let i = c.loop.invariant in
    let x = c.in_ok-above_first.above_first in
    let y = c.in_ok-above_second.above_second in
    let first = subst (λ r. IsAbove r c.loop.first x) i.rows (c.in_ok-above_first.ensures.parent, c.in_ok-above_first.ensures.place) in
    let second = subst (λ r. IsAbove r c.loop.second y) (c.place_below.ensures.same ∙ i.rows) (c.in_ok-above_second.ensures.parent, c.in_ok-above_second.ensures.place) in
    let s = cousins c.args.rows.now c.args.levels c.requires.rows c.loop.first c.loop.second x y first second (other-ids x.0 y.0 (sym c.eq.ensures ∙ c.if-eq.false)) in
    record {
      rows = c.place_below-in-loop.ensures.same ∙ c.place_below.ensures.same ∙ i.rows;
      ends = λ there here level. (let deep = s.2 level in let e = i.ends s.0 s.1 deep.0 in (e.0, e.1, e.2 ∙ deep.1));
      begun = λ h. absurd (parted c h);
    }
