use Prim.Native.Nat.{suc}
use Rattle.std.proofs.Common.{◌≡◌, ◌≢◌, ℕ, ◌+◌, ◌-◌, eqb, get_or, length, true, false, IsSome, refl, ap, sym, ◌∙◌, subst, arith, ⊎_elim}
use Rattle.std.proofs.lemmas.Bool.Decides.{eqb_tells}
use Rattle.std.proofs.lemmas.List.{get_or_read_under}
use Rattle.data_model.specs.Order.{precedes}
use Rattle.data_model.specs.Trees.{find}
use Rattle.node_table.specs.Rising.{AreOrdered, IsAbove}
use Rattle.node_table.specs.Rows.{table_of, trees_of}
use Rattle.node_table.proofs.Rising.{front-rises, row-stands}
use Rattle.node_table.proofs.Ups.{other-ids}
use Rattle.node_table.proofs.order.rising.Goals as goal

-- the first node stands
pub loop-at-init : goal.loop-at-init
loop-at-init c =
    let ids = c.args.ids.now in
    let rows = c.args.rows.now in
    let ts = trees_of (table_of rows) c.args.levels in
    let x = c.index-ids-0.result in
    let y = c.index-ids-0-2.result in
    let some = other-ids (length ids) 0 (sym c.is_empty.ensures ∙ c.if-is_empty.false) in
    let first : (d : ℕ) → y ≡ get_or ids 0 d = λ d. get_or_read_under ids 0 (length ids) y d c.index-ids-0-2.is (omega (arith, some)) refl in
    record {
      rows = c.place_below.ensures.same ∙ c.cursor-cursor.ensures;
      above = λ d. subst (λ i. IsAbove rows i c.in-Some.first) (first d) (subst (λ r. IsAbove r y c.in-Some.first) c.cursor-cursor.ensures (c.in-Some.ensures.parent, c.in-Some.ensures.place));
      stand = λ k d l.
          (let none : k ≡ 0 = omega arith in
          let is : x ≡ get_or ids k d = get_or_read_under ids 0 (length ids) x d c.index-ids-0.is (omega (arith, some)) refl ∙ ap (λ j. get_or ids j d) (sym none) in
          subst (λ i. IsSome (find i ts)) is (sym (rw c.number.ensures at c.contains_key.ensures ∙ row-stands rows c.args.levels c.requires x) ∙ c.if-not-contains_key.false));
      rise = λ k d l. absurd (omega (arith, l));
    }

-- a node without a parent comes first
pub returns-in_default-clause-rises : goal.returns-in_default-clause-rises
returns-in_default-clause-rises c =
    let ids = c.args.ids.now in
    let rows = c.args.rows.now in
    let ts = trees_of (table_of rows) c.args.levels in
    let x = c.index-ids-0.result in
    let some = other-ids (length ids) 0 (sym c.is_empty.ensures ∙ c.if-is_empty.false) in
    front-rises ts 1 ids (omega (arith, some))
    (λ k d l.
    (let none : k ≡ 0 = omega arith in
    let is : x ≡ get_or ids k d = get_or_read_under ids 0 (length ids) x d c.index-ids-0.is (omega (arith, some)) refl ∙ ap (λ j. get_or ids j d) (sym none) in
    subst (λ i. IsSome (find i ts)) is (sym (rw c.number.ensures at c.contains_key.ensures ∙ row-stands rows c.args.levels c.requires x) ∙ c.if-not-contains_key.false)))
    (λ k d l. absurd (omega (arith, l)))

pub next_above-requires-clause-rows : goal.next_above-requires-clause-rows
next_above-requires-clause-rows c = subst (λ r. AreOrdered r c.args.levels) (sym c.loop-at.invariant.rows) c.requires

pub next_above-requires-clause-above : goal.next_above-requires-clause-above
next_above-requires-clause-above c =
    let ids = c.args.ids.now in
    let at = c.loop-at.at in
    let x = c.index-ids-at.result in
    let within = c.loop-at-test.true in
    let low = c.loop-at.auto.at in
    let first : x ≡ get_or ids (at - 1) 0 = get_or_read_under ids (at - 1) (length ids) x 0 c.index-ids-at.is (omega arith) refl in
    subst (λ r. IsAbove r x c.loop-at.above) (sym c.loop-at.invariant.rows) (subst (λ i. IsAbove c.args.rows.now i c.loop-at.above) (sym first) (c.loop-at.invariant.above 0))

pub loop-at-preserved : goal.loop-at-preserved
loop-at-preserved c =
    let ids = c.args.ids.now in
    let rows = c.args.rows.now in
    let ts = trees_of (table_of rows) c.args.levels in
    let at = c.loop-at.at in
    let x = c.index-ids-at.result in
    let y = c.index-ids-at-in-loop-at.result in
    let i = c.loop-at.invariant in
    let within = c.loop-at-test.true in
    let low = c.loop-at.auto.at in
    let next = c.in-Some-next_above.ensures in
    let above = c.in-Some-next_above.next in
    let has_b = rw i.rows at next.has_b in
    let before = rw i.rows at next.before in
    let first : (d : ℕ) → x ≡ get_or ids (at - 1) d = λ d. get_or_read_under ids (at - 1) (length ids) x d c.index-ids-at.is (omega arith) refl in
    let second : (d : ℕ) → y ≡ get_or ids at d = λ d. get_or_read_under ids at (length ids) y d c.index-ids-at-in-loop-at.is within refl in
    record {
      rows = c.next_above.ensures.same ∙ i.rows;
      above = λ d. subst (λ j. IsAbove rows j above) (second d ∙ ap (λ j. get_or ids j d) (let e : at ≡ at + 1 - 1 = omega arith in e)) (subst (λ r. IsAbove r y above) i.rows next.above);
      stand = λ k d l.
          ⊎_elim (λ (t : (eqb k at ≡ true) × (k ≡ at)). subst (λ j. IsSome (find j ts)) (second d ∙ ap (λ j. get_or ids j d) (sym t.1)) has_b)
          (λ (t : (eqb k at ≡ false) × (k ≢ at)). (let ne = t.1 in i.stand k d (omega (arith, l, ne)))) (eqb_tells k at);
      rise = λ k d l.
          ⊎_elim
          (λ (t : (eqb (k + 1) at ≡ true) × (k + 1 ≡ at)).
          (let last = t.1 in
          let place : at - 1 ≡ k = omega arith in
          subst (λ j. precedes j (get_or ids (k + 1) d) ts ≡ true) (first d ∙ ap (λ j. get_or ids j d) place)
          (subst (λ j. precedes x j ts ≡ true) (second d ∙ ap (λ j. get_or ids j d) (sym last)) before)))
          (λ (t : (eqb (k + 1) at ≡ false) × (k + 1 ≢ at)). (let ne = t.1 in i.rise k d (omega (arith, l, ne)))) (eqb_tells (k + 1) at);
    }

pub returns-in_default-next_above-clause-rises : goal.returns-in_default-next_above-clause-rises
returns-in_default-next_above-clause-rises c =
    let ids = c.args.ids.now in
    let ts = trees_of (table_of c.args.rows.now) c.args.levels in
    let i = c.loop-at.invariant in
    let within = c.loop-at-test.true in
    front-rises ts c.loop-at.at ids (omega arith) i.stand (λ k d l. subst (λ j. precedes (get_or ids k d) (get_or ids j d) ts ≡ true) (let e : k + 1 ≡ suc k = omega arith in e) (i.rise k d (omega (arith, l))))

pub returns-clause-rises : goal.returns-clause-rises
returns-clause-rises c =
    let ids = c.args.ids.now in
    let ts = trees_of (table_of c.args.rows.now) c.args.levels in
    let i = c.loop-at.invariant in
    let all = c.loop-at-test.false in
    front-rises ts (length ids) ids (omega arith) (λ k d l. i.stand k d (omega (arith, l)))
    (λ k d l. subst (λ j. precedes (get_or ids k d) (get_or ids j d) ts ≡ true) (let e : k + 1 ≡ suc k = omega arith in e) (i.rise k d (omega (arith, l))))
