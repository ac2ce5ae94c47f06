use Prim.Native.Nat.{suc}
use Rattle.std.proofs.Common.{◌≡◌, ◌≢◌, ℕ, ◌+◌, ◌<◌, ◌∷◌, [], List, length, take, ap, sym, refl, ◌∙◌, arith, subst, add-one, take_all}
use Rattle.std.specs.List.{slice_get}
use Rattle.data_model.specs.Walks.{held}
use Rattle.node_table.specs.Rows.{table_of}
use Rattle.node_table.specs.Labels.{place_of, lists_in, AreListed}
use Rattle.std.proofs.lemmas.List.{length-take-le}
use Rattle.data_model.proofs.Weights.{eqb-same}
use Rattle.data_model.proofs.Firsts.{held-append}
use Rattle.node_table.proofs.Numbers.{IsStepped, stepped-rises, stepped-last, stepped-same, step-fits, step-some, take-more, held-more, listed-there, suc-mul, none-within}
use Rattle.node_table.proofs.order.renumber.Goals as goal

pub loop-at-init : goal.loop-at-init
loop-at-init c = record { same = refl; place = omega arith; stepped = tt; others = λ i h. refl; room = λ part i n h. h }

never : (c : goal.In_default) → ⊥
never c =
    let less = c.loop-at-test.true in
    let len = c.count-nodes.ensures in
    none-within (lists_in (table_of c.args.rows.now c.args.id)) c.loop-at.at (omega arith) (ap (λ f. slice_get (lists_in (f c.args.id)) c.loop-at.at) (sym c.loop-at.invariant.same) ∙ sym c.listed.ensures ∙ c.in_default.is)

pub returns-in_default-clause-same : goal.returns-in_default-clause-same
returns-in_default-clause-same c = absurd (never c)

pub returns-in_default-clause-rises : goal.returns-in_default-clause-rises
returns-in_default-clause-rises c = absurd (never c)

pub returns-in_default-clause-others : goal.returns-in_default-clause-others
returns-in_default-clause-others c = absurd (never c)

pub returns-in_default-clause-room : goal.returns-in_default-clause-room
returns-in_default-clause-room c = absurd (never c)

pub overflow_add-place : goal.overflow_add-place
overflow_add-place c =
    let i = c.loop-at.invariant in
    let small = c.min-step.ensures in
    let fits = step-fits c.loop-at.at c.count-nodes.result c.min-step.result 18446744073709551615 c.loop-at-test.true (omega arith) in
    let now = i.place in
    omega arith

pub set_place-requires : goal.set_place-requires
set_place-requires c =
    let i = c.loop-at.invariant in
    listed-there (table_of c.loop-at.rows) c.args.id c.loop-at.at c.in-Some.node (subst AreListed (sym i.same) c.requires.listed) (sym c.listed.ensures ∙ c.in-Some.is)

pub loop-at-preserved : goal.loop-at-preserved
loop-at-preserved c =
    let i = c.loop-at.invariant in
    let xs = lists_in (table_of c.args.rows.now c.args.id) in
    let at = c.loop-at.at in
    let x = c.in-Some.node in
    let front = take at xs in
    let is = ap (λ f. slice_get (lists_in (f c.args.id)) at) (sym i.same) ∙ sym c.listed.ensures ∙ c.in-Some.is in
    let once = c.requires.listed.once c.args.id x in
    let more = take-more xs at x is in
    let apart : held x front ≡ 0 = held-more xs at x is once in
    let front-apart : (j : ℕ) → 0 < held j front → j ≢ x = λ j h same. (let z : held j front ≡ held x front = ap (λ k. held k front) same in absurd (omega arith)) in
    let less = c.loop-at-test.true in
    let nodes = c.count-nodes.ensures in
    let len : length front ≡ at = length-take-le at xs (omega arith) in
    let one : at + 1 ≡ suc at = add-one at in
    let times = suc-mul at c.min-step.result in
    let now = i.place in
    let set = c.set_place.ensures in
    let P : List ℕ → Type 0 = IsStepped (place_of c.set_place.new.rows) c.min-step.result 0 in
    rw one (record {
      same = set.same ∙ i.same;
      place = omega arith;
      stepped = subst P (sym more) (stepped-last (place_of c.set_place.new.rows) c.min-step.result 0 x front (stepped-same (place_of c.loop-at.rows) (place_of c.set_place.new.rows) c.min-step.result 0 front (λ j h. set.others j (front-apart j h)) i.stepped) (set.here ∙ rw len (omega arith)));
      others = λ j h. (let z = rw (more, held-append) at h in
          set.others j (λ same. (let y : held j (x ∷ []) ≡ held x (x ∷ []) = ap (λ k. held k (x ∷ [])) same in let w : held x (x ∷ []) ≡ 1 = rw (eqb-same x) refl in absurd (omega arith))) ∙ i.others j (omega arith));
      room = λ part k n h. set.room part k n (i.room part k n h);
    })

whole : (c : goal.After-loop-at) → take c.loop-at.at (lists_in (table_of c.args.rows.now c.args.id)) ≡ lists_in (table_of c.args.rows.now c.args.id)
whole c =
    let done = c.loop-at-test.false in
    let len = c.count-nodes.ensures in
    take_all c.loop-at.at (lists_in (table_of c.args.rows.now c.args.id)) (omega arith)

some : (c : goal.After-loop-at) → 0 < c.min-step.result
some c =
    let small = c.min-step.ensures in
    let few = c.requires.listed.few c.args.id in
    let nodes = c.count-nodes.ensures in
    let room = step-some c.count-nodes.result 18446744073709551615 (omega arith) in
    omega arith

pub returns-clause-same : goal.returns-clause-same
returns-clause-same c = c.loop-at.invariant.same

pub returns-clause-rises : goal.returns-clause-rises
returns-clause-rises c = stepped-rises (place_of c.loop-at.rows) c.min-step.result 0 (lists_in (table_of c.args.rows.now c.args.id)) (some c) (rw (whole c) at c.loop-at.invariant.stepped)

pub returns-clause-others : goal.returns-clause-others
returns-clause-others c = rw (whole c) at c.loop-at.invariant.others

pub returns-clause-room : goal.returns-clause-room
returns-clause-room c = c.loop-at.invariant.room
