use Prim.Native.Nat.{suc}
use Rattle.std.proofs.Common.{◌≡◌, ◌≢◌, ℕ, ◌+◌, ◌≤◌, ◌<◌, List, length, take, ap, sym, refl, ◌∙◌, arith, subst, take_all, IsSome}
use Rattle.std.proofs.lemmas.List.{length-take-le}
use Rattle.data_model.specs.Walks.{held}
use Rattle.node_table.specs.Flat.{Table}
use Rattle.node_table.specs.Labels.{place_of}
use Rattle.node_table.proofs.Numbers.{IsStepped, stepped-rises, stepped-last, stepped-same, step-fits, step-some, suc-mul}
use Rattle.node_plans.proofs.Items.{item-held, take-item, held-apart, once-more, stepped-none}
use Rattle.node_plans.proofs.numbers.number_all.Goals as goal

pub loop-id-init : goal.loop-id-init
loop-id-init c = record { same = refl; place = omega arith; stepped = stepped-none (place_of c.args.rows.now) c.min-step.result c.args.ids.now; others = λ i h. refl }

pub overflow_add-place : goal.overflow_add-place
overflow_add-place c =
    let small = c.min-step.ensures in
    let fits = step-fits c.loop-id.id-index (length c.args.ids.now) c.min-step.result 18446744073709551615 c.loop-id-test.true (omega arith) in
    let now = c.loop-id.invariant.place in
    omega arith

pub set_place-requires : goal.set_place-requires
set_place-requires c =
    let P : Table → Type 0 = λ f. IsSome (f c.id-item.result) in
    subst P (sym c.loop-id.invariant.same) (c.requires.there c.id-item.result (item-held c.args.ids.now c.loop-id.id-index c.id-item.result c.loop-id-test.true c.id-item.is))

pub loop-id-preserved : goal.loop-id-preserved
loop-id-preserved c =
    let i = c.loop-id.invariant in
    let xs = c.args.ids.now in
    let at = c.loop-id.id-index in
    let x = c.id-item.result in
    let front = take at xs in
    let less = c.loop-id-test.true in
    let w = place_of c.loop-id.rows in
    let v = place_of c.set_place.new.rows in
    let s = c.min-step.result in
    let set = c.set_place.ensures in
    let one : held x front + 1 ≤ held x xs = once-more xs at x less c.id-item.is in
    let once = c.requires.once x in
    let apart : (j : ℕ) → 0 < held j front → j ≢ x = λ j h same. (let z : held j front ≡ held x front = ap (λ k. held k front) same in absurd (omega arith)) in
    let len : length front ≡ at = length-take-le at xs (omega arith) in
    let times = suc-mul at s in
    let count : suc at ≡ at + 1 = omega arith in
    let now = i.place in
    let P : List ℕ → Type 0 = IsStepped v s 0 in
    record {
      same = set.same ∙ i.same;
      place = rw (← count) (omega arith);
      stepped = subst P (sym (take-item xs at x less c.id-item.is)) (stepped-last v s 0 x front (stepped-same w v s 0 front (λ j h. set.others j (apart j h)) i.stepped) (set.here ∙ rw len (omega arith)));
      others = λ j h. (let z = held-apart xs at x j less c.id-item.is h in set.others j z.1 ∙ i.others j z.0);
    }

whole : (c : goal.After-loop-id) → take c.loop-id.id-index c.args.ids.now ≡ c.args.ids.now
whole c = take_all c.loop-id.id-index c.args.ids.now (let done = c.loop-id-test.false in omega arith)

some : (c : goal.After-loop-id) → 0 < c.min-step.result
some c =
    let small = c.min-step.ensures in
    let few = c.requires.few in
    let room = step-some (length c.args.ids.now) 18446744073709551615 (omega arith) in
    omega arith

pub returns-clause-same : goal.returns-clause-same
returns-clause-same c = c.loop-id.invariant.same

pub returns-clause-rises : goal.returns-clause-rises
returns-clause-rises c = stepped-rises (place_of c.loop-id.rows) c.min-step.result 0 c.args.ids.now (some c) (rw (whole c) at c.loop-id.invariant.stepped)

pub returns-clause-others : goal.returns-clause-others
returns-clause-others c = rw (whole c) at c.loop-id.invariant.others
