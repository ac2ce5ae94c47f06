use Rattle.std.proofs.Common.{◌≡◌, ◌∙◌, None, ap, refl, arith, take_all}
use Rattle.node_plans.specs.Planned.{planned}
use Rattle.node_plans.proofs.Items.{held-none, held-turn, held-apart}
use Rattle.std.proofs.Common.{⊎_elim}
use Rattle.std.proofs.lemmas.Bool.Decides.{eqb_tells}
use Rattle.node_plans.proofs.splice.hide_all.Goals as goal

pub loop-id-init : goal.loop-id-init
loop-id-init c = record { gone = λ r i l. absurd (held-none i c.args.ids.now l); kept = λ r i h. refl; room = (let room = c.requires in omega arith) }

pub hide-requires : goal.hide-requires
hide-requires c = (let room = c.loop-id.invariant.room in let less = c.loop-id-test.true in omega arith)

pub loop-id-preserved : goal.loop-id-preserved
loop-id-preserved c =
    let xs = c.args.ids.now in
    let at = c.loop-id.id-index in
    let x = c.id-item.result in
    let i = c.loop-id.invariant in
    record {
      gone = λ r j l. held-turn xs at x c.loop-id-test.true c.id-item.is (λ k. planned c.hide.new.plan r k ≡ None) (c.hide.ensures.here r)
          (λ k m. ⊎_elim (λ t. ap (planned c.hide.new.plan r) t.1 ∙ c.hide.ensures.here r) (λ t. c.hide.ensures.others r k t.1 ∙ i.gone r k m) (eqb_tells k x)) j l;
      kept = λ r j h. (let z = held-apart xs at x j c.loop-id-test.true c.id-item.is h in c.hide.ensures.others r j z.1 ∙ i.kept r j z.0);
      room = (let room = i.room in let spare = c.hide.ensures.spare in omega arith);
    }

pub returns-clause-gone : goal.returns-clause-gone
returns-clause-gone c = rw (take_all c.loop-id.id-index c.args.ids.now (let done = c.loop-id-test.false in omega arith)) at c.loop-id.invariant.gone

pub returns-clause-kept : goal.returns-clause-kept
returns-clause-kept c = rw (take_all c.loop-id.id-index c.args.ids.now (let done = c.loop-id-test.false in omega arith)) at c.loop-id.invariant.kept
