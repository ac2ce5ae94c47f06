use Rattle.std.proofs.Common.{rules, ◌<◌, ◌≤◌, ◌^◌, OnOk, subst}
use Rattle.member.specs.declared.outcome.Send.{Send}
use Rattle.node.specs.Nodes.{AreAll, HasFieldsInRange, Node}
use Rattle.node.proofs.SpeltBack.{draft_reads}
use Rattle.std.proofs.Common.{List}
use Rattle.node.proofs.node.Node.spell.Goals as goal

pub returns-clause-reads : goal.returns-clause-reads
returns-clause-reads g c = λ ranges k h is.
    let x = c.args.self.now in
    let range : c.group-group.result < 2 ^ 32 = search rules in
    let group : x.setup.group < 2 ^ 32 = subst (λ (x : Node g.row.R.Denot g.row.A.Denot). x.setup.group < 2 ^ 32) c.self.view_is (subst (λ n. n < 2 ^ 32) c.group-group.ensures range) in
    let few : x.setup.members ≤ 63 = subst (λ (x : Node g.row.R.Denot g.row.A.Denot). x.setup.members ≤ 63) c.self.view_is c.self.invariant.2.2 in
    let fields : AreAll HasFieldsInRange c.args.draft.sends.items = subst (λ (xs : List Send). AreAll HasFieldsInRange xs) c.sends.ensures (subst (λ r. OnOk r (AreAll HasFieldsInRange c.sends.result.now)) (c.in_ok-member.ensures.ok).1 c.spell_all-sent.ensures.fields) in
    draft_reads x.setup.group x.setup.members x.setup.member group few c.args.draft.sends.items fields ranges k h is
