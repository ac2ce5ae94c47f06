use Rattle.std.proofs.Common.{◌≡◌, ◌∙◌, ap, subst, sym, take}
use Rattle.learner.specs.Terms.{learnt_of}
use Rattle.member.specs.Learnt.{pairs_from}
use Rattle.member.specs.Steps.{Member, all_packets}
use Rattle.member.proofs.Answering.{none_chosen, one_chosen, told_plans}
use Rattle.member.proofs.member.Member.draft_answer.Goals as goal

pub returns-then-is_empty-clause-drafted : goal.returns-then-is_empty-clause-drafted
returns-then-is_empty-clause-drafted g c =
    let x = c.args.self.now in
    let v = c.in_ok-pairs.pairs in
    told_plans {R = g.row.R.Denot} x c.quiet.result c.args.sender c.args.from v.items (subst (λ (y : Member g.row.R.Denot). y.learner.members ≡ y.members) c.self.view_is c.self.invariant.5) c.requires.heard
    (subst (λ (y : Member g.row.R.Denot). v.items ≡ take 8 (pairs_from (learnt_of y.learner) c.args.from)) c.self.view_is c.in_ok-pairs.ensures)
    (none_chosen x.number c.args.sender v.len v.items v.ok.0 (sym c.is_empty.ensures ∙ c.if-is_empty.true) ∙ sym (ap (all_packets x.members x.number) c.quiet.ensures.sends_are))
    c.quiet.ensures.tells_are c.quiet.ensures.change_is

pub returns-clause-drafted : goal.returns-clause-drafted
returns-clause-drafted g c =
    let x = c.args.self.now in
    let v = c.in_ok-pairs.pairs in
    let d = c.in_ok-say.field-0 in
    let said = c.in_ok-say.ensures in
    told_plans {R = g.row.R.Denot} x d c.args.sender c.args.from v.items (subst (λ (y : Member g.row.R.Denot). y.learner.members ≡ y.members) c.self.view_is c.self.invariant.5) c.requires.heard
    (subst (λ (y : Member g.row.R.Denot). v.items ≡ take 8 (pairs_from (learnt_of y.learner) c.args.from)) c.self.view_is c.in_ok-pairs.ensures)
    (one_chosen x.number c.args.sender v.len v.items v.ok.0 (sym c.is_empty.ensures ∙ c.if-is_empty.false) ∙ sym (ap (all_packets x.members x.number) said.sends_are))
    said.tells_are said.change_is
