use Rattle.std.proofs.Common.{◌≡◌, ◌∙◌, subst, sym, [], ◌∷◌}
use Rattle.acceptor.specs.Steps.{on_accept_answers, on_accept_writes}
use Rattle.ballots.specs.declared.message.Message.TheVariants as message
use Rattle.member.specs.declared.draft.Change.TheVariants.{Answer}
use Rattle.member.specs.declared.outcome.Target.TheVariants as target
use Rattle.member.specs.Drafts.{Says, send_to}
use Rattle.member.specs.Steps.{Member}
use Rattle.member.proofs.Drafting.{accept_answered, accept_refused}
use Rattle.member.proofs.member.Member.draft_accept.Goals as goal

pub returns-then-not-accepted-clause-drafted : goal.returns-then-not-accepted-clause-drafted
returns-then-not-accepted-clause-drafted g c =
    let answer = subst (λ (x : Member g.row.R.Denot). c.in-Ok.draft.answer ≡ on_accept_answers x.acceptor.kept c.args.vote.now) c.self.view_is c.in-Ok.ensures.answer in
    accept_refused {R = g.row.R.Denot} c.args.self.now c.args.sender c.args.position c.args.vote.now c.quiet.result c.requires.heard (sym answer ∙ sym c.split-accepted.ensures.answer ∙ c.if-not-accepted.true) c.quiet.ensures

pub returns-clause-drafted : goal.returns-clause-drafted
returns-clause-drafted g c =
    let answer = subst (λ (x : Member g.row.R.Denot). c.in-Ok.draft.answer ≡ on_accept_answers x.acceptor.kept c.args.vote.now) c.self.view_is c.in-Ok.ensures.answer in
    let write = subst (λ (x : Member g.row.R.Denot). c.in-Ok.draft.write ≡ on_accept_writes x.acceptor.kept c.args.position c.args.vote.now) c.self.view_is c.in-Ok.ensures.write in
    accept_answered {R = g.row.R.Denot} c.args.self.now c.args.sender c.args.position c.args.vote.now c.split-accepted.result.1 c.in_ok-say.field-0 c.requires.heard
    (sym answer ∙ sym c.split-accepted.ensures.answer ∙ c.if-not-accepted.false)
    (c.split-accepted.ensures.write ∙ write)
    (subst (λ v. Says c.in_ok-say.field-0 (send_to target.All (message.Accepted c.args.position v) ∷ []) (Answer c.split-accepted.result.1 c.args.vote.now.ballot)) c.in_ok-clone.ensures.cases c.in_ok-say.ensures)
