use Rattle.std.proofs.Common.{◌≡◌, ◌∙◌, ap, subst, sym}
use Rattle.std.specs.Prelude.{option_map}
use Rattle.acceptor.specs.Steps.{on_prepare_answers, on_prepare_writes}
use Rattle.ballots.specs.Messages.{window_of}
use Rattle.member.specs.Steps.{Member}
use Rattle.member.proofs.Drafting.{prepare_answered, prepare_refused}
use Rattle.member.proofs.member.Member.draft_prepare.Goals as goal

pub returns-in_default-answer-clause-drafted : goal.returns-in_default-answer-clause-drafted
returns-in_default-answer-clause-drafted g c =
    prepare_refused {R = g.row.R.Denot} c.args.self.now c.args.sender c.args.ballot c.args.from c.quiet.result c.requires.heard
    (ap (option_map window_of) (sym (c.in_default-answer.is) ∙ c.split-answer.ensures.answer) ∙ subst (λ (x : Member g.row.R.Denot). option_map window_of c.in-Ok.draft.answer ≡ on_prepare_answers x.acceptor.kept c.args.ballot c.args.from) c.self.view_is c.in-Ok.ensures.answer)
    c.quiet.ensures

pub returns-clause-drafted : goal.returns-clause-drafted
returns-clause-drafted g c =
    prepare_answered {R = g.row.R.Denot} c.args.self.now c.args.sender c.args.ballot c.args.from c.in-Some.window c.split-answer.result.1 c.in_ok-say.field-0 c.requires.heard
    (ap (option_map window_of) (sym (c.in-Some.is) ∙ c.split-answer.ensures.answer) ∙ subst (λ (x : Member g.row.R.Denot). option_map window_of c.in-Ok.draft.answer ≡ on_prepare_answers x.acceptor.kept c.args.ballot c.args.from) c.self.view_is c.in-Ok.ensures.answer)
    (c.split-answer.ensures.write ∙ subst (λ (x : Member g.row.R.Denot). c.in-Ok.draft.write ≡ on_prepare_writes x.acceptor.kept c.args.ballot) c.self.view_is c.in-Ok.ensures.write)
    c.in_ok-say.ensures
