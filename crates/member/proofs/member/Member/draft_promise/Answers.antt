use Rattle.std.proofs.Common.{ap, ◌∙◌, sym}
use Rattle.ballots.specs.Ballot.{below}
use Rattle.ballots.specs.declared.ballot.Ballot.{Ballot}
use Rattle.ballots.specs.Messages.{window_of}
use Rattle.member.proofs.Leading.{uncalled_plans}
use Rattle.member.proofs.member.Member.draft_promise.Goals as goal

pub returns-then-is_below-clause-drafted : goal.returns-then-is_below-clause-drafted
returns-then-is_below-clause-drafted g c =
    uncalled_plans {R = g.row.R.Denot} c.args.self.now c.quiet.result c.args.sender (window_of c.args.window.now)
    (ap (λ (b : Ballot). below b c.args.window.now.ballot) (sym c.promised.ensures) ∙ sym c.is_below.ensures ∙ c.if-is_below.true) c.requires.heard c.quiet.ensures
