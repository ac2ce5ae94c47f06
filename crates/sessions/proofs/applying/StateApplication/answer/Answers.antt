use Rattle.std.proofs.Common.{sym, subst}
use Rattle.ballots.specs.Replies.{Answered}
use Rattle.applications.specs.Limits.{IsWithin}
use Rattle.sessions.proofs.Within.{answer_within}
use Rattle.sessions.proofs.applying.StateApplication.answer.Goals as goal

pub returns-in-Ok-clause-most : goal.returns-in-Ok-clause-most
returns-in-Ok-clause-most c = subst (λ (a : Answered). IsWithin a) (sym c.in-Ok.ensures.answered) (answer_within c.args.self.now.forest c.args.level c.args.text.now)
