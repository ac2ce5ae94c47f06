use Rattle.std.proofs.Common.{sym, subst}
use Rattle.ballots.specs.declared.value.Value.TheVariants.{Request as Of}
use Rattle.proposer.specs.Knowing.{IsAcceptOf}
use Rattle.proposer.proofs.Submitted.{submitted_took, submitted_stopped}
use Rattle.proposer.proofs.proposer.Proposer.submit.Goals as goal

pub returns-clause-took : goal.returns-clause-took
returns-clause-took c =
    let d = c.in_ok-draft.ensures.submitted in
    submitted_took c.args.self.now c.commit.new.self c.args.request.now d.0 c.commit.result d.1.leads d.1.place d.1.least
    (subst (IsAcceptOf (Of c.args.request.now) d.0) (sym c.commit.ensures.answer) d.1.sends)
    (c.commit.ensures.proposed d.0 (Of c.args.request.now) d.1.leads d.1.change_is) c.requires.fresh

pub returns-clause-stopped : goal.returns-clause-stopped
returns-clause-stopped c =
    let d = c.in_ok-draft.ensures.submitted in
    submitted_stopped c.args.self.now c.commit.new.self c.args.request.now d.0 d.1.place (c.commit.ensures.proposed d.0 (Of c.args.request.now) d.1.leads d.1.change_is)
