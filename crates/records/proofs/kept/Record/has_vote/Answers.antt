use Rattle.std.proofs.Common.{◌∙◌, sym, ap}
use Rattle.std.specs.Option.{option_copied}
use Rattle.paxos.specs.Records.{has_vote, vote_at}
use Rattle.records.proofs.Votes.{vote_filled}
use Rattle.records.proofs.kept.Record.has_vote.Goals as goal

pub returns-in-Some : goal.returns-in-Some
returns-in-Some c =
    let there = vote_filled c.args.position c.self.inside.votes _ (sym (ap option_copied c.in-Some.is) ∙ c.get.ensures.value) in
    c.is_same.ensures ∙ ap (λ o. has_vote o c.args.vote.now) (sym there ∙ ap (λ r. vote_at c.args.position r.votes) c.self.view_is)

pub returns-in-None : goal.returns-in-None
returns-in-None c =
    let there = vote_filled c.args.position c.self.inside.votes _ (sym (ap option_copied c.in-None.is) ∙ c.get.ensures.value) in
    ap (λ o. has_vote o c.args.vote.now) (sym there ∙ ap (λ r. vote_at c.args.position r.votes) c.self.view_is)
