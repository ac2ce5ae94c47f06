use Rattle.std.proofs.Common.{sym, ap, ◌∙◌, length}
use Rattle.proposer.specs.Terms.{Leading, turn_of}
use Rattle.proposer.proofs.Places.{untold_place}
use Rattle.proposer.proofs.lead.Lead.has_place.Goals as goal

pub returns : goal.returns
returns c =
    let next = sym (ap (λ (l : Leading). l.next) c.self.view_is) in
    let many = sym (c.len.ensures ∙ c.self.inside.proposals.ok.0 ∙ ap (λ (l : Leading). length l.proposals) c.self.view_is) in
    c.has_place.ensures (turn_of c.args.self.now) next many ∙ untold_place c.args.members c.args.self.now (turn_of c.args.self.now)
