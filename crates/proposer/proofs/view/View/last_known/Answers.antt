use Rattle.std.proofs.Common.{subst}
use Rattle.proposer.specs.Views.{View, IsLastIn}
use Rattle.proposer.proofs.Viewing.{last_of_three}
use Rattle.proposer.proofs.view.View.last_known.Goals as goal

pub returns : goal.returns
returns c =
    let v : View = record { lead = c.self.inside.lead.now; member = c.self.inside.member; covered = c.self.inside.covered; entries = c.self.inside.entries.now; learnt = c.self.inside.learnt.now } in
    let e = c.last_entry-reported.ensures in
    let p = c.last_position-learnt.ensures in
    subst (λ w. IsLastIn w c.max-2.result) c.self.view_is (last_of_three v c.last_known.result c.last_entry-reported.result c.last_position-learnt.result c.max.result c.max-2.result c.last_known.ensures e.most e.above e.there p.most p.above p.there c.max.ensures c.max-2.ensures)
