use Rattle.std.proofs.Common.{◌≡◌, length}
use mathlib.Core.Logic.{∥∥₁_elim}
use Rattle.std.proofs.Props.{props}
use Rattle.ballots.specs.Replies.{answered}
use Rattle.published.proofs.copies.StateCopyReplica.answer.Goals as goal

pub returns : goal.returns
returns g c =
    let names = g.J.Opening.names in
    let values = c.self.inside.sight in
    let answer : answered c.in_ok-answer.answer ≡ (g.A.Application.meaning names).answer values c.args.level c.args.text.now = ∥∥₁_elim c.self.invariant (Prim.hlevel props) (λ h. c.in_ok-answer.ensures.means names values h) in
    let position : c.len.result ≡ length values = c.len.ensures in
    rw (← c.self.view_is) (answer, position)
