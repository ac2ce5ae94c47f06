use Rattle.std.proofs.Common.{◌≤◌, sym, ap, subst, ◌∙◌}
use Rattle.std.specs.Prelude.{nat_lt}
use Rattle.proposer.specs.Terms.{Leading}
use Rattle.proposer.proofs.Places.{free_place_when}
use Rattle.proposer.proofs.lead.Lead.has_free_place.Goals as goal

pub returns-then-has_place : goal.returns-then-has_place
returns-then-has_place c =
    let place = sym c.has_place.ensures ∙ c.if-has_place.true in
    let next = ap (λ (l : Leading). l.next) c.self.view_is in
    let least = subst (λ n. 1 ≤ n) next c.self.invariant.0 in
    record {
      place = ap (nat_lt c.last_known.result) next ∙ free_place_when c.args.members c.args.self.now c.last_known.result least c.last_known.ensures place;
      least = least;
    }
