use Rattle.std.proofs.Common.{◌≡◌, ◌+◌, length, List, [], sym, subst, ap, arith}
use Rattle.trees.specs.Forest.{ForestTerm}
use Rattle.ballots.specs.declared.request.RequestId.{RequestId}
use Rattle.ballots.specs.declared.reply.Reply.{Reply}
use Rattle.update_meaning.specs.Results.{IsStored}
use Rattle.sessions.specs.Session.{Means}
use Rattle.sessions.proofs.Meanings.{Means-opening}
use Rattle.sessions.proofs.Opening.{opening-stored}
use Rattle.sessions.proofs.state.State.new.Goals as goal

pub invariant_of-result : goal.invariant_of-result
invariant_of-result c =
    let few = c.in-Ok.ensures.next in
    let next : c.in-Ok.forest.next ≡ length c.args.names.now + 1 = ap (λ (f : ForestTerm). f.next) c.in-Ok.ensures.opening in
    record {
      stored = subst (λ (f : ForestTerm). IsStored f.trees) (sym c.in-Ok.ensures.opening) (opening-stored 1 c.args.names.now (omega arith));
      next = omega arith;
      few = omega arith;
    }

pub returns-in-Ok : goal.returns-in-Ok
returns-in-Ok c =
    let P : ForestTerm → List (RequestId × Reply) → Type 0 = λ f rs. Means c.args.names.now [] (record { forest = f; replies = rs; applied = 0 }) in
    subst (λ f. P f c.new-in-Ok.result.entries) (sym c.in-Ok.ensures.opening) (subst (P _) (sym c.new-in-Ok.ensures.empty) (Means-opening c.args.names.now))
