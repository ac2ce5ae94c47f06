use Rattle.std.proofs.Common.{◌≡◌, subst, sym}
use Rattle.member.specs.declared.outcome.Send.{Send}
use Rattle.node.proofs.Spelt.{ok_so, posted_more}
use Rattle.std.proofs.Common.{List, ◌++◌, map}
use Rattle.member.specs.Steps.{all_packets}
use Rattle.node.specs.Nodes.{AreAll, HasFieldsInRange, posted, spelt}
use Rattle.node.proofs.spelling.+push_spelt.Goals as goal

pub returns-in_ok-push-in-Some-clause-spelt : goal.returns-in_ok-push-in-Some-clause-spelt
returns-in_ok-push-in-Some-clause-spelt t c =
    ok_so c.push_spelt.result (λ h n.
    let s = c.in_ok-spell-in-Some in
    subst (λ (xs : List Send). posted n c.args.number c.push_spelt.new.sent.items ≡ posted n c.args.number c.args.sent.now.items ++ map (spelt c.args.group) (all_packets n c.args.number xs)) (sym c.in-Some.ensures.cases.0)
    (posted_more n c.args.number c.args.group _ _ s.field-0 c.in-Some.send.now c.in-Some.others.now _ c.in_ok-push-in-Some.ensures.items s.ensures.to s.ensures.bytes (h n))) c.push_spelt.ensures.spelt

pub returns-in_ok-push-in-Some-clause-fields : goal.returns-in_ok-push-in-Some-clause-fields
returns-in_ok-push-in-Some-clause-fields t c =
    ok_so c.push_spelt.result (λ h. subst (AreAll HasFieldsInRange) (sym c.in-Some.ensures.cases.0) (c.in_ok-spell-in-Some.ensures.fields, h)) c.push_spelt.ensures.fields
