use Rattle.std.proofs.Common.{◌≡◌, ◌+◌, Option, Some, IfSome, subst, string_bytes}
use Rattle.messages.specs.Reading.{datagram_read}
use Rattle.clients.specs.Hearing.{heard_in}
use Rattle.paxq_local.specs.Members.{IsAt, own_group}
use Rattle.paxq_local.specs.Told.{answer_told}
use Rattle.paxq_local.specs.declared.heard.MemberAnswer.{MemberAnswer}
use Rattle.paxq_local.proofs.Holding.{holds-either}
use Rattle.paxq_local.proofs.Saying.{by-come}
use Rattle.paxq_local.proofs.heard.note_answer.Goals as goal

pub returns-in-Some : goal.returns-in-Some
returns-in-Some g c = λ members brought come h.
    let a = c.in-Some.answer in
    let is_at : IsAt g.D.PartialEq.eq c.args.peers.now a.member c.args.from = subst (λ (o : Option MemberAnswer). IfSome o (λ x. IsAt g.D.PartialEq.eq c.args.peers.now x.member c.args.from)) c.in-Some.is c.in_ok-answer.ensures.is_at in
    let says : answer_told (heard_in own_group c.args.id (datagram_read c.args.bytes.now)) ≡ Some (a.member + 1, string_bytes a.text) =
    subst (λ (o : Option MemberAnswer). IfSome o (λ x. answer_told (heard_in own_group c.args.id (datagram_read c.args.bytes.now)) ≡ Some (x.member + 1, string_bytes x.text))) c.in-Some.is c.in_ok-answer.ensures.says in
    holds-either g.D.PartialEq.eq c.args.peers.now members c.args.id brought c.args.answers.now c.told_with.new.self a.member a.text c.told_with.result h
    (by-come g.D.PartialEq.eq c.args.peers.now brought a.member answer_told c.args.id (a.member + 1, string_bytes a.text) c.args.from c.args.bytes.now come is_at says) c.told_with.ensures.told

pub returns-in-None : goal.returns-in-None
returns-in-None g c = λ members brought come h. h
