use Rattle.std.proofs.Common.{◌≡◌, ◌++◌, ◌∙◌, [], ap₂, refl, subst, sym}
use Rattle.ballots.specs.Messages.{Submit}
use Rattle.messages.proofs.RoundTripBodies.{datagram-back}
use Rattle.messages.specs.Reading.{Gives, datagram_read}
use Rattle.messages.specs.Spelling.{Datagram, HasFields, spelling}
use Rattle.world.proofs.mail.spelt.Goals as goal

pub returns : goal.returns
returns c =
    let d : Datagram = record { group = c.args.group; sender = 0; body = Submit c.args.request.now } in
    let put : c.encode.new.out.items ≡ c.new-bytes.result.items ++ spelling (record { group = c.args.group; sender = 0; body = Submit c.in_ok-clone.field-0 }) = c.in_ok-encode.ensures.put in
    let all : c.encode.new.out.items ≡ spelling d = put ∙ ap₂ (λ xs q. xs ++ spelling (record { group = c.args.group; sender = 0; body = Submit q })) c.new-bytes.ensures.items c.in_ok-clone.ensures.cases in
    let fields : HasFields (Submit c.args.request.now) = subst (λ q. HasFields (Submit q)) c.in_ok-clone.ensures.cases (c.in_ok-encode.ensures.fields tt) in
    record { reads = subst (λ bytes. datagram_read bytes ≡ Gives d []) (sym all) (datagram-back d (record { group = c.ranges.group.fits; sender = refl; body = tt; fields = fields })) }
