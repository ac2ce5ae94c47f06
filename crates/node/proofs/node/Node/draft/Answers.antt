use Rattle.std.proofs.Common.{◌∙◌, ap, refl, []}
use Rattle.ballots.specs.Messages.{body_of, packet}
use Rattle.messages.specs.Reading.{Gives}
use Rattle.messages.specs.Spelling.{spelling}
use Rattle.node.proofs.Spelt.{if_both}
use Rattle.node.proofs.node.Node.draft.Goals as goal

pub returns-in-Ok-clause-drafted : goal.returns-in-Ok-clause-drafted
returns-in-Ok-clause-drafted g c =
    let p = c.in-Ok.packet in
    let m = c.draft_packet.new.self.setup.member in
    if_both c.draft_packet.result _ _ _ (λ d drafted members. (
      packet p.sender (body_of p.message) m,
      record {
        reads_so = c.in-Ok.ensures.packet ∙ ap (λ n. Gives (record { group = n; sender = p.sender; body = body_of p.message }) []) drafted.0;
        spelt_so = c.in-Ok.ensures.spelt ∙ ap (λ n. spelling (record { group = n; sender = p.sender; body = body_of p.message })) drafted.0;
        target = refl;
        may_be_sent = drafted.1;
        for_members = members;
      },
      drafted.2,
    )) c.draft_packet.ensures.drafted c.draft_packet.ensures.for_members

pub returns-in-Ok-clause-stranger : goal.returns-in-Ok-clause-stranger
returns-in-Ok-clause-stranger g c = λ e.
    let p = c.in-Ok.packet in
    (record { group = p.group; sender = p.sender; body = body_of p.message }, c.in-Ok.ensures.spelt, c.in-Ok.ensures.packet, c.draft_packet.ensures.stranger e)
