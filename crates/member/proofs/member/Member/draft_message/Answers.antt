use Rattle.std.proofs.Common.{◌≤◌, arith, refl, subst, sym}
use Rattle.std.specs.List.{All}
use Rattle.ballots.specs.Messages.{body_of, packet, window_of}
use Rattle.ballots.specs.Values.{positions}
use Rattle.ballots.specs.declared.message.Message.{Message}
use Rattle.ballots.specs.declared.message.Message.TheVariants as message
use Rattle.ballots.specs.declared.value.Pair.{Pair}
use Rattle.learner.specs.Hearing.{AreAbove}
use Rattle.member.specs.Drafts.{IsDrafted}
use Rattle.member.specs.Steps.{Hears, IsHeard}
use Rattle.member.proofs.Answering.{are_above, are_most, window_taken}
use Rattle.member.proofs.Drafting.{quiet_plans}
use Rattle.member.proofs.member.Member.draft_message.Goals as goal

pub draft_promise-requires-clause-window : goal.draft_promise-requires-clause-window
draft_promise-requires-clause-window g c =
    let x = c.args.self.now in
    let heard = subst (λ (k : Message). IsHeard x.members (Hears (packet c.args.sender (body_of k) x.number))) c.in-Promise.is c.requires.heard in
    window_taken x.members (window_of c.in-Promise.window) heard.0.body

pub draft_chosen-requires-clause-rising : goal.draft_chosen-requires-clause-rising
draft_chosen-requires-clause-rising g c =
    let x = c.args.self.now in
    let heard = subst (λ (k : Message). IsHeard x.members (Hears (packet c.args.sender (body_of k) x.number))) c.in-Chosen.is c.requires.heard in
    subst (AreAbove 0) (sym c.deref.ensures.value) (are_above 0 1 c.in-Chosen.pairs.items (omega arith) heard.0.body.0)

pub draft_chosen-requires-clause-most : goal.draft_chosen-requires-clause-most
draft_chosen-requires-clause-most g c =
    let x = c.args.self.now in
    let heard = subst (λ (k : Message). IsHeard x.members (Hears (packet c.args.sender (body_of k) x.number))) c.in-Chosen.is c.requires.heard in
    subst (All (λ (e : Pair). e.position ≤ positions)) (sym c.deref.ensures.value) (are_most 1 c.in-Chosen.pairs.items heard.0.body.0)

pub returns-in-Reply-clause-drafted : goal.returns-in-Reply-clause-drafted
returns-in-Reply-clause-drafted g c =
    let x = c.args.self.now in
    let heard = subst (λ (k : Message). IsHeard x.members (Hears (packet c.args.sender (body_of k) x.number))) c.in-Reply.is c.requires.heard in
    let k = packet c.args.sender (body_of (message.Reply c.in-Reply.field-0 c.in-Reply.field-1 c.in-Reply.field-2)) x.number in
    subst (λ (k : Message). IsDrafted {R = g.row.R.Denot} (Hears (packet c.args.sender (body_of k) x.number)) x c.quiet.result) (sym c.in-Reply.is)
    (quiet_plans {R = g.row.R.Denot} x k c.quiet.result heard refl refl (λ app u. refl) c.quiet.ensures)

pub returns-in-Answer-clause-drafted : goal.returns-in-Answer-clause-drafted
returns-in-Answer-clause-drafted g c =
    let x = c.args.self.now in
    let heard = subst (λ (k : Message). IsHeard x.members (Hears (packet c.args.sender (body_of k) x.number))) c.in-Answer.is c.requires.heard in
    let k = packet c.args.sender (body_of (message.Answer c.in-Answer.field-0 c.in-Answer.field-1 c.in-Answer.field-2 c.in-Answer.field-3)) x.number in
    subst (λ (k : Message). IsDrafted {R = g.row.R.Denot} (Hears (packet c.args.sender (body_of k) x.number)) x c.quiet-in-Answer.result) (sym c.in-Answer.is)
    (quiet_plans {R = g.row.R.Denot} x k c.quiet-in-Answer.result heard refl refl (λ app u. refl) c.quiet-in-Answer.ensures)

pub returns-in-Behind-clause-drafted : goal.returns-in-Behind-clause-drafted
returns-in-Behind-clause-drafted g c =
    let x = c.args.self.now in
    let heard = subst (λ (k : Message). IsHeard x.members (Hears (packet c.args.sender (body_of k) x.number))) c.in-Behind.is c.requires.heard in
    let k = packet c.args.sender (body_of (message.Behind c.in-Behind.field-0 c.in-Behind.field-1 c.in-Behind.field-2)) x.number in
    subst (λ (k : Message). IsDrafted {R = g.row.R.Denot} (Hears (packet c.args.sender (body_of k) x.number)) x c.quiet-in-Behind.result) (sym c.in-Behind.is)
    (quiet_plans {R = g.row.R.Denot} x k c.quiet-in-Behind.result heard refl refl (λ app u. refl) c.quiet-in-Behind.ensures)

pub returns-in-Elsewhere-clause-drafted : goal.returns-in-Elsewhere-clause-drafted
returns-in-Elsewhere-clause-drafted g c =
    let x = c.args.self.now in
    let heard = subst (λ (k : Message). IsHeard x.members (Hears (packet c.args.sender (body_of k) x.number))) c.in-Elsewhere.is c.requires.heard in
    let k = packet c.args.sender (body_of (message.Elsewhere c.in-Elsewhere.field-0 c.in-Elsewhere.field-1 c.in-Elsewhere.field-2)) x.number in
    subst (λ (k : Message). IsDrafted {R = g.row.R.Denot} (Hears (packet c.args.sender (body_of k) x.number)) x c.quiet-in-Elsewhere.result) (sym c.in-Elsewhere.is)
    (quiet_plans {R = g.row.R.Denot} x k c.quiet-in-Elsewhere.result heard refl refl (λ app u. refl) c.quiet-in-Elsewhere.ensures)
