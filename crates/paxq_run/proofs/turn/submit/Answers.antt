use Rattle.std.proofs.Common.{◌≡◌, ◌≤◌, ◌<◌, None, sym, ap, ◌∙◌, arith, subst, string_bytes}
use Rattle.ballots.specs.Values.{positions}
use Rattle.node.specs.Nodes.{Node}
use Rattle.paxos.specs.Records.{Record}
use Rattle.program_reports.proofs.Reported.{ok-gives}
use Rattle.sessions.specs.Meaning.{kept_reply}
use Rattle.sessions.specs.Session.{SessionTerm, Means, reply_in}
use Rattle.sessions.specs.Terms.{id_of}
use Rattle.paxq_run.proofs.Turns.{ok-text, positions-are, turned-again, turned-full, turned-new}
use Rattle.paxq_run.proofs.turn.submit.Goals as goal

pub returns-in-Some : goal.returns-in-Some
returns-in-Some g c =
    ok-gives c.printed.result c.printed.ensures
    (λ turn made values shows.
    (let at : c.state.result.now ≡ c.args.site.now.node.application = c.state.ensures.state ∙ ap (λ (x : Node Record SessionTerm). x.application) c.node.ensures in
    turned-again g.J.Opening.names values c.args.site.now c.args.reader.now.sight shows (string_bytes turn.text) turn.goes_on c.args.request c.in-Some.reply
    (λ ns vs means. c.in-Some.ensures.means ns vs (subst (Means ns vs) (sym at) means) ∙ ap (kept_reply ns vs) c.id-id.ensures) (ok-text c.reply_text.result turn.text _ made.0 c.reply_text.ensures) made.1))

pub returns-then-applied-ge-POSITIONS : goal.returns-then-applied-ge-POSITIONS
returns-then-applied-ge-POSITIONS g c =
    ok-gives c.no_answer.result c.no_answer.ensures
    (λ turn made values shows.
    (let at : c.state.result.now ≡ c.args.site.now.node.application = c.state.ensures.state ∙ ap (λ (x : Node Record SessionTerm). x.application) c.node.ensures in
    let full : positions ≤ shows.running.applied = (let e = c.applied.ensures shows.running shows.runs_as in let h = c.if-applied-ge-POSITIONS.true in omega (arith, positions-are, e, h)) in
    turned-full g.J.Opening.names values c.args.site.now c.args.reader.now.sight shows (string_bytes turn.text) turn.goes_on c.args.request
    (λ ns vs means. c.in_default.ensures.means ns vs (subst (Means ns vs) (sym at) means) ∙ ap (kept_reply ns vs) c.id-id.ensures) full made.0 made.1))

pub returns-in-Some-reply_of : goal.returns-in-Some-reply_of
returns-in-Some-reply_of g c =
    ok-gives c.printed-in-Some-reply_of.result c.printed-in-Some-reply_of.ensures
    (λ turn made values shows.
    (let at : c.state.result.now ≡ c.args.site.now.node.application = c.state.ensures.state ∙ ap (λ (x : Node Record SessionTerm). x.application) c.node.ensures in
    let after : c.state-2.result.now ≡ c.take_request.new.site.node.application = c.state-2.ensures.state ∙ ap (λ (x : Node Record SessionTerm). x.application) c.node-2.ensures in
    let absent : reply_in c.args.site.now.node.application (id_of c.args.request) ≡ None = (λ i. reply_in (sym at i) (sym c.id-id.ensures i)) ∙ sym c.in_default.ensures.kept in
    let room : shows.running.applied < positions = (let e = c.applied.ensures shows.running shows.runs_as in let h = c.if-applied-ge-POSITIONS.false in omega (arith, positions-are, e, h)) in
    turned-new g.J.Opening.names values c.args.site.now c.args.reader.now.sight shows (string_bytes turn.text) turn.goes_on c.args.request c.in-Some-reply_of.reply c.take_request.new.site c.take_request.new.reader.sight absent room
    (c.in_ok-take_request.ensures values shows) (λ ns vs means. c.in-Some-reply_of.ensures.means ns vs (subst (Means ns vs) (sym after) means) ∙ ap (kept_reply ns vs) c.id-id.ensures) (ok-text c.reply_text-in-Some-reply_of.result turn.text _ made.0 c.reply_text-in-Some-reply_of.ensures) made.1))
