use Rattle.std.proofs.Common.{◌≤◌, arith, string_bytes}
use Rattle.program_reports.proofs.Reported.{ok-gives}
use Rattle.paxq_run.proofs.Turns.{ok-text, turned-at, turned-behind}
use Rattle.paxq_run.proofs.turn.ask_at.Goals as goal

pub returns-then-shown-floor : goal.returns-then-shown-floor
returns-then-shown-floor g c =
    ok-gives c.printed.result c.printed.ensures
    (λ turn made values shows. turned-behind g.J.Opening.names values c.args.site.now c.args.reader.now.sight shows (string_bytes turn.text) turn.goes_on c.args.level c.args.floor (string_bytes c.args.question.now) c.in_ok-shown.shown c.in_ok-shown.ensures
    c.if-shown-floor.true (ok-text c.behind_text.result turn.text _ made.0 c.behind_text.ensures) made.1)

pub returns : goal.returns
returns g c =
    ok-gives c.ask.result c.ask.ensures
    (λ turn asked values shows.
    (let least : c.args.floor ≤ c.in_ok-shown.shown = (let h = c.if-shown-floor.false in omega (arith, h)) in
    turned-at g.J.Opening.names values c.args.site.now c.args.reader.now.sight shows (string_bytes turn.text) turn.goes_on c.args.level c.args.floor (string_bytes c.args.question.now) c.in_ok-shown.shown c.ask.new.reader.sight c.in_ok-shown.ensures least (asked values shows)))
