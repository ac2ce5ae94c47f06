use Rattle.std.proofs.Common.{◌≡◌, ◌∙◌, ℕ, List, arith, subst, string_bytes}
use Rattle.ballots.specs.Replies.{answered}
use Rattle.questions.specs.Answers.{answer}
use Rattle.sessions.specs.Meaning.{store_of}
use Rattle.program_reports.proofs.Reported.{ok-gives}
use Rattle.paxq_run.proofs.Turns.{ok-text, turned-ask}
use Rattle.paxq_run.proofs.turn.ask.Goals as goal

pub returns-in-Ok : goal.returns-in-Ok
returns-in-Ok g c =
    ok-gives c.printed.result c.printed.ensures
    (λ turn made values shows.
    (let is = c.in-Ok.ensures.answer in
    let asked = subst (λ (q : List ℕ). answered c.in-Ok.answer ≡ answer (store_of g.J.Opening.names c.ask.new.self.sight) c.args.level q) c.as_str.ensures.value is.0 in
    let same : c.in_ok-shown.shown ≡ c.in-Ok.position = (let a = c.if-position-from.true in let b = c.from.ensures in omega (arith, a, b)) in
    turned-ask g.J.Opening.names values c.args.site.now c.args.reader.now.sight shows (string_bytes turn.text) turn.goes_on c.args.level (string_bytes c.args.question.now) (answered c.in-Ok.answer) c.in_ok-shown.shown c.ask.new.self.sight asked (same ∙ is.1) c.in_ok-shown.ensures
    c.in-Ok.ensures.sight (ok-text c.answer_text.result turn.text _ made.0 c.answer_text.ensures) made.1))
