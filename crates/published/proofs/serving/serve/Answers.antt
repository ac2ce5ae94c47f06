use Rattle.std.proofs.Common.{rules, refl, sym, ap, subst, ◌∙◌, ◌≡◌, ◌<◌, ◌∷◌, ◌++◌, [], List, ℕ, length, get_or, arith, ltb-true}
use Rattle.sight.specs.Sights.{IsSight}
use Rattle.ballots.specs.declared.reply.Answer.{Answer}
use Rattle.sight.proofs.Beginnings.{begins_itself, begins_through}
use Rattle.published.specs.Readers.{IsAnswer, nothing}
use Rattle.published.proofs.Asked.{IsServed, served_more}
use Rattle.published.proofs.serving.serve.Goals as goal

pub loop-level-init : goal.loop-level-init
loop-level-init g c =
    let app = g.A.Application.meaning g.J.Opening.names in
    let seen = c.args.reader.sight in
    (subst (λ (xs : List (Answer × ℕ)). IsServed app seen c.args.asks.now xs seen) (sym c.new-answers.ensures.items) (nothing, omega arith), refl, begins_itself c.args.reader.shown)

pub loop-level-preserved : goal.loop-level-preserved
loop-level-preserved g c =
    let app = g.A.Application.meaning g.J.Opening.names in
    let seen = c.args.reader.sight in
    let asks = c.args.asks.now in
    let before = c.loop-level.answers.items in
    let now = c.ask.new.self.sight in
    let found = c.in-Some.ensures.lookup in
    let place : c.len.result ≡ length before = search rules in
    let less : length before < length asks = subst (λ n. n < length asks) place (ltb-true _ _ (sym found.0)) in
    let is : c.in-Some.field-0.now ≡ get_or asks (length before) c.in-Some.field-0.now = found.1 ∙ ap (λ n. get_or asks n c.in-Some.field-0.now) place in
    let kept : c.reserve.new.self.items ≡ before = search rules in
    let one : IsAnswer app c.in-Some.field-0.now.0 c.in-Some.field-0.now.1.bytes.items c.in-Ok.answer.0 c.in-Ok.answer.1 now = search rules in
    let more : IsSight c.loop-level.reader.sight now = search rules in
    let served = served_more app seen asks before c.loop-level.reader.sight now c.in-Some.field-0.now c.in-Ok.answer less is c.loop-level.invariant.0 more one in
    (subst (λ (xs : List (Answer × ℕ)). IsServed app seen asks xs now) (ap (λ xs. xs ++ c.in-Ok.answer ∷ []) (sym kept) ∙ sym c.push_reserved.ensures.items) served, c.ask.ensures.same ∙ c.loop-level.invariant.1, begins_through c.args.reader.shown c.loop-level.reader.shown c.ask.new.self.shown c.loop-level.invariant.2 c.ask.ensures.goes_on)

pub returns-in-Err-clause-shown : goal.returns-in-Err-clause-shown
returns-in-Err-clause-shown g c = begins_through c.args.reader.shown c.loop-level.reader.shown c.ask.new.self.shown c.loop-level.invariant.2 c.ask.ensures.goes_on
