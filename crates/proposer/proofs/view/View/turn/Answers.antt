use Rattle.std.proofs.Common.{sym, ap, ◌∙◌, arith, cond, Some, None}
use Rattle.std.specs.Option.{option_copied}
use Rattle.std.proofs.lemmas.Bool.{le-ltb, lt-ltb}
use Rattle.ballots.specs.declared.value.Value.TheVariants.{NoOp}
use Rattle.paxos.specs.Proposing.{proposes}
use Rattle.proposer.specs.Views.{is_learnt_in, report_in_view}
use Rattle.proposer.proofs.Viewing.{unknown_turn}
use Rattle.proposer.proofs.view.View.turn.Goals as goal

pub returns-then-next-last_known : goal.returns-then-next-last_known
returns-then-next-last_known c = λ t e f.
    unknown_turn c.args.self.now c.args.members c.last_known.result t c.last_known.ensures (sym (c.has_place.ensures t e f) ∙ c.if-not-has_place.false)
    (ap (is_learnt_in c.args.self.now) e ∙ sym c.is_learnt.ensures ∙ c.if-is_learnt.false)
    (ap (report_in_view c.args.self.now) e ∙ sym c.report.ensures ∙ ap option_copied c.in_default.is)
    ∙ ap (λ b. cond b (Some (proposes NoOp t)) None) (lt-ltb t.next c.last_known.result (omega (arith, e, c.if-next-last_known.true)))

pub returns : goal.returns
returns c = λ t e f.
    unknown_turn c.args.self.now c.args.members c.last_known.result t c.last_known.ensures (sym (c.has_place.ensures t e f) ∙ c.if-not-has_place.false)
    (ap (is_learnt_in c.args.self.now) e ∙ sym c.is_learnt.ensures ∙ c.if-is_learnt.false)
    (ap (report_in_view c.args.self.now) e ∙ sym c.report.ensures ∙ ap option_copied c.in_default.is)
    ∙ ap (λ b. cond b (Some (proposes NoOp t)) None) (le-ltb t.next c.last_known.result (omega (arith, e, c.if-next-last_known.false)))
