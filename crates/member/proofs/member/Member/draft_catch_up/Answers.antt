use Rattle.std.proofs.Common.{◌≡◌, suc, ◌+◌, arith, subst, [], ◌∷◌}
use Rattle.ballots.specs.declared.message.Message.TheVariants as message
use Rattle.member.specs.declared.draft.Change.TheVariants.{Nothing}
use Rattle.member.specs.declared.outcome.Target.TheVariants as target
use Rattle.member.specs.Drafts.{Says, send_to}
use Rattle.member.proofs.Drafting.{all_passed, caught_up_plans, catching_up_plans, one_left}
use Rattle.member.proofs.member.Member.draft_catch_up.Goals as goal

pub returns-then-prefix-ge-POSITIONS-clause-drafted : goal.returns-then-prefix-ge-POSITIONS-clause-drafted
returns-then-prefix-ge-POSITIONS-clause-drafted g c =
    caught_up_plans {R = g.row.R.Denot} c.args.self.now c.prefix-prefix.result c.quiet.result c.prefix-prefix.ensures.heard (all_passed c.prefix-prefix.result c.if-prefix-ge-POSITIONS.true) c.quiet.ensures

pub returns-clause-drafted : goal.returns-clause-drafted
returns-clause-drafted g c =
    let next : c.prefix-prefix.result + 1 ≡ suc c.prefix-prefix.result = omega arith in
    catching_up_plans {R = g.row.R.Denot} c.args.self.now c.prefix-prefix.result c.in_ok-say.field-0 c.prefix-prefix.ensures.heard (one_left c.prefix-prefix.result (let f = c.if-prefix-ge-POSITIONS.false in omega (arith, f)))
    (subst (λ p. Says c.in_ok-say.field-0 (send_to target.Others (message.CatchUp p) ∷ []) Nothing) next c.in_ok-say.ensures)
