use Rattle.std.proofs.Common.{◌≡◌, ◌∙◌, ◌<◌, None, Some, ap, length, refl, subst, sym}
use Rattle.std.specs.Option.{option_copied}
use Rattle.std.proofs.lemmas.Bool.{le-ltb, lt-ltb}
use Rattle.ballots.specs.Values.{positions}
use Rattle.paxos.specs.Knowledge.{learnt as learnt_at, news}
use Rattle.member.specs.Steps.{Member}
use Rattle.member.proofs.Resuming.{after_kept, few_kept, keep_plans, kept_plans, unlearnt_plans}
use Rattle.member.proofs.member.Member.draft_keep.Goals as goal

pub returns-then-kept-prefix-clause-drafted : goal.returns-then-kept-prefix-clause-drafted
returns-then-kept-prefix-clause-drafted g c =
    kept_plans {R = g.row.R.Denot} c.args.self.now c.kept-kept.result c.prefix-prefix.result c.quiet.result c.kept-kept.ensures c.prefix-prefix.ensures.heard
    (le-ltb c.kept-kept.result c.prefix-prefix.result c.if-kept-prefix.true) c.quiet.ensures.sends_are c.quiet.ensures.tells_are c.quiet.ensures.change_is

pub returns-in_default-clause-drafted : goal.returns-in_default-clause-drafted
returns-in_default-clause-drafted g c =
    let x : Member g.row.R.Denot = c.args.self.now in
    unlearnt_plans {R = g.row.R.Denot} x c.quiet-in_default.result
    (λ u this. subst (λ p. learnt_at x.members p (news u.heard) ≡ None) (after_kept c.kept-kept.result (length x.acceptor.kept.learnt) c.kept-kept.ensures) (sym (c.learned.ensures u this) ∙ ap option_copied c.in_default.is))
    c.quiet-in_default.ensures.sends_are c.quiet-in_default.ensures.tells_are c.quiet-in_default.ensures.change_is

pub draft_keep-requires : goal.draft_keep-requires
draft_keep-requires g c = record {
  few = subst (λ (x : Member g.row.R.Denot). length x.acceptor.kept.learnt < positions) (sym c.self.view_is) (few_kept c.kept-kept.result c.prefix-prefix.result (length c.args.self.now.acceptor.kept.learnt) c.kept-kept.ensures c.if-kept-prefix.false c.prefix-prefix.ensures.most);
}

pub returns-clause-drafted : goal.returns-clause-drafted
returns-clause-drafted g c =
    let x : Member g.row.R.Denot = c.args.self.now in
    keep_plans {R = g.row.R.Denot} x c.kept-kept.result c.prefix-prefix.result c.in-Some.value.now c.in-Ok.draft _ c.kept-kept.ensures c.prefix-prefix.ensures.heard
    (lt-ltb c.kept-kept.result c.prefix-prefix.result c.if-kept-prefix.false)
    (λ u this. subst (λ p. Some c.in-Some.value.now ≡ learnt_at x.members p (news u.heard)) (after_kept c.kept-kept.result (length x.acceptor.kept.learnt) c.kept-kept.ensures) (sym (ap option_copied c.in-Some.is) ∙ c.learned.ensures u this))
    c.in-Ok.ensures.write c.new.ensures.items c.new-2.ensures.items refl
