use Rattle.std.proofs.Common.{suc, arith, refl, sym, subst}
use Rattle.node.proofs.Going.{all_done, all_positions}
use Rattle.node.specs.Answering.{AreAnswers}
use Rattle.node.specs.Applying.{IsAt}
use Rattle.paxos.specs.Knowledge.{news}
use Rattle.node.proofs.applying.apply_learnt.Goals as goal

pub loop-turn-init : goal.loop-turn-init
loop-turn-init g c = record { going = λ names u k this at. (k, omega arith, omega arith, at); answers = c.requires.answers }

pub returns-in-Done : goal.returns-in-Done
returns-in-Done g c = record {
  gone = λ names u k this at.
      let r = c.loop-turn.invariant.going names u k this at in
      (r.0, r.1, subst (IsAt g.A.Application.has_applied names c.args.member.now.members u r.0) (sym (c.in-Done.ensures.same (λ e. let f : ⊥ = cc in f))) r.3, λ whole. c.in-Done.ensures.done refl names u r.0 this r.3, λ short. let f : ⊥ = cc in absurd f);
  answers = subst (λ a. AreAnswers g.A.Application.has_applied g.A.Application.meaning a c.loop-turn.answers.kept.items) (sym (c.in-Done.ensures.same (λ e. let f : ⊥ = cc in f))) c.loop-turn.invariant.answers;
}

pub returns-in-Short : goal.returns-in-Short
returns-in-Short g c = record {
  gone = λ names u k this at.
      let r = c.loop-turn.invariant.going names u k this at in
      (r.0, r.1, subst (IsAt g.A.Application.has_applied names c.args.member.now.members u r.0) (sym (c.in-Short.ensures.same (λ e. let f : ⊥ = cc in f))) r.3, λ whole. let f : ⊥ = cc in absurd f, λ short. c.in-Short.ensures.short refl names u r.0 this r.3);
  answers = subst (λ a. AreAnswers g.A.Application.has_applied g.A.Application.meaning a c.loop-turn.answers.kept.items) (sym (c.in-Short.ensures.same (λ e. let f : ⊥ = cc in f))) c.loop-turn.invariant.answers;
}

pub loop-turn-preserved : goal.loop-turn-preserved
loop-turn-preserved g c = record {
  going = λ names u k this at.
      let r = c.loop-turn.invariant.going names u k this at in
      let up = r.1 in
      let low = r.2 in
      (suc r.0, omega (arith, up), omega (arith, low), c.in-Applied.ensures.applied refl names u r.0 this r.3);
  answers = subst (AreAnswers g.A.Application.has_applied g.A.Application.meaning c.apply_next.new.application) (sym c.forget.ensures) (λ k has. absurd has);
}

pub returns : goal.returns
returns g c = record {
  gone = λ names u k this at.
      let r = c.loop-turn.invariant.going names u k this at in
      let low = r.2 in
      let ended = c.loop-turn-test.false in
      (r.0, r.1, r.3, λ whole. all_done c.args.member.now.members (news u.heard) r.0 r.3.0 (all_positions r.0 (omega (arith, low, ended))), λ short. let f : ⊥ = cc in absurd f);
  answers = c.loop-turn.invariant.answers;
}
