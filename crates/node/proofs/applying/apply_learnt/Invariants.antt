use Rattle.node.specs.Answering.{AreAnswers}
use Rattle.node.proofs.Going.{IsGoing}
use Rattle.node.proofs.applying.apply_learnt.Given as goal

abbrev pub invariant-loop-turn : goal.invariant-loop-turn
invariant-loop-turn g l = record {
  going : IsGoing {R = g.row.R.Denot} g.A.Application.has_applied l.fn.member l.fn.application l.application l._turn;
  answers : AreAnswers g.A.Application.has_applied g.A.Application.meaning l.application l.answers.kept.items;
}
