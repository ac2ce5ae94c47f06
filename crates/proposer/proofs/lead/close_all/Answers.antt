use Rattle.std.proofs.Common.{sym, ap, ◌∙◌, arith}
use Rattle.ballots.specs.declared.value.Pair.{Pair}
use Rattle.proposer.specs.Beginning.{is_in}
use Rattle.proposer.proofs.Merging.{close_there, leave_there}
use Rattle.proposer.proofs.lead.close_all.Goals as goal

pub loop-index-preserved-then-is_among : goal.loop-index-preserved-then-is_among
loop-index-preserved-then-is_among c = (
  rw c.remove.ensures.items (close_there (λ p. is_in p c.args.learnt.now) c.loop-index.index c.loop-index.proposals.items c.index.result.now (omega (arith, c.loop-index-test.true, c.len.ensures, c.loop-index.proposals.ok.0)) (ap (λ (e : Pair). is_in e.position c.args.learnt.now) (sym c.index.ensures) ∙ sym c.is_among.ensures ∙ c.if-is_among.true) ∙ c.loop-index.invariant.0),
  omega (arith, c.remove.ensures.len, c.remove.new.self.ok.0, c.loop-index.proposals.ok.0, c.loop-index.invariant.1),
  omega (arith, c.remove.ensures.capacity, c.loop-index.invariant.2),
)

pub loop-index-preserved : goal.loop-index-preserved
loop-index-preserved c = (
  leave_there (λ p. is_in p c.args.learnt.now) c.loop-index.index c.loop-index.proposals.items c.index.result.now (omega (arith, c.loop-index-test.true, c.len.ensures, c.loop-index.proposals.ok.0)) (ap (λ (e : Pair). is_in e.position c.args.learnt.now) (sym c.index.ensures) ∙ sym c.is_among.ensures ∙ c.if-is_among.false) ∙ c.loop-index.invariant.0,
  c.loop-index.invariant.1,
  c.loop-index.invariant.2,
)
