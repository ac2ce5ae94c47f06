use Rattle.std.proofs.lemmas.List.{length-replicate}
use Rattle.std.proofs.Common.{ap, length, ◌-◌, refl, arith, ◌∙◌}
use Rattle.proposer.proofs.Positions.{rising_below, same_each, none_past, absent}
use Rattle.proposer.proofs.lead.Lead.begin.Goals as goal

pub positions_known-requires : goal.positions_known-requires
positions_known-requires c = record { rising = rising_below 1 c.args.from c.args.learnt.now c.requires.least c.requires.rising }

pub returns : goal.returns
returns c = record {
  ballot_is = refl;
  base = omega (arith, c.requires.least);
  next = refl;
  proposals = c.in_ok-with_capacity.ensures.items;
  many = ap length c.in_ok-same_covers.ensures ∙ length-replicate c.args.members (c.args.from - 1);
  covers = λ m l k. rw c.in_ok-same_covers.ensures (same_each c.args.members m (c.args.from - 1));
  reports = λ p. rw c.new.ensures refl;
  learnt = c.in_ok-positions_known.ensures;
}

pub invariant_of-result : goal.invariant_of-result
invariant_of-result c = (
  c.requires.least,
  omega (arith, ap length c.in_ok-with_capacity.ensures.items),
  omega (arith, c.in_ok-with_capacity.ensures.exact),
  λ p l. rw c.new.ensures refl,
  λ p l. absent _ (c.in_ok-positions_known.ensures p ∙ none_past c.args.from p c.args.learnt.now c.requires.rising l),
)
