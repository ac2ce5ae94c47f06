use Rattle.std.proofs.Common.{◌≡◌, ◌∙◌, suc, ◌+◌, ◌-◌, ◌++◌, Some, take, arith, ap, ap₂, subst, sym}
use Rattle.learner.specs.Terms.{learnt_of}
use Rattle.member.specs.Learnt.{IsFirst, pairs_from}
use Rattle.member.proofs.Gathering.{take_more}
use Rattle.member.proofs.learnt.lowest_pairs.Goals as goal

pub loop-turn-preserved : goal.loop-turn-preserved
loop-turn-preserved c =
    let e = c.in-Some.pair in
    let es = learnt_of c.args.learner.now in
    let i = c.loop-turn._turn in
    let low = c.loop-turn-test.true in
    let first : IsFirst es c.loop-turn.next (Some e) = subst (IsFirst es c.loop-turn.next) c.in-Some.is c.in_ok-pair.ensures in
    let left : 8 - i ≡ suc (8 - (i + 1)) = omega (arith, low) in
    let next : suc e.position ≡ e.position + 1 = omega arith in
    let more = take_more (8 - (i + 1)) _ c.loop-turn.pairs.items es c.loop-turn.next e first.2 (c.loop-turn.invariant.found ∙ ap (λ k. c.loop-turn.pairs.items ++ take k (pairs_from es c.loop-turn.next)) left) in
    let most = first.1 in
    record {
      most = omega (arith, most);
      found = more ∙ ap₂ (λ xs p. xs ++ take (8 - (i + 1)) (pairs_from es p)) (sym c.in_ok-push.ensures.items) next;
    }
