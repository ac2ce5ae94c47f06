use Rattle.std.proofs.Common.{◌≡◌, suc, ◌+◌, ◌++◌, ◌≤◌, arith, sym, ap, subst, ◌∙◌, Option, Some, None}
use Rattle.std.specs.Prelude.{option_to_list}
use Rattle.std.specs.Option.{option_copied}
use Rattle.ballots.specs.declared.value.Value.{Value}
use Rattle.paxos.specs.Knowledge.{news, values_to, learnt as learnt_at}
use Rattle.node.proofs.Going.{all_done, all_positions, none_next, position_left, some_next, values_count}
use Rattle.node.proofs.applying.apply_next.Goals as goal

pub returns-then-before-ge-POSITIONS-clause-done : goal.returns-then-before-ge-POSITIONS-clause-done
returns-then-before-ge-POSITIONS-clause-done g c = λ d names u k this at.
    let n = c.args.member.now.members in
    let count : c.applied-before.result ≡ k = c.applied-before.ensures.means names (values_to n (news u.heard) k) at.1 ∙ values_count n (news u.heard) k at.0 in
    all_done n (news u.heard) k at.0 (all_positions k (subst (λ j. 1000000 ≤ j) count c.if-before-ge-POSITIONS.true))

pub returns-in_default-clause-done : goal.returns-in_default-clause-done
returns-in_default-clause-done g c = λ d names u k this at.
    let n = c.args.member.now.members in
    let count : c.applied-before.result ≡ k = c.applied-before.ensures.means names (values_to n (news u.heard) k) at.1 ∙ values_count n (news u.heard) k at.0 in
    let next : c.applied-before.result + 1 ≡ suc k = (let e = count in omega (arith, e)) in
    none_next n (news u.heard) k at.0 (subst (λ j. learnt_at n j (news u.heard) ≡ None) next (sym (c.learned.ensures u this) ∙ ap option_copied c.in_default.is))

pub returns-in-Err-clause-short : goal.returns-in-Err-clause-short
returns-in-Err-clause-short g c = λ d names u k this at.
    let n = c.args.member.now.members in
    let count : c.applied-before.result ≡ k = c.applied-before.ensures.means names (values_to n (news u.heard) k) at.1 ∙ values_count n (news u.heard) k at.0 in
    let next : c.applied-before.result + 1 ≡ suc k = (let e = count in omega (arith, e)) in
    let there : learnt_at n (suc k) (news u.heard) ≡ Some c.in-Some.value.now = subst (λ j. learnt_at n j (news u.heard) ≡ Some c.in-Some.value.now) next (sym (c.learned.ensures u this) ∙ ap option_copied c.in-Some.is) in
    some_next n (news u.heard) k c.in-Some.value.now at.0 (position_left k (let e = count in let f = c.if-before-ge-POSITIONS.false in omega (arith, e, f))) there

pub returns-in-Ok-clause-applied : goal.returns-in-Ok-clause-applied
returns-in-Ok-clause-applied g c = λ d names u k this at.
    let n = c.args.member.now.members in
    let count : c.applied-before.result ≡ k = c.applied-before.ensures.means names (values_to n (news u.heard) k) at.1 ∙ values_count n (news u.heard) k at.0 in
    let next : c.applied-before.result + 1 ≡ suc k = (let e = count in omega (arith, e)) in
    let there : learnt_at n (suc k) (news u.heard) ≡ Some c.in-Some.value.now = subst (λ j. learnt_at n j (news u.heard) ≡ Some c.in-Some.value.now) next (sym (c.learned.ensures u this) ∙ ap option_copied c.in-Some.is) in (
      some_next n (news u.heard) k c.in-Some.value.now at.0 (position_left k (let e = count in let f = c.if-before-ge-POSITIONS.false in omega (arith, e, f))) there,
      subst (λ (o : Option Value). g.A.Application.has_applied names (values_to n (news u.heard) k ++ option_to_list o) c.apply.new.self) (sym there) (c.in-Ok.ensures.applied names (values_to n (news u.heard) k) at.1),
    )
