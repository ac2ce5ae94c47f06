use Rattle.std.proofs.Common.{◌≡◌, ◌++◌, ◌∙◌, arith, length, subst, string_bytes}
use Rattle.std.specs.Prelude.{flat_map}
use Rattle.ballots.specs.Messages.{up_to}
use Rattle.paxq_sim.specs.Play.{member_line}
use Rattle.paxq_sim.proofs.Reports.{members_more}
use Rattle.paxq_sim.proofs.report.push_members.Goals as goal

pub loop-before-preserved : goal.loop-before-preserved
loop-before-preserved g c = λ kept v s.
    members_more (string_bytes c.args.out.now) (string_bytes c.loop-before.out) (string_bytes c.push_str.new.self) c.as_str.result.now v c.loop-before.before (c.loop-before.invariant kept v s)
    c.in_ok-push_str.ensures.bytes (c.as_str.ensures.value ∙ c.in_ok-member_text.ensures kept v s)

pub returns : goal.returns
returns g c = λ kept v s.
    let last : c.loop-before.before ≡ length v.members =
    omega (arith, c.loop-before-test.false, c.loop-before.auto.before-end, c.count-before-end.ensures.count, c.members.ensures.count, c.members.ensures.seats, s.size) in
    subst (λ k. string_bytes c.loop-before.out ≡ string_bytes c.args.out.now ++ flat_map (member_line v) (up_to k)) last (c.loop-before.invariant kept v s)
