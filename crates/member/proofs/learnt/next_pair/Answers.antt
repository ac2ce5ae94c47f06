use Rattle.std.proofs.Common.{◌≡◌, ◌∙◌, Some, ap, sym}
use Rattle.std.specs.Option.{option_copied}
use Rattle.learner.specs.Terms.{learnt_of}
use Rattle.paxos.specs.Knowledge.{value_at}
use Rattle.member.proofs.Gathering.{first_none, first_some}
use Rattle.member.proofs.learnt.next_pair.Goals as goal

pub returns-in_default : goal.returns-in_default
returns-in_default c = first_none (learnt_of c.args.learner.now) c.args.from c.in_default.ensures.lowest

pub returns : goal.returns
returns c =
    let x = c.in-Some.position in
    let es = learnt_of c.args.learner.now in
    let there : Some c.in_ok-clone.field-0 ≡ value_at x es = ap Some c.in_ok-clone.ensures.cases ∙ sym (ap option_copied c.in-Some-learned.is) ∙ c.learned.ensures.value in
    first_some es c.args.from x c.in_ok-clone.field-0 c.in-Some.ensures.lowest (c.next_learned.ensures.within x c.in-Some.is) there
