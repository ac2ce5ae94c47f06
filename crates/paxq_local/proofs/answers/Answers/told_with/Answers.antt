use Rattle.std.proofs.Common.{sym, ◌∙◌}
use Rattle.paxq_local.proofs.answers.Answers.told_with.Goals as goal

pub returns-in-Some : goal.returns-in-Some
returns-in-Some c = record {
  told = (c.add.new.self, c.if-not-add.ensures.noted, sym c.are_all.ensures ∙ c.if-are_all.true, sym c.take_text.ensures.text ∙ c.in-Some.is);
}
