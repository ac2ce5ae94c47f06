use Rattle.update_words.proofs.Lists.{beside_forest}
use Rattle.update_words.proofs.desk.Desk.apply.Goals as goal

pub apply-requires-clause-distinct : goal.apply-requires-clause-distinct
apply-requires-clause-distinct c = beside_forest c.args.self.now.forest c.args.self.now.next c.args.self.now.list c.args.self.now.other c.facts.ensures c.requires.brings
