use Rattle.meaning_laws.proofs.Whole.{brought}
use Rattle.meaning_laws.proofs.laws.own_lists_bring_new_nodes.Goals as goal

pub returns : goal.returns
returns c = brought
