use Rattle.std.proofs.Common.{subst}
use Rattle.data_model.specs.Views.{Views}
use Rattle.shelves.proofs.shelf.Shelf.node.Goals as goal

pub returns : goal.returns
returns c = subst (Views c.node.result) c.home.ensures c.node.ensures
