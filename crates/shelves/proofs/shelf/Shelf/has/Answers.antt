use Rattle.std.proofs.Common.{◌∙◌, ap, is_some}
use Rattle.shelves.proofs.shelf.Shelf.has.Goals as goal

pub returns : goal.returns
returns c = c.has.ensures ∙ ap is_some c.home.ensures
