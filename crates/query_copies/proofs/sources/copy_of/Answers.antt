use Rattle.std.proofs.Common.{subst}
use Rattle.shelves.specs.Shelf.{IsShelf}
use Rattle.query_copies.proofs.Forms.{is_copied}
use Rattle.query_copies.proofs.sources.copy_of.Goals as goal

pub returns : goal.returns
returns c = is_copied c.args.node c.args.run.now c.copy.new.self c.copy.result (subst IsShelf c.shelf.ensures c.facts.ensures) c.requires.there c.copy.ensures.made
