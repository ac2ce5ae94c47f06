use Rattle.query_meaning.specs.Copies.{copy_of}
use Rattle.query_copies.proofs.Forms.{one_copied}
use Rattle.query_copies.proofs.copies.Copies.copied.Goals as goal

pub returns-clause-copies : goal.returns-clause-copies
returns-clause-copies g c = one_copied c.args.run.now c.value_of.new.run c.copy_of.new.run (copy_of c.in_ok-node.node) c.copy_of.result c.in_ok-items.ensures.adds c.copy_of.ensures
