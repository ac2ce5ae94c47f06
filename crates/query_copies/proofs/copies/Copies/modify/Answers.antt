use Rattle.std.proofs.Common.{map}
use Rattle.pending.specs.Primitives.{primitive_term}
use Rattle.query_copies.proofs.Adding.{roots_still}
use Rattle.query_copies.proofs.Forms.{all_survive}
use Rattle.query_copies.proofs.copies.Copies.modify.Goals as goal

pub modified-requires-clause-roots : goal.modified-requires-clause-roots
modified-requires-clause-roots g c = roots_still c.args.run.now c.own_list.new.run c.args.roots.now c.in_ok-list.ensures.adds c.requires.roots

pub returns-clause-survive : goal.returns-clause-survive
returns-clause-survive g c =
    all_survive c.args.roots.now (map primitive_term c.in_ok-list.list) c.args.run.now c.own_list.new.run c.modified.new.run c.modified.result c.in_ok-list.ensures.adds c.modified.ensures
