use Rattle.query_elements.proofs.Assembly.{tree_can_stand}
use Rattle.query_elements.proofs.assembled.closed.Goals as goal

pub rooted-requires-clause-distinct : goal.rooted-requires-clause-distinct
rooted-requires-clause-distinct c = (tree_can_stand c.in_ok-tree.tree c.args.parent c.args.name.now c.args.identity c.args.parts c.args.run.now c.in_ok-tree.ensures c.requires.beside).distinct

pub rooted-requires-clause-first : goal.rooted-requires-clause-first
rooted-requires-clause-first c = (tree_can_stand c.in_ok-tree.tree c.args.parent c.args.name.now c.args.identity c.args.parts c.args.run.now c.in_ok-tree.ensures c.requires.beside).first

pub rooted-requires-clause-below : goal.rooted-requires-clause-below
rooted-requires-clause-below c = (tree_can_stand c.in_ok-tree.tree c.args.parent c.args.name.now c.args.identity c.args.parts c.args.run.now c.in_ok-tree.ensures c.requires.beside).below
