use Rattle.node_table.proofs.Axes.{on-children, on-attributes, on-self, child-no-attribute, parent-lists, lists-parent, ancestor-up, ancestor-down}
use Rattle.shelves.proofs.laws.axes.Goals as goal

pub returns-clause-children : goal.returns-clause-children
returns-clause-children c = λ ts a d. on-children ts d a

pub returns-clause-attributes : goal.returns-clause-attributes
returns-clause-attributes c = λ ts a d. on-attributes ts d a

pub returns-clause-parent_of_child : goal.returns-clause-parent_of_child
returns-clause-parent_of_child c = λ ts a b d. (parent-lists ts d a b, lists-parent ts d a b)

pub returns-clause-not_both : goal.returns-clause-not_both
returns-clause-not_both c = λ ts a b d. child-no-attribute ts d a b

pub returns-clause-ancestor : goal.returns-clause-ancestor
returns-clause-ancestor c = λ ts a b d. (ancestor-up ts d b a, ancestor-down ts d b a)

pub returns-clause-own : goal.returns-clause-own
returns-clause-own c = λ ts a d there. on-self ts d a there
