use Rattle.meaning_laws.proofs.Updating.{every}
use Rattle.meaning_laws.proofs.Whole.{first_stand}
use Rattle.meaning_laws.proofs.Steady.{SameForest, same_forest, MorePrimitives, more_primitives}
use Rattle.meaning_laws.proofs.laws.nothing_is_lost.Goals as goal

pub returns-clause-forest : goal.returns-clause-forest
returns-clause-forest c = λ x env run after items h. (every SameForest same_forest x env).kept run (items, after) h

pub returns-clause-trees : goal.returns-clause-trees
returns-clause-trees c = first_stand

pub returns-clause-primitives : goal.returns-clause-primitives
returns-clause-primitives c = λ x env run after items h. (every MorePrimitives more_primitives x env).kept run (items, after) h
