-- An environment where what stands for an item does.
use Rattle.std.proofs.Common.{[], ◌∷◌, refl}
use Rattle.values.specs.declared.atom.Item.{Item}
use Rattle.query_meaning.specs.Environment.{Environment, no_environment, with_focus, with_variable}
use Rattle.item_expressions.specs.Subjects.{StandsFor}
use Rattle.item_expressions.specs.declared.subject.Subject.{Subject}
use Rattle.item_expressions.specs.declared.subject.Subject.TheVariants as subject

-- an environment where it stands for an item
pub around : Subject → Item → Environment
around (subject.Variable name) x = with_variable name.now (x ∷ []) no_environment
around subject.Context x = with_focus x 0 0 no_environment

pub stands_around : (s : Subject) (x : Item) → StandsFor s x (around s x)
unfolding around
stands_around (subject.Variable name) x = (refl, refl)
stands_around subject.Context x = refl
