use Rattle.meaning_laws.proofs.Simple.{every}
use Rattle.meaning_laws.proofs.Steady.{SamePrimitives, same_primitives}
use Rattle.meaning_laws.proofs.laws.only_updating_expressions_update.Goals as goal

pub returns : goal.returns
returns c = λ x env run after items fine h. (every SamePrimitives same_primitives x fine env).kept run (items, after) h
