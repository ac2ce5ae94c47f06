use Rattle.std.proofs.Common.{◌≡◌, ◌==◌, List, [], ◌∷◌, length, refl, ◌∙◌, arith}
use Rattle.std.proofs.lemmas.Bool.Decides.{nat_tests}
use Rattle.data_model.specs.Tree.{TreeTerm, all_of}
use Rattle.query_meaning.specs.Updates.{is_none}
use Rattle.query_updates.proofs.insertions.is_none.Goals as goal

counted : (ts : List TreeTerm) → (length ts == 0) ≡ is_none (all_of ts)
counted [] = refl
counted (t ∷ ts) = grind (arith, nat_tests)

pub returns : goal.returns
returns c = c.is_empty.ensures ∙ counted c.args.trees.now
