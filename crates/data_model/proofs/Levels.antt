-- How far down trees go.
use Rattle.std.proofs.Common.{◌≡◌, List, [], ◌∷◌, length, nat_le, nat_eq, arith}
use Rattle.std.proofs.lemmas.Bool.Decides.{nat_tests}
use Rattle.data_model.specs.Tree.{TreeTerm, all_of}
use Rattle.data_model.specs.Trees.{height}

-- only no trees at all are within no levels
pub none_within : (ts : List TreeTerm) → nat_eq (length ts) 0 ≡ nat_le (height (all_of ts)) 0
none_within [] = grind (arith, nat_tests)
none_within (t ∷ ts) = grind (arith, nat_tests)
