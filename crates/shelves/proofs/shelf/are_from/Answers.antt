use Rattle.std.proofs.Common.{ℕ, nat_le, rules}
use Rattle.std.proofs.lemmas.Iterator.{YieldsList-from_slice}
use Rattle.std.proofs.lemmas.Iterator.Search.{all_from_yields_List}
use Rattle.shelves.proofs.shelf.are_from.Goals as goal

pub returns : goal.returns
returns c = all_from_yields_List (λ (i : ℕ). nat_le c.args.first i) _ _ _ c.all.ensures.ran (YieldsList-from_slice c.args.ids.now cc) (λ x b q k. search rules)
