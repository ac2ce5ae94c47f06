use Rattle.update_meaning.specs.Changed.{changed, rooted_at}
use Rattle.update_meaning.proofs.Each.{together, placed_each, others-stay, by_identity, changes}
use Rattle.update_meaning.proofs.laws.copies.Goals as goal

pub returns-clause-alone : goal.returns-clause-alone
returns-clause-alone c = λ is ps ts. together (rooted_at is) (by_identity is) (changed ps) (changes ps) ts

pub returns-clause-placed : goal.returns-clause-placed
returns-clause-placed c = λ is ps ts. placed_each (rooted_at is) (changed ps) (changes ps) ts

pub returns-clause-others : goal.returns-clause-others
returns-clause-others c = λ is ps ts. others-stay (rooted_at is) (by_identity is) (changed ps) (changes ps) ts
