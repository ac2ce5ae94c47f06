use Rattle.published.proofs.Histories.{seen_published}
use Rattle.published.proofs.laws.every_sight_was_published.Goals as goal

pub returns : goal.returns
returns c = λ store seen h sight has. seen_published h sight has
