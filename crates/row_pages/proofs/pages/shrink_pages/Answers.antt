use Rattle.row_pages.proofs.Numbers.{numbers-same}
use Rattle.row_pages.proofs.pages.shrink_pages.Goals as goal

pub returns-then-capacity-count : goal.returns-then-capacity-count
returns-then-capacity-count c = numbers-same c.args.pages.now c.shrink_to.new.self c.shrink_to.ensures.entries.2
