use Rattle.row_pages.proofs.Indexes.{index-same}
use Rattle.row_pages.proofs.map.RowPages.shrink.Goals as goal

pub invariant_of-self : goal.invariant_of-self
invariant_of-self g c = rw (c.shrink_list.ensures, c.shrink_list-2.ensures) (record { index = index-same _ _ _ c.shrink_pages.ensures c.self.invariant.index; each = c.self.invariant.each })
