use Rattle.std.proofs.Common.{◌∙◌, sym}
use Rattle.row_pages.proofs.Values.{keys-paged}
use Rattle.row_pages.proofs.map.RowPages.keys.Goals as goal

pub returns : goal.returns
returns g c = rw (← c.self.view_is) (c.as_slice.ensures.value ∙ sym (keys-paged c.self.inside.keys.items c.self.inside.values.items c.self.invariant.each))
