use Rattle.std.proofs.Common.{◌≡◌, ◌∙◌, ◌-◌, ◌<◌, sym, arith, get_or, length}
use Rattle.std.proofs.lemmas.List.{get_or_default}
use Rattle.row_pages.proofs.Values.{last-there}
use Rattle.row_pages.proofs.map.RowPages.pop.Goals as goal

pub returns-in-None-clause-none : goal.returns-in-None-clause-none
returns-in-None-clause-none g c =
    let keys = c.self.inside.keys.ok in
    let at = c.len-count.result - 1 in
    let l : at < length c.self.inside.keys.items = omega (arith, keys, c.len-count.ensures, c.if-count-eq0.false) in
    let is : c.index-key.result.now ≡ get_or c.self.inside.keys.items at 0 = c.index-key.ensures ∙ get_or_default c.self.inside.keys.items at _ 0 l in
    absurd (last-there _ c.self.inside.keys.items c.self.inside.values.items c.self.invariant at c.index-key.result.now l is (rw (← c.self.view_is) at (sym c.remove.ensures.was ∙ c.in-None.is)))
