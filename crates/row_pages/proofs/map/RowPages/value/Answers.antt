use Rattle.std.proofs.Common.{◌≡◌, ◌∙◌, ◌-◌, ap, sym, arith, suc, Some}
use Rattle.row_pages.specs.Pages.{number_of}
use Rattle.row_pages.proofs.Values.{get-some, number-within, number-there}
use Rattle.row_pages.proofs.map.RowPages.value.Goals as goal

pub overflow_sub-at : goal.overflow_sub-at
overflow_sub-at g c =
    let e = number-there _ c.self.inside.keys.items c.self.inside.values.items c.self.invariant c.args.key (rw (← c.self.view_is) at c.requires) in
    omega (arith, e, c.number.ensures)

pub index-requires : goal.index-requires
index-requires g c =
    let there = number-there _ c.self.inside.keys.items c.self.inside.values.items c.self.invariant c.args.key (rw (← c.self.view_is) at c.requires) in
    let e : number_of c.self.inside.pages c.args.key ≡ suc (c.number.result - 1) = omega (arith, there, c.number.ensures) in
    let ok = c.self.inside.values.ok in
    let l = number-within _ c.self.inside.keys.items c.self.inside.values.items c.self.invariant c.args.key (c.number.result - 1) e in
    omega (arith, ok, l)

pub returns : goal.returns
returns g c =
    let there = number-there _ c.self.inside.keys.items c.self.inside.values.items c.self.invariant c.args.key (rw (← c.self.view_is) at c.requires) in
    let e : number_of c.self.inside.pages c.args.key ≡ suc (c.number.result - 1) = omega (arith, there, c.number.ensures) in
    rw (← c.self.view_is) (get-some _ c.self.inside.keys.items c.self.inside.values.items c.self.invariant c.args.key (c.number.result - 1) c.index.result.now e ∙ ap Some (sym c.index.ensures))
