use Rattle.std.proofs.Common.{◌≡◌, ◌∙◌, ◌-◌, ap, sym, arith, suc, Some}
use Rattle.row_pages.specs.Pages.{number_of}
use Rattle.row_pages.proofs.Values.{get-none, get-some, number-within}
use Rattle.row_pages.proofs.cursor.Cursor.seek.Goals as goal

pub index-requires : goal.index-requires
index-requires g c =
    let e : number_of c.self.inside.pages.now c.args.key ≡ suc (c.number_by-number.result - 1) = omega (arith, c.number_by-number.ensures.number, c.if-number-eq0.false) in
    let ok = c.self.inside.values.now.ok in
    let l = number-within _ c.self.inside.keys.now.items c.self.inside.values.now.items c.self.invariant.0 c.args.key (c.number_by-number.result - 1) e in
    omega (arith, ok, l)

pub returns-then-number-eq0-clause-value : goal.returns-then-number-eq0-clause-value
returns-then-number-eq0-clause-value g c =
    let e : number_of c.self.inside.pages.now c.args.key ≡ 0 = omega (arith, c.number_by-number.ensures.number, c.if-number-eq0.true) in
    rw (← c.self.view_is) (sym (get-none _ c.self.inside.keys.now.items c.self.inside.values.now.items c.self.invariant.0 c.args.key e))

pub returns-clause-value : goal.returns-clause-value
returns-clause-value g c =
    let e : number_of c.self.inside.pages.now c.args.key ≡ suc (c.number_by-number.result - 1) = omega (arith, c.number_by-number.ensures.number, c.if-number-eq0.false) in
    rw (← c.self.view_is) (ap Some c.index.ensures ∙ sym (get-some _ c.self.inside.keys.now.items c.self.inside.values.now.items c.self.invariant.0 c.args.key (c.number_by-number.result - 1) c.index.result.now e))
