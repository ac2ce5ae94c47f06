use Rattle.row_pages.specs.Rows.{with_value}
use Rattle.node_table.proofs.Rows.{written}
use Rattle.std.proofs.Common.{◌∙◌, ap, sym, refl}
use Rattle.std.specs.Option.{option_copied_mut}
use Rattle.node_table.specs.declared.table.Row.{Row}
use Rattle.node_table.proofs.Rows.{unchanged, place-set, row-there}
use Rattle.node_plans.proofs.numbers.set_place.Goals as goal

pub returns-in-Some-clause-same : goal.returns-in-Some-clause-same
returns-in-Some-clause-same c =
    let r = c.in-Some.row.now in
    let s : Row = record r { place = c.args.place } in
    unchanged c.args.rows.now (with_value c.args.rows.now c.number.result s) c.number.result r s (sym c.get_mut.ensures.value ∙ ap option_copied_mut c.in-Some.is) (written c.args.rows.now c.number.result s) refl

pub returns-in-Some-clause-here : goal.returns-in-Some-clause-here
returns-in-Some-clause-here c =
    let r = c.in-Some.row.now in
    let s : Row = record r { place = c.args.place } in
    rw (← c.number.ensures) ((place-set c.args.rows.now (with_value c.args.rows.now c.number.result s) c.number.result r s (sym c.get_mut.ensures.value ∙ ap option_copied_mut c.in-Some.is) (written c.args.rows.now c.number.result s)).0)

pub returns-in-Some-clause-others : goal.returns-in-Some-clause-others
returns-in-Some-clause-others c = λ i ne.
    (let r = c.in-Some.row.now in
    let s : Row = record r { place = c.args.place } in
    (place-set c.args.rows.now (with_value c.args.rows.now c.number.result s) c.number.result r s (sym c.get_mut.ensures.value ∙ ap option_copied_mut c.in-Some.is) (written c.args.rows.now c.number.result s)).1 i (λ same. ne (same ∙ c.number.ensures)))

pub returns-in_default-clause-here : goal.returns-in_default-clause-here
returns-in_default-clause-here c = absurd (row-there c.args.rows.now c.number.result (sym c.get_mut.ensures.value ∙ ap option_copied_mut c.in_default.is) (rw (← c.number.ensures) at c.requires))
