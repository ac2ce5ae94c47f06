use Rattle.std.proofs.Common.{◌≡◌, ◌+◌, ◌-◌, ◌∙◌, sym, Some}
use Rattle.row_pages.specs.Rows.{get}
use Rattle.forest_index.specs.Sized.{kept_sizes, size_with}
use Rattle.forest_index.proofs.Sized.{with-put, with-apart}
use Rattle.forest_index.proofs.index.plan_size.Goals as goal

pub returns-in-Some-clause-here : goal.returns-in-Some-clause-here
returns-in-Some-clause-here c =
    let o = kept_sizes c.args.index.now in
    let known : size_with o c.args.resized.now c.args.root ≡ Some c.in-Some.size = sym c.planned_size.ensures ∙ c.in-Some.is in
    let here : get c.put.new.self c.args.root ≡ Some (c.in-Some.size + c.args.added - c.args.removed) = rw (← c.number.ensures) c.put.ensures.put.here in
    with-put o c.args.resized.now c.put.new.self c.args.root c.in-Some.size (c.in-Some.size + c.args.added - c.args.removed) known here ∙ rw known

pub returns-in-Some-clause-apart : goal.returns-in-Some-clause-apart
returns-in-Some-clause-apart c = λ r ne. with-apart (kept_sizes c.args.index.now) c.args.resized.now c.put.new.self r (c.put.ensures.put.apart r (λ e. ne (e ∙ c.number.ensures)))
