use Rattle.std.proofs.Common.{inl, ◌==◌, ℕ, ◌<◌, ◌^◌, List, length, ap, sym, ◌∙◌, arith}
use Rattle.std.specs.List.{slice_get, position}
use Rattle.apply.proofs.Siblings.{place-found, text-listed}
use Rattle.apply.proofs.site.site_of.Goals as goal

pub returns-in-Some-position : goal.returns-in-Some-position
returns-in-Some-position c =
    let f = place-found c.args.id c.in-Some-position.at c.siblings.result.now (sym c.in-Some-position.ensures) in
    let below = c.in-Some.ensures in
    let few : length c.siblings.result.now < 2 ^ 64 = c.siblings.type_inv.0 in
    let within = f.1 in
    record { text = below.text; place = ap (λ xs. slice_get xs c.in-Some-position.at) (sym c.siblings.ensures) ∙ f.0; room = omega arith }

pub returns-in-Some-position-2 : goal.returns-in-Some-position-2
returns-in-Some-position-2 c =
    let f = place-found c.args.id c.in-Some-position-2.at c.siblings-2.result.now (sym c.in-Some-position-2.ensures) in
    let below = c.in-Some.ensures in
    let few : length c.siblings-2.result.now < 2 ^ 64 = c.siblings-2.type_inv.0 in
    let within = f.1 in
    record { text = below.text; place = ap (λ xs. slice_get xs c.in-Some-position-2.at) (sym c.siblings-2.ensures) ∙ f.0; room = omega arith }

pub returns-in-None : goal.returns-in-None
returns-in-None c =
    inl (text-listed c.in-Some.parent c.args.id c.args.draft.now.draft.after c.facts.ensures.distinct c.in-Some.ensures
    (ap (λ (xs : List ℕ). position (λ j. j == c.args.id) xs) (sym c.siblings.ensures) ∙ sym c.in_default-position.ensures)
    (ap (λ (xs : List ℕ). position (λ j. j == c.args.id) xs) (sym c.siblings-2.ensures) ∙ sym c.in-None.ensures))
