use Rattle.std.specs.Prelude.{◌==◌}
use Rattle.std.specs.List as list
use Rattle.query_meaning.specs.Functions.{of_texts}
use Rattle.query_meaning.specs.Running.{atoms, ◌>>=◌}
use Rattle.query_calls.proofs.Giving.{atoms_give, atoms_then}
use Rattle.query_calls.proofs.strings.ends_with.Goals as goal

pub returns : goal.returns
returns c =
    let texts = atoms_give c.args.text.now c.in_ok-texts.texts.items c.args.run.now c.atoms.new.self c.in_ok-texts.ensures.ok c.in_ok-texts.ensures.same in
    let parts = atoms_give c.args.part.now c.in_ok-parts.parts.items c.atoms.new.self c.atoms-2.new.self c.in_ok-parts.ensures.ok c.in_ok-parts.ensures.same in
    atoms_then (λ xs. atoms c.args.part.now >>= of_texts (list.ends_with ◌==◌) xs) _ _ _ _ _ _ _ texts c.deref.ensures.value
    (atoms_then (of_texts (list.ends_with ◌==◌) c.deref.result.now) _ _ _ _ _ _ _ parts c.deref-2.ensures.value c.tested.ensures)
