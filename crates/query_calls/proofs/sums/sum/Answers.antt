use Rattle.std.proofs.Common.{◌≡◌, Ok, rules}
use Rattle.query_meaning.specs.Running.{trees_of}
use Rattle.query_calls.specs.Parts.{sum_of}
use Rattle.query_calls.specs.Totals.{no_total, total_of}
use Rattle.query_calls.proofs.Giving.{atoms_give, atoms_then}
use Rattle.query_calls.proofs.Totals.{total_gives}
use Rattle.query_calls.proofs.sums.sum.Goals as goal

pub returns-in-Some : goal.returns-in-Some
returns-in-Some c =
    let is : total_of (trees_of c.args.run.now) c.args.items.now no_total ≡ Ok c.in-Some.total = search rules in
    total_gives c.args.items.now c.in-Some.total c.args.run.now is c.paid.new.run c.paid.result c.paid.ensures

pub returns : goal.returns
returns c =
    let given = atoms_give c.args.items.now c.in_ok-values.values.items c.args.run.now c.atoms.new.self c.in_ok-values.ensures.ok c.in_ok-values.ensures.same in
    atoms_then sum_of _ _ _ _ _ _ _ given c.deref.ensures.value c.sum_of.ensures
