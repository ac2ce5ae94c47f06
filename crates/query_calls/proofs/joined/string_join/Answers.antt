use Rattle.std.proofs.Common.{rules}
use Rattle.query_meaning.specs.Functions.{string_join}
use Rattle.query_meaning.specs.Running.{atoms, trees_of, ◌>>=◌}
use Rattle.query_calls.specs.Joined.{IsJoined}
use Rattle.query_calls.proofs.Giving.{atoms_give, atoms_then}
use Rattle.query_calls.proofs.Alone.{alone_is}
use Rattle.query_calls.proofs.JoinedTexts.{joined_gives}
use Rattle.query_calls.proofs.joined.string_join.Goals as goal

pub returns-in-Some : goal.returns-in-Some
returns-in-Some c =
    let alone = alone_is c.args.separator.now c.as_slice.result.now c.only-item.result c.as_slice.ensures.items c.in-len1.len_at_least c.in-len1.len_below c.only-item.is in
    let is : IsJoined (trees_of c.args.run.now) c.args.items.now c.only-item.result c.in-Some.joined = search rules in
    rw alone (joined_gives c.args.items.now c.only-item.result c.in-Some.joined c.args.run.now is c.paid.new.run c.paid.result c.paid.ensures)

pub returns : goal.returns
returns c =
    let values = atoms_give c.args.items.now c.in_ok-values.values.items c.args.run.now c.atoms.new.self c.in_ok-values.ensures.ok c.in_ok-values.ensures.same in
    let separators = atoms_give c.args.separator.now c.in_ok-separators.separators.items c.atoms.new.self c.atoms-2.new.self c.in_ok-separators.ensures.ok c.in_ok-separators.ensures.same in
    atoms_then (λ vs. atoms c.args.separator.now >>= string_join vs) _ _ _ _ _ _ _ values c.deref.ensures.value
    (atoms_then (string_join c.deref.result.now) _ _ _ _ _ _ _ separators c.deref-2.ensures.value c.joined_of.ensures)
