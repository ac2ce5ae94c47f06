use Rattle.std.proofs.Common.{◌≡◌, ◌++◌, ℕ, List, refl}
use Rattle.ballots.specs.Spelling.{value_spelling}
use Rattle.messages.specs.Spelling.{ballot_spelling, position_spelling}
use Rattle.messages.proofs.Appending.{twice}
use Rattle.messages.proofs.encoding.put_entry.Goals as goal

pub returns-clause-put : goal.returns-clause-put
returns-clause-put c =
    let head : List ℕ = position_spelling c.args.entry.now.position ++ ballot_spelling c.args.entry.now.vote.ballot in
    let first : c.put_bytes.new.out.items ≡ c.args.out.now.items ++ head = rw (c.in_ok-put_bytes.ensures.put, c.as_slice.ensures, c.place-head.ensures) refl in
    twice _ head _ (value_spelling c.args.entry.now.vote.value) _ first c.in_ok-put_value_of.ensures.put
