use Rattle.std.proofs.Common.{◌≡◌, ◌++◌, ℕ, List, refl}
use Rattle.ballots.specs.Spelling.{value_spelling}
use Rattle.messages.specs.Spelling.{ballot_spelling, position_spelling}
use Rattle.messages.proofs.Appending.{twice}
use Rattle.messages.proofs.encoding.put_proposal.Goals as goal

pub returns-clause-put : goal.returns-clause-put
returns-clause-put c =
    let head : List ℕ = ballot_spelling c.args.ballot ++ position_spelling c.args.position in
    let first : c.put_bytes.new.out.items ≡ c.args.out.now.items ++ head = rw (c.in_ok-put_bytes.ensures.put, c.as_slice.ensures, c.proposal-head.ensures) refl in
    twice _ head _ (value_spelling c.args.value.now) _ first c.in_ok-put_value_of.ensures.put
