use Rattle.std.proofs.Common.{◌≡◌, ◌++◌, ◌∷◌, [], ℕ, List, length, flat_map, refl}
use Rattle.messages.specs.Spelling.{ballot_spelling, position_spelling, entry_spelling}
use Rattle.messages.proofs.Appending.{twice}
use Rattle.messages.proofs.encoding.put_window.Goals as goal

pub returns-clause-put : goal.returns-clause-put
returns-clause-put c =
    let head : List ℕ = ballot_spelling c.args.window.now.ballot ++ position_spelling c.args.window.now.from ++ position_spelling c.args.window.now.covered ++ length c.args.window.now.entries.items ∷ [] in
    let first : c.put_bytes.new.out.items ≡ c.args.out.now.items ++ head = rw (c.in_ok-put_bytes.ensures.put, c.as_slice.ensures, c.window_head-head.ensures) refl in
    twice _ head _ (flat_map entry_spelling c.args.window.now.entries.items) _ first (rw c.as_slice-2.ensures.value at c.in_ok-put_entries.ensures.put)
