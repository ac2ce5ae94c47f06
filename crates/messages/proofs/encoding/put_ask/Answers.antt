use Rattle.std.proofs.Common.{◌≡◌, ◌++◌, ◌∷◌, [], ℕ, List, refl}
use Rattle.byteorder.specs.Endian.{big_bytes}
use Rattle.ballots.specs.Terms.{most_text}
use Rattle.messages.specs.Spelling.{id_spelling, text_spelling, IsText}
use Rattle.messages.proofs.Appending.{twice}
use Rattle.messages.proofs.encoding.put_ask.Goals as goal

pub returns-clause-put : goal.returns-clause-put
returns-clause-put c =
    let head : List ℕ = id_spelling c.args.ask.now.client c.args.ask.now.number ++ big_bytes 4 c.args.ask.now.floor ++ c.args.ask.now.level ∷ [] in
    let first : c.put_bytes.new.out.items ≡ c.args.out.now.items ++ head = rw (c.in_ok-put_bytes.ensures.put, c.as_slice.ensures, c.ask_head-head.ensures.spelt) refl in
    twice _ head _ (text_spelling c.args.ask.now.text) _ first (rw c.text.ensures.text at c.in_ok-put_text.ensures.put)

pub returns-clause-fields : goal.returns-clause-fields
returns-clause-fields c =
    let text : IsText most_text c.args.ask.now.text = (c.text.ensures.most, rw c.text.ensures.text at c.in_ok-put_text.ensures.utf8) in
    (c.ask_head-head.ensures.id, c.ask_head-head.ensures.floor, c.ask_head-head.ensures.level, text)
