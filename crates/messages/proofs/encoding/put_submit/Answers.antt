use Rattle.std.proofs.Common.{◌≡◌, ◌++◌, ◌∷◌, [], ℕ, List, refl}
use Rattle.byteorder.specs.Endian.{big_bytes}
use Rattle.messages.specs.Spelling.{text_spelling}
use Rattle.messages.proofs.Appending.{twice}
use Rattle.messages.proofs.encoding.put_submit.Goals as goal

pub returns-clause-put : goal.returns-clause-put
returns-clause-put c =
    let head : List ℕ = big_bytes 4 c.args.request.now.client ++ big_bytes 8 c.args.request.now.number ++ c.args.request.now.level ∷ [] in
    let first : c.put_bytes.new.out.items ≡ c.args.out.now.items ++ head = rw (c.in_ok-put_bytes.ensures.put, c.as_slice.ensures, c.request_head-head.ensures.spelt) refl in
    twice _ head _ (text_spelling c.args.request.now.text) _ first (rw c.text.ensures.text at c.in_ok-put_text.ensures.put)

pub returns-clause-fields : goal.returns-clause-fields
returns-clause-fields c = record {
  client = c.request_head-head.ensures.id.0;
  number = c.request_head-head.ensures.id.1;
  level = c.request_head-head.ensures.level;
  text = c.text.ensures.most;
  utf8 = rw c.text.ensures.text at c.in_ok-put_text.ensures.utf8;
}
