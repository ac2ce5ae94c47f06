use Rattle.std.proofs.Common.{◌≡◌, ◌++◌, ℕ, List, refl}
use Rattle.byteorder.specs.Endian.{big_bytes}
use Rattle.ballots.specs.Replies.{answered}
use Rattle.messages.specs.Spelling.{id_spelling, answer_spelling}
use Rattle.messages.proofs.Appending.{twice}
use Rattle.messages.proofs.encoding.put_answer.Goals as goal

pub returns-clause-put : goal.returns-clause-put
returns-clause-put c =
    let head : List ℕ = id_spelling c.args.client c.args.number ++ big_bytes 4 c.args.applied in
    let first : c.put_bytes.new.out.items ≡ c.args.out.now.items ++ head = rw (c.in_ok-put_bytes.ensures.put, c.as_slice.ensures, c.applied_bytes-head.ensures.spelt) refl in
    twice _ head _ (answer_spelling (answered c.args.answer.now)) _ first c.in_ok-put_answered.ensures.put
