-- Messages that are short, of all that a member says.
use Rattle.std.proofs.Common.{◌≡◌, List, [], ◌∷◌, ◌++◌, map, subst, sym}
use Rattle.ballots.specs.declared.ballot.Ballot.{Ballot}
use Rattle.ballots.specs.declared.value.Pair.{Pair}
use Rattle.proposer.specs.declared.sends.Asked.{Asked}
use Rattle.member.specs.declared.outcome.Send.{Send}
use Rattle.member.specs.Drafts.{AreShort, accept_send, prepare_send}

-- those of two lists
pub both_short : (xs ys : List Send) → AreShort xs → AreShort ys → AreShort (xs ++ ys)
both_short [] ys a b = b
both_short (x ∷ xs) ys a b = (a.0, both_short xs ys a.1 b)

-- Prepares
pub prepares_short : (b : Ballot) (asked : List Asked) → AreShort (map (prepare_send b) asked)
prepares_short b [] = tt
prepares_short b (a ∷ others) = (tt, prepares_short b others)

-- Accepts
pub accepts_short : (b : Ballot) (pairs : List Pair) → AreShort (map (accept_send b) pairs)
accepts_short b [] = tt
accepts_short b (e ∷ es) = (tt, accepts_short b es)

-- after none, the ones and then the others
pub added_short : (none some all : List Send) (xs ys : List Send) → none ≡ [] → some ≡ none ++ xs → all ≡ some ++ ys → AreShort xs → AreShort ys → AreShort all
added_short none some all xs ys n s a left right = subst AreShort (sym a) (both_short some ys (subst AreShort (sym s) (both_short none xs (subst AreShort (sym n) tt) left)) right)
