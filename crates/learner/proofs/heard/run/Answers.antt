use Rattle.std.proofs.Common.{◌≡◌, ◌∙◌, ◌+◌, ◌<◌, ◌++◌, [], ◌∷◌, ℕ, List, ap, map, sym, subst, length, get_or, take}
use Rattle.std.specs.Prelude.{reverse}
use Rattle.std.proofs.lemmas.List.{map-append, reverse-append, take_more}
use Rattle.paxos.specs.Knowledge.{Heard as HeardTerm}
use Rattle.learner.specs.declared.heard.Heard.{Heard as HeardOfCode}
use Rattle.learner.specs.Hearing.{HasHeard}
use Rattle.learner.specs.Messages.{heard_of}
use Rattle.learner.proofs.heard.run.Goals as goal

-- the newest of one more message
heard_more : (xs : List HeardOfCode) (i : ℕ) (x : HeardOfCode) → i < length xs → x ≡ get_or xs i x → heard_of x ∷ reverse (map heard_of (take i xs)) ≡ reverse (map heard_of (take (i + 1) xs))
heard_more xs i x l e =
    sym (reverse-append (map heard_of (take i xs)) (heard_of x ∷ []))
    ∙ ap (λ (ys : List HeardTerm). reverse ys) (sym (map-append heard_of (take i xs) (x ∷ [])))
    ∙ ap (λ (y : HeardOfCode). reverse (map heard_of (take i xs ++ y ∷ []))) e
    ∙ ap (λ (ys : List HeardOfCode). reverse (map heard_of ys)) (sym (take_more xs i x l))

pub loop-message-preserved : goal.loop-message-preserved
loop-message-preserved c = record {
  heard = subst (λ (hs : List HeardTerm). HasHeard hs c.hear.new.learner) (heard_more c.args.heard.now c.loop-message.message-index c.message-item.result c.loop-message-test.true c.message-item.is) (c.in_ok-hear.ensures.heard _ c.loop-message.invariant.heard);
  members = c.hear.ensures.members ∙ c.loop-message.invariant.members;
}
