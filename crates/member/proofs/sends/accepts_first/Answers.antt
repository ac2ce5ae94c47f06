use Rattle.std.proofs.Common.{◌∙◌, ◌++◌, ap, map, sym}
use Rattle.proposer.specs.Knowing.{accepts_first}
use Rattle.member.specs.Drafts.{accept_send, prepare_send}
use Rattle.member.specs.Steps.{all_packets}
use Rattle.member.proofs.Short.{accepts_short, added_short, prepares_short}
use Rattle.member.proofs.Sending.{accepts_then}
use Rattle.member.proofs.sends.accepts_first.Goals as goal

pub returns-clause-sends : goal.returns-clause-sends
returns-clause-sends c = λ n m.
    let s = c.in-Some.said in
    ap (all_packets n m) (c.in_ok-push_prepares.ensures ∙ ap (λ xs. xs ++ map (prepare_send s.ballot) s.prepares.items) (c.in_ok-push_accepts.ensures ∙ ap (λ xs. xs ++ map (accept_send s.ballot) s.accepts.items) c.new-sends.ensures.items))
    ∙ accepts_then n m s ∙ ap (accepts_first n m) (sym c.in-Some.is)

pub returns-clause-short : goal.returns-clause-short
returns-clause-short c =
    let s = c.in-Some.said in
    added_short _ _ _ (map (accept_send s.ballot) s.accepts.items) (map (prepare_send s.ballot) s.prepares.items) c.new-sends.ensures.items c.in_ok-push_accepts.ensures c.in_ok-push_prepares.ensures
    (accepts_short s.ballot s.accepts.items) (prepares_short s.ballot s.prepares.items)
