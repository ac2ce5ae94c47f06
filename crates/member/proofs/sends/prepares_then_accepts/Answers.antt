use Rattle.std.proofs.Common.{◌∙◌, ◌++◌, ap, map}
use Rattle.member.specs.Drafts.{accept_send, prepare_send}
use Rattle.member.specs.Steps.{all_packets}
use Rattle.member.proofs.Short.{accepts_short, added_short, prepares_short}
use Rattle.member.proofs.Sending.{prepares_then}
use Rattle.member.proofs.sends.prepares_then_accepts.Goals as goal

pub returns-clause-sends : goal.returns-clause-sends
returns-clause-sends c = λ n m.
    let s = c.args.said.now in
    ap (all_packets n m) (c.in_ok-push_accepts.ensures ∙ ap (λ xs. xs ++ map (accept_send s.ballot) s.accepts.items) (c.in_ok-push_prepares.ensures ∙ ap (λ xs. xs ++ map (prepare_send s.ballot) s.prepares.items) c.new-sends.ensures.items))
    ∙ prepares_then n m s

pub returns-clause-short : goal.returns-clause-short
returns-clause-short c =
    let s = c.args.said.now in
    added_short _ _ _ (map (prepare_send s.ballot) s.prepares.items) (map (accept_send s.ballot) s.accepts.items) c.new-sends.ensures.items c.in_ok-push_prepares.ensures c.in_ok-push_accepts.ensures
    (prepares_short s.ballot s.prepares.items) (accepts_short s.ballot s.accepts.items)
