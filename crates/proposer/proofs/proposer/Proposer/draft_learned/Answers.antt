use Rattle.std.proofs.Common.{refl}
use Rattle.proposer.proofs.Hears.{takes_positions, tells_same, not_empty}
use Rattle.proposer.proofs.proposer.Proposer.draft_learned.Goals as goal

pub returns-then-not-is_empty-clause-takes : goal.returns-then-not-is_empty-clause-takes
returns-then-not-is_empty-clause-takes c =
    takes_positions c.self.inside.members c.news.new.self c.args.learnt.now _ _ (λ e. not_empty c.args.learnt.now c.is_empty.result c.is_empty.ensures c.if-not-is_empty.true e)
    (record {
      news = c.in_ok-news.news;
      sends = c.in_ok-sends_of.field-0;
      change_is = refl;
      answer_is = refl;
      told = tells_same 0 0 c.new.result.items _ c.in_ok-positions.positions.items c.args.learnt.now c.in_ok-news.news c.new.ensures.items c.in_ok-positions.ensures.items c.in_ok-news.ensures.told;
      least = c.in_ok-news.ensures.next;
      gone = c.in_ok-news.ensures.gone;
      ready = c.in_ok-news.ensures.ready;
      said = c.in_ok-sends_of.ensures;
    })
