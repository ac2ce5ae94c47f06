use Rattle.std.proofs.Common.{refl, sym, subst, ◌∙◌}
use Rattle.ballots.specs.Messages.{window_of}
use Rattle.proposer.specs.Views.{AreRising}
use Rattle.proposer.proofs.Hears.{rising_from, takes_joined, tells_same}
use Rattle.proposer.proofs.proposer.Proposer.draft_promise.Goals as goal

pub news-requires-clause-entries : goal.news-requires-clause-entries
news-requires-clause-entries c =
    subst (AreRising 1) (sym c.in_ok-entries.ensures) (rising_from c.args.window.now.from c.args.window.now.covered c.args.window.now.entries.items c.requires.window.least c.requires.window.most c.requires.window.entries)

pub returns-then-joins-clause-takes : goal.returns-then-joins-clause-takes
returns-then-joins-clause-takes c =
    takes_joined c.self.inside.members c.in-Some.lead c.news.new.self c.args.sender (window_of c.args.window.now) _ _ (sym c.joins.ensures ∙ c.if-joins.true) c.in_ok-news.ensures.same
    (record {
      news = c.in_ok-news.news;
      sends = c.in_ok-sends_of.field-0;
      change_is = refl;
      answer_is = refl;
      told = tells_same c.args.sender c.args.window.now.covered c.in_ok-entries.entries.items c.args.window.now.entries.items c.new.result.items _ c.in_ok-news.news c.in_ok-entries.ensures c.new.ensures.items c.in_ok-news.ensures.told;
      least = c.in_ok-news.ensures.next;
      gone = c.in_ok-news.ensures.gone;
      ready = c.in_ok-news.ensures.ready;
      said = c.in_ok-sends_of.ensures;
    })
