use Rattle.std.proofs.Common.{◌≡◌, ◌+◌, length, arith, refl, subst}
use Rattle.ballots.specs.Terms.{Request as RequestTerm}
use Rattle.ballots.specs.declared.value.Value.TheVariants.{Request}
use Rattle.paxq_run.specs.Sites.{IsLast}
use Rattle.paxq_run.proofs.Sites.{shows_next}
use Rattle.paxq_run.proofs.lone.take_request.Goals as goal

pub returns : goal.returns
returns g c = λ values shows.
    (let one : c.in_ok-shown.shown ≡ length c.args.site.now.store.published + 1 = (let a = c.saturating_sub.ensures in let b = c.if-saturating_sub-ne1.false in let d = c.published-before.ensures in omega (arith, a, b, d)) in
    shows_next g.J.Opening.names values c.args.site.now c.deliver.new.site c.show.new.site c.args.reader.now.sight c.show.new.reader.sight (Request c.args.request) c.in_ok-shown.shown shows c.in_ok-deliver.ensures c.in_ok-shown.ensures.shown
    c.in_ok-shown.ensures.node c.in_ok-shown.ensures.count c.in_ok-shown.ensures.told one
    (λ u r. subst (λ (q : RequestTerm). IsLast c.show.new.site u c.in_ok-shown.shown (Request q)) c.in_ok-clone.ensures.cases (c.if-not-is_last.ensures refl u r)))
