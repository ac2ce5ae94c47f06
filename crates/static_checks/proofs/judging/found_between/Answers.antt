use Rattle.std.proofs.Common.{◌+◌, sym, ap, ◌∙◌}
use Rattle.static_checks.specs.Inside.{between, children, seen}
use Rattle.static_checks.proofs.Codes.{found_after, found_end, found_more, between_ended, between_first}
use Rattle.static_checks.proofs.judging.found_between.Goals as goal

pub returns-in_default : goal.returns-in_default
returns-in_default c =
    found_end c.loop-index.found
    ∙ ap (found_after c.loop-index.found) (sym (between_ended c.loop-index.index c.args.to (children c.args.x.now) c.in_default.ensures.there))
    ∙ c.loop-index.invariant

pub loop-index-preserved : goal.loop-index-preserved
loop-index-preserved c =
    let rest = between (c.loop-index.index + 1) c.args.to (children c.args.x.now) in
    ap (λ f. found_after f rest) (c.seen-found.ensures ∙ ap (seen c.loop-index.found) c.category.ensures)
    ∙ found_more c.loop-index.found c.in-Some.y.now rest
    ∙ ap (found_after c.loop-index.found) (sym (between_first c.loop-index.index c.args.to (children c.args.x.now) c.in-Some.y.now c.loop-index-test.true c.in-Some.ensures.there))
    ∙ c.loop-index.invariant
