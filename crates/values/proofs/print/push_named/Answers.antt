-- Three pieces are one.
use Rattle.std.proofs.Common.{◌≡◌, ◌++◌, ◌∙◌, ap, codes, rules}
use Rattle.values.specs.Limited.{LimitedTerm, added}
use Rattle.values.proofs.Limits.{added-three}
use Rattle.values.proofs.print.push_named.Goals as goal

pub returns : goal.returns
returns c =
    let word = c.args.word.now in
    let name = c.args.name.now in
    let before : c.push-2.new.self ≡ added (added c.args.out.now word) name = c.in_ok-push-2.ensures.pushed ∙ ap (λ (l : LimitedTerm). added l name) c.in_ok-push.ensures.pushed in
    let whole : added c.push-2.new.self (codes " {") ≡ added c.args.out.now ((word ++ name) ++ codes " {") =
    ap (λ (l : LimitedTerm). added l (codes " {")) before ∙ added-three c.args.out.now word name (codes " {") in
    rw (← whole) (search rules)
