-- Three pieces are one.
use Rattle.std.proofs.Common.{◌≡◌, ◌++◌, ◌∷◌, [], ◌∙◌, ap, rules}
use Rattle.std.specs.List.{flat_map}
use Rattle.values.specs.Printing.{escaped}
use Rattle.values.specs.Limited.{LimitedTerm, added}
use Rattle.values.proofs.Limits.{added-three}
use Rattle.values.proofs.print.push_literal.Goals as goal

pub returns : goal.returns
returns c =
    let out = c.args.out.now in
    let body = flat_map escaped c.args.text.now in
    let before : c.push_characters.new.out ≡ added (added out (34 ∷ [])) body = c.in_ok-push_characters.ensures ∙ ap (λ (l : LimitedTerm). added l body) c.in_ok-push.ensures.pushed in
    let whole : added c.push_characters.new.out (34 ∷ []) ≡ added out (34 ∷ (body ++ 34 ∷ [])) =
    ap (λ (l : LimitedTerm). added l (34 ∷ [])) before ∙ added-three out (34 ∷ []) body (34 ∷ []) in
    rw (← whole) (search rules)
