-- What is there is no longer than it may be.
use Rattle.std.proofs.Common.{◌≡◌, [], string_bytes, subst}
use Rattle.values.specs.Limited.{LimitedTerm, added}
use Rattle.values.proofs.Limits.{added-nothing}
use Rattle.values.proofs.limited_text.LimitedText.facts.Goals as goal

pub returns : goal.returns
returns c = subst (λ (l : LimitedTerm). added l [] ≡ l) c.self.view_is (added-nothing c.self.inside.most c.self.inside.is_too_long (string_bytes c.self.inside.text) c.self.invariant)
