-- A page that is at hand.
use Rattle.std.specs.Prelude.{◌≡◌, ℕ, List, Some, nat_eq, IfSome}
use Rattle.std.specs.HashMap.{HashMap, get}
use Rattle.row_pages.specs.declared.pages.AtHand.{AtHand}

-- the page at hand, if there is one, is that of its number
abbrev pub IsAtHand : {S : Type 0} → HashMap ℕ (List ℕ) S → AtHand → Type 0
IsAtHand pages hand = IfSome hand.page (λ p. get nat_eq pages hand.at ≡ Some p.now)
