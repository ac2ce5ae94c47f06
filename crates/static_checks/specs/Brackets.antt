-- How many brackets may be open at once (our own limit).
use Rattle.std.specs.Prelude.{ℕ, suc, ◌-◌, Bool, true, false, ◌||◌, nat_le, if◌then◌else◌, List, [], ◌∷◌}
use Rattle.query_tokens.specs.declared.kind.Kind.{Kind}
use Rattle.query_tokens.specs.declared.kind.Kind.TheVariants as k
use Rattle.query_tokens.specs.declared.token.Token.{Token}

abbrev pub most_open : ℕ
most_open = 200

abbrev pub opens : Kind → Bool
opens k.OpenParen = true
opens k.OpenBracket = true
opens k.OpenBrace = true
opens _ = false

abbrev pub closes : Kind → Bool
closes k.CloseParen = true
closes k.CloseBracket = true
closes k.CloseBrace = true
closes _ = false

-- how many are open after a token; a closing one of any kind closes the last open one, if there is one
abbrev pub open_after : (open_before : ℕ) → Kind → ℕ
open_after n kind = if opens kind then suc n else (if closes kind then n - 1 else n)

-- where so many are open, the tokens open more than may be (PXQ0001)
abbrev pub nests_too_deep : (open_before : ℕ) → List Token → Bool
nests_too_deep n [] = false
nests_too_deep n (t ∷ ts) = nat_le (suc most_open) (open_after n t.kind) || nests_too_deep (open_after n t.kind) ts
