-- The tokens that are left.
use Rattle.std.specs.Prelude.{ℕ, zero, suc, List, [], ◌∷◌}
use Rattle.query_tokens.specs.declared.kind.Kind.{Kind}
use Rattle.query_tokens.specs.declared.kind.Kind.TheVariants.{End}
use Rattle.query_tokens.specs.declared.token.Token.{Token}

-- the kind of the token after so many others; none is left after the last
abbrev pub kind_at : ℕ → List Token → Kind
kind_at n [] = End
kind_at zero (t ∷ ts) = t.kind
kind_at (suc n) (t ∷ ts) = kind_at n ts
