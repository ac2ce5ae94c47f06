-- What productions are made of. A language says which values the tokens up to a rest are spelt as.
use Rattle.std.specs.Prelude.{◌≡◌, Bool, true, List, [], ◌∷◌, Option, Some, ◌⊎◌}
use Rattle.query_tokens.specs.declared.kind.Kind.{Kind}
use Rattle.query_tokens.specs.declared.token.Token.{Token}

abbrev pub Lang : Type 0 → Type 1
Lang A = List Token → A → List Token → Type 0

-- nothing
abbrev pub pure : {A : Type 0} → A → Lang A
pure a = λ ts b rest. (a ≡ b) × (ts ≡ rest)

infixl 10 ◌>>=◌
-- one after the other
abbrev pub ◌>>=◌ : {A B : Type 0} → Lang A → (A → Lang B) → Lang B
◌>>=◌ {A} P F = λ ts b rest. (a : A) × (mid : List Token) × P ts a mid × F a mid b rest

infixl 10 ◌>>◌
abbrev pub ◌>>◌ : {A B : Type 0} → Lang A → Lang B → Lang B
P >> Q = P >>= (λ _. Q)

infixr 8 ◌∪◌
-- either
abbrev pub ◌∪◌ : {A : Type 0} → Lang A → Lang A → Lang A
P ∪ Q = λ ts a rest. P ts a rest ⊎ Q ts a rest

-- any number of times
abbrev pub Many : {A : Type 0} → Lang A → Lang (List A)
Many P ts [] rest = ts ≡ rest
Many P ts (a ∷ more) rest = (mid : List Token) × P ts a mid × Many P mid more rest

-- a token of this kind
abbrev pub tok : Kind → Lang Token
tok kind = λ ts t rest. (ts ≡ t ∷ rest) × (t.kind ≡ kind)

-- a token that passes a test
abbrev pub such : (Kind → Bool) → Lang Token
such p = λ ts t rest. (ts ≡ t ∷ rest) × (p t.kind ≡ true)

-- a token of a kind that stands for something
abbrev pub stands : {A : Type 0} → (Kind → Option A) → Lang A
stands f = λ ts a rest. (t : Token) × (ts ≡ t ∷ rest) × (f t.kind ≡ Some a)
