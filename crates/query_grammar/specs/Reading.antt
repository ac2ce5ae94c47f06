-- What readers are made of. A reader takes a value off the tokens, or refuses them.
use Rattle.std.specs.Prelude.{ℕ, zero, suc, Bool, ◌==◌, if◌then◌else◌, List, [], ◌∷◌, ◌++◌, length, Option, Some, None, option_map}
use denote.Enum.Bare.{sameb}
use Rattle.query_tokens.specs.contracts.kind.Kind.{the_type}
use Rattle.query_tokens.specs.declared.kind.Kind.{Kind}
use Rattle.query_tokens.specs.declared.token.Token.{Token}
use Rattle.query_tokens.specs.Cursor.{kind_at}
use Rattle.query_grammar.specs.Loose.{looseness_of}

abbrev pub Reader : Type 0 → Type 0
Reader A = List Token → Option (A × List Token)

abbrev pub and_then : {A B : Type 0} → Option (A × List Token) → (A → Reader B) → Option (B × List Token)
and_then None f = None
and_then (Some p) f = f p.0 p.1

infixl 10 ◌>>=◌
-- one after the other
abbrev pub ◌>>=◌ : {A B : Type 0} → Reader A → (A → Reader B) → Reader B
p >>= f = λ ts. and_then (p ts) f

infixl 10 ◌>>◌
abbrev pub ◌>>◌ : {A B : Type 0} → Reader A → Reader B → Reader B
p >> q = p >>= (λ _. q)

-- nothing
abbrev pub pure : {A : Type 0} → A → Reader A
pure a = λ ts. Some (a, ts)

abbrev pub refuse : {A : Type 0} → Reader A
refuse = λ ts. None

-- the first where the tokens pass the test, else the second
abbrev pub choose : {A : Type 0} → (List Token → Bool) → Reader A → Reader A → Reader A
choose test p q = λ ts. if test ts then p ts else q ts

abbrev pub same_kind : Kind → Kind → Bool
same_kind = sameb the_type

-- whether the token after so many others is of this kind
unfoldable pub sees : ℕ → Kind → List Token → Bool
sees n kind ts = same_kind (kind_at n ts) kind

-- whether the next token stands so loosely
unfoldable pub at_level : ℕ → List Token → Bool
at_level level ts = looseness_of ts == level

-- the next token, if it passes the test
unfoldable pub take_if : (Kind → Bool) → Reader Token
take_if p [] = None
take_if p (t ∷ ts) = if p t.kind then Some (t, ts) else None

-- the next token, if it is of this kind
abbrev pub eat : Kind → Reader Token
eat kind = take_if (λ found. same_kind found kind)

-- what the next token stands for
unfoldable pub take_as : {A : Type 0} → (Kind → Option A) → Reader A
take_as f [] = None
take_as f (t ∷ ts) = option_map (λ a. (a, ts)) (f t.kind)

-- One more after those that were read, while the tokens pass the test. The number bounds the turns: each takes a token, so that
-- the count of the tokens is enough.
unfoldable pub rounds : {A : Type 0} → (List Token → Bool) → Reader A → ℕ → List A → Reader (List A)
rounds goes_on item zero xs ts = Some (xs, ts)
rounds goes_on item (suc n) xs ts = if goes_on ts then and_then (item ts) (λ x. rounds goes_on item n (xs ++ x ∷ [])) else Some (xs, ts)

-- as many as there are while the tokens pass the test
abbrev pub many : {A : Type 0} → (List Token → Bool) → Reader A → Reader (List A)
many goes_on item = λ ts. rounds goes_on item (length ts) [] ts
