-- Tokens as two queues: of their kinds, and of what some of them say beside that.
use Rattle.std.specs.Prelude.{ℕ, zero, suc, cond, List, [], ◌∷◌, drop}
use Rattle.query_tokens.specs.declared.kind.Kind.{Kind}
use Rattle.query_tokens.specs.declared.token.Token.{Token}
use Rattle.query_tokens.specs.declared.tokens.Content.{Content}
use Rattle.query_tokens.specs.declared.tokens.Mark.{Mark}
use Rattle.query_tokens.specs.Lexing.{mark_token}

abbrev pub with_content : Kind → Content → Token
with_content k c = record { kind = k; text = c.text; number = c.number }

-- a token with the next content
abbrev pub saying : Kind → List Content → Token
saying k [] = mark_token k
saying k (c ∷ cs) = with_content k c

abbrev pub tokens_of : List Mark → List Content → List Token
tokens_of [] cs = []
tokens_of (m ∷ ms) cs = cond m.says_more (saying m.kind cs) (mark_token m.kind) ∷ tokens_of ms (cond m.says_more (drop 1 cs) cs)

-- how many tokens say more than their kind
abbrev pub counted : List Mark → ℕ
counted [] = zero
counted (m ∷ ms) = cond m.says_more (suc (counted ms)) (counted ms)
