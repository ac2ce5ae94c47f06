-- What a text is spelt as, by the reader.
use Rattle.std.proofs.Common.{◌≡◌, ℕ, Bool, true, false, if◌then◌else◌, List, Option, Some, None, refl, ap, ◌∙◌}
use Rattle.query_tokens.specs.declared.token.Token.{Token}
use Rattle.query_tokens.specs.Lexing.{tokens}
use Rattle.query_tokens.specs.Reading.{Read, Gives, Fails}
use Rattle.query_grammar.specs.declared.ast.Expr.{Expr}
use Rattle.query_grammar.specs.Reader.{query}
use Rattle.query_grammar.proofs.Sound.{sound_query}
use Rattle.static_checks.specs.Brackets.{nests_too_deep}
use Rattle.parser.proofs.Whole.{whole}
use Rattle.query_laws.specs.Faults.{IsSpelt}

abbrev pub of_read : ℕ → Read (List Token) → Option Expr
of_read level (Gives ts rest) = if nests_too_deep 0 ts then None else query level ts
of_read level (Fails code) = None

shallow : (b : Bool) (o : Option Expr) (x : Expr) → (if b then None else o) ≡ Some x → (b ≡ false) × (o ≡ Some x)
shallow true o x h = absurd (let f : ⊥ = cc in f)
shallow false o x h = (refl, h)

by_read : (level : ℕ) (text : List ℕ) (x : Expr) (r : Read (List Token)) → tokens text ≡ r → of_read level r ≡ Some x → IsSpelt level text x
by_read level text x (Gives ts rest) is h =
    let parts = shallow (nests_too_deep 0 ts) (query level ts) x h in
    record { spelling = ts; is_read = record { read = is ∙ ap (Gives ts) (whole text ts rest is); shallow = parts.0 }; spelt = sound_query level ts x parts.1 }
by_read level text x (Fails code) is h = absurd (let f : ⊥ = cc in f)

pub is_spelt : (level : ℕ) (text : List ℕ) (x : Expr) → of_read level (tokens text) ≡ Some x → IsSpelt level text x
is_spelt level text x h = by_read level text x (tokens text) refl h
