use Rattle.std.proofs.Common.{◌≡◌, false, ◌⊎◌, ⊎_elim, refl, sym, ap, ◌∙◌}
use Rattle.query_tokens.specs.declared.kind.Kind.{Kind}
use Rattle.query_tokens.specs.declared.kind.Kind.TheVariants as kind
use Rattle.query_tokens.specs.Words.{is_name_kind}
use Rattle.query_tokens.proofs.kind.Kind.is_name.Goals as goal

is : (k a : Kind) → is_name_kind a ≡ false → k ≡ a → false ≡ is_name_kind k
is k a lacks e = sym (ap is_name_kind e ∙ lacks)

or : {P : Type 0} (k a : Kind) → is_name_kind a ≡ false → (P → false ≡ is_name_kind k) → (k ≡ a) ⊎ P → false ≡ is_name_kind k
or k a lacks other h = ⊎_elim (is k a lacks) other h

pub returns-in-End : goal.returns-in-End
returns-in-End c =
    let k = c.args.self in
    or k kind.End refl
    (or k kind.Number refl
    (or k kind.String refl
    (or k kind.OpenParen refl
    (or k kind.CloseParen refl
    (or k kind.OpenBracket refl
    (or k kind.CloseBracket refl
    (or k kind.OpenBrace refl
    (or k kind.CloseBrace refl
    (or k kind.Comma refl
    (or k kind.Dollar refl
    (or k kind.Assign refl
    (or k kind.ColonColon refl
    (or k kind.AtSign refl
    (or k kind.Dot refl
    (or k kind.DotDot refl
    (or k kind.Slash refl
    (or k kind.SlashSlash refl
    (or k kind.Star refl
    (or k kind.Plus refl
    (or k kind.Minus refl
    (or k kind.Bar refl
    (or k kind.Equal refl
    (or k kind.NotEqual refl
    (or k kind.Less refl
    (or k kind.LessOrEqual refl
    (or k kind.Greater refl
    (or k kind.GreaterOrEqual refl
    (or k kind.Precedes refl
    (is k kind.Follows refl))))))))))))))))))))))))))))) c.in-End.is
