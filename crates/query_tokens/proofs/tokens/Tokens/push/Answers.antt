use Rattle.std.proofs.Common.{◌∷◌, ◌++◌, [], length, true, false, ◌==◌, refl, sym, ap, ap₂, ◌∙◌}
use Rattle.query_tokens.specs.declared.tokens.Content.{Content}
use Rattle.query_tokens.specs.declared.tokens.Mark.{Mark}
use Rattle.query_tokens.specs.Queues.{counted, tokens_of}
use Rattle.query_tokens.proofs.Queues.{as_counted, counted_plain, one_plain, one_saying, plain_is}
use Rattle.query_tokens.proofs.tokens.Tokens.push.Goals as goal

pub invariant_of-self-then-is_zero : goal.invariant_of-self-then-is_zero
invariant_of-self-then-is_zero c =
    let m : Mark = record { kind = c.args.token.kind; says_more = false } in
    ap counted c.in_ok-push_back.ensures.items ∙ counted_plain c.self.inside.marks.items m refl ∙ c.self.invariant

pub invariant_of-self-else-is_empty : goal.invariant_of-self-else-is_empty
invariant_of-self-else-is_empty c =
    let m : Mark = record { kind = c.args.token.kind; says_more = true } in
    let d : Content = record { text = c.args.token.text; number = c.args.token.number } in
    ap counted c.in_ok-push_back-2.ensures.items
    ∙ as_counted c.self.inside.marks.items c.self.inside.contents.items m d c.self.invariant refl
    ∙ ap length (sym (c.push_back_reserved.ensures.items ∙ ap (λ cs. cs ++ d ∷ []) c.reserve.ensures.items))

pub returns-in_ok-push_back-clause-ok : goal.returns-in_ok-push_back-clause-ok
returns-in_ok-push_back-clause-ok c =
    let m : Mark = record { kind = c.args.token.kind; says_more = false } in
    ap (λ ms. tokens_of ms c.self.inside.contents.items) c.in_ok-push_back.ensures.items
    ∙ one_plain c.self.inside.marks.items c.self.inside.contents.items m refl
    ∙ ap₂ (λ ts t. ts ++ t ∷ []) c.self.view_is
    (plain_is c.args.token.kind c.args.token.text c.args.token.number (sym (ap (λ xs. length xs == 0) c.as_str.ensures) ∙ (sym c.is_empty.ensures ∙ c.if-is_empty.true)) (sym c.is_zero.ensures ∙ c.if-is_zero.true))

pub returns-in_ok-push_back-2-clause-ok : goal.returns-in_ok-push_back-2-clause-ok
returns-in_ok-push_back-2-clause-ok c =
    let m : Mark = record { kind = c.args.token.kind; says_more = true } in
    let d : Content = record { text = c.args.token.text; number = c.args.token.number } in
    ap₂ tokens_of c.in_ok-push_back-2.ensures.items (c.push_back_reserved.ensures.items ∙ ap (λ cs. cs ++ d ∷ []) c.reserve.ensures.items)
    ∙ one_saying c.self.inside.marks.items c.self.inside.contents.items m d c.self.invariant refl
    ∙ ap (λ ts. ts ++ c.args.token ∷ []) c.self.view_is
