use Rattle.std.proofs.Common.{rules, ◌≡◌, ◌+◌, ◌∷◌, ◌++◌, [], List, length, subst, sym, ap, ◌∙◌}
use mathlib.Core.Logic.{∥∥₁_elim}
use Rattle.std.proofs.Props.{props}
use mathlib.Core.List.{IsPrefix}
use Rattle.ballots.specs.declared.value.Value.{Value}
use Rattle.published.proofs.Appended.{one_more}
use Rattle.published.proofs.copies.StateCopy.apply.Goals as goal

pub invariant_of-self-2 : goal.invariant_of-self-2
invariant_of-self-2 g c =
    let names = g.J.Opening.names in
    let mine = c.self.inside.sight in
    let theirs = c.entry.inside.sight in
    let value = c.entry.inside.value in
    let count : c.applied-applied.result ≡ length mine = ∥∥₁_elim c.self.invariant (Prim.hlevel props) (λ h. c.applied-applied.ensures.means names mine h) in
    let begins : IsPrefix mine theirs = search rules in
    let far : length theirs ≡ c.applied-applied.result + 1 = search rules in
    let is : theirs ≡ mine ++ value ∷ [] = one_more mine theirs _ value begins (far ∙ ap (λ n. n + 1) count) c.entry.invariant in
    ∥∥₁_elim c.self.invariant (Prim.hlevel props)
    (λ h. ∣ subst (λ (l : List Value). g.A.Application.has_applied names l c.apply.new.self) (sym (c.again.ensures ∙ is)) (c.in_ok-apply.ensures.applied names mine h) ∣₁)

pub returns : goal.returns
returns g c =
    let mine = c.self.inside.sight in
    let theirs = c.entry.inside.sight in
    let count : c.applied-applied.result ≡ length mine = ∥∥₁_elim c.self.invariant (Prim.hlevel props) (λ h. c.applied-applied.ensures.means g.J.Opening.names mine h) in
    let begins : IsPrefix mine theirs = search rules in
    let far : length theirs ≡ c.applied-applied.result + 1 = search rules in
    rw (← c.self.view_is, ← c.entry.view_is, c.again.ensures) (one_more mine theirs _ c.entry.inside.value begins (far ∙ ap (λ n. n + 1) count) c.entry.invariant)
