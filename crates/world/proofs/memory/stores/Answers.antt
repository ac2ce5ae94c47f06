use Rattle.std.proofs.Common.{◌≡◌, ◌∷◌, [], arith, sym, subst, ap, ◌∙◌, ⊎_elim, length, length-append}
use Rattle.paxos.specs.Lists.{Has}
use Rattle.paxos.specs.Records.{Record}
use Rattle.paxos.proofs.Lists.{has_cases}
use Rattle.world.proofs.memory.stores.Goals as goal

pub loop-before-preserved : goal.loop-before-preserved
loop-before-preserved c =
    let i = c.loop-before.invariant in
    let grown = c.in_ok-push.ensures.items in
    let many = ap (length {A = Record}) grown ∙ length-append c.loop-before.stores.items (c.new.result ∷ []) in (
      omega (arith, i.0, many),
      λ r h. ⊎_elim
          (λ (o : Has c.loop-before.stores.items r). i.1 r o)
          (λ (o : Has (c.new.result ∷ []) r). ⊎_elim (λ (e : c.new.result ≡ r). sym e ∙ c.new.ensures.empty) (λ (n : ⊥). absurd n) o)
          (has_cases c.loop-before.stores.items (c.new.result ∷ []) r (subst (λ rs. Has rs r) grown h)),
    )
