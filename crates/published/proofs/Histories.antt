-- Every sight is a beginning of what is published.
use Rattle.std.proofs.Common.{◌≡◌, List, ◌++◌, refl, sym, subst, ⊎_elim}
use Rattle.ballots.specs.declared.value.Value.{Value}
use Rattle.paxos.specs.Lists.{Has}
use Rattle.published.specs.Histories.{Happened, Opens, Hands, Shows, Sees, Passes}
use Rattle.published.specs.Stores.{Store}
use Rattle.sight.proofs.Beginnings.{begins_itself, begins_through}
use Rattle.sight.specs.Sights.{IsSight}

pub seen_published : {store : Store} {seen : List (List Value)} → Happened store seen → (sight : List Value) → Has seen sight → IsSight sight store.published
seen_published (Opens values) sight has = absurd has
seen_published (Hands old new seen h on) sight has = subst (λ (z : List Value). IsSight sight z) (sym on.0) (seen_published h sight has)
seen_published (Shows old new seen h on) sight has =
    subst (λ (z : List Value). IsSight sight z) (sym on.0) (begins_through sight old.published (old.published ++ old.pending) (seen_published h sight has) (old.pending, refl))
seen_published (Sees store seen h) sight has =
    ⊎_elim (λ (e : store.published ≡ sight). subst (λ (z : List Value). IsSight z store.published) e (begins_itself store.published)) (λ (later : Has seen sight). seen_published h sight later) has
seen_published (Passes again store seen h was) sight has =
    ⊎_elim (λ (e : again ≡ sight). subst (λ (z : List Value). IsSight z store.published) e (seen_published h again was)) (λ (later : Has seen sight). seen_published h sight later) has
