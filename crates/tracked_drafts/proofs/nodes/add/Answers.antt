use Rattle.std.proofs.Common.{◌≡◌, ℕ, List, [], ◌∷◌, ◌++◌, false, nat_eq, ap, sym, ◌∙◌, subst, refl}
use Rattle.indexmap.specs.IndexSet.{insert_key}
use Rattle.pending.specs.Compatible.{is_among}
use Rattle.tracked_drafts.proofs.nodes.add.Goals as goal

goes-last : (is : List ℕ) (i : ℕ) → is_among is i ≡ false → insert_key nat_eq is i ≡ is ++ i ∷ []
goes-last is i h = rw h refl

pub returns : goal.returns
returns c = c.in_ok-insert.ensures.keys ∙ goes-last c.args.nodes.now.keys c.number.result (subst (λ (i : ℕ). is_among c.args.nodes.now.keys i ≡ false) (sym c.number.ensures) c.requires) ∙ ap (λ i. c.args.nodes.now.keys ++ i ∷ []) c.number.ensures
