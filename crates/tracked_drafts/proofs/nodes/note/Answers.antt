use Rattle.std.proofs.Common.{◌≡◌, ℕ, List, false, sym, subst}
use Rattle.pending.specs.Compatible.{is_among}
use Rattle.tracked_drafts.proofs.Walking.{new-one}
use Rattle.tracked_drafts.proofs.nodes.note.Goals as goal

pub add-requires : goal.add-requires
add-requires c =
    let i = c.id-item.result in
    subst (λ (is : List ℕ). is_among is i ≡ false) (sym c.loop-id.invariant) (new-one c.args.nodes.now.keys c.args.ids.now c.loop-id.id-index i c.loop-id-test.true c.id-item.is c.requires)
