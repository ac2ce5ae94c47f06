use Rattle.std.proofs.Common.{refl, drop, ◌∙◌, List, [], ◌∷◌, ◌++◌}
use Rattle.ballots.specs.declared.value.Value.{Value}
use Rattle.published.proofs.Appended.{added, shown_whole}
use Rattle.published.proofs.Begins.{shows}
use Rattle.published.proofs.store.show.Goals as goal

pub publish_as-requires : goal.publish_as-requires
publish_as-requires g c next is =
    let was = c.args.shelf in
    let es = drop was.behind was.log.items in
    shows (λ (values : List Value). values) _ _ was.desk.shown.value next es (is ∙ added (λ values value. values ++ value ∷ []) (λ values value. refl) was.desk.shown.value es)

pub returns : goal.returns
returns g c =
    let was = c.args.shelf in
    let now = c.publish_as.result.0 in
    shown_whole (λ (values : List Value) (value : Value). values ++ value ∷ []) (λ values value. refl) (λ (values : List Value). values) c.publish_as.result.1 was.desk.shown.value now.desk.shown.value (drop was.behind was.log.items) (drop now.behind now.log.items) c.publish_as.ensures.values
