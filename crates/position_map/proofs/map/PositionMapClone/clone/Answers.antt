use Rattle.std.proofs.Common.{◌∙◌}
use Rattle.std.proofs.lemmas.List.Elements.{same_from_all_zip}
use Rattle.position_map.proofs.Copying.{kept_copy, same_copy}
use Rattle.position_map.proofs.map.PositionMapClone.clone.Goals as goal

pub invariant_of-result : goal.invariant_of-result
invariant_of-result g c = rw (same_from_all_zip _ _ _ c.in_ok-clone-2.ensures.cases.0 (λ x y e. e)) (kept_copy _ _ _ _ c.in_ok-clone.ensures.cases c.self.invariant)

pub returns : goal.returns
returns g c = record { cases = λ same. same_copy _ _ _ same c.in_ok-clone.ensures.cases ∙ c.self.view_is }
