use Rattle.std.proofs.Common.{suc, ◌+◌, ◌*◌, arith, refl, sym, ap, ◌∙◌, List, [], ◌∷◌, ◌++◌}
use Rattle.std.proofs.lemmas.List.{append_assoc}
use Rattle.paxos.specs.Examples.{deliveries}
use Rattle.paxos.specs.World.{Event, Begin, Deliver, Submits}
use Rattle.straight_runs.specs.Straight.{opening}
use Rattle.straight_runs.proofs.Smooth.{deliveries_more}
use Rattle.straight_runs.proofs.laws.straight_events.Goals as goal

pub returns-clause-opens : goal.returns-clause-opens
returns-clause-opens c m = refl

pub returns-clause-opening_goes_on : goal.returns-clause-opening_goes_on
returns-clause-opening_goes_on c m j = ap (λ (es : List Event). Begin m ∷ es) (deliveries_more 1 (suc j) j (omega arith))

pub returns-clause-closes : goal.returns-clause-closes
returns-clause-closes c n m q = refl

pub returns-clause-closing_goes_on : goal.returns-clause-closing_goes_on
returns-clause-closing_goes_on c n m q j = ap (λ (es : List Event). opening m (2 * n) ++ Submits m q ∷ es) (deliveries_more (2 * n + 1) (2 * n + suc j) j (omega arith))
    ∙ sym (append_assoc (opening m (2 * n)) (Submits m q ∷ deliveries (2 * n + 1) j) (Deliver (2 * n + suc j) ∷ []))
