use Rattle.std.proofs.Common.{◌≡◌, ◌⊎◌, []}
use Rattle.std.proofs.lemmas.Result.{IfOk-weaker}
use Rattle.paxos.specs.Records.{Record}
use Rattle.world.specs.Reached.{Reached, ReachedSmoothly}
use Rattle.world.specs.Shown.{World, AreKept}
use Rattle.world.proofs.memory.World+MemRecords+A.in_memory.Goals as goal

-- records in memory are kept
all_kept : {A : Type 0} (w : World Record A) → AreKept (λ s. Unit {0}) w
all_kept w m s h = record { running = λ x e. tt; stopped = λ r n e. tt }

pub returns-clause-reached : goal.returns-clause-reached
returns-clause-reached g c = IfOk-weaker c.new.result (λ w. AreKept (λ s. Unit {0}) w → Reached {R = Record} {A = g.row.A.Denot} (λ s a b. (s ≡ a) ⊎ (s ≡ b)) g.A.Application.has_applied (g.A.Application.meaning c.args.names.now) w [])
    (λ w. Reached {R = Record} {A = g.row.A.Denot} (λ s a b. (s ≡ a) ⊎ (s ≡ b)) g.A.Application.has_applied (g.A.Application.meaning c.args.names.now) w []) (λ w f. f (all_kept w)) c.new.ensures.reached

pub returns-clause-smoothly : goal.returns-clause-smoothly
returns-clause-smoothly g c = IfOk-weaker c.new.result (λ w. AreKept (λ s. Unit {0}) w → ReachedSmoothly {R = Record} {A = g.row.A.Denot} (λ s a b. (s ≡ a) ⊎ (s ≡ b)) g.A.Application.has_applied (g.A.Application.meaning c.args.names.now) w [])
    (λ w. ReachedSmoothly {R = Record} {A = g.row.A.Denot} (λ s a b. (s ≡ a) ⊎ (s ≡ b)) g.A.Application.has_applied (g.A.Application.meaning c.args.names.now) w []) (λ w f. f (all_kept w)) c.new.ensures.smoothly
