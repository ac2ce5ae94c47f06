use Rattle.std.proofs.Common.{true, ◌≤◌, ◌-◌, refl, sym, subst, ◌∙◌}
use Rattle.std.specs.Vec.{with_item}
use Rattle.std.proofs.lemmas.Option.{same_Some}
use Rattle.node.specs.Nodes.{IsDrafted, Node}
use Rattle.paxos.specs.Sound.{Sound}
use Rattle.world.specs.Held.{shown}
use Rattle.world.specs.Reached.{Follows, Steps, store_at}
use Rattle.world.specs.Seats.{Did, IsAny, IsPlanned, MayStopIn}
use Rattle.world.specs.declared.seat.Seat.{Seat}
use Rattle.world.specs.Shown.{setup_of}
use Rattle.world.proofs.Given.{err_so, ok_so}
use Rattle.world.proofs.Happening.{stop_so}
use Rattle.world.proofs.Lifting.{moves_so}
use Rattle.world.proofs.Placing.{did_after, others_after, read_there, held_after, silent_after, stays_after}
use Rattle.world.proofs.state.State.stop_in.Goals as goal

pub stop_in-requires-clause-there : goal.stop_in-requires-clause-there
stop_in-requires-clause-there g c =
    let self = c.args.self.now in
    let number = c.args.number in
    let held = c.requires.held in
    let seat = c.index_mut.result.now in
    let there = read_there self.seats.items number seat c.requires.least (subst (λ n. number ≤ n) (sym held.size) c.requires.most) c.index_mut.ensures.value in
    (c.requires.ready seat there).there

pub stop_in-requires-clause-ready : goal.stop_in-requires-clause-ready
stop_in-requires-clause-ready g c =
    let self = c.args.self.now in
    let number = c.args.number in
    let held = c.requires.held in
    let seat = c.index_mut.result.now in
    let there = read_there self.seats.items number seat c.requires.least (subst (λ n. number ≤ n) (sym held.size) c.requires.most) c.index_mut.ensures.value in
    λ x q. ((c.requires.ready seat there).ready x q, ((held.seats number seat there).running x q).1)

pub returns-clause-held : goal.returns-clause-held
returns-clause-held g c =
    let self = c.args.self.now in
    let number = c.args.number in
    let held = c.requires.held in
    let seat = c.index_mut.result.now in
    let there = read_there self.seats.items number seat c.requires.least (subst (λ n. number ≤ n) (sym held.size) c.requires.most) c.index_mut.ensures.value in
    held_after {R = g.row.R.Denot} {A = g.row.A.Denot} g.R.Records.stands g.R.Records.is_kept g.A.Application.has_applied self (record { members = self.members; group = self.group; names = self.names; seats = with_item self.seats (number - 1) c.stop_in.new.self; mail = self.mail; told = self.told }) number seat c.stop_in.new.self
    held c.requires.least there refl refl refl refl (c.stop_in.ensures.seat (setup_of (shown self) number)) held.whole

pub returns-clause-stopped : goal.returns-clause-stopped
returns-clause-stopped g c =
    let self = c.args.self.now in
    let number = c.args.number in
    let held = c.requires.held in
    let seat = c.index_mut.result.now in
    let there = read_there self.seats.items number seat c.requires.least (subst (λ n. number ≤ n) (sym held.size) c.requires.most) c.index_mut.ensures.value in
    ok_so c.stop_in.result _ _ (λ moved i s at_s planned.
    let app = g.A.Application.meaning self.names in
    let same = same_Some seat s (sym there ∙ at_s) in
    let own = subst (λ (x : Seat g.row.R.Denot g.row.A.Denot). IsPlanned {R = g.row.R.Denot} {A = g.row.A.Denot} g.A.Application.has_applied app x i c.args.draft) (sym same) planned in
    subst (λ (x : Seat g.row.R.Denot g.row.A.Denot). Follows {R = g.row.R.Denot} {A = g.row.A.Denot} g.R.Records.stands g.R.Records.is_kept g.A.Application.has_applied (Sound self.members) (Steps g.A.Application.has_applied (shown self) x number (MayStopIn (Did g.R.Records.failed g.R.Records.fates true (store_at self.seats.items number) (store_at (with_item self.seats (number - 1) c.stop_in.new.self).items number)) app self.members number i true)) (shown self) (shown (record { members = self.members; group = self.group; names = self.names; seats = with_item self.seats (number - 1) c.stop_in.new.self; mail = self.mail; told = self.told }))) same
    (silent_after {R = g.row.R.Denot} {A = g.row.A.Denot} g.R.Records.stands g.R.Records.is_kept g.A.Application.has_applied self (record { members = self.members; group = self.group; names = self.names; seats = with_item self.seats (number - 1) c.stop_in.new.self; mail = self.mail; told = self.told }) number seat c.stop_in.new.self
    held c.requires.least there refl refl refl refl IsAny (MayStopIn (Did g.R.Records.failed g.R.Records.fates true (store_at self.seats.items number) (store_at (with_item self.seats (number - 1) c.stop_in.new.self).items number)) app self.members number i true)
    (λ before v y sound shows h. tt) refl refl
    (moves_so {R = g.row.R.Denot} {A = g.row.A.Denot} _ _ (stop_so _ _ (did_after {R = g.row.R.Denot} {A = g.row.A.Denot} g.R.Records.stands g.R.Records.is_kept g.A.Application.has_applied self (record { members = self.members; group = self.group; names = self.names; seats = with_item self.seats (number - 1) c.stop_in.new.self; mail = self.mail; told = self.told }) number seat c.stop_in.new.self
    held c.requires.least there refl refl refl refl g.R.Records.failed g.R.Records.fates true) app self.members number i true)
    (moved (setup_of (shown self) number) i (held.seats number seat there)
    (λ x q. subst (λ (z : Node g.row.R.Denot g.row.A.Denot). IsDrafted {R = g.row.R.Denot} {A = g.row.A.Denot} g.A.Application.has_applied app i z c.args.draft) (same_Some own.node x (sym own.there ∙ q)) own.drafted))))) c.stop_in.ensures.moved

pub returns-clause-refused : goal.returns-clause-refused
returns-clause-refused g c =
    let self = c.args.self.now in
    let number = c.args.number in
    let held = c.requires.held in
    let seat = c.index_mut.result.now in
    let there = read_there self.seats.items number seat c.requires.least (subst (λ n. number ≤ n) (sym held.size) c.requires.most) c.index_mut.ensures.value in
    err_so c.stop_in.result _ _ (λ moved. stays_after {R = g.row.R.Denot} {A = g.row.A.Denot} g.R.Records.stands g.R.Records.is_kept g.A.Application.has_applied self (record { members = self.members; group = self.group; names = self.names; seats = with_item self.seats (number - 1) c.stop_in.new.self; mail = self.mail; told = self.told }) number seat c.stop_in.new.self
    held c.requires.least there refl refl refl refl refl refl moved) c.stop_in.ensures.refused

pub returns-clause-others : goal.returns-clause-others
returns-clause-others g c =
    let self = c.args.self.now in
    let number = c.args.number in
    let held = c.requires.held in
    let seat = c.index_mut.result.now in
    let there = read_there self.seats.items number seat c.requires.least (subst (λ n. number ≤ n) (sym held.size) c.requires.most) c.index_mut.ensures.value in
    others_after {R = g.row.R.Denot} {A = g.row.A.Denot} g.R.Records.stands g.R.Records.is_kept g.A.Application.has_applied self (record { members = self.members; group = self.group; names = self.names; seats = with_item self.seats (number - 1) c.stop_in.new.self; mail = self.mail; told = self.told }) number seat c.stop_in.new.self
    held c.requires.least there refl refl refl refl
