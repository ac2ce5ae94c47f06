use Rattle.std.proofs.Common.{◌≤◌, ◌-◌, IsSome, refl, sym, subst, ap, ◌∙◌}
use Rattle.std.specs.Vec.{with_item}
use Rattle.std.proofs.lemmas.Option.{same_Some}
use Rattle.paxos.specs.Sound.{Sound}
use Rattle.world.specs.Held.{shown}
use Rattle.world.specs.Reached.{Follows, Steps}
use Rattle.world.specs.Seats.{IsAny, MayStop}
use Rattle.world.specs.declared.seat.Seat.{Seat}
use Rattle.world.specs.Shown.{setup_of}
use Rattle.world.proofs.Placing.{read_there, held_after, same_seats, silent_after, stores_after}
use Rattle.world.proofs.state.State.stop.Goals as goal

pub stop-requires : goal.stop-requires
stop-requires g c =
    let self = c.args.self.now in
    let number = c.args.number in
    let held = c.requires.held in
    let seat = c.index_mut.result.now in
    let there = read_there self.seats.items number seat c.requires.least (subst (λ n. number ≤ n) (sym held.size) c.requires.most) c.index_mut.ensures.value in
    record { runs = λ x q. ((held.seats number seat there).running x q).1 }

pub returns-clause-held : goal.returns-clause-held
returns-clause-held g c =
    let self = c.args.self.now in
    let number = c.args.number in
    let held = c.requires.held in
    let seat = c.index_mut.result.now in
    let there = read_there self.seats.items number seat c.requires.least (subst (λ n. number ≤ n) (sym held.size) c.requires.most) c.index_mut.ensures.value in
    held_after {R = g.row.R.Denot} {A = g.row.A.Denot} g.R.Records.stands g.R.Records.is_kept g.A.Application.has_applied self (record { members = self.members; group = self.group; names = self.names; seats = with_item self.seats (number - 1) c.stop.new.self; mail = self.mail; told = self.told }) number seat c.stop.new.self
    held c.requires.least there refl refl refl refl (c.stop.ensures.seat (setup_of (shown self) number)) held.whole

pub returns-clause-stopped : goal.returns-clause-stopped
returns-clause-stopped g c = λ s at_s some.
    let self = c.args.self.now in
    let number = c.args.number in
    let held = c.requires.held in
    let seat = c.index_mut.result.now in
    let there = read_there self.seats.items number seat c.requires.least (subst (λ n. number ≤ n) (sym held.size) c.requires.most) c.index_mut.ensures.value in
    let same = same_Some seat s (sym there ∙ at_s) in
    subst (λ (x : Seat g.row.R.Denot g.row.A.Denot). Follows {R = g.row.R.Denot} {A = g.row.A.Denot} g.R.Records.stands g.R.Records.is_kept g.A.Application.has_applied (Sound self.members) (Steps g.A.Application.has_applied (shown self) x number MayStop) (shown self) (shown (record { members = self.members; group = self.group; names = self.names; seats = with_item self.seats (number - 1) c.stop.new.self; mail = self.mail; told = self.told }))) same
    (silent_after {R = g.row.R.Denot} {A = g.row.A.Denot} g.R.Records.stands g.R.Records.is_kept g.A.Application.has_applied self (record { members = self.members; group = self.group; names = self.names; seats = with_item self.seats (number - 1) c.stop.new.self; mail = self.mail; told = self.told }) number seat c.stop.new.self
    held c.requires.least there refl refl refl refl IsAny MayStop (λ before v y sound shows h. tt) refl refl
    (c.stop.ensures.stopped (subst (λ (x : Seat g.row.R.Denot g.row.A.Denot). IsSome x.node) (sym same) some)))

pub returns-clause-none : goal.returns-clause-none
returns-clause-none g c = λ s at_s none.
    let self = c.args.self.now in
    let number = c.args.number in
    let held = c.requires.held in
    let seat = c.index_mut.result.now in
    let there = read_there self.seats.items number seat c.requires.least (subst (λ n. number ≤ n) (sym held.size) c.requires.most) c.index_mut.ensures.value in
    let same = same_Some seat s (sym there ∙ at_s) in
    same_seats {R = g.row.R.Denot} {A = g.row.A.Denot} self (record { members = self.members; group = self.group; names = self.names; seats = with_item self.seats (number - 1) c.stop.new.self; mail = self.mail; told = self.told }) number seat c.stop.new.self c.requires.least there refl refl refl refl refl refl
    (c.stop.ensures.none (ap (λ (x : Seat g.row.R.Denot g.row.A.Denot). x.node) same ∙ none))

pub returns-clause-stores : goal.returns-clause-stores
returns-clause-stores g c =
    let self = c.args.self.now in
    let number = c.args.number in
    let held = c.requires.held in
    let seat = c.index_mut.result.now in
    let there = read_there self.seats.items number seat c.requires.least (subst (λ n. number ≤ n) (sym held.size) c.requires.most) c.index_mut.ensures.value in
    stores_after {R = g.row.R.Denot} {A = g.row.A.Denot} g.R.Records.stands g.R.Records.is_kept g.A.Application.has_applied self (record { members = self.members; group = self.group; names = self.names; seats = with_item self.seats (number - 1) c.stop.new.self; mail = self.mail; told = self.told }) number seat c.stop.new.self
    held c.requires.least there refl refl refl refl c.stop.ensures.store
