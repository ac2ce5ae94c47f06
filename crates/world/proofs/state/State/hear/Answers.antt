use Rattle.std.proofs.Common.{◌≤◌, ◌-◌, refl, sym, subst}
use Rattle.member.specs.Steps.{Hears}
use Rattle.std.specs.Vec.{with_item}
use Rattle.world.specs.Held.{shown}
use Rattle.world.specs.Posts.{packet_in, packet_of}
use Rattle.world.specs.Seats.{IsPlanned, Skips}
use Rattle.world.specs.Shown.{setup_of}
use Rattle.world.proofs.Given.{if_none, if_some}
use Rattle.world.proofs.Placing.{stores_after, packet_read, planned_after, read_there, held_after, skipped_after, stays_after}
use Rattle.world.proofs.state.State.hear.Goals as goal

pub hear-requires : goal.hear-requires
hear-requires g c =
    let held = c.requires.held in
    let there = read_there c.args.self.now.seats.items c.args.delivery.target c.index_mut.result.now c.requires.least
    (subst (λ n. c.args.delivery.target ≤ n) (sym held.size) c.requires.most) c.index_mut.ensures.value in
    record { runs = λ x q. ((held.seats c.args.delivery.target c.index_mut.result.now there).running x q).1 }

pub returns-clause-held : goal.returns-clause-held
returns-clause-held g c =
    let self = c.args.self.now in
    let number = c.args.delivery.target in
    let held = c.requires.held in
    let there = read_there self.seats.items number c.index_mut.result.now c.requires.least
    (subst (λ n. number ≤ n) (sym held.size) c.requires.most) c.index_mut.ensures.value in
    held_after {R = g.row.R.Denot} {A = g.row.A.Denot} g.R.Records.stands g.R.Records.is_kept g.A.Application.has_applied self
    (record { members = self.members; group = self.group; names = self.names; seats = with_item self.seats (number - 1) c.hear.new.self; mail = self.mail; told = self.told }) number c.index_mut.result.now c.hear.new.self
    held c.requires.least there refl refl refl refl (c.hear.ensures.seat (setup_of (shown self) number)) held.whole

pub returns-clause-stays : goal.returns-clause-stays
returns-clause-stays g c =
    let self = c.args.self.now in
    let number = c.args.delivery.target in
    let held = c.requires.held in
    let there = read_there self.seats.items number c.index_mut.result.now c.requires.least
    (subst (λ n. number ≤ n) (sym held.size) c.requires.most) c.index_mut.ensures.value in
    stays_after {R = g.row.R.Denot} {A = g.row.A.Denot} g.R.Records.stands g.R.Records.is_kept g.A.Application.has_applied self
    (record { members = self.members; group = self.group; names = self.names; seats = with_item self.seats (number - 1) c.hear.new.self; mail = self.mail; told = self.told }) number c.index_mut.result.now c.hear.new.self
    held c.requires.least there refl refl refl refl refl refl c.hear.ensures.stays

pub returns-clause-stores : goal.returns-clause-stores
returns-clause-stores g c =
    let self = c.args.self.now in
    let number = c.args.delivery.target in
    let held = c.requires.held in
    let there = read_there self.seats.items number c.index_mut.result.now c.requires.least
    (subst (λ n. number ≤ n) (sym held.size) c.requires.most) c.index_mut.ensures.value in
    stores_after {R = g.row.R.Denot} {A = g.row.A.Denot} g.R.Records.stands g.R.Records.is_kept g.A.Application.has_applied self
    (record { members = self.members; group = self.group; names = self.names; seats = with_item self.seats (number - 1) c.hear.new.self; mail = self.mail; told = self.told }) number c.index_mut.result.now c.hear.new.self
    held c.requires.least there refl refl refl refl c.hear.ensures.store

pub returns-clause-planned : goal.returns-clause-planned
returns-clause-planned g c =
    let self = c.args.self.now in
    let number = c.args.delivery.target in
    let held = c.requires.held in
    let there = read_there self.seats.items number c.index_mut.result.now c.requires.least
    (subst (λ n. number ≤ n) (sym held.size) c.requires.most) c.index_mut.ensures.value in
    planned_after {R = g.row.R.Denot} {A = g.row.A.Denot} g.R.Records.stands g.R.Records.is_kept g.A.Application.has_applied self
    (record { members = self.members; group = self.group; names = self.names; seats = with_item self.seats (number - 1) c.hear.new.self; mail = self.mail; told = self.told }) number c.index_mut.result.now c.hear.new.self
    held c.requires.least there refl refl refl refl (g.A.Application.meaning self.names) c.hear.result (Hears (packet_of self.group self.mail.messages.items c.args.delivery)) (if_some c.hear.result _ _ (λ d h. subst (λ k. IsPlanned {R = g.row.R.Denot} {A = g.row.A.Denot} g.A.Application.has_applied (g.A.Application.meaning self.names) c.hear.new.self (Hears k) d) (packet_read self.group self.mail.messages.items c.args.delivery c.index.result.now c.requires.there c.index.ensures) (subst (λ bs. IsPlanned {R = g.row.R.Denot} {A = g.row.A.Denot} g.A.Application.has_applied (g.A.Application.meaning self.names) c.hear.new.self (Hears (packet_in self.group (bs, number))) d) c.as_slice-bytes.ensures.value (h (setup_of (shown self) number) (held.seats number c.index_mut.result.now there)))) c.hear.ensures.drafted)

pub returns-clause-skipped : goal.returns-clause-skipped
returns-clause-skipped g c =
    let self = c.args.self.now in
    let number = c.args.delivery.target in
    let held = c.requires.held in
    let there = read_there self.seats.items number c.index_mut.result.now c.requires.least
    (subst (λ n. number ≤ n) (sym held.size) c.requires.most) c.index_mut.ensures.value in
    skipped_after {R = g.row.R.Denot} {A = g.row.A.Denot} g.R.Records.stands g.R.Records.is_kept g.A.Application.has_applied self
    (record { members = self.members; group = self.group; names = self.names; seats = with_item self.seats (number - 1) c.hear.new.self; mail = self.mail; told = self.told }) number c.index_mut.result.now c.hear.new.self
    held c.requires.least there refl refl refl refl c.hear.result (Hears (packet_of self.group self.mail.messages.items c.args.delivery)) (if_none c.hear.result _ _ (λ h. subst (λ k. Skips {R = g.row.R.Denot} {A = g.row.A.Denot} g.A.Application.has_applied c.hear.new.self (Hears k)) (packet_read self.group self.mail.messages.items c.args.delivery c.index.result.now c.requires.there c.index.ensures) (subst (λ bs. Skips {R = g.row.R.Denot} {A = g.row.A.Denot} g.A.Application.has_applied c.hear.new.self (Hears (packet_in self.group (bs, number)))) c.as_slice-bytes.ensures.value (h (setup_of (shown self) number) (held.seats number c.index_mut.result.now there)))) c.hear.ensures.skipped)
