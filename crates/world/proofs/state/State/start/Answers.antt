use Rattle.std.proofs.Common.{false, ◌≤◌, ◌-◌, IsSome, refl, sym, subst, ap, ◌∙◌}
use Rattle.std.specs.Vec.{with_item}
use Rattle.std.proofs.lemmas.Option.{same_Some}
use Rattle.paxos.specs.Sound.{Sound}
use Rattle.world.specs.Held.{shown}
use Rattle.world.specs.Reached.{Follows, Steps, store_at}
use Rattle.world.specs.Seats.{Did, IsFit, MayStart, store_in}
use Rattle.world.specs.declared.seat.Seat.{Seat}
use Rattle.world.specs.Shown.{setup_of}
use Rattle.world.proofs.Given.{err_so, ok_so}
use Rattle.world.proofs.Happening.{start_so}
use Rattle.world.proofs.Lifting.{moves_so}
use Rattle.world.proofs.Placing.{did_after, fit_after, others_after, read_there, held_after, same_seats, silent_after, stays_after, stores_after}
use Rattle.world.proofs.state.State.start.Goals as goal

pub returns-clause-held : goal.returns-clause-held
returns-clause-held g c =
    let self = c.args.self.now in
    let number = c.args.number in
    let held = c.requires.held in
    let seat = c.index_mut.result.now in
    let there = read_there self.seats.items number seat c.requires.least (subst (λ n. number ≤ n) (sym held.size) c.requires.most) c.index_mut.ensures.value in
    held_after {R = g.row.R.Denot} {A = g.row.A.Denot} g.R.Records.stands g.R.Records.is_kept g.A.Application.has_applied self (record { members = self.members; group = self.group; names = self.names; seats = with_item self.seats (number - 1) c.start.new.self; mail = self.mail; told = self.told }) number seat c.start.new.self
    held c.requires.least there refl refl refl refl (c.start.ensures.seat (setup_of (shown self) number)) held.whole

pub returns-clause-started : goal.returns-clause-started
returns-clause-started g c =
    let self = c.args.self.now in
    let number = c.args.number in
    let held = c.requires.held in
    let seat = c.index_mut.result.now in
    let there = read_there self.seats.items number seat c.requires.least (subst (λ n. number ≤ n) (sym held.size) c.requires.most) c.index_mut.ensures.value in
    ok_so c.start.result _ _ (λ moved s at_s none.
    let same = same_Some seat s (sym there ∙ at_s) in
    subst (λ (x : Seat g.row.R.Denot g.row.A.Denot). Follows {R = g.row.R.Denot} {A = g.row.A.Denot} g.R.Records.stands g.R.Records.is_kept g.A.Application.has_applied (Sound self.members) (Steps g.A.Application.has_applied (shown self) x number (MayStart (Did g.R.Records.failed g.R.Records.fates false (store_at self.seats.items number) (store_at (with_item self.seats (number - 1) c.start.new.self).items number)) self.members number)) (shown self) (shown (record { members = self.members; group = self.group; names = self.names; seats = with_item self.seats (number - 1) c.start.new.self; mail = self.mail; told = self.told }))) same
    (silent_after {R = g.row.R.Denot} {A = g.row.A.Denot} g.R.Records.stands g.R.Records.is_kept g.A.Application.has_applied self (record { members = self.members; group = self.group; names = self.names; seats = with_item self.seats (number - 1) c.start.new.self; mail = self.mail; told = self.told }) number seat c.start.new.self
    held c.requires.least there refl refl refl refl (IsFit self.members) _
    (fit_after {R = g.row.R.Denot} {A = g.row.A.Denot} g.R.Records.stands g.R.Records.is_kept g.A.Application.has_applied self (record { members = self.members; group = self.group; names = self.names; seats = with_item self.seats (number - 1) c.start.new.self; mail = self.mail; told = self.told }) number seat c.start.new.self
    held c.requires.least there refl refl refl refl) refl refl
    (moves_so {R = g.row.R.Denot} {A = g.row.A.Denot} _ _ (start_so _ _ (did_after {R = g.row.R.Denot} {A = g.row.A.Denot} g.R.Records.stands g.R.Records.is_kept g.A.Application.has_applied self (record { members = self.members; group = self.group; names = self.names; seats = with_item self.seats (number - 1) c.start.new.self; mail = self.mail; told = self.told }) number seat c.start.new.self
    held c.requires.least there refl refl refl refl g.R.Records.failed g.R.Records.fates false) self.members number)
    (moved (setup_of (shown self) number) (held.seats number seat there) (ap (λ (x : Seat g.row.R.Denot g.row.A.Denot). x.node) same ∙ none))))) c.start.ensures.moved

pub returns-clause-runs : goal.returns-clause-runs
returns-clause-runs g c = λ s at_s some.
    let self = c.args.self.now in
    let number = c.args.number in
    let held = c.requires.held in
    let seat = c.index_mut.result.now in
    let there = read_there self.seats.items number seat c.requires.least (subst (λ n. number ≤ n) (sym held.size) c.requires.most) c.index_mut.ensures.value in
    let same = same_Some seat s (sym there ∙ at_s) in
    same_seats {R = g.row.R.Denot} {A = g.row.A.Denot} self (record { members = self.members; group = self.group; names = self.names; seats = with_item self.seats (number - 1) c.start.new.self; mail = self.mail; told = self.told }) number seat c.start.new.self c.requires.least there refl refl refl refl refl refl
    (c.start.ensures.runs (subst (λ (x : Seat g.row.R.Denot g.row.A.Denot). IsSome x.node) (sym same) some))

pub returns-clause-refused : goal.returns-clause-refused
returns-clause-refused g c =
    let self = c.args.self.now in
    let number = c.args.number in
    let held = c.requires.held in
    let seat = c.index_mut.result.now in
    let there = read_there self.seats.items number seat c.requires.least (subst (λ n. number ≤ n) (sym held.size) c.requires.most) c.index_mut.ensures.value in
    err_so c.start.result _ _ (λ moved. stays_after {R = g.row.R.Denot} {A = g.row.A.Denot} g.R.Records.stands g.R.Records.is_kept g.A.Application.has_applied self (record { members = self.members; group = self.group; names = self.names; seats = with_item self.seats (number - 1) c.start.new.self; mail = self.mail; told = self.told }) number seat c.start.new.self
    held c.requires.least there refl refl refl refl refl refl moved) c.start.ensures.refused

pub returns-clause-others : goal.returns-clause-others
returns-clause-others g c =
    let self = c.args.self.now in
    let number = c.args.number in
    let held = c.requires.held in
    let seat = c.index_mut.result.now in
    let there = read_there self.seats.items number seat c.requires.least (subst (λ n. number ≤ n) (sym held.size) c.requires.most) c.index_mut.ensures.value in
    others_after {R = g.row.R.Denot} {A = g.row.A.Denot} g.R.Records.stands g.R.Records.is_kept g.A.Application.has_applied self (record { members = self.members; group = self.group; names = self.names; seats = with_item self.seats (number - 1) c.start.new.self; mail = self.mail; told = self.told }) number seat c.start.new.self
    held c.requires.least there refl refl refl refl

pub returns-clause-same : goal.returns-clause-same
returns-clause-same g c = λ s at_s some.
    let self = c.args.self.now in
    let number = c.args.number in
    let held = c.requires.held in
    let seat = c.index_mut.result.now in
    let there = read_there self.seats.items number seat c.requires.least (subst (λ n. number ≤ n) (sym held.size) c.requires.most) c.index_mut.ensures.value in
    let same = same_Some seat s (sym there ∙ at_s) in
    stores_after {R = g.row.R.Denot} {A = g.row.A.Denot} g.R.Records.stands g.R.Records.is_kept g.A.Application.has_applied self (record { members = self.members; group = self.group; names = self.names; seats = with_item self.seats (number - 1) c.start.new.self; mail = self.mail; told = self.told }) number seat c.start.new.self
    held c.requires.least there refl refl refl refl (ap (λ (x : Seat g.row.R.Denot g.row.A.Denot). store_in x) (c.start.ensures.runs (subst (λ (x : Seat g.row.R.Denot g.row.A.Denot). IsSome x.node) (sym same) some)))
