use Rattle.std.proofs.Common.{false, ◌≤◌, ◌-◌, ◌++◌, [], OnErr, map, refl, sym, subst, ap, ◌∙◌}
use Rattle.std.specs.Prelude.{Vec}
use Rattle.std.specs.Vec.{with_item}
use Rattle.std.proofs.lemmas.Option.{same_Some}
use Rattle.std.proofs.lemmas.Result.{IfOk-at_ok}
use Rattle.member.specs.Drafts.{IsReady}
use Rattle.node.specs.Nodes.{IsDrafted, Node}
use Rattle.node.specs.declared.draft.Draft.{Draft}
use Rattle.paxos.specs.World.{told_to}
use Rattle.paxos.specs.Sound.{Sound}
use Rattle.world.specs.Held.{shown}
use Rattle.world.specs.Reached.{Follows, Steps, store_at}
use Rattle.world.specs.Seats.{Did, IsAny, IsPlanned, MayStay, MayStep, Moves, sent_by, told_by}
use Rattle.world.specs.Tellings.{told_in}
use Rattle.world.specs.declared.seat.Seat.{Seat}
use Rattle.world.specs.declared.state.State.{State}
use Rattle.world.specs.Shown.{setup_of}
use Rattle.world.proofs.Given.{on_err}
use Rattle.world.proofs.Happening.{step_so}
use Rattle.world.proofs.Lifting.{moves_so}
use Rattle.world.proofs.Placing.{did_after, others_after, read_there, held_after, same_mail, stays_after, took_after, unchanged, whole_mail}
use Rattle.world.proofs.state.State.take.Goals as goal

pub returns-in_err-draft-clause-refused : goal.returns-in_err-draft-clause-refused
returns-in_err-draft-clause-refused g c =
    let self = c.args.self.now in
    let new : State g.row.R.Denot g.row.A.Denot = record { members = self.members; group = self.group; names = self.names; seats = self.seats; mail = c.plan-plan.new.self; told = self.told } in
    on_err c.from_residual.result _ (unchanged {R = g.row.R.Denot} {A = g.row.A.Denot} g.R.Records.stands g.R.Records.is_kept g.A.Application.has_applied (Sound self.members) self new
    (rw (same_mail c.plan-plan.new.self self.mail c.plan-plan.ensures.same self.group) refl))

pub returns-in_err-draft-2-clause-refused : goal.returns-in_err-draft-2-clause-refused
returns-in_err-draft-2-clause-refused g c =
    let self = c.args.self.now in
    let new : State g.row.R.Denot g.row.A.Denot = record { members = self.members; group = self.group; names = self.names; seats = self.seats; mail = c.plan-plan.new.self; told = c.reserve-room.new.self } in
    on_err c.from_residual-in_err-draft-2.result _ (unchanged {R = g.row.R.Denot} {A = g.row.A.Denot} g.R.Records.stands g.R.Records.is_kept g.A.Application.has_applied (Sound self.members) self new
    (rw (same_mail c.plan-plan.new.self self.mail c.plan-plan.ensures.same self.group) (rw (ap told_in c.reserve-room.ensures.items) refl)))

pub commit-made-requires-clause-there : goal.commit-made-requires-clause-there
commit-made-requires-clause-there g c =
    let self = c.args.self.now in
    let held = c.requires.held in
    let there = read_there self.seats.items c.args.number c.index_mut.result.now c.requires.least
    (subst (λ n. c.args.number ≤ n) (sym held.size) c.requires.most) c.index_mut.ensures.value in
    (c.requires.ready c.index_mut.result.now there).there

pub commit-made-requires-clause-ready : goal.commit-made-requires-clause-ready
commit-made-requires-clause-ready g c =
    let self = c.args.self.now in
    let held = c.requires.held in
    let there = read_there self.seats.items c.args.number c.index_mut.result.now c.requires.least
    (subst (λ n. c.args.number ≤ n) (sym held.size) c.requires.most) c.index_mut.ensures.value in
    λ x q. (
      subst (λ (d : Draft). IsReady {R = g.row.R.Denot} x.member d.member) (sym (c.in_ok-draft-2.ensures.ok.0 ∙ c.in_ok-draft.ensures.ok.0)) ((c.requires.ready c.index_mut.result.now there).ready x q),
      ((held.seats c.args.number c.index_mut.result.now there).running x q).1,
    )

pub returns-in_err-plan-clause-held : goal.returns-in_err-plan-clause-held
returns-in_err-plan-clause-held g c =
    let self = c.args.self.now in
    let number = c.args.number in
    let held = c.requires.held in
    let there = read_there self.seats.items number c.index_mut.result.now c.requires.least
    (subst (λ n. number ≤ n) (sym held.size) c.requires.most) c.index_mut.ensures.value in
    held_after {R = g.row.R.Denot} {A = g.row.A.Denot} g.R.Records.stands g.R.Records.is_kept g.A.Application.has_applied self
    (record { members = self.members; group = self.group; names = self.names; seats = with_item self.seats (number - 1) c.commit-made.new.self; mail = c.plan-plan.new.self; told = c.reserve-room.new.self }) number c.index_mut.result.now c.commit-made.new.self
    held c.requires.least there refl refl refl refl (c.commit-made.ensures.seat (setup_of (shown self) number)) (whole_mail c.plan-plan.new.self self.mail c.plan-plan.ensures.same held.whole)

pub returns-in_err-plan-clause-refused : goal.returns-in_err-plan-clause-refused
returns-in_err-plan-clause-refused g c =
    let self = c.args.self.now in
    let number = c.args.number in
    let held = c.requires.held in
    let there = read_there self.seats.items number c.index_mut.result.now c.requires.least
    (subst (λ n. number ≤ n) (sym held.size) c.requires.most) c.index_mut.ensures.value in
    on_err c.from_residual-in_err-plan.result _ (stays_after {R = g.row.R.Denot} {A = g.row.A.Denot} g.R.Records.stands g.R.Records.is_kept g.A.Application.has_applied self
    (record { members = self.members; group = self.group; names = self.names; seats = with_item self.seats (number - 1) c.commit-made.new.self; mail = c.plan-plan.new.self; told = c.reserve-room.new.self }) number c.index_mut.result.now c.commit-made.new.self
    held c.requires.least there refl refl refl refl (same_mail c.plan-plan.new.self self.mail c.plan-plan.ensures.same self.group) (ap told_in c.reserve-room.ensures.items) (subst (λ r. OnErr r (Moves {R = g.row.R.Denot} {A = g.row.A.Denot} g.R.Records.stands g.R.Records.is_kept g.A.Application.has_applied IsAny MayStay c.index_mut.result.now c.commit-made.new.self [] [])) c.in_err-plan.ensures.err c.commit-made.ensures.refused))

pub returns-clause-held : goal.returns-clause-held
returns-clause-held g c =
    let self = c.args.self.now in
    let number = c.args.number in
    let held = c.requires.held in
    let there = read_there self.seats.items number c.index_mut.result.now c.requires.least
    (subst (λ n. number ≤ n) (sym held.size) c.requires.most) c.index_mut.ensures.value in
    held_after {R = g.row.R.Denot} {A = g.row.A.Denot} g.R.Records.stands g.R.Records.is_kept g.A.Application.has_applied self c.note.new.self number c.index_mut.result.now c.commit-made.new.self
    held c.requires.least there c.note.ensures.same.0 c.note.ensures.same.1 c.note.ensures.same.2 (ap (λ (v : Vec _ _). v.items) c.note.ensures.same.3) (c.commit-made.ensures.seat (setup_of (shown self) number)) c.note.ensures.whole

pub returns-clause-taken : goal.returns-clause-taken
returns-clause-taken g c = λ i s at_s planned.
    let self = c.args.self.now in
    let app = g.A.Application.meaning self.names in
    let number = c.args.number in
    let held = c.requires.held in
    let seat = c.index_mut.result.now in
    let there = read_there self.seats.items number seat c.requires.least (subst (λ n. number ≤ n) (sym held.size) c.requires.most) c.index_mut.ensures.value in
    let same = same_Some seat s (sym there ∙ at_s) in
    let own = subst (λ (x : Seat g.row.R.Denot g.row.A.Denot). IsPlanned {R = g.row.R.Denot} {A = g.row.A.Denot} g.A.Application.has_applied app x i c.args.draft) (sym same) planned in
    let made = c.in_ok-plan.made in
    let same_draft = c.in_ok-draft-2.ensures.ok.0 ∙ c.in_ok-draft.ensures.ok.0 in
    subst (λ (x : Seat g.row.R.Denot g.row.A.Denot). Follows {R = g.row.R.Denot} {A = g.row.A.Denot} g.R.Records.stands g.R.Records.is_kept g.A.Application.has_applied (Sound self.members) (Steps g.A.Application.has_applied (shown self) x number (MayStep (Did g.R.Records.failed g.R.Records.fates false (store_at self.seats.items number) (store_at c.note.new.self.seats.items number)) app self.members number i)) (shown self) (shown c.note.new.self)) same
    (took_after {R = g.row.R.Denot} {A = g.row.A.Denot} g.R.Records.stands g.R.Records.is_kept g.A.Application.has_applied self c.note.new.self number seat c.commit-made.new.self
    held c.requires.least there c.note.ensures.same.0 c.note.ensures.same.1 c.note.ensures.same.2 (ap (λ (v : Vec _ _). v.items) c.note.ensures.same.3) (Did g.R.Records.failed g.R.Records.fates false (store_at self.seats.items number) (store_at c.note.new.self.seats.items number)) app i made
    (c.note.ensures.sent ∙ ap (λ xs. xs ++ sent_by self.group self.members number made) (same_mail c.plan-plan.new.self self.mail c.plan-plan.ensures.same self.group))
    (c.note.ensures.told ∙ ap (λ xs. told_in xs ++ map (told_to number) (told_by made)) c.reserve-room.ensures.items)
    (moves_so {R = g.row.R.Denot} {A = g.row.A.Denot} _ _ (step_so _ _ (did_after {R = g.row.R.Denot} {A = g.row.A.Denot} g.R.Records.stands g.R.Records.is_kept g.A.Application.has_applied self c.note.new.self number seat c.commit-made.new.self
    held c.requires.least there c.note.ensures.same.0 c.note.ensures.same.1 c.note.ensures.same.2 (ap (λ (v : Vec _ _). v.items) c.note.ensures.same.3) g.R.Records.failed g.R.Records.fates false) app self.members number i)
    (IfOk-at_ok _ c.in_ok-plan.ensures.ok.1 c.commit-made.ensures.moved (setup_of (shown self) number) i (held.seats number seat there)
    (λ x q. subst (IsDrafted {R = g.row.R.Denot} {A = g.row.A.Denot} g.A.Application.has_applied app i x) (sym same_draft)
    (subst (λ (z : Node g.row.R.Denot g.row.A.Denot). IsDrafted {R = g.row.R.Denot} {A = g.row.A.Denot} g.A.Application.has_applied app i z c.args.draft) (same_Some own.node x (sym own.there ∙ q)) own.drafted)))))

pub returns-clause-others : goal.returns-clause-others
returns-clause-others g c =
    let self = c.args.self.now in
    let number = c.args.number in
    let held = c.requires.held in
    let seat = c.index_mut.result.now in
    let there = read_there self.seats.items number seat c.requires.least (subst (λ n. number ≤ n) (sym held.size) c.requires.most) c.index_mut.ensures.value in
    others_after {R = g.row.R.Denot} {A = g.row.A.Denot} g.R.Records.stands g.R.Records.is_kept g.A.Application.has_applied self c.note.new.self number seat c.commit-made.new.self
    held c.requires.least there c.note.ensures.same.0 c.note.ensures.same.1 c.note.ensures.same.2 (ap (λ (v : Vec _ _). v.items) c.note.ensures.same.3)

pub returns-in_err-plan-clause-others : goal.returns-in_err-plan-clause-others
returns-in_err-plan-clause-others g c =
    let self = c.args.self.now in
    let number = c.args.number in
    let held = c.requires.held in
    let seat = c.index_mut.result.now in
    let there = read_there self.seats.items number seat c.requires.least (subst (λ n. number ≤ n) (sym held.size) c.requires.most) c.index_mut.ensures.value in
    others_after {R = g.row.R.Denot} {A = g.row.A.Denot} g.R.Records.stands g.R.Records.is_kept g.A.Application.has_applied self
    (record { members = self.members; group = self.group; names = self.names; seats = with_item self.seats (number - 1) c.commit-made.new.self; mail = c.plan-plan.new.self; told = c.reserve-room.new.self }) number seat c.commit-made.new.self
    held c.requires.least there refl refl refl refl
