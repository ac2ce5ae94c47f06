use Rattle.std.proofs.Common.{◌∷◌, [], arith, append-nil, refl, sym, subst, ap, ◌∙◌, length, map, take, option_map}
use Rattle.std.proofs.lemmas.List.{length-map, take_all}
use Rattle.std.proofs.lemmas.Option.{slice_get-map, slice_get_read}
use Rattle.paxos.specs.Sound.{Sound}
use Rattle.world.specs.Held.{shown}
use Rattle.events.specs.Events.{event_of}
use Rattle.world.specs.Reached.{Follows, HappenedOver, HaveDone, is_cut}
use Rattle.world.specs.Runs.{LeadsTo, Ran}
use Rattle.world.proofs.Going.{ran_more}
use Rattle.world.proofs.Leading.{leads_join, leads_none, leads_one, leads_still}
use Rattle.world.proofs.Straightly.{take_step}
use Rattle.world.proofs.state.State.run.Goals as goal

pub loop-before-init : goal.loop-before-init
loop-before-init g c = (c.requires.held, leads_none {R = g.row.R.Denot} {A = g.row.A.Denot} g.R.Records.stands g.R.Records.is_kept g.A.Application.has_applied (g.A.Application.meaning c.args.self.now.names) (shown c.args.self.now), refl)

pub loop-before-preserved : goal.loop-before-preserved
loop-before-preserved g c =
    let i = c.loop-before.invariant in
    let app = g.A.Application.meaning c.args.self.now.names in
    let old = shown c.args.self.now in
    let mid = shown c.loop-before.self in
    let end = shown c.happen.new.self in
    let events = map event_of c.args.events.now in
    let before = c.loop-before.before in
    let e = c.index-events-before.result in
    let happened = subst (λ ns. Follows {R = g.row.R.Denot} {A = g.row.A.Denot} g.R.Records.stands g.R.Records.is_kept g.A.Application.has_applied (Sound mid.members) (HappenedOver g.R.Records.failed g.R.Records.fates mid.seats end.seats (g.A.Application.meaning ns) (event_of e)) mid end) i.1.names c.in-Ok.ensures.happened in
    let taken = sym (take_step events before (event_of e) (slice_get-map event_of c.args.events.now before ∙ ap (option_map event_of) (slice_get_read c.args.events.now (length c.args.events.now) before e refl c.loop-before-test.true c.index-events-before.is))) in (
      c.happen.ensures.held,
      subst (LeadsTo {R = g.row.R.Denot} {A = g.row.A.Denot} g.R.Records.stands g.R.Records.is_kept g.A.Application.has_applied app old end)
          taken
          (leads_join {R = g.row.R.Denot} {A = g.row.A.Denot} g.R.Records.stands g.R.Records.is_kept g.A.Application.has_applied app old mid end (take before events) (event_of e ∷ []) i.1
          (leads_one {R = g.row.R.Denot} {A = g.row.A.Denot} g.R.Records.stands g.R.Records.is_kept g.A.Application.has_applied app mid end i.0.most (HaveDone g.R.Records.failed g.R.Records.fates (is_cut (event_of e)) mid.seats end.seats) (event_of e) happened)),
      subst (λ es. Ran {R = g.row.R.Denot} {A = g.row.A.Denot} g.R.Records.stands g.R.Records.is_kept g.R.Records.failed g.R.Records.fates g.A.Application.has_applied app es old end) taken (ran_more {R = g.row.R.Denot} {A = g.row.A.Denot} g.R.Records.stands g.R.Records.is_kept g.R.Records.failed g.R.Records.fates g.A.Application.has_applied app (take before events) (event_of e) old mid end i.2 happened),
    )

pub returns-clause-done : goal.returns-clause-done
returns-clause-done g c = subst (LeadsTo {R = g.row.R.Denot} {A = g.row.A.Denot} g.R.Records.stands g.R.Records.is_kept g.A.Application.has_applied (g.A.Application.meaning c.args.self.now.names) (shown c.args.self.now) (shown c.loop-before.self)) (take_all c.loop-before.before (map event_of c.args.events.now) (omega (arith, length-map c.args.events.now event_of, c.loop-before-test.false))) c.loop-before.invariant.1

pub returns-clause-ran : goal.returns-clause-ran
returns-clause-ran g c = subst (λ es. Ran {R = g.row.R.Denot} {A = g.row.A.Denot} g.R.Records.stands g.R.Records.is_kept g.R.Records.failed g.R.Records.fates g.A.Application.has_applied (g.A.Application.meaning c.args.self.now.names) es (shown c.args.self.now) (shown c.loop-before.self)) (take_all c.loop-before.before (map event_of c.args.events.now) (omega (arith, length-map c.args.events.now event_of, c.loop-before-test.false))) c.loop-before.invariant.2

pub returns-in_default-clause-ran_until : goal.returns-in_default-clause-ran_until
returns-in_default-clause-ran_until g c = (omega (arith, c.loop-before-test.true, length-map c.args.events.now event_of), shown c.loop-before.self, c.loop-before.invariant.2, c.in_default.ensures.refused)

pub returns-in_default-clause-refused : goal.returns-in_default-clause-refused
returns-in_default-clause-refused g c =
    let i = c.loop-before.invariant in
    let app = g.A.Application.meaning c.args.self.now.names in
    let old = shown c.args.self.now in
    let mid = shown c.loop-before.self in
    let end = shown c.happen.new.self in
    let events = map event_of c.args.events.now in (
      omega (arith, c.loop-before-test.true, length-map c.args.events.now event_of),
      subst (LeadsTo {R = g.row.R.Denot} {A = g.row.A.Denot} g.R.Records.stands g.R.Records.is_kept g.A.Application.has_applied app old end) (append-nil (take c.loop-before.before events))
          (leads_join {R = g.row.R.Denot} {A = g.row.A.Denot} g.R.Records.stands g.R.Records.is_kept g.A.Application.has_applied app old mid end (take c.loop-before.before events) [] i.1
          (leads_still {R = g.row.R.Denot} {A = g.row.A.Denot} g.R.Records.stands g.R.Records.is_kept g.A.Application.has_applied app mid end i.0.most c.in_default.ensures.refused)),
    )
