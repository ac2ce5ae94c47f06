use Rattle.std.proofs.Common.{ap, subst, sym, ◌∙◌}
use Rattle.world.specs.Placed.{ArePlaced}
use Rattle.world.specs.Held.{shown}
use Rattle.world.specs.Tellings.{told_in}
use Rattle.world.proofs.Begun.{begun_run, begun_smoothly, placed_run, placed_seats}
use Rattle.world.proofs.state.State.begin.Goals as goal

pub returns-clause-held : goal.returns-clause-held
returns-clause-held g c = record {
  least = c.count-count.ensures.least;
  most = c.count-count.ensures.most;
  size = c.in_ok-seats.ensures.many ∙ c.requires.many;
  seats = placed_seats {R = g.row.R.Denot} {A = g.row.A.Denot} g.R.Records.stands g.R.Records.is_kept g.A.Application.has_applied (shown {R = g.row.R.Denot} {A = g.row.A.Denot} (record { members = c.args.members; group = 0; names = c.in-Ok.own_names; seats = c.in_ok-seats.seats; mail = c.new-2.result; told = c.new-3.result }))
      (c.in_ok-seats.ensures.many ∙ c.requires.many) (subst (λ ns. ArePlaced {R = g.row.R.Denot} {A = g.row.A.Denot} g.R.Records.is_kept g.A.Application.has_applied 0 c.args.members ns c.in_ok-seats.seats.items) (sym (c.in-Ok.ensures.kept ∙ c.as_slice.ensures.value)) c.in_ok-seats.ensures.placed) (c.new-2.ensures.0 0) (ap told_in c.new-3.ensures.items);
  whole = c.new-2.ensures.1;
}

pub returns-clause-reached : goal.returns-clause-reached
returns-clause-reached g c = begun_run {R = g.row.R.Denot} {A = g.row.A.Denot} g.R.Records.stands g.R.Records.is_kept g.A.Application.has_applied (shown {R = g.row.R.Denot} {A = g.row.A.Denot} (record { members = c.args.members; group = 0; names = c.in-Ok.own_names; seats = c.in_ok-seats.seats; mail = c.new-2.result; told = c.new-3.result }))
    (c.in_ok-seats.ensures.many ∙ c.requires.many) (subst (λ ns. ArePlaced {R = g.row.R.Denot} {A = g.row.A.Denot} g.R.Records.is_kept g.A.Application.has_applied 0 c.args.members ns c.in_ok-seats.seats.items) (sym (c.in-Ok.ensures.kept ∙ c.as_slice.ensures.value)) c.in_ok-seats.ensures.placed) (c.new-2.ensures.0 0) (ap told_in c.new-3.ensures.items) (g.A.Application.meaning c.args.names.now)

pub returns-clause-smoothly : goal.returns-clause-smoothly
returns-clause-smoothly g c = begun_smoothly {R = g.row.R.Denot} {A = g.row.A.Denot} g.R.Records.stands g.R.Records.is_kept g.A.Application.has_applied (shown {R = g.row.R.Denot} {A = g.row.A.Denot} (record { members = c.args.members; group = 0; names = c.in-Ok.own_names; seats = c.in_ok-seats.seats; mail = c.new-2.result; told = c.new-3.result }))
    (c.in_ok-seats.ensures.many ∙ c.requires.many) (subst (λ ns. ArePlaced {R = g.row.R.Denot} {A = g.row.A.Denot} g.R.Records.is_kept g.A.Application.has_applied 0 c.args.members ns c.in_ok-seats.seats.items) (sym (c.in-Ok.ensures.kept ∙ c.as_slice.ensures.value)) c.in_ok-seats.ensures.placed) (c.new-2.ensures.0 0) (ap told_in c.new-3.ensures.items) (g.A.Application.meaning c.args.names.now)

pub returns-clause-run : goal.returns-clause-run
returns-clause-run g c = placed_run {R = g.row.R.Denot} {A = g.row.A.Denot} g.R.Records.stands g.R.Records.is_kept g.A.Application.has_applied (shown {R = g.row.R.Denot} {A = g.row.A.Denot} (record { members = c.args.members; group = 0; names = c.in-Ok.own_names; seats = c.in_ok-seats.seats; mail = c.new-2.result; told = c.new-3.result }))
    (c.in_ok-seats.ensures.many ∙ c.requires.many) (subst (λ ns. ArePlaced {R = g.row.R.Denot} {A = g.row.A.Denot} g.R.Records.is_kept g.A.Application.has_applied 0 c.args.members ns c.in_ok-seats.seats.items) (sym (c.in-Ok.ensures.kept ∙ c.as_slice.ensures.value)) c.in_ok-seats.ensures.placed) (c.new-2.ensures.0 0) (ap told_in c.new-3.ensures.items)
