use Rattle.std.proofs.Common.{[], ◌++◌, List, map, ℕ, subst, sym, ◌∙◌}
use Rattle.events.specs.Events.{event_of}
use Rattle.replicas.proofs.Equal.{agree}
use Rattle.sessions.specs.Applying.{application_of}
use Rattle.sessions.specs.Session.{Means}
use Rattle.world.specs.Reached.{Reached}
use Rattle.world.specs.Runs.{Ran}
use Rattle.replicas.proofs.run_group.Goals as goal

pub returns : goal.returns
returns g c = λ kept.
    let stands = g.R.Records.stands in
    let new = c.in-Ok.group in
    let now = c.run.new.self in
    let later = c.run-2.new.self in
    let first = map event_of c.args.first.now in
    let more = map event_of c.args.more.now in
    let named = c.in-Ok.ensures.names in
    let first_ran = c.in_default.ensures.ran in
    let more_ran = c.in_default-run.ensures.ran in
    let kept_now = c.follows-2.ensures.kept now (application_of now.names) more more_ran kept in
    let kept_new = c.follows.ensures.kept new (application_of new.names) first first_ran kept_now in
    let was = subst (λ (names : List (List ℕ)). Reached {R = g.row.R.Denot} stands Means (application_of names) new []) (sym named) (c.in-Ok.ensures.reached kept_new) in
    let began = c.follows.ensures.ran new [] first c.facts.ensures.few c.facts.ensures.seats was first_ran kept_now in
    let reached = subst (λ (names : List (List ℕ)). Reached {R = g.row.R.Denot} stands Means (application_of names) now first) (sym began.names) began.reached in
    let stay = c.follows-2.ensures.ran now first more c.facts-2.ensures.few c.facts-2.ensures.seats reached more_ran kept in (
      now,
      record {
        new = new;
        members_are = c.in-Ok.ensures.members;
        names_are = named;
        first_ran = subst (λ (names : List (List ℕ)). Ran {R = g.row.R.Denot} stands g.R.Records.is_kept g.R.Records.failed g.R.Records.fates Means (application_of names) first new now) named first_ran;
        more_ran = subst (λ (names : List (List ℕ)). Ran {R = g.row.R.Denot} stands g.R.Records.is_kept g.R.Records.failed g.R.Records.fates Means (application_of names) more now later) (began.names ∙ named) more_ran;
      },
      agree {R = g.row.R.Denot} stands now later (first ++ more) stay,
    )
