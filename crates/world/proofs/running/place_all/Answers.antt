use Rattle.std.proofs.Common.{Err, [], ◌∷◌, ◌++◌, arith, inl, inr, refl, sym, subst, ap, ◌∙◌, length, length-append}
use Rattle.std.proofs.lemmas.List.{append_assoc}
use Rattle.std.proofs.lemmas.Result.{err_from_is_err_and}
use Rattle.paxos.specs.Lists.{Has}
use Rattle.paxos.proofs.Lists.{has_right}
use Rattle.world.specs.Placed.{AreOf, ArePlaced, IsPlaced}
use Rattle.world.specs.declared.seat.Seat.{Seat}
use Rattle.world.proofs.Given.{same_error}
use Rattle.world.proofs.Begun.{of_more, placed_none, placed_more}
use Rattle.world.proofs.running.place_all.Goals as goal

pub overflow_add-number : goal.overflow_add-number
overflow_add-number g c =
    let i = c.loop-records.invariant in
    omega (arith, i.3, i.4, ap (length {A = g.row.R.Denot}) c.in-Some.ensures.steps.0, c.requires.few, c.requires.most)

pub loop-records-init : goal.loop-records-init
loop-records-init g c =
    let none = c.reserve.ensures.items ∙ c.new-seats.ensures.items in
    let all = c.into_iter-records-iterator.ensures.into_iter_gives.0 in (
      tt,
      tt,
      subst (ArePlaced {R = g.row.R.Denot} {A = g.row.A.Denot} g.R.Records.is_kept g.A.Application.has_applied c.args.group c.args.members c.args.names.now) (sym none) (placed_none {R = g.row.R.Denot} {A = g.row.A.Denot} g.R.Records.is_kept g.A.Application.has_applied c.args.group c.args.members c.args.names.now),
      sym (ap (length {A = Seat g.row.R.Denot g.row.A.Denot}) none),
      omega (arith, ap (length {A = Seat g.row.R.Denot g.row.A.Denot}) none, ap (length {A = g.row.R.Denot}) all),
      omega (arith, c.in-Ok.ensures.ok, c.reserve.ensures.len, ap (length {A = g.row.R.Denot}) all, c.len.ensures),
      λ r h. c.requires.unwritten r (subst (λ rs. Has rs r) all h),
      ([], all, subst (λ ss. AreOf {R = g.row.R.Denot} {A = g.row.A.Denot} g.R.Records.fates ss []) (sym none) tt),
    )

pub loop-records-preserved : goal.loop-records-preserved
loop-records-preserved g c =
    let i = c.loop-records.invariant in
    let left = c.in-Some.ensures.steps.0 in
    let grown = ap (length {A = Seat g.row.R.Denot g.row.A.Denot}) c.push_reserved.ensures.items ∙ length-append c.loop-records.seats.items (c.in_ok-place.field-0 ∷ []) in
    let one = subst (λ k. IsPlaced {R = g.row.R.Denot} {A = g.row.A.Denot} g.R.Records.is_kept g.A.Application.has_applied (record { group = c.args.group; member = k; members = c.args.members; names = c.args.names.now }) c.in_ok-place.field-0) (omega (arith, i.3)) c.in_ok-place.ensures.placed in
    let done = i.7.0 in
    let more = done ++ c.in-Some.records ∷ [] in (
      tt,
      tt,
      subst (ArePlaced {R = g.row.R.Denot} {A = g.row.A.Denot} g.R.Records.is_kept g.A.Application.has_applied c.args.group c.args.members c.args.names.now) (sym c.push_reserved.ensures.items) (placed_more {R = g.row.R.Denot} {A = g.row.A.Denot} g.R.Records.is_kept g.A.Application.has_applied c.args.group c.args.members c.args.names.now c.loop-records.seats.items c.in_ok-place.field-0 i.2 one),
      omega (arith, i.3, grown),
      omega (arith, i.4, grown, ap (length {A = g.row.R.Denot}) left),
      omega (arith, i.5, c.push_reserved.ensures.len, c.push_reserved.ensures.capacity, ap (length {A = g.row.R.Denot}) left),
      λ r h. i.6 r (subst (λ rs. Has rs r) (sym left) (inr h)),
      (
        more,
        append_assoc done (c.in-Some.records ∷ []) _ ∙ sym (ap (λ rs. done ++ rs) left) ∙ i.7.1,
        subst (λ ss. AreOf {R = g.row.R.Denot} {A = g.row.A.Denot} g.R.Records.fates ss more) (sym c.push_reserved.ensures.items)
            (of_more {R = g.row.R.Denot} {A = g.row.A.Denot} g.R.Records.fates c.loop-records.seats.items done c.in_ok-place.field-0 c.in-Some.records i.7.2 c.in_ok-place.ensures.store),
      ),
    )

pub returns-in_err-place-clause-refused : goal.returns-in_err-place-clause-refused
returns-in_err-place-clause-refused g c =
    let i = c.loop-records.invariant in
    let r = c.in-Some.records in
    let p = err_from_is_err_and c.from_residual.result c.from_residual.ensures.1 in
    λ h.
    let left = c.in_err-place.ensures.refused (same_error _ _ (ap Err (sym p.2) ∙ sym p.1 ∙ h)) in
    (r, left.0, subst (λ rs. Has rs r) i.7.1 (has_right i.7.0 _ r (subst (λ rs. Has rs r) (sym c.in-Some.ensures.steps.0) (inl refl))), left.1)
