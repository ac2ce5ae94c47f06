use Rattle.std.proofs.Common.{◌≡◌, ◌∙◌, Bool, false, true, nat_le, [], sym, arith, refl}
use Rattle.std.proofs.lemmas.Bool.Decides.{nat_tests}
use Rattle.data_model.specs.Trees.{Trees, height}
use Rattle.tracked_drafts.specs.Tests.{all_but, is_within}
use Rattle.tracked_drafts.proofs.Exits.{height-all, all-height}
use Rattle.apply.proofs.Turns.{turn, ended, stops, within}
use Rattle.apply.proofs.places.are_within.Goals as goal
use Rattle.apply.proofs.places.are_within.Goals.{in-Some+else-not-is_within, in_default}

-- without exceptions
none-within : (ts : Trees) → all_but [] is_within 0 ts ≡ nat_le (height ts) 60
none-within ts = by (nat_le (height ts) 60) refl (all_but [] is_within 0 ts) refl
  where
    by : (a : Bool) → nat_le (height ts) 60 ≡ a → (b : Bool) → all_but [] is_within 0 ts ≡ b → b ≡ a
    by true e true f = refl
    by false e false f = refl
    by true e false f = (let l = height-all 0 ts (grind (arith, nat_tests)) in sym f ∙ l)
    by false e true f = (let l = all-height 0 ts (omega arith) f in let z : nat_le (height ts) 60 ≡ true = grind (arith, nat_tests) in sym z ∙ e)

pub returns-then-not-is_within : goal.returns-then-not-is_within
returns-then-not-is_within c = stops c.in-Some.id is_within c.args.draft.now.draft.after _ (sym c.if-not-is_within.true ∙ c.is_within.ensures) (none-within c.args.draft.now.draft.after)

pub loop-at-preserved : goal.loop-at-preserved
loop-at-preserved c =
    elim c.match-touched_at.branch [
      | in-Some+else-not-is_within w ↦ turn c.args.draft.now.touched c.loop-at.at w.in-Some.id is_within c.args.draft.now.draft.after (sym w.in-Some.is ∙ c.touched_at.ensures) (sym w.if-not-is_within.false ∙ w.is_within.ensures) c.loop-at.invariant
      | in_default w ↦ absurd (within c.args.draft.now.touched c.loop-at.at (let l = c.loop-at-test.true in let e = c.touched_len-at-end.ensures in omega arith) (sym w.in_default.is ∙ c.touched_at.ensures))
    ]

pub returns : goal.returns
returns c =
    let l = c.loop-at-test.false in
    let e = c.touched_len-at-end.ensures in
    sym (ended c.args.draft.now.touched c.loop-at.at is_within c.args.draft.now.draft.after (omega arith) c.loop-at.invariant) ∙ none-within c.args.draft.now.draft.after
