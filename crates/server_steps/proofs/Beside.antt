-- Steps whose sends are held, beside a wire.
use Rattle.std.proofs.Common.{ℕ, Bool, List, [], ◌++◌, refl, sym, ap, subst, ◌∙◌, append-nil, append_assoc}
use Rattle.ballots.specs.declared.value.Value.{Value}
use Rattle.paxos.specs.Application.{Application}
use Rattle.paxos.specs.Records.{Record}
use Rattle.server_steps.specs.Going.{AreAny, AreHeld, Goes, GoesOn, Halted, IsGivenNothing, Server, has_brought_beside, was_given_or_held}
use Rattle.server_steps.specs.Moves.{Deed, given_in}
use Rattle.wires.specs.Wires.{Carried}

module _ {R A D : Type 0} (has_applied : List (List ℕ) → List Value → A → Type 0) (app : List (List ℕ) → Application) (failed : R → ℕ) (eq : D → D → Bool) where
  -- what was given and what is held, where the wire was given nothing
  pub given_beside : {W : Type 0} (was_given : W → List (Carried D) → Type 0) (h : List (Carried D)) (v w : W) → IsGivenNothing was_given v w → (ds : List (Carried D)) → was_given_or_held was_given (h, v) ds → was_given_or_held was_given (h, w) ds
  given_beside was_given h v w f ds g = (g.0, f g.0 g.1, g.2)

  module _ {W : Type 0} (was_given has_brought : W → List (Carried D) → Type 0) where
    -- what was held and more was sent is held beside the wire too
    pub beside : (x y : Server R A D) (h k : List (Carried D)) (u : W) (ds : List (Deed D)) → Goes has_applied app failed eq AreHeld AreAny x y h k ds []
        → Goes has_applied app failed eq (was_given_or_held was_given) (has_brought_beside has_brought) x y (h, u) (k, u) ds []
    beside x y h k u ds goes before come =
        let t = goes before come in
        record {
          moves = t.moves;
          done = t.done;
          are = t.are;
          seat = t.seat;
          place = t.place;
          told = t.told;
          waits = t.waits;
          gives = λ es g. (g.0, g.1, ap (λ l. l ++ given_in t.moves) g.2 ∙ append_assoc g.0 h (given_in t.moves) ∙ ap (λ l. g.0 ++ l) (sym (t.gives h refl)));
          brings = λ es b. subst (has_brought u) (sym (append-nil es)) b;
        }

    pub on_beside : (fs : List (Deed D)) (cs : List (Carried D)) (x y : Server R A D) (h k : List (Carried D)) (u : W) → GoesOn has_applied app failed eq AreHeld AreAny fs cs [] x y h k
        → GoesOn has_applied app failed eq (was_given_or_held was_given) (has_brought_beside has_brought) fs cs [] x y (h, u) (k, u)
    on_beside fs cs x y h k u on = (on.0, on.1, on.2, beside x y h k u (fs ++ on.0) on.3)

    pub halted_beside : (stands : R → Record → Record → Type 0) (is_kept : R → Type 0) (base : R → Record → Type 0) (leaves : R → Record → Record → Type 0) (x z : Server R A D) (h k : List (Carried D)) (u : W)
        → Halted has_applied app failed eq AreHeld AreAny stands is_kept base leaves [] x z h k → Halted has_applied app failed eq (was_given_or_held was_given) (has_brought_beside has_brought) stands is_kept base leaves [] x z (h, u) (k, u)
    halted_beside stands is_kept base leaves x z h k u t = record {
      last = t.last;
      wire = (t.wire, u);
      deeds = t.deeds;
      begins = t.begins;
      goes = beside x t.last h t.wire u t.deeds t.goes;
      halts = t.halts;
      silent = λ ds g. (g.0, g.1, g.2 ∙ ap (λ l. g.0 ++ l) (sym (t.silent t.wire refl)));
      idle = λ ds b. b;
    }
