-- How a server goes on, by one move or by several.
use Rattle.std.proofs.Common.{◌≡◌, ℕ, ◌+◌, arith, Bool, true, false, List, [], ◌∷◌, ◌++◌, refl, sym, ap, subst, ◌∙◌, ◌⊎◌, ⊎_elim, inl, inr, append-nil, append_assoc, take, Option, Some}
use Rattle.std.specs.Prelude.{Result, Ok, Err, IsErr}
use Rattle.std.proofs.lemmas.Grind.{flat_map-append}
use Rattle.std.proofs.lemmas.List.{map-append}
use Rattle.ballots.specs.declared.value.Value.{Value}
use Rattle.member.specs.declared.input.Tick.{Tick}
use Rattle.member.specs.declared.input.Tick.TheVariants.{Begin, CatchUp, Resend}
use Rattle.paxos.proofs.Lists.{has_cases, has_left, has_right}
use Rattle.paxos.specs.Application.{Application}
use Rattle.paxos.specs.Lists.{Has}
use Rattle.paxos.specs.Records.{Record}
use Rattle.server_steps.proofs.Giving.{given_both, given_none}
use Rattle.server_steps.specs.Held.{carried}
use Rattle.server_steps.specs.Leading.{is_told}
use Rattle.server_steps.specs.Going.{Goes, GoesOn, Halted, HaveCome, Passed, Server, Went, WentBy}
use Rattle.server_steps.specs.Moves.{AreDone, AreTurns, BeginsIfTold, Deed, Halts, IsDone, Move, Place, Takes, Ticked, Ticks, Took, TookAgain, came_by, came_with, deeds_of, given_in, no_turn, one_more, seat_after}
use Rattle.server_steps.specs.declared.fault.ServeFault.{ServeFault}
use Rattle.server_steps.specs.declared.seat.Seat.{Seat}
use Rattle.server_steps.specs.declared.waiting.Held.{Held}
use Rattle.wires.specs.Wires.{Carried, carried_in}
use Rattle.wires.specs.declared.wire.Arrival.{Arrival}
use Rattle.wires.specs.declared.wire.Unheard.{Unheard}

-- no ballot begins with a datagram that is taken, or when the node asks for what it lacks
no_took : {D : Type 0} {told : Bool} (d : Carried D) → BeginsIfTold told (Took d ∷ [])
no_took d (inl is) = absurd (let e = is in cc)
no_took d (inr none) = absurd none

no_again : {D : Type 0} {told : Bool} (d : Carried D) → BeginsIfTold told (TookAgain d ∷ [])
no_again d (inl is) = absurd (let e = is in cc)
no_again d (inr none) = absurd none

pub no_begin : {D : Type 0} {told : Bool} (t : Tick) → (t ≡ Begin → ⊥) → BeginsIfTold {D = D} told (Ticked t ∷ [])
no_begin t not (inl is) = absurd (not (let e = is in cc))
no_begin t not (inr none) = absurd none

-- turns, and then turns
pub turns_both : {D : Type 0} (n m : ℕ) (ds es : List (Deed D)) → AreTurns n ds → AreTurns m es → AreTurns (n + m) (ds ++ es)
turns_both n m ds es first no_turn = subst (λ i. AreTurns i (ds ++ [])) (omega arith) (subst (λ l. AreTurns n l) (sym (append-nil ds)) first)
turns_both n m ds es first (one_more k fs gs before turn) =
    subst (λ l. AreTurns (n + m) l) (append_assoc ds fs gs) (subst (λ i. AreTurns i ((ds ++ fs) ++ gs)) (omega arith) (one_more (n + k) (ds ++ fs) gs (turns_both n k ds fs first before) turn))

-- a datagram is taken as it comes, and then no more
pub taken_turn : {D : Type 0} (d : Carried D) (rest : List (Deed D)) → came_by (Took d ∷ rest) ≡ d ∷ [] → AreTurns 1 (Took d ∷ rest)
taken_turn d rest is = one_more 0 [] (Took d ∷ rest) no_turn (rest, tail_same is, inl (d, refl))
  where
    tail_same : {T : Type 0} {x y : T} {xs ys : List T} → x ∷ xs ≡ y ∷ ys → xs ≡ ys
    tail_same e = cc

-- a wait in vain
pub waited_turn : {D : Type 0} (rest : List (Deed D)) → came_by rest ≡ [] → AreTurns {D = D} 1 (Ticked Resend ∷ Ticked CatchUp ∷ rest)
waited_turn rest is = one_more 0 [] (Ticked Resend ∷ Ticked CatchUp ∷ rest) no_turn (rest, is, inr refl)

module _ {R A D : Type 0} (has_applied : List (List ℕ) → List Value → A → Type 0) (app : List (List ℕ) → Application) (failed : R → ℕ) (eq : D → D → Bool) where
  done_both : (p : Place D) (before : List (Carried D)) (x : Seat R A) (ms ns : List (Move R A D))
      → AreDone has_applied app failed eq p before x ms → AreDone has_applied app failed eq p (before ++ came_by (deeds_of ms)) (seat_after x ms) ns → AreDone has_applied app failed eq p before x (ms ++ ns)
  done_both p before x [] ns none then = subst (λ b. AreDone has_applied app failed eq p b x ns) (append-nil before) then
  done_both p before x (m ∷ ms) ns first then = (
    first.0,
    done_both p (before ++ came_with m.deed) m.after ms ns first.1 (subst (λ b. AreDone has_applied app failed eq p b (seat_after m.after ms) ns) (sym (append_assoc before (came_with m.deed) (came_by (deeds_of ms)))) then),
  )

  after_both : (x : Seat R A) (ms ns : List (Move R A D)) → seat_after x (ms ++ ns) ≡ seat_after (seat_after x ms) ns
  after_both x [] ns = refl
  after_both x (m ∷ ms) ns = after_both m.after ms ns

  module _ {W : Type 0} (was_given has_brought : W → List (Carried D) → Type 0) where
    -- nothing was done
    pub goes_none : (x : Server R A D) (v : W) → Goes has_applied app failed eq was_given has_brought x x v v [] []
    goes_none x v before h = record {
      moves = [];
      done = tt;
      are = refl;
      seat = refl;
      place = refl;
      told = refl;
      waits = λ d has. has_left before [] d (h d has);
      gives = given_none was_given v;
      brings = given_none has_brought v;
    }

    -- the one, and then the other
    pub goes_both : (x y z : Server R A D) (v w u : W) (ds es : List (Deed D)) (bs cs : List (Carried D))
        → Goes has_applied app failed eq was_given has_brought x y v w ds bs → Goes has_applied app failed eq was_given has_brought y z w u es cs → Goes has_applied app failed eq was_given has_brought x z v u (ds ++ es) (bs ++ cs)
    goes_both x y z v w u ds es bs cs first second before h =
        let one = first before h in
        let two = second (before ++ came_by ds) one.waits in
        let start : AreDone has_applied app failed eq x.place (before ++ came_by (deeds_of one.moves)) (seat_after x.seat one.moves) two.moves =
        subst (λ l. AreDone has_applied app failed eq x.place (before ++ came_by l) (seat_after x.seat one.moves) two.moves) (sym one.are)
        (subst (λ s. AreDone has_applied app failed eq x.place (before ++ came_by ds) s two.moves) (sym one.seat)
        (subst (λ p. AreDone has_applied app failed eq p (before ++ came_by ds) y.seat two.moves) one.place two.done)) in
        record {
          moves = one.moves ++ two.moves;
          done = done_both x.place before x.seat one.moves two.moves one.done start;
          are = map-append (λ (m : Move R A D). m.deed) one.moves two.moves ∙ ap (λ l. l ++ deeds_of two.moves) one.are ∙ ap (λ l. ds ++ l) two.are;
          seat = after_both x.seat one.moves two.moves ∙ ap (λ s. seat_after s two.moves) one.seat ∙ two.seat;
          place = two.place ∙ one.place;
          told = two.told ∙ one.told;
          waits = λ d has. subst (λ b. Has b d) (append_assoc before (came_by ds) (came_by es) ∙ ap (λ l. before ++ l) (sym (flat_map-append came_with ds es))) (two.waits d has);
          gives = given_both was_given v w u (given_in one.moves) (given_in two.moves) (given_in (one.moves ++ two.moves)) (flat_map-append (λ (m : Move R A D). m.sent) one.moves two.moves) one.gives two.gives;
          brings = given_both has_brought v w u bs cs (bs ++ cs) refl one.brings two.brings;
        }

    -- one move, after which no more waits than what came
    goes_once : (x y : Server R A D) (v w : W) (m : Move R A D)
        → ((before : List (Carried D)) → HaveCome before x.waiting → IsDone has_applied app failed eq x.place before x.seat m)
        → m.after ≡ y.seat → y.place ≡ x.place → is_told y.word ≡ is_told x.word → ((d : Carried D) → Has y.waiting d → Has x.waiting d ⊎ Has (came_with m.deed) d)
        → ((ds : List (Carried D)) → was_given v ds → was_given w (ds ++ m.sent)) → ((ds : List (Carried D)) → has_brought v ds → has_brought w ds)
        → Goes has_applied app failed eq was_given has_brought x y v w (m.deed ∷ []) []
    goes_once x y v w m is seat place told waits gives brings before h = record {
      moves = m ∷ [];
      done = (is before h, tt);
      are = refl;
      seat = seat;
      place = place;
      told = told;
      waits = λ d has. subst (λ l. Has (before ++ l) d) (sym (append-nil (came_with m.deed))) (⊎_elim (λ old. has_left before (came_with m.deed) d (h d old)) (λ new. has_right before (came_with m.deed) d new) (waits d has));
      gives = λ ds g. subst (λ s. was_given w (ds ++ s)) (sym (append-nil m.sent)) (gives ds g);
      brings = λ ds b. subst (has_brought w) (sym (append-nil ds)) (brings ds b);
    }

    -- a datagram was taken as it came
    pub goes_taking : (x y : Server R A D) (v w : W) (d : Carried D) (sent : List (Carried D)) → Takes has_applied app failed eq x.place d x.seat y.seat sent
        → y.place ≡ x.place → is_told y.word ≡ is_told x.word → ((e : Carried D) → Has y.waiting e → Has x.waiting e ⊎ (d ≡ e))
        → ((ds : List (Carried D)) → was_given v ds → was_given w (ds ++ sent)) → ((ds : List (Carried D)) → has_brought v ds → has_brought w ds)
        → GoesOn has_applied app failed eq was_given has_brought (Took d ∷ []) (d ∷ []) [] x y v w
    goes_taking x y v w d sent takes place told waits gives brings =
        ([], refl, no_took d, goes_once x y v w (record { deed = Took d; after = y.seat; sent = sent }) (λ before h. takes) refl place told (λ e has. ⊎_elim inl (λ is. inr (inl is)) (waits e has)) gives brings)

    -- one that had come was taken again
    pub goes_again : (x y : Server R A D) (v w : W) (d : Carried D) (sent : List (Carried D)) → Has x.waiting d → Takes has_applied app failed eq x.place d x.seat y.seat sent
        → y.place ≡ x.place → is_told y.word ≡ is_told x.word → ((e : Carried D) → Has y.waiting e → Has x.waiting e)
        → ((ds : List (Carried D)) → was_given v ds → was_given w (ds ++ sent)) → ((ds : List (Carried D)) → has_brought v ds → has_brought w ds)
        → GoesOn has_applied app failed eq was_given has_brought [] [] [] x y v w
    goes_again x y v w d sent has takes place told waits gives brings =
        (TookAgain d ∷ [], refl, no_again d, goes_once x y v w (record { deed = TookAgain d; after = y.seat; sent = sent }) (λ before h. (h d has, takes)) refl place told (λ e more. inl (waits e more)) gives brings)

    -- the same of one that is held
    pub goes_again_with : (x y : Server R A D) (v w : W) (h : Held D) (bytes : List ℕ) (sent : List (Carried D)) → bytes ≡ h.bytes.items → Has x.waiting (carried h)
        → Takes has_applied app failed eq x.place (record { end = h.end; peer = h.from; bytes = bytes }) x.seat y.seat sent
        → y.place ≡ x.place → is_told y.word ≡ is_told x.word → ((e : Carried D) → Has y.waiting e → Has x.waiting e)
        → ((ds : List (Carried D)) → was_given v ds → was_given w (ds ++ sent)) → ((ds : List (Carried D)) → has_brought v ds → has_brought w ds)
        → GoesOn has_applied app failed eq was_given has_brought [] [] [] x y v w
    goes_again_with x y v w h bytes sent is has takes place told waits gives brings =
        goes_again x y v w (carried h) sent has (subst (λ bs. Takes has_applied app failed eq x.place (record { end = h.end; peer = h.from; bytes = bs }) x.seat y.seat sent) is takes) place told waits gives brings

    -- its node ticked
    pub goes_ticking : (x y : Server R A D) (v w : W) (t : Tick) (sent : List (Carried D)) → Ticks has_applied app failed x.place t x.seat y.seat sent
        → y.place ≡ x.place → is_told y.word ≡ is_told x.word → y.waiting ≡ x.waiting
        → ((ds : List (Carried D)) → was_given v ds → was_given w (ds ++ sent)) → ((ds : List (Carried D)) → has_brought v ds → has_brought w ds)
        → Goes has_applied app failed eq was_given has_brought x y v w (Ticked t ∷ []) []
    goes_ticking x y v w t sent ticks place told same gives brings =
        goes_once x y v w (record { deed = Ticked t; after = y.seat; sent = sent }) (λ before h. ticks) refl place told (λ e has. inl (subst (λ ds. Has ds e) same has)) gives brings

    -- just that was done, and nothing came
    pub on_just : (ds : List (Deed D)) (bs : List (Carried D)) (x y : Server R A D) (v w : W) → came_by ds ≡ [] → BeginsIfTold (is_told x.word) ds → Goes has_applied app failed eq was_given has_brought x y v w ds bs → GoesOn has_applied app failed eq was_given has_brought ds [] bs x y v w
    on_just ds bs x y v w none begins goes =
        ([], ap came_by (append-nil ds) ∙ none, subst (BeginsIfTold (is_told x.word)) (sym (append-nil ds)) begins, subst (λ l. Goes has_applied app failed eq was_given has_brought x y v w l bs) (sym (append-nil ds)) goes)

    -- nothing was done
    pub on_none : (x : Server R A D) (v : W) → GoesOn has_applied app failed eq was_given has_brought [] [] [] x x v v
    on_none x v = on_just [] [] x x v v refl (λ has. absurd has) (goes_none x v)

    -- it was told to lead, or not, as before
    pub told_so : (x y : Server R A D) (v w : W) (ds : List (Deed D)) (bs : List (Carried D)) → Goes has_applied app failed eq was_given has_brought x y v w ds bs → is_told y.word ≡ is_told x.word
    told_so x y v w ds bs goes = (goes x.waiting (λ d has. has)).told

    pub begins_both : (x y : Server R A D) (v w : W) (ds es : List (Deed D)) (bs : List (Carried D)) → Goes has_applied app failed eq was_given has_brought x y v w ds bs → BeginsIfTold (is_told x.word) ds → BeginsIfTold (is_told y.word) es → BeginsIfTold (is_told x.word) (ds ++ es)
    begins_both x y v w ds es bs goes first second has = ⊎_elim first (λ then. sym (told_so x y v w ds bs goes) ∙ second then) (has_cases ds es (Ticked Begin) has)

    -- the one, and then the other
    pub on_both : (fs : List (Deed D)) (cs ds bs es : List (Carried D)) (x y z : Server R A D) (v w u : W)
        → GoesOn has_applied app failed eq was_given has_brought fs cs bs x y v w → GoesOn has_applied app failed eq was_given has_brought [] ds es y z w u → GoesOn has_applied app failed eq was_given has_brought fs (cs ++ ds) (bs ++ es) x z v u
    on_both fs cs ds bs es x y z v w u first second =
        let line : (fs ++ first.0) ++ second.0 ≡ fs ++ (first.0 ++ second.0) = append_assoc fs first.0 second.0 in (
          first.0 ++ second.0,
          ap came_by (sym line) ∙ flat_map-append came_with (fs ++ first.0) second.0 ∙ ap (λ l. l ++ came_by second.0) first.1 ∙ ap (λ l. cs ++ l) second.1,
          subst (BeginsIfTold (is_told x.word)) line (begins_both x y v w (fs ++ first.0) second.0 bs first.3 first.2 second.2),
          subst (λ l. Goes has_applied app failed eq was_given has_brought x z v u l (bs ++ es)) line (goes_both x y z v w u (fs ++ first.0) second.0 bs es first.3 second.3),
        )

    -- no matter by which deed first
    pub on_any : (fs : List (Deed D)) (cs bs : List (Carried D)) (x y : Server R A D) (v w : W) → GoesOn has_applied app failed eq was_given has_brought fs cs bs x y v w → GoesOn has_applied app failed eq was_given has_brought [] cs bs x y v w
    on_any fs cs bs x y v w h = (fs ++ h.0, h.1, h.2, h.3)

    -- some of what waited waits no more
    pub on_dropping : (x y : Server R A D) (v : W) → y.seat ≡ x.seat → y.place ≡ x.place → is_told y.word ≡ is_told x.word → ((e : Carried D) → Has y.waiting e → Has x.waiting e) → GoesOn has_applied app failed eq was_given has_brought [] [] [] x y v v
    on_dropping x y v seat place told waits = (
      [],
      refl,
      λ has. absurd has,
      λ before h. record {
        moves = [];
        done = tt;
        are = refl;
        seat = sym seat;
        place = place;
        told = told;
        waits = λ d has. has_left before [] d (h d (waits d has));
        gives = given_none was_given v;
        brings = given_none has_brought v;
      },
    )

    -- what the wire brought, where that is one datagram with these bytes
    pub brought_one : (w u : W) (r : Result (Option (Arrival D)) Unheard) (a : Arrival D) (buffer bytes : List ℕ) → r ≡ Ok (Some a) → bytes ≡ take a.length buffer
        → ((ds : List (Carried D)) → has_brought w ds → has_brought u (ds ++ carried_in r buffer))
        → (ds : List (Carried D)) → has_brought w ds → has_brought u (ds ++ record { end = a.end; peer = a.from; bytes = bytes } ∷ [])
    brought_one w u r a buffer bytes is same brings ds h =
        subst (λ bs. has_brought u (ds ++ record { end = a.end; peer = a.from; bytes = bs } ∷ [])) (sym same)
        (subst (λ cs. has_brought u (ds ++ cs)) (ap (λ q. carried_in q buffer) is) (brings ds h))

    -- the wire brought nothing
    pub brought_none : (w u : W) (r : Result (Option (Arrival D)) Unheard) (buffer : List ℕ) → carried_in r buffer ≡ [] → ((ds : List (Carried D)) → has_brought w ds → has_brought u (ds ++ carried_in r buffer))
        → (ds : List (Carried D)) → has_brought w ds → has_brought u (ds ++ [])
    brought_none w u r buffer none brings ds h = subst (λ cs. has_brought u (ds ++ cs)) none (brings ds h)

    -- the wire brought something, and nothing was done
    pub goes_hearing : (x : Server R A D) (v w : W) (bs : List (Carried D)) → ((ds : List (Carried D)) → was_given v ds → was_given w ds) → ((ds : List (Carried D)) → has_brought v ds → has_brought w (ds ++ bs))
        → Goes has_applied app failed eq was_given has_brought x x v w [] bs
    goes_hearing x v w bs gives brings before h = record {
      moves = [];
      done = tt;
      are = refl;
      seat = refl;
      place = refl;
      told = refl;
      waits = λ d has. has_left before [] d (h d has);
      gives = λ ds g. given_none was_given w ds (gives ds g);
      brings = brings;
    }

    -- the wire brought something, and then the server went on
    pub hears_first : (fs : List (Deed D)) (cs bs : List (Carried D)) (x y : Server R A D) (v w u : W) → ((ds : List (Carried D)) → was_given v ds → was_given w ds) → ((ds : List (Carried D)) → has_brought v ds → has_brought w (ds ++ bs))
        → GoesOn has_applied app failed eq was_given has_brought fs cs [] x y w u → GoesOn has_applied app failed eq was_given has_brought fs cs bs x y v u
    hears_first fs cs bs x y v w u gives brings h =
        (h.0, h.1, h.2, subst (λ l. Goes has_applied app failed eq was_given has_brought x y v u (fs ++ h.0) l) (append-nil bs) (goes_both x x y v w u [] (fs ++ h.0) bs [] (goes_hearing x v w bs gives brings) h.3))

    -- the same, no matter by which deed first
    pub on_hearing : (fs : List (Deed D)) (cs bs : List (Carried D)) (x y : Server R A D) (v w u : W) → ((ds : List (Carried D)) → was_given v ds → was_given w ds) → ((ds : List (Carried D)) → has_brought v ds → has_brought w (ds ++ bs))
        → GoesOn has_applied app failed eq was_given has_brought fs cs [] x y w u → GoesOn has_applied app failed eq was_given has_brought [] cs bs x y v u
    on_hearing fs cs bs x y v w u gives brings h =
        (fs ++ h.0, h.1, h.2, subst (λ l. Goes has_applied app failed eq was_given has_brought x y v u (fs ++ h.0) l) (append-nil bs) (goes_both x x y v w u [] (fs ++ h.0) bs [] (goes_hearing x v w bs gives brings) h.3))

    module _ (stands : R → Record → Record → Type 0) (is_kept : R → Type 0) (base : R → Record → Type 0) (leaves : R → Record → Record → Type 0) where
      -- the node stopped at once
      pub halts_at_once : (x z : Server R A D) (v w : W) → Halts has_applied app failed stands is_kept base leaves x.seat z.seat → ((ds : List (Carried D)) → was_given v ds → was_given w ds) → ((ds : List (Carried D)) → has_brought v ds → has_brought w ds) → Halted has_applied app failed eq was_given has_brought stands is_kept base leaves [] x z v w
      halts_at_once x z v w halts silent idle = record { last = x; wire = v; deeds = []; begins = λ has. absurd has; goes = goes_none x v; halts = halts; silent = silent; idle = idle }

      -- it went on, and then until it stopped
      pub halts_after : (x y z : Server R A D) (v w u : W) (ds : List (Deed D)) (bs cs : List (Carried D)) → BeginsIfTold (is_told x.word) ds → Goes has_applied app failed eq was_given has_brought x y v w ds bs → Halted has_applied app failed eq was_given has_brought stands is_kept base leaves cs y z w u → Halted has_applied app failed eq was_given has_brought stands is_kept base leaves (bs ++ cs) x z v u
      halts_after x y z v w u ds bs cs begins first h = record {
        last = h.last;
        wire = h.wire;
        deeds = ds ++ h.deeds;
        begins = begins_both x y v w ds h.deeds bs first begins h.begins;
        goes = goes_both x y h.last v w h.wire ds h.deeds bs cs first h.goes;
        halts = h.halts;
        silent = h.silent;
        idle = h.idle;
      }

      -- the same, by whatever deeds
      pub halts_later : (fs : List (Deed D)) (cs bs es : List (Carried D)) (x y z : Server R A D) (v w u : W) → GoesOn has_applied app failed eq was_given has_brought fs cs bs x y v w → Halted has_applied app failed eq was_given has_brought stands is_kept base leaves es y z w u → Halted has_applied app failed eq was_given has_brought stands is_kept base leaves (bs ++ es) x z v u
      halts_later fs cs bs es x y z v w u first h = halts_after x y z v w u (fs ++ first.0) bs es first.2 first.3 h

      -- the one, and then the other as far as it went
      pub went_both : {T : Type 0} (r : Result T ServeFault) (fs : List (Deed D)) (cs ds bs es : List (Carried D)) (x y z : Server R A D) (v w u : W)
          → GoesOn has_applied app failed eq was_given has_brought fs cs bs x y v w → Went has_applied app failed eq was_given has_brought stands is_kept base leaves r [] ds es y z w u → Went has_applied app failed eq was_given has_brought stands is_kept base leaves r fs (cs ++ ds) (bs ++ es) x z v u
      went_both (Ok t) fs cs ds bs es x y z v w u first second = on_both fs cs ds bs es x y z v w u first second
      went_both (Err e) fs cs ds bs es x y z v w u first second = halts_later fs cs bs es x y z v w u first second

      -- it stopped, and that is the result
      pub went_err : {T : Type 0} (r : Result T ServeFault) (fs : List (Deed D)) (cs bs : List (Carried D)) (x z : Server R A D) (v w : W) → IsErr r → Halted has_applied app failed eq was_given has_brought stands is_kept base leaves bs x z v w → Went has_applied app failed eq was_given has_brought stands is_kept base leaves r fs cs bs x z v w
      went_err (Ok t) fs cs bs x z v w is h = absurd (let e : false ≡ true = is in cc)
      went_err (Err e) fs cs bs x z v w is h = h

      -- the same of what the wire brings
      pub passed_err : {T : Type 0} (AreSo : T → List (Deed D) → Type 0) (r : Result T ServeFault) (bs : List (Carried D)) (x z : Server R A D) (v w : W) → IsErr r → Halted has_applied app failed eq was_given has_brought stands is_kept base leaves bs x z v w → Passed has_applied app failed eq was_given has_brought stands is_kept base leaves AreSo r x z v w
      passed_err AreSo (Ok t) bs x z v w is h = absurd (let e : false ≡ true = is in cc)
      passed_err AreSo (Err e) bs x z v w is h = (bs, h)

      -- just that was done, and nothing came
      pub went_by : {T : Type 0} (r : Result T ServeFault) (ds : List (Deed D)) (x y : Server R A D) (v w : W) → came_by ds ≡ [] → BeginsIfTold (is_told x.word) ds → WentBy has_applied app failed eq was_given has_brought stands is_kept base leaves r ds x y v w → Went has_applied app failed eq was_given has_brought stands is_kept base leaves r [] [] [] x y v w
      went_by (Ok t) ds x y v w none begins h = on_any ds [] [] x y v w (on_just ds [] x y v w none begins h)
      went_by (Err e) ds x y v w none begins h = h

      -- as much as the wire had brought, it has brought still, where it stopped at once
      halted_keeps : (x z : Server R A D) (v w : W) → Halted has_applied app failed eq was_given has_brought stands is_kept base leaves [] x z v w → (ds : List (Carried D)) → has_brought v ds → has_brought w ds
      halted_keeps x z v w h ds b = subst (has_brought w) (append-nil ds) (h.idle (ds ++ []) ((h.goes x.waiting (λ d has. has)).brings ds b))

      -- the wire brought nothing
      pub went_keeps : {T : Type 0} (r : Result T ServeFault) (fs : List (Deed D)) (cs : List (Carried D)) (x y : Server R A D) (v w : W) → Went has_applied app failed eq was_given has_brought stands is_kept base leaves r fs cs [] x y v w → (ds : List (Carried D)) → has_brought v ds → has_brought w ds
      went_keeps (Ok t) fs cs x y v w h ds b = subst (has_brought w) (append-nil ds) ((h.3 x.waiting (λ d has. has)).brings ds b)
      went_keeps (Err e) fs cs x y v w h ds b = halted_keeps x y v w h ds b

      pub went_by_keeps : {T : Type 0} (r : Result T ServeFault) (ds : List (Deed D)) (x y : Server R A D) (v w : W) → WentBy has_applied app failed eq was_given has_brought stands is_kept base leaves r ds x y v w → (es : List (Carried D)) → has_brought v es → has_brought w es
      went_by_keeps (Ok t) ds x y v w h es b = subst (has_brought w) (append-nil es) ((h x.waiting (λ d has. has)).brings es b)
      went_by_keeps (Err e) ds x y v w h es b = halted_keeps x y v w h es b

      -- the wire brought something, and then the server went on, or until it stopped
      pub went_hearing : {T : Type 0} (r : Result T ServeFault) (fs : List (Deed D)) (cs bs : List (Carried D)) (x y : Server R A D) (v w u : W) → ((ds : List (Carried D)) → was_given v ds → was_given w ds) → ((ds : List (Carried D)) → has_brought v ds → has_brought w (ds ++ bs))
          → Went has_applied app failed eq was_given has_brought stands is_kept base leaves r fs cs [] x y w u → Went has_applied app failed eq was_given has_brought stands is_kept base leaves r [] cs bs x y v u
      went_hearing (Ok t) fs cs bs x y v w u gives brings h = on_hearing fs cs bs x y v w u gives brings h
      went_hearing (Err e) fs cs bs x y v w u gives brings h = subst (λ l. Halted has_applied app failed eq was_given has_brought stands is_kept base leaves l x y v u) (append-nil bs) (halts_after x x y v w u [] bs [] (λ has. absurd has) (goes_hearing x v w bs gives brings) h)

      -- a turn at which a datagram came
      pub passed_taking : (d : Carried D) (x y : Server R A D) (v w : W) → GoesOn has_applied app failed eq was_given has_brought (Took d ∷ []) (d ∷ []) (d ∷ []) x y v w → Passed has_applied app failed eq was_given has_brought stands is_kept base leaves AreTurns (Ok 1) x y v w
      passed_taking d x y v w h = (Took d ∷ h.0, taken_turn d h.0 h.1, h.2, subst (λ l. Goes has_applied app failed eq was_given has_brought x y v w (Took d ∷ h.0) l) (sym h.1) h.3)

      -- one at which none came
      pub passed_waiting : (x y : Server R A D) (v w : W) → GoesOn has_applied app failed eq was_given has_brought (Ticked Resend ∷ Ticked CatchUp ∷ []) [] [] x y v w → Passed has_applied app failed eq was_given has_brought stands is_kept base leaves AreTurns (Ok 1) x y v w
      passed_waiting x y v w h = (Ticked Resend ∷ Ticked CatchUp ∷ h.0, waited_turn h.0 h.1, h.2, subst (λ l. Goes has_applied app failed eq was_given has_brought x y v w (Ticked Resend ∷ Ticked CatchUp ∷ h.0) l) (sym h.1) h.3)

      -- nothing was done
      pub passed_none : (x : Server R A D) (v w : W) → Goes has_applied app failed eq was_given has_brought x x v w [] [] → Passed has_applied app failed eq was_given has_brought stands is_kept base leaves AreTurns (Ok 0) x x v w
      passed_none x v w goes = ([], no_turn, λ has. absurd has, goes)

      -- some turns, and then others
      pub passed_both : (n m : ℕ) (x y z : Server R A D) (v w u : W) → Passed has_applied app failed eq was_given has_brought stands is_kept base leaves AreTurns (Ok n) x y v w → Passed has_applied app failed eq was_given has_brought stands is_kept base leaves AreTurns (Ok m) y z w u → Passed has_applied app failed eq was_given has_brought stands is_kept base leaves AreTurns (Ok (n + m)) x z v u
      passed_both n m x y z v w u first second = (
        first.0 ++ second.0,
        turns_both n m first.0 second.0 first.1 second.1,
        begins_both x y v w first.0 second.0 (came_by first.0) first.3 first.2 second.2,
        subst (λ l. Goes has_applied app failed eq was_given has_brought x z v u (first.0 ++ second.0) l) (sym (flat_map-append came_with first.0 second.0)) (goes_both x y z v w u first.0 second.0 (came_by first.0) (came_by second.0) first.3 second.3),
      )

      -- some turns, and then it stopped
      pub passed_stops : {T : Type 0} (AreSo : T → List (Deed D) → Type 0) (r : Result T ServeFault) (n : ℕ) (bs : List (Carried D)) (x y z : Server R A D) (v w u : W) → IsErr r → Passed has_applied app failed eq was_given has_brought stands is_kept base leaves AreTurns (Ok n) x y v w → Halted has_applied app failed eq was_given has_brought stands is_kept base leaves bs y z w u → Passed has_applied app failed eq was_given has_brought stands is_kept base leaves AreSo r x z v u
      passed_stops AreSo r n bs x y z v w u is first h = passed_err AreSo r (came_by first.0 ++ bs) x z v u is (halts_after x y z v w u first.0 (came_by first.0) bs first.2 first.3 h)
