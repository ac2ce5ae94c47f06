-- What is printed of commands, one after the other.
use Rattle.std.proofs.Common.{◌≡◌, ◌∙◌, ℕ, max, Bool, List, [], ◌∷◌, ◌++◌, Option, Some, None, Result, Ok, Err, IfOk, sym, ap, subst, append-nil, append_assoc, codes, string_bytes}
use Rattle.std.specs.Io.KnownBytes.{Appends}
use Rattle.paxq_files.specs.Script.{Command}
use Rattle.paxq_local.specs.Asking.{form_of, id_of}
use Rattle.paxq_local.specs.Members.{IsSaidTo, IsToldAs, number_after, question_after}
use Rattle.paxq_local.specs.Playing.{IsOfOutput, IsPlayed, IsPrinted, Played, said, ended, differed, unanswered, refused, no_memory_run, printed_run}
use Rattle.paxq_local.specs.Sent.{AreAllAsked, AreSentFor, AreTriedFor, IsTriedFor}
use Rattle.paxq_local.specs.declared.answers.Told.{Told}
use Rattle.paxq_local.specs.declared.answers.Told.TheVariants.{Said, Differ, NoAnswer}
use Rattle.paxq_local.specs.declared.local.Stop.{Stop}
use Rattle.paxq_local.specs.declared.local.Stop.TheVariants.{Memory, Output}
use Rattle.paxq_local.proofs.Both.{Both, both-as, both-then}
use Rattle.program_reports.specs.Reports.{Run, line_feed}
use Rattle.program_reports.proofs.Reported.{Appends-none}
use Rattle.wires.specs.Wires.{Carried}

Appends-both : (a b c : Option (List ℕ)) (p q : List ℕ) → Appends a b p → Appends b c q → Appends a c (p ++ q)
Appends-both None b c p q h k = tt
Appends-both (Some xs) (Some ys) (Some zs) p q h k = k ∙ ap (λ x. x ++ q) h ∙ append_assoc xs p q
Appends-both (Some xs) None c p q h k = absurd h
Appends-both (Some xs) (Some ys) None p q h k = absurd k

module _ {A : Type 0} (eq : A → A → Bool) (peers : List A) (members : ℕ) where
  -- a command went by the next number, and just its datagram was sent: this came of it
  abbrev pub IsTold : (asked floor next : ℕ) → Command → Told → (came sent : List (Carried A)) → Type 0
  IsTold asked floor next command told came sent =
      IsToldAs eq peers came members (form_of command) (id_of (question_after asked) command) floor next told × ((to : List ℕ) × AreSentFor peers asked floor command to sent × IsTriedFor peers floor command to told)

  -- the same of what a call gives
  abbrev pub IsGot : {E : Type 0} → (asked floor next : ℕ) → Command → Result Told E → (came sent : List (Carried A)) → Type 0
  IsGot asked floor next command r came sent =
      IfOk r (λ (t : Told). IsToldAs eq peers came members (form_of command) (id_of (question_after asked) command) floor next t) × AreTriedFor peers asked floor command r sent

  got-told : {E : Type 0} (asked floor next : ℕ) (command : Command) (r : Result Told E) (told : Told) (came sent : List (Carried A)) → r ≡ Ok told → IsGot asked floor next command r came sent → IsTold asked floor next command told came sent
  got-told {E} asked floor next command r told came sent is got =
      let ok : IsGot {E = E} asked floor next command (Ok told) came sent = subst (λ (x : Result Told E). IsGot asked floor next command x came sent) is got in (ok.0, ok.1)

  module _ (first start : ℕ) (all : List Command) where
    -- some of the commands were run, while these came and those were sent, and others are left
    pub record Going (asked floor : ℕ) (left : List Command) (came went : List (Carried A)) (old new : Option (List ℕ)) : Type 0 where
      pub printed : List ℕ
      pub appends : Appends old new printed
      pub rest : (run : Run) (more others : List (Carried A)) → Played eq peers members asked floor left more others run → Played eq peers members first start all (came ++ more) (went ++ others) (record run { output = printed ++ run.output })

    pub going-start : (old : Option (List ℕ)) → Going first start all [] [] old old
    going-start old = record { printed = []; appends = Appends-none old; rest = λ run more others p. p }

    module _ (asked floor : ℕ) (command : Command) (left : List Command) (came more went sent : List (Carried A)) (old mid new : Option (List ℕ)) where
      going-said : (text to : List ℕ) (position : ℕ) → Going asked floor (command ∷ left) came went old mid → IsSaidTo eq peers more members (form_of command) (id_of (question_after asked) command) text position
          → AreSentFor peers asked floor command to sent → AreAllAsked peers (form_of command) to → Appends mid new text → Going (number_after asked) (max floor position) left (came ++ more) (went ++ sent) old new
      going-said text to position g is are each wrote =
          record {
            printed = g.printed ++ text;
            appends = Appends-both old mid new g.printed text g.appends wrote;
            rest = λ run others ends p.
                subst (λ (xs : List (Carried A)). Played eq peers members first start all xs ((went ++ sent) ++ ends) (record run { output = (g.printed ++ text) ++ run.output })) (sym (append_assoc came more others))
                (subst (λ (us : List (Carried A)). Played eq peers members first start all (came ++ (more ++ others)) us (record run { output = (g.printed ++ text) ++ run.output })) (sym (append_assoc went sent ends))
                (subst (λ (o : List ℕ). Played eq peers members first start all (came ++ (more ++ others)) (went ++ (sent ++ ends)) (record run { output = o })) (sym (append_assoc g.printed text run.output))
                (g.rest (record run { output = text ++ run.output }) (more ++ others) (sent ++ ends) (said asked floor command left more others sent ends to text position run is are each p))));
          }

      -- what came of a command was printed, and the run goes on
      pub going-told : (next : ℕ) (told : Told) (r : Result (Option ℕ) Stop) → Going asked floor (command ∷ left) came went old mid → IsTold asked floor next command told more sent → IsPrinted told mid new r → r ≡ Ok None
          → Going (number_after asked) next left (came ++ more) (went ++ sent) old new
      going-told next (Said text) r g is printed e =
          subst (λ (n : ℕ). Going (number_after asked) n left (came ++ more) (went ++ sent) old new) (sym is.0.1)
          (going-said (string_bytes text) is.1.0 is.0.0 g is.0.2 is.1.1 is.1.2 (subst (λ (x : Result (Option ℕ) Stop). IsPrinted (Said text) mid new x) e printed))
      going-told next Differ r g is printed e = absurd (subst (λ (x : Result (Option ℕ) Stop). IsPrinted Differ mid new x) e printed)
      going-told next NoAnswer r g is printed e = absurd (subst (λ (x : Result (Option ℕ) Stop). IsPrinted NoAnswer mid new x) e printed)

    module _ (asked floor : ℕ) (left : List Command) (came more went sent : List (Carried A)) (old mid : Option (List ℕ)) where
      going-last : (text : List ℕ) (status : ℕ) (new : Option (List ℕ)) → Going asked floor left came went old mid → Played eq peers members asked floor left more sent (printed_run status text) → Appends mid new text
          → IsPlayed eq peers members first start all (came ++ more) (went ++ sent) old new (Ok status)
      going-last text status new g p wrote = (g.printed ++ text, g.rest (printed_run status text) more sent p, Appends-both old mid new g.printed text g.appends wrote)

    pub going-refused : (asked floor : ℕ) (command : Command) (left : List Command) (came more went sent : List (Carried A)) (old mid : Option (List ℕ)) (to : List ℕ) → Going asked floor (command ∷ left) came went old mid
        → AreSentFor peers asked floor command to sent → IsPlayed eq peers members first start all (came ++ more) (went ++ sent) old mid (Err Memory)
    going-refused asked floor command left came more went sent old mid to g are =
        (g.printed ++ [], g.rest no_memory_run more sent (refused asked floor command left more sent to are), Appends-both old mid mid g.printed [] g.appends (Appends-none mid))

    pub going-end : (asked floor : ℕ) (came went : List (Carried A)) (old mid : Option (List ℕ)) → Going asked floor [] came went old mid → IsPlayed eq peers members first start all came went old mid (Ok 0)
    going-end asked floor came went old mid g =
        subst (λ (xs : List (Carried A)). IsPlayed eq peers members first start all xs went old mid (Ok 0)) (append-nil came)
        (subst (λ (us : List (Carried A)). IsPlayed eq peers members first start all (came ++ []) us old mid (Ok 0)) (append-nil went)
        (going-last asked floor [] came [] went [] old mid [] 0 mid g (ended asked floor) (Appends-none mid)))

    module _ (asked floor : ℕ) (command : Command) (left : List Command) (came more went sent : List (Carried A)) (old mid new : Option (List ℕ)) where
      -- what came of a command was printed, and the run ends
      pub told-ends : (next : ℕ) (told : Told) (status : ℕ) (r : Result (Option ℕ) Stop) → Going asked floor (command ∷ left) came went old mid → IsTold asked floor next command told more sent → IsPrinted told mid new r → r ≡ Ok (Some status)
          → IsPlayed eq peers members first start all (came ++ more) (went ++ sent) old new (Ok status)
      told-ends next (Said text) status r g is printed e = absurd (subst (λ (x : Result (Option ℕ) Stop). IsPrinted (Said text) mid new x) e printed)
      told-ends next Differ status r g is printed e =
          (let f = subst (λ (x : Result (Option ℕ) Stop). IsPrinted Differ mid new x) e printed in
          subst (λ (s : ℕ). IsPlayed eq peers members first start all (came ++ more) (went ++ sent) old new (Ok s)) (sym f.0)
          (going-last asked floor (command ∷ left) came more went sent old mid (codes "differ" ++ line_feed) 3 new g (differed asked floor command left more sent is.1.0 is.0 is.1.1 is.1.2) f.1))
      told-ends next NoAnswer status r g is printed e =
          (let f = subst (λ (x : Result (Option ℕ) Stop). IsPrinted NoAnswer mid new x) e printed in
          subst (λ (s : ℕ). IsPlayed eq peers members first start all (came ++ more) (went ++ sent) old new (Ok s)) (sym f.0)
          (going-last asked floor (command ∷ left) came more went sent old mid (codes "no answer" ++ line_feed) 3 new g (unanswered asked floor command left more sent is.1.0 is.1.1 is.1.2) f.1))

    -- it could not be printed
    stop-played : (came went : List (Carried A)) (old new : Option (List ℕ)) (stop : Stop) → IsOfOutput stop → IsPlayed eq peers members first start all came went old new (Err stop)
    stop-played came went old new Memory h = absurd h
    stop-played came went old new (Output error) h = tt

    is-of-output : (told : Told) (mid new : Option (List ℕ)) (stop : Stop) → IsPrinted told mid new (Err stop) → IsOfOutput stop
    is-of-output (Said text) mid new stop h = h
    is-of-output Differ mid new stop h = h
    is-of-output NoAnswer mid new stop h = h

-- The same over a wire: what came and was sent while a command was asked came after what had come and been sent before.
module _ {W A : Type 0} (H G : W → List (Carried A) → Type 0) (eq : A → A → Bool) (peers : List A) (members first start : ℕ) (all : List Command) (a b : W) (asked floor : ℕ) (commands : List Command) (old mid : Option (List ℕ))
    (going : Both H G a b (λ came went. Going eq peers members first start all asked floor commands came went old mid)) where
  pub plays-to-end : commands ≡ [] → Both H G a b (λ came went. IsPlayed eq peers members first start all came went old mid (Ok 0))
  plays-to-end none =
      both-as H G a b (λ came went. Going eq peers members first start all asked floor commands came went old mid) (λ came went. IsPlayed eq peers members first start all came went old mid (Ok 0)) going
      (λ xs us g. going-end eq peers members first start all asked floor xs us old mid (subst (λ (cs : List Command). Going eq peers members first start all asked floor cs xs us old mid) none g))

  module _ {E : Type 0} (c : W) (command : Command) (left : List Command) (theirs : List A) (next : ℕ) (r : Result Told E) (got : Both H G b c (λ more sent. IsGot eq theirs members asked floor next command r more sent))
      (taken : commands ≡ command ∷ left) (same : theirs ≡ peers) where
    going-now : (xs us : List (Carried A)) → Going eq peers members first start all asked floor commands xs us old mid → Going eq peers members first start all asked floor (command ∷ left) xs us old mid
    going-now xs us g = subst (λ (cs : List Command). Going eq peers members first start all asked floor cs xs us old mid) taken g

    got-now : (ys vs : List (Carried A)) → IsGot eq theirs members asked floor next command r ys vs → IsGot eq peers members asked floor next command r ys vs
    got-now ys vs q = subst (λ (ps : List A). IsGot eq ps members asked floor next command r ys vs) same q

    -- what came and was sent last
    then-last : (R : List (Carried A) → List (Carried A) → Type 0)
        → ((xs ys us vs : List (Carried A)) → Going eq peers members first start all asked floor (command ∷ left) xs us old mid → IsGot eq peers members asked floor next command r ys vs → R (xs ++ ys) (us ++ vs)) → Both H G a c R
    then-last R f =
        both-then H G a b c (λ came went. Going eq peers members first start all asked floor commands came went old mid) (λ more sent. IsGot eq theirs members asked floor next command r more sent) R going got
        (λ xs ys us vs g q. f xs ys us vs (going-now xs us g) (got-now ys vs q))

    pub plays-refused : Both H G a c (λ came went. IsPlayed eq peers members first start all came went old mid (Err Memory))
    plays-refused =
        then-last (λ came went. IsPlayed eq peers members first start all came went old mid (Err Memory))
        (λ xs ys us vs g q. going-refused eq peers members first start all asked floor command left xs ys us vs old mid q.1.0 g q.1.1)

    module _ (told : Told) (is : r ≡ Ok told) (new : Option (List ℕ)) (p : Result (Option ℕ) Stop) (printed : IsPrinted told mid new p) where
      pub plays-on : (number : ℕ) → number ≡ number_after asked → p ≡ Ok None → Both H G a c (λ came went. Going eq peers members first start all number next left came went old new)
      plays-on number count e =
          then-last (λ came went. Going eq peers members first start all number next left came went old new)
          (λ xs ys us vs g q. subst (λ (n : ℕ). Going eq peers members first start all n next left (xs ++ ys) (us ++ vs) old new) (sym count)
          (going-told eq peers members first start all asked floor command left xs ys us vs old mid new next told p g (got-told eq peers members asked floor next command r told ys vs is q) printed e))

      pub plays-out : (status : ℕ) → p ≡ Ok (Some status) → Both H G a c (λ came went. IsPlayed eq peers members first start all came went old new (Ok status))
      plays-out status e =
          then-last (λ came went. IsPlayed eq peers members first start all came went old new (Ok status))
          (λ xs ys us vs g q. told-ends eq peers members first start all asked floor command left xs ys us vs old mid new next told status p g (got-told eq peers members asked floor next command r told ys vs is q) printed e)

      pub plays-unprinted : (stop : Stop) → p ≡ Err stop → Both H G a c (λ came went. IsPlayed eq peers members first start all came went old new (Err stop))
      plays-unprinted stop e =
          then-last (λ came went. IsPlayed eq peers members first start all came went old new (Err stop))
          (λ xs ys us vs g q. stop-played eq peers members first start all (xs ++ ys) (us ++ vs) old new stop (is-of-output eq peers members first start all told mid new stop (subst (λ (x : Result (Option ℕ) Stop). IsPrinted told mid new x) e printed)))
