-- How often something is sent to whom.
use Rattle.std.proofs.Common.{◌≡◌, ◌≤◌, ◌<◌, ◌+◌, ℕ, zero, suc, arith, Bool, true, false, cond, List, [], ◌∷◌, ◌++◌, length, replicate, Result, Ok, Err, refl, sym, ap, subst, ◌∙◌, inl, inr, ⊎_elim}
use Rattle.std.specs.Prelude.{◌==◌, IfOk, slice_get}
use Rattle.std.proofs.lemmas.Bool.{cases_eq, cases_lt, eq-eqb, false≢true, ne_eqb}
use Rattle.std.proofs.lemmas.Grind.{flat_map-append}
use Rattle.std.proofs.lemmas.List.{length-replicate}
use Rattle.std.proofs.lemmas.List.Folds.{sum_by-replicate}
use Rattle.std.proofs.lemmas.List.Sums.{count_by-le-length, sum_by-append}
use Rattle.paxos.specs.Lists.{Has}
use Rattle.paxos.proofs.Lists.{has_cases}
use Rattle.paxq_files.specs.Script.{Command}
use Rattle.paxq_local.specs.Answering.{has_answered}
use Rattle.paxq_local.specs.Asking.{Gives, GivesNothing, bytes_of, form_of, most_tries}
use Rattle.paxq_local.specs.Members.{own_group, question_after}
use Rattle.paxq_local.specs.Sent.{AreAllAsked, AreAskedInVain, AreSent, AreTried, AreTriedFirst, AreTriedFor, IsAskedOf, IsRound, IsTriedAs, IsTriedFirst, IsTriedFor, datagram_at, sent_to, times_to}
use Rattle.paxq_local.specs.declared.answers.Answers.{Answers}
use Rattle.paxq_local.specs.declared.answers.Told.{Told}
use Rattle.paxq_local.specs.declared.answers.Told.TheVariants.{Said, Differ, NoAnswer}
use Rattle.paxq_local.specs.declared.asked.Form.{Form}
use Rattle.paxq_local.specs.declared.asked.Form.TheVariants.{Submit, Ask, AskAt}
use Rattle.paxq_local.proofs.Giving.{gives-as, gives-none, gives-on, gives-then, one_more}
use Rattle.wires.specs.Wires.{Carried}

times-both : (xs ys : List ℕ) (before : ℕ) → times_to (xs ++ ys) before ≡ times_to xs before + times_to ys before
times-both xs ys before = sum_by-append (λ other. cond (other == before) 1 0) xs ys

-- of one alone
times-same : (n : ℕ) → times_to (n ∷ []) n ≡ 1
times-same n = let e : cond {A = ℕ} (n == n) 1 0 ≡ 1 = ap (λ (b : Bool). cond {A = ℕ} b 1 0) (eq-eqb n n refl) in omega (arith, e)

times-different : (n before : ℕ) → ¬ (n ≡ before) → times_to (n ∷ []) before ≡ 0
times-different n before differ = let e : cond {A = ℕ} (n == before) 1 0 ≡ 0 = ap (λ (b : Bool). cond {A = ℕ} b 1 0) (ne_eqb n before differ) in omega (arith, e)

-- it is not sent to a member that is not among them
times-absent : (to : List ℕ) (before : ℕ) → (Has to before → ⊥) → times_to to before ≡ 0
times-absent [] before absent = refl
times-absent (n ∷ to) before absent =
    omega (arith, times-both (n ∷ []) to before, times-different n before (λ is. absent (inl is)), times-absent to before (λ has. absent (inr has)))

-- so often to the first
times-first : (n : ℕ) → times_to (replicate n 0) 0 ≡ n
times-first n = omega (arith, sum_by-replicate (λ other. cond (other == 0) 1 0) n 0)

times-few : (n before : ℕ) → times_to (replicate n 0) before ≤ n
times-few n before = omega (arith, count_by-le-length (λ other. other == before) (replicate n 0), length-replicate {A = ℕ} n 0)

has-replicate : (n k : ℕ) → Has (replicate n 0) k → k ≡ 0
has-replicate zero k has = absurd has
has-replicate (suc n) k (inl is) = sym is
has-replicate (suc n) k (inr has) = has-replicate n k has

module _ {A : Type 0} (peers : List A) (bytes : List ℕ) where
  sent-both : (xs ys : List ℕ) → sent_to peers bytes (xs ++ ys) ≡ sent_to peers bytes xs ++ sent_to peers bytes ys
  sent-both xs ys = flat_map-append (λ before. datagram_at bytes (slice_get peers before)) xs ys

  -- nothing is sent
  pub unsent : (form : Form) → AreSent peers form bytes [] []
  unsent form = record { are = refl; only = λ k has. absurd has; most = λ k. omega arith }

  -- ---- to the first member
  pub first-more : (n : ℕ) (xs ys : List (Carried A)) → xs ≡ sent_to peers bytes (replicate n 0) → ys ≡ sent_to peers bytes (0 ∷ []) → xs ++ ys ≡ sent_to peers bytes (replicate (n + 1) 0)
  first-more n xs ys first then =
      let more : suc n ≡ n + 1 = omega arith in
      ap (λ l. l ++ ys) first ∙ ap (λ l. sent_to peers bytes (replicate n 0) ++ l) then ∙ sym (sent-both (replicate n 0) (0 ∷ [])) ∙ ap (sent_to peers bytes) (one_more n 0 ∙ ap (λ k. replicate k 0) more)

  module _ (form : Form) (only : (k : ℕ) → k ≡ 0 → IsAskedOf peers form k) (whole : (k : ℕ) → IsAskedOf peers form k → k ≡ 0) (vain : (to : List ℕ) → times_to to 0 ≡ most_tries → AreAskedInVain peers form to) where
    all-first : (n : ℕ) → 1 ≤ n → AreAllAsked peers form (replicate n 0)
    all-first n some k asked = subst (λ (m : ℕ). 1 ≤ times_to (replicate n 0) m) (sym (whole k asked)) (subst (λ (m : ℕ). 1 ≤ m) (sym (times-first n)) some)

    tried-told : (n : ℕ) (told : Told) → IsTriedFirst n told → IsTriedAs peers form (replicate n 0) told
    tried-told n (Said text) some = all-first n some
    tried-told n Differ some = all-first n some
    tried-told n NoAnswer all = vain (replicate n 0) (times-first n ∙ all)

    tried-result : {E : Type 0} (n : ℕ) (r : Result Told E) → IfOk r (IsTriedFirst n) → IfOk r (IsTriedAs peers form (replicate n 0))
    tried-result n (Ok told) is = tried-told n told is
    tried-result n (Err e) is = tt

    first-tried : {E : Type 0} (r : Result Told E) (went : List (Carried A)) → AreTriedFirst peers bytes r went → AreTried peers form bytes r went
    first-tried r went t = (
      replicate t.0 0,
      record { are = t.2; only = λ k has. only k (has-replicate t.0 k has); most = λ k. omega (arith, times-few t.0 k, t.1) },
      tried-result t.0 r t.3,
    )

  -- so it is of each form but a question without a floor
  pub tried-first : {E : Type 0} (form : Form) (r : Result Told E) (went : List (Carried A)) → ¬ (form ≡ Ask) → AreTriedFirst peers bytes r went → AreTried peers form bytes r went
  tried-first Submit r went other t = first-tried Submit (λ k is. is) (λ k is. is) (λ to all. all) r went t
  tried-first Ask r went other t = absurd (other refl)
  tried-first AskAt r went other t = first-tried AskAt (λ k is. is) (λ k is. is) (λ to all. all) r went t

  -- ---- round by round
  module _ (answers : Answers) where
    pub round-none : IsRound peers bytes answers 0 [] []
    round-none = record { are = refl; only = λ k has. absurd has; once = λ k. omega arith; others = λ k below new. absurd (omega (arith, below)) }

    -- the next one has answered
    pub round-past : (n : ℕ) (to : List ℕ) (went : List (Carried A)) → has_answered answers n ≡ true → IsRound peers bytes answers n to went → IsRound peers bytes answers (n + 1) to went
    round-past n to went has r =
        record {
          are = r.are;
          only = λ k is. omega (arith, r.only k is);
          once = r.once;
          others = λ k below new.
              ⊎_elim (λ (lower : k < n). r.others k lower new) (λ (least : n ≤ k). absurd (false≢true (sym new ∙ ap (has_answered answers) (let e : k ≡ n = omega (arith, below, least) in e) ∙ has))) (cases_lt k n);
        }

    one-round : (n : ℕ) (to : List ℕ) (went : List (Carried A)) → IsRound peers bytes answers n to went → (k : ℕ) → (k ≡ n → times_to (to ++ n ∷ []) k ≡ 1) × (¬ (k ≡ n) → times_to (to ++ n ∷ []) k ≡ times_to to k)
    one-round n to went r k = (
      λ is.
          (let none : times_to to k ≡ 0 = times-absent to k (λ has. absurd (omega (arith, r.only k has, is))) in
          let same : times_to (n ∷ []) k ≡ 1 = ap (times_to (n ∷ [])) is ∙ times-same n in
          omega (arith, times-both to (n ∷ []) k, none, same)),
      λ not. (let none : times_to (n ∷ []) k ≡ 0 = times-different n k (λ is. not (sym is)) in omega (arith, times-both to (n ∷ []) k, none)),
    )

    -- it is sent to the next one
    pub round-sent : (n : ℕ) (to : List ℕ) (xs ys : List (Carried A)) → IsRound peers bytes answers n to xs → ys ≡ sent_to peers bytes (n ∷ []) → IsRound peers bytes answers (n + 1) (to ++ n ∷ []) (xs ++ ys)
    round-sent n to xs ys r sent =
        record {
          are = ap (λ l. l ++ ys) r.are ∙ ap (λ l. sent_to peers bytes to ++ l) sent ∙ sym (sent-both to (n ∷ []));
          only = λ k has. ⊎_elim (λ (in_first : Has to k). omega (arith, r.only k in_first)) (λ (last : Has (n ∷ []) k). ⊎_elim (λ (is : n ≡ k). omega (arith, is)) (λ (none : ⊥). absurd none) last) (has_cases to (n ∷ []) k has);
          once = λ k. ⊎_elim (λ (is : k ≡ n). omega (arith, (one-round n to xs r k).0 is)) (λ (not : k ≡ n → ⊥). omega (arith, (one-round n to xs r k).1 not, r.once k)) (cases_eq k n);
          others = λ k below new.
              ⊎_elim (λ (is : k ≡ n). omega (arith, (one-round n to xs r k).0 is))
              (λ (not : k ≡ n → ⊥). omega (arith, (one-round n to xs r k).1 not, r.others k (⊎_elim (λ (lower : k < n). lower) (λ (least : n ≤ k). absurd (not (omega (arith, below, least)))) (cases_lt k n)) new))
              (cases_eq k n);
        }

  -- so many rounds, in the first of which it is sent to each
  pub record AreRounds (turns : ℕ) (to : List ℕ) (went : List (Carried A)) : Type 0 where
    pub are : went ≡ sent_to peers bytes to
    pub only : (before : ℕ) → Has to before → before < length peers
    pub most : (before : ℕ) → times_to to before ≤ turns
    pub each : 0 < turns → (before : ℕ) → before < length peers → 1 ≤ times_to to before

  rounds-none : AreRounds 0 [] []
  rounds-none = record { are = refl; only = λ k has. absurd has; most = λ k. omega arith; each = λ some. absurd (omega (arith, some)) }

  rounds-more : (turns : ℕ) (answers : Answers) (to more : List ℕ) (xs ys : List (Carried A)) → (turns ≡ 0 → (k : ℕ) → has_answered answers k ≡ false)
      → AreRounds turns to xs → IsRound peers bytes answers (length peers) more ys → AreRounds (turns + 1) (to ++ more) (xs ++ ys)
  rounds-more turns answers to more xs ys fresh a r =
      record {
        are = ap (λ l. l ++ ys) a.are ∙ ap (λ l. sent_to peers bytes to ++ l) r.are ∙ sym (sent-both to more);
        only = λ k has. ⊎_elim (λ (first : Has to k). a.only k first) (λ (last : Has more k). r.only k last) (has_cases to more k has);
        most = λ k. omega (arith, times-both to more k, a.most k, r.once k);
        each = λ some k below.
            ⊎_elim (λ (none : turns ≡ 0). omega (arith, times-both to more k, r.others k below (fresh none k)))
            (λ (not : turns ≡ 0 → ⊥). omega (arith, times-both to more k, a.each (⊎_elim (λ (positive : 0 < turns). positive) (λ (least : turns ≤ 0). absurd (not (omega (arith, least)))) (cases_lt 0 turns)) k below))
            (cases_eq turns 0);
      }

  all-told : (to : List ℕ) (told : Told) → AreAllAsked peers Ask to → IsTriedAs peers Ask to told
  all-told to (Said text) all = all
  all-told to Differ all = all
  all-told to NoAnswer all = all

  all-result : {E : Type 0} (to : List ℕ) (r : Result Told E) → AreAllAsked peers Ask to → IfOk r (IsTriedAs peers Ask to)
  all-result to (Ok told) all = all-told to told all
  all-result to (Err e) all = tt

  rounds-tried : {E : Type 0} (turns : ℕ) (r : Result Told E) (went : List (Carried A)) → 0 < turns → turns ≤ most_tries → (to : List ℕ) × AreRounds turns to went → AreTried peers Ask bytes r went
  rounds-tried turns r went some most a =
      (a.0, record { are = a.1.are; only = a.1.only; most = λ k. omega (arith, a.1.most k, most) }, all-result a.0 r (a.1.each some))

  module _ {W : Type 0} (G : W → List (Carried A) → Type 0) where
    pub gives-rounds-none : (a : W) → Gives G a a (λ went. (to : List ℕ) × AreRounds 0 to went)
    gives-rounds-none a = gives-none G a (λ went. (to : List ℕ) × AreRounds 0 to went) ([], rounds-none)

    -- a try: first nothing is sent, then to those that have not answered, and then nothing
    pub gives-round : (a b c d e : W) (turns : ℕ) (answers : Answers) (theirs : List A) (bs : List ℕ) → theirs ≡ peers → bs ≡ bytes → (turns ≡ 0 → (k : ℕ) → has_answered answers k ≡ false)
        → Gives G a b (λ went. (to : List ℕ) × AreRounds turns to went) → GivesNothing G b c → Gives G c d (λ went. (to : List ℕ) × IsRound theirs bs answers (length theirs) to went) → GivesNothing G d e
        → Gives G a e (λ went. (to : List ℕ) × AreRounds (turns + 1) to went)
    gives-round a b c d e turns answers theirs bs same is fresh rounds before sent after =
        gives-on G a d e (λ went. (to : List ℕ) × AreRounds (turns + 1) to went)
        (gives-then G a c d (λ went. (to : List ℕ) × AreRounds turns to went) (λ went. (to : List ℕ) × IsRound peers bytes answers (length peers) to went) (λ went. (to : List ℕ) × AreRounds (turns + 1) to went)
        (gives-on G a b c (λ went. (to : List ℕ) × AreRounds turns to went) rounds before)
        (subst (λ (ps : List A). Gives G c d (λ went. (to : List ℕ) × IsRound ps bytes answers (length ps) to went)) same
        (subst (λ (x : List ℕ). Gives G c d (λ went. (to : List ℕ) × IsRound theirs x answers (length theirs) to went)) is sent))
        (λ xs ys first then. (first.0 ++ then.0, rounds-more turns answers first.0 then.0 xs ys fresh first.1 then.1)))
        after

    pub gives-tried : {E : Type 0} (a b : W) (turns : ℕ) (r : Result Told E) → 0 < turns → turns ≤ most_tries → Gives G a b (λ went. (to : List ℕ) × AreRounds turns to went) → Gives G a b (AreTried peers Ask bytes r)
    gives-tried a b turns r some most rounds =
        gives-as G a b (λ went. (to : List ℕ) × AreRounds turns to went) (AreTried peers Ask bytes r) rounds (λ xs a. rounds-tried turns r xs some most a)

    -- nothing was sent, and the call failed
    pub not-tried : {E : Type 0} (a : W) (form : Form) (r : Result Told E) → IfOk r (IsTriedAs peers form []) → Gives G a a (AreTried peers form bytes r)
    not-tried a form r is = gives-none G a (AreTried peers form bytes r) ([], unsent form, is)

    -- a try of the first member alone
    pub gives-first : (a b c d e : W) (n : ℕ) (theirs : List A) (bs : List ℕ) → theirs ≡ peers → bs ≡ bytes → Gives G a b (λ went. went ≡ sent_to peers bytes (replicate n 0)) → GivesNothing G b c
        → Gives G c d (λ went. went ≡ sent_to theirs bs (0 ∷ [])) → GivesNothing G d e → Gives G a e (λ went. went ≡ sent_to peers bytes (replicate (n + 1) 0))
    gives-first a b c d e n theirs bs same is first before sent after =
        gives-on G a d e (λ went. went ≡ sent_to peers bytes (replicate (n + 1) 0))
        (gives-then G a c d (λ went. went ≡ sent_to peers bytes (replicate n 0)) (λ went. went ≡ sent_to peers bytes (0 ∷ [])) (λ went. went ≡ sent_to peers bytes (replicate (n + 1) 0))
        (gives-on G a b c (λ went. went ≡ sent_to peers bytes (replicate n 0)) first before)
        (subst (λ (ps : List A). Gives G c d (λ went. went ≡ sent_to ps bytes (0 ∷ []))) same (subst (λ (x : List ℕ). Gives G c d (λ went. went ≡ sent_to theirs x (0 ∷ []))) is sent))
        (λ xs ys p q. first-more n xs ys p q))
        after

    pub gives-first-tried : {E : Type 0} (a b : W) (n : ℕ) (r : Result Told E) → n ≤ most_tries → IfOk r (IsTriedFirst n) → Gives G a b (λ went. went ≡ sent_to peers bytes (replicate n 0)) → Gives G a b (AreTriedFirst peers bytes r)
    gives-first-tried a b n r most is first = gives-as G a b (λ went. went ≡ sent_to peers bytes (replicate n 0)) (AreTriedFirst peers bytes r) first (λ xs p. (n, most, p, is))

-- ---- of a command
module _ {A E : Type 0} (peers : List A) (asked floor : ℕ) (command : Command) (r : Result Told E) where
  pub untried : (IfOk r (IsTriedFor peers floor command [])) → AreTriedFor peers asked floor command r []
  untried is = ([], record { sent = unsent peers (bytes_of own_group (question_after asked) floor command) (form_of command); can = λ k has. absurd has }, is)
