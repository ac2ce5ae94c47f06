-- Turns of a run.
use Rattle.std.proofs.Common.{◌≡◌, ℕ, ◌+◌, ◌≤◌, ◌<◌, Bool, true, false, codes, List, [], ◌∷◌, ◌++◌, length, nat_lt, Some, None, Result, Ok, Err, IfOk, string_bytes, refl, ap, sym, ◌∙◌, subst, arith}
use Rattle.std.proofs.lemmas.Bool.Decides.{nat_tests}
use Rattle.std.specs.declared.string.String.{String}
use Rattle.std.specs.declared.alloc.Global.{Global}
use Rattle.ballots.specs.declared.reply.Reply.{Reply}
use Rattle.ballots.specs.declared.value.Value.{Value}
use Rattle.ballots.specs.declared.value.Value.TheVariants.{Request}
use Rattle.ballots.specs.Terms.{Request as RequestTerm}
use Rattle.ballots.specs.Values.{positions}
use Rattle.sessions.specs.Terms.{id_of}
use Rattle.sessions.specs.Meaning.{request_ran, kept_reply, store_of, reply_for}
use Rattle.sessions.specs.Session.{SessionTerm, Means, reply_in}
use Rattle.sessions.proofs.Meanings.{reply-new}
use Rattle.paxq_files.specs.Script.{submit, ask, ask_at}
use Rattle.printed_replies.specs.Lines.{reply_text, answer_text, behind_text}
use Rattle.program_reports.specs.Reports.{line_feed}
use Rattle.questions.specs.Answers.{answer}
use Rattle.ballots.specs.Replies.{Answered}
use Rattle.paxos.specs.Records.{Record}
use Rattle.readers.specs.Handing.{Site}
use Rattle.sight.specs.Sights.{IsSight}
use Rattle.paxq_run.specs.Play.{Turn, turn_of, asked_turn}
use Rattle.paxq_run.specs.Sites.{Shows, HasTurned}
use Rattle.paxq_run.proofs.Sites.{shows_means, shows_seen}

-- the text of a turn that was made of a text
pub ok-text : {E : Type 0} (r : Result (String Global) E) (t : String Global) (bs : List ℕ) → r ≡ Ok t → IfOk r (λ s. string_bytes s ≡ bs) → string_bytes t ≡ bs
ok-text (Ok s) t bs e h = let same : s ≡ t = cc in ap string_bytes (sym same) ∙ h
ok-text (Err x) t bs e h = cc

some-same : {A : Type 0} (a b : A) → Some a ≡ Some b → a ≡ b
some-same a b e = cc

-- how many positions there are, as a number
pub positions-are : positions ≡ 1000000
unfolding positions
positions-are = refl

-- a request that is new
pub turn-new : (names : List (List ℕ)) (values : List Value) (s : SessionTerm) (r : RequestTerm) (reply : Reply) → Means names values s → reply_in s (id_of r) ≡ None → s.applied < positions
    → kept_reply names (values ++ Request r ∷ []) (id_of r) ≡ Some reply → turn_of names values (submit r) ≡ record { printed = reply_text reply; values = values ++ Request r ∷ []; goes_on = true }
turn-new names values s r reply means absent room kept =
    let none : kept_reply names values (id_of r) ≡ None = sym (means.replies (id_of r)) ∙ absent in
    let few : nat_lt (length values) positions ≡ true = (let e : s.applied ≡ length values = means.applied in grind (arith, nat_tests)) in
    let same : reply_for (request_ran (store_of names values) r).ending (length values + 1) ≡ reply = (λ i. reply_for (request_ran (sym means.store i) r).ending (sym means.applied i + 1)) ∙ some-same _ _ (sym (reply-new names values s means r absent) ∙ kept) in
    rw (none, few) (λ i. record { printed = reply_text (same i); values = values ++ Request r ∷ []; goes_on = true })

-- a request that has a reply
pub turn-again : (names : List (List ℕ)) (values : List Value) (r : RequestTerm) (reply : Reply) → kept_reply names values (id_of r) ≡ Some reply → turn_of names values (submit r) ≡ record { printed = reply_text reply; values = values; goes_on = true }
turn-again names values r reply kept = rw kept refl

-- a request that has no position left
turn-full : (names : List (List ℕ)) (values : List Value) (r : RequestTerm) → kept_reply names values (id_of r) ≡ None → positions ≤ length values → turn_of names values (submit r) ≡ record { printed = codes "no answer" ++ line_feed; values = values; goes_on = false }
turn-full names values r none full = let many : nat_lt (length values) positions ≡ false = grind (arith, nat_tests) in rw (none, many) refl

-- a turn that is known, and what is shown after it
turned-is : (names : List (List ℕ)) (turn known : Turn) (s : Site Record SessionTerm) (sight : List Value) → turn ≡ known → Shows names known.values s sight → (printed : List ℕ) (goes_on : Bool) → printed ≡ known.printed → goes_on ≡ known.goes_on → HasTurned names turn printed goes_on s sight
turned-is names turn known s sight e shows printed goes_on text goes =
    let P : Turn → Type 0 = λ t. HasTurned names t printed goes_on s sight in
    subst P (sym e) (record { is = record { text = text; goes = goes; means = shows_means names known.values s sight shows }; shows = shows })

module _ (names : List (List ℕ)) (values : List Value) (s : Site Record SessionTerm) (sight : List Value) (shows : Shows names values s sight) (printed : List ℕ) (goes_on : Bool) where
  pub turned-again : (r : RequestTerm) (reply : Reply) → ((ns : List (List ℕ)) (vs : List Value) → Means ns vs s.node.application → Some reply ≡ kept_reply ns vs (id_of r)) → printed ≡ reply_text reply → goes_on ≡ true → HasTurned names (turn_of names values (submit r)) printed goes_on s sight
  turned-again r reply kept text goes =
      turned-is names (turn_of names values (submit r)) (record { printed = reply_text reply; values = values; goes_on = true }) s sight (turn-again names values r reply (sym (kept names values (shows_means names values s sight shows)))) shows printed goes_on text goes

  pub turned-full : (r : RequestTerm) → ((ns : List (List ℕ)) (vs : List Value) → Means ns vs s.node.application → None ≡ kept_reply ns vs (id_of r)) → positions ≤ shows.running.applied → printed ≡ codes "no answer" ++ line_feed → goes_on ≡ false → HasTurned names (turn_of names values (submit r)) printed goes_on s sight
  turned-full r none full text goes =
      let many : positions ≤ length values = (let e = shows.applied in omega (arith, full, e)) in
      turned-is names (turn_of names values (submit r)) (record { printed = codes "no answer" ++ line_feed; values = values; goes_on = false }) s sight (turn-full names values r (sym (none names values (shows_means names values s sight shows))) many) shows printed goes_on text goes

  pub turned-new : (r : RequestTerm) (reply : Reply) (new : Site Record SessionTerm) (seen : List Value) → reply_in s.node.application (id_of r) ≡ None → shows.running.applied < positions → Shows names (values ++ Request r ∷ []) new seen
      → ((ns : List (List ℕ)) (vs : List Value) → Means ns vs new.node.application → Some reply ≡ kept_reply ns vs (id_of r)) → printed ≡ reply_text reply → goes_on ≡ true → HasTurned names (turn_of names values (submit r)) printed goes_on new seen
  turned-new r reply new seen absent room after kept text goes =
      let means = shows_means names values s sight shows in
      let few : s.node.application.applied < positions = (let e = shows.applied in let f = means.applied in omega (arith, room, e, f)) in
      let known = sym (kept names (values ++ Request r ∷ []) (shows_means names (values ++ Request r ∷ []) new seen after)) in
      turned-is names (turn_of names values (submit r)) (record { printed = reply_text reply; values = values ++ Request r ∷ []; goes_on = true }) new seen (turn-new names values s.node.application r reply means absent few known) after printed goes_on text goes

  pub turned-ask : (level : ℕ) (question : List ℕ) (answered : Answered) (position : ℕ) (seen : List Value) → answered ≡ answer (store_of names seen) level question → position ≡ length seen → position ≡ length s.store.published → IsSight sight seen
      → printed ≡ answer_text position answered → goes_on ≡ true → HasTurned names (turn_of names values (ask level question)) printed goes_on s seen
  turned-ask level question answered position seen is count shown begins text goes =
      let after = shows_seen names values s sight seen shows begins (sym count ∙ shown) in
      let same : answer_text position answered ≡ answer_text (length values) (answer (store_of names values) level question) = (λ i. answer_text ((count ∙ ap length after.seen) i) ((is ∙ ap (λ vs. answer (store_of names vs) level question) after.seen) i)) in
      turned-is names (turn_of names values (ask level question)) (asked_turn names values level question) s seen refl after printed goes_on (text ∙ same) goes

  pub turned-behind : (level floor : ℕ) (question : List ℕ) (shown : ℕ) → shown ≡ length s.store.published → shown < floor → printed ≡ behind_text shown → goes_on ≡ true → HasTurned names (turn_of names values (ask_at level floor question)) printed goes_on s sight
  turned-behind level floor question shown count less text goes =
      let same : shown ≡ length values = count ∙ ap length shows.shown in
      let low : nat_lt (length values) floor ≡ true = grind (arith, nat_tests) in
      let turn : turn_of names values (ask_at level floor question) ≡ record { printed = behind_text (length values); values = values; goes_on = true } = rw low refl in
      turned-is names (turn_of names values (ask_at level floor question)) (record { printed = behind_text (length values); values = values; goes_on = true }) s sight turn shows printed goes_on (text ∙ ap behind_text same) goes

  pub turned-at : (level floor : ℕ) (question : List ℕ) (shown : ℕ) (seen : List Value) → shown ≡ length s.store.published → floor ≤ shown → HasTurned names (turn_of names values (ask level question)) printed goes_on s seen → HasTurned names (turn_of names values (ask_at level floor question)) printed goes_on s seen
  turned-at level floor question shown seen count least turned =
      let same : shown ≡ length values = count ∙ ap length shows.shown in
      let high : nat_lt (length values) floor ≡ false = grind (arith, nat_tests) in
      let turn : turn_of names values (ask_at level floor question) ≡ turn_of names values (ask level question) = rw high refl in
      let P : Turn → Type 0 = λ t. HasTurned names t printed goes_on s seen in subst P (sym turn) turned
