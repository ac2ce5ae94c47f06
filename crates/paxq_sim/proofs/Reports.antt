-- Lines of a report.
use Rattle.std.proofs.Common.{◌≡◌, ℕ, suc, ◌+◌, ◌<◌, arith, refl, sym, subst, ap, ◌∙◌, Bool, true, false, ◌&&◌, ◌||◌, List, [], ◌∷◌, ◌++◌, append-nil, append_assoc, length, drop, get_or, Option, Some, None}
use Rattle.std.specs.Prelude.{◌==◌, if◌then◌else◌, flat_map}
use Rattle.std.specs.Option.{option_and_then}
use Rattle.std.proofs.Math.Seq.{drop-cons}
use Rattle.std.proofs.lemmas.List.Folds.{list_any-append}
use Rattle.std.proofs.lemmas.Option.{none-some}
use Rattle.std.proofs.lemmas.Grind.{flat_map-append}
use Rattle.records.specs.Script.{Script}
use Rattle.ballots.specs.Messages.{up_to}
use Rattle.ballots.specs.Terms.{Request}
use Rattle.ballots.specs.declared.request.RequestId.{RequestId}
use Rattle.ballots.specs.declared.value.Value.{Value}
use Rattle.ballots.specs.declared.value.Value.TheVariants as value
use Rattle.node.specs.Nodes.{Node, RunsAs}
use Rattle.paxos.specs.Lists.{at}
use Rattle.paxos.specs.Records.{Record}
use Rattle.paxos.specs.Step.{Running}
use Rattle.paxos.specs.World.{Told, World as Whole, Member as Part}
use Rattle.world.specs.Runs.{node_at}
use Rattle.world.specs.Shown.{World, Shows}
use Rattle.world.specs.declared.seat.Seat.{Seat}
use Rattle.world.proofs.Lifting.{some_at}
use Rattle.paxq_sim.specs.Places.{is_place}
use Rattle.paxq_sim.specs.Play.{applied_line, first_told, member_line, message_line, report, request_words, running_line, stopped_line, told_line, value_words, was_told}

-- what is left of a list, and its first element
pub drop_item : {A : Type 0} (xs : List A) (i : ℕ) (x : A) → i < length xs → x ≡ get_or xs i x → drop i xs ≡ x ∷ drop (i + 1) xs
drop_item xs i x h e =
    let next : suc i ≡ i + 1 = omega arith in
    drop-cons xs i x h ∙ (λ j. sym e j ∷ drop (next j) xs)

-- one number more
pub up_to_more : (n : ℕ) → up_to (n + 1) ≡ up_to n ++ (n + 1) ∷ []
up_to_more n = let next : suc n ≡ n + 1 = omega arith in subst (λ k. up_to k ≡ up_to n ++ k ∷ []) next refl

-- the words of a request
pub words_of : (bs : List ℕ) (id : RequestId) (r : Request) (v : Value) → bs ≡ request_words id.client id.number → id ≡ record { client = r.client; number = r.number } → v ≡ value.Request r → bs ≡ value_words v
words_of bs id r v h e q = h ∙ (λ i. request_words (e i).client (e i).number) ∙ ap value_words (sym q)

-- one member's line more
pub members_more : (start out new text : List ℕ) (v : Whole) (i : ℕ) → out ≡ start ++ flat_map (member_line v) (up_to i) → new ≡ out ++ text → text ≡ member_line v (i + 1)
    → new ≡ start ++ flat_map (member_line v) (up_to (i + 1))
members_more start out new text v i was printed is =
    printed ∙ (λ j. was j ++ is j) ∙ append_assoc start (flat_map (member_line v) (up_to i)) (member_line v (i + 1))
    ∙ ap (λ bs. start ++ bs) (sym (ap (flat_map (member_line v)) (up_to_more i) ∙ flat_map-append (member_line v) (up_to i) ((i + 1) ∷ [])
    ∙ ap (λ bs. flat_map (member_line v) (up_to i) ++ bs) (append-nil (member_line v (i + 1)))))

-- What was told earlier is printed, its places are known, and these are left.
pub record TellsOn (start : List ℕ) (all : List Told) (out : List ℕ) (places : List (ℕ × ℕ)) (left : List Told) : Type 0 where
  pub earlier : List Told
  pub text : out ++ flat_map told_line (first_told earlier left) ≡ start ++ flat_map told_line (first_told [] all)
  pub known : (m p : ℕ) → is_place places m p ≡ was_told earlier m p

module _ (start : List ℕ) (all : List Told) where
  pub tells_none : TellsOn start all start [] all
  tells_none = record { earlier = []; text = refl; known = λ m p. refl }

  pub tells_more : (out new : List ℕ) (places more : List (ℕ × ℕ)) (t : Told) (ts : List Told)
      → new ≡ out ++ (if is_place places t.member t.pair.position then [] else told_line t)
      → ((m p : ℕ) → is_place more m p ≡ ((m == t.member) && (p == t.pair.position) || is_place places m p))
      → TellsOn start all out places (t ∷ ts) → TellsOn start all new more ts
  tells_more out new places more t ts printed adds was = record {
    earlier = was.earlier ++ t ∷ [];
    text = ap (λ bs. bs ++ rest) printed ∙ append_assoc out (line (is_place places t.member t.pair.position)) rest
        ∙ ap (λ bs. out ++ bs) (ap (λ b. line b ++ rest) (was.known t.member t.pair.position) ∙ by (was_told was.earlier t.member t.pair.position)) ∙ was.text;
    known = λ m p. adds m p ∙ both ((m == t.member) && (p == t.pair.position)) (is_place places m p) (was_told was.earlier m p) (was.known m p)
        ∙ sym (list_any-append (λ (s : Told). (m == s.member) && (p == s.pair.position)) was.earlier (t ∷ []));
  }
    where
      rest : List ℕ
      rest = flat_map told_line (first_told (was.earlier ++ t ∷ []) ts)

      line : Bool → List ℕ
      line b = if b then [] else told_line t

      by : (b : Bool) → line b ++ rest ≡ flat_map told_line ((if b then [] else t ∷ []) ++ first_told (was.earlier ++ t ∷ []) ts)
      by true = refl
      by false = refl

      both : (a b c : Bool) → b ≡ c → (a || b) ≡ (c || (a || false))
      both true b c e = by_c c
        where
          by_c : (c : Bool) → true ≡ (c || true)
          by_c true = refl
          by_c false = refl
      both false b c e = e ∙ or_none c
        where
          or_none : (c : Bool) → c ≡ (c || false)
          or_none true = refl
          or_none false = refl

  pub tells_all : (out : List ℕ) (places : List (ℕ × ℕ)) (left : List Told) → left ≡ [] → TellsOn start all out places left → out ≡ start ++ flat_map told_line (first_told [] all)
  tells_all out places left none was = sym (append-nil out) ∙ ap (λ ts. out ++ flat_map told_line (first_told was.earlier ts)) (sym none) ∙ was.text

module _ {A : Type 0} (has_applied : List (List ℕ) → List Value → A → Type 0) (w : World Script A) (kept : ℕ → Record) (v : Whole) (shows : Shows has_applied w kept v) (m : ℕ) where
  abbrev pub running : Option Part → Option Running
  running o = option_and_then (λ (y : Part). y.running) o

  -- the member of a node that runs at its seat, runs
  pub runs_there : (x : Node Script A) → node_at w.seats m ≡ Some x → (u : Running) × (running (at v.members m) ≡ Some u) × RunsAs has_applied u x
  runs_there x h = by (at w.seats m) refl
    where
      by : (o : Option (Seat Script A)) → at w.seats m ≡ o → (u : Running) × (running (at v.members m) ≡ Some u) × RunsAs has_applied u x
      by None e = absurd (none-some x (sym (ap (option_and_then (λ (s : Seat Script A). s.node)) e) ∙ h))
      by (Some s) e =
          let part = some_at w.seats v.members m s shows.size e in
          let run = (shows.parts m s part.0 e part.1).running x (sym (ap (option_and_then (λ (s : Seat Script A). s.node)) e) ∙ h) in
          (run.0, ap running part.1 ∙ run.1, run.2)

  -- where none runs at the seat, none does
  pub stopped_there : node_at w.seats m ≡ None → running (at v.members m) ≡ None
  stopped_there h = by (at v.members m) refl
    where
      by : (o : Option Part) → at v.members m ≡ o → running o ≡ None
      by None e = refl
      by (Some y) e =
          let seat = some_at v.members w.seats m y (sym shows.size) e in
          (shows.parts m seat.0 y seat.1 e).stopped (sym (ap (option_and_then (λ (s : Seat Script A). s.node)) seat.1) ∙ h)

  -- so the lines of both
  pub applied_there : (bs : List ℕ) (p : ℕ) (x : Node Script A) → bs ≡ applied_line m p → node_at w.seats m ≡ Some x → ((u : Running) → RunsAs has_applied u x → p ≡ u.applied) → bs ≡ member_line v m
  applied_there bs p x h there applied =
      let run = runs_there x there in
      h ∙ ap (applied_line m) (applied run.0 run.2) ∙ ap (running_line m) (sym run.1)

  pub stopped_line_there : (bs : List ℕ) → bs ≡ stopped_line m → node_at w.seats m ≡ None → bs ≡ member_line v m
  stopped_line_there bs h there = h ∙ ap (running_line m) (sym (stopped_there there))

-- all the lines
pub reported : (v : Whole) (empty told with_messages all words : List ℕ) (messages : ℕ) → empty ≡ [] → told ≡ empty ++ flat_map told_line (first_told [] v.told) → with_messages ≡ told ++ words
    → words ≡ message_line messages → messages ≡ length v.sent → all ≡ with_messages ++ flat_map (member_line v) (up_to (length v.members)) → all ≡ report v
reported v empty told with_messages all words messages e t m w k a =
    a ∙ (λ i. m i ++ members) ∙ (λ i. (t i ++ w i) ++ members) ∙ (λ i. ((e i ++ tells) ++ message_line (k i)) ++ members)
  where
    members : List ℕ
    members = flat_map (member_line v) (up_to (length v.members))

    tells : List ℕ
    tells = flat_map told_line (first_told [] v.told)
