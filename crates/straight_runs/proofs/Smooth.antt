-- Runs in which no store stops a member and all that is learnt without a gap is applied, event by event.
use Rattle.std.proofs.Common.{◌≡◌, ℕ, zero, suc, ◌+◌, ◌<◌, ◌≤◌, arith, cond, leb, ◌&&◌, refl, sym, subst, ap, ◌∙◌, ◌⊎◌, inl, inr, Bool, true, false, ⊎_elim, Option, Some, None, List, [], ◌∷◌, ◌++◌, map, length, replicate}
use Rattle.std.proofs.Math.Path.{ap₂}
use Rattle.std.proofs.lemmas.Bool.{cases_eq, le-leb}
use Rattle.std.proofs.lemmas.List.{map-append}
use Rattle.std.proofs.lemmas.Option.{none-some, same_Some}
use Rattle.ballots.specs.Messages.{Packet}
use Rattle.ballots.specs.declared.value.Pair.{Pair}
use Rattle.paxos.specs.Application.{Application}
use Rattle.paxos.specs.Examples.{deliveries}
use Rattle.paxos.specs.Knowledge.{news, prefix}
use Rattle.paxos.specs.Lists.{at, put}
use Rattle.paxos.specs.Records.{Record, Write, Nothing, writes, written}
use Rattle.paxos.specs.Step.{Running, Leader, Effect, on_message}
use Rattle.paxos.specs.World.{Member, World, Cast, Told, Event, Deliver, Choice, Happening, cast_by, told_to, casts, after, applies, applies_to, may_fail, stops_in, settles, delivers, takes, happens, run, Run, start, started, fresh}
use Rattle.paxos.proofs.Lists.{at_put, at_put_other, at_replicate, length_put}
use Rattle.paxos.proofs.Worlds.{run_more}
use Rattle.straight_runs.proofs.Prefixes.{prefix_empty}
use Rattle.paxos.specs.Smooth.{AllApplied, AllRun, IsSmooth, SmoothRun}

-- a member that has heard these messages, leads this, and has applied all
abbrev pub runs_with : (members : ℕ) → List Packet → Option Leader → Running
runs_with n heard leader = record { heard = heard; leader = leader; applied = prefix n (news heard) }

-- Where no store stops a member and all is applied, the event leads to that world.
pub record Leads (app : Application) (w : World) (event : Event) (v : World) : Type 0 where
  pub only : (c : Choice) → (c.fails ≡ None) ⊎ AllRun (happens app w c event) → AllApplied (happens app w c event) → happens app w c event ≡ v
  pub may : (c : Choice) × (c.fails ≡ None) × (happens app w c event ≡ v)
  pub keeps : AllApplied w → AllApplied v

-- How one of n members takes its step at an event, and the world after it.
pub record Taken (app : Application) (n : ℕ) (w : World) (event : Event) (v : World) : Type 0 where
  pub member : ℕ
  pub kept : Record
  pub running : Running
  pub write : Write
  pub next : Running
  pub sends : List Packet
  pub tells : List Pair
  pub many : length w.members ≡ n
  pub there : at w.members member ≡ Some (record { kept = kept; running = Some running })
  pub step : (c : Choice) → happens app w c event ≡ after w member kept (settles n c (record { write = write; running = Some next; sends = sends; tells = tells }))
  pub enough : next.applied ≤ prefix n (news next.heard)
  pub members : v.members ≡ put w.members member (record { kept = written write kept; running = Some (runs_with n next.heard next.leader) })
  pub sent : v.sent ≡ w.sent ++ sends
  pub votes : v.votes ≡ w.votes ++ map (cast_by member) (casts write)
  pub told : v.told ≡ w.told ++ map (told_to member) tells

-- worlds with the same parts
pub same_world : (w v : World) → w.members ≡ v.members → w.sent ≡ v.sent → w.votes ≡ v.votes → w.told ≡ v.told → w ≡ v
same_world w v a b c d = ap₂ (λ (f : List Cast → List Told → World) (t : List Told). f w.votes t) (ap₂ with_parts a b) d ∙ ap (λ (x : List Cast). with_parts v.members v.sent x v.told) c
  where
    with_parts : List Member → List Packet → List Cast → List Told → World
    with_parts ms ps cs ts = record { members = ms; sent = ps; votes = cs; told = ts }

module _ (app : Application) (n : ℕ) (w : World) (event : Event) (v : World) (t : Taken app n w event v) where
  -- what the step does
  abbrev effect : Effect
  effect = record { write = t.write; running = Some t.next; sends = t.sends; tells = t.tells }

  -- the world after it, where the step applies up to k
  applied_to : ℕ → World
  applied_to k = after w t.member t.kept (applies n k effect)

  -- a store that fails in a step that writes stops the member
  by_test : (kept : Bool) (k : ℕ) (b : Bool) → AllRun (after w t.member t.kept (applies n k (cond b (stops_in kept effect) effect))) → after w t.member t.kept (applies n k (cond b (stops_in kept effect) effect)) ≡ applied_to k
  unfolding applied_to
  by_test kept k false run = refl
  by_test kept k true run = absurd (none-some _ (run t.member stopped (at_put w.members t.member (record { kept = t.kept; running = Some t.running }) stopped t.there)).1)
    where
      stopped : Member
      stopped = record { kept = written (cond kept t.write Nothing) t.kept; running = None }

  -- so none did, or there was nothing to write
  by_store : (fails : Option Bool) (k : ℕ) → (fails ≡ None) ⊎ AllRun (after w t.member t.kept (applies n k (may_fail fails effect))) → after w t.member t.kept (applies n k (may_fail fails effect)) ≡ applied_to k
  unfolding applied_to
  by_store None k h = refl
  by_store (Some kept) k (inl e) = absurd (none-some kept (sym e))
  by_store (Some kept) k (inr run) = by_test kept k (writes t.write) run

  -- no store fails, or none that stops a member
  taken : (c : Choice) → (c.fails ≡ None) ⊎ AllRun (happens app w c event) → happens app w c event ≡ applied_to c.applied
  taken c h = t.step c ∙ by_store c.fails c.applied (subst (λ (x : World). (c.fails ≡ None) ⊎ AllRun x) (t.step c) h)

  -- all is applied
  settled : (k : ℕ) → (applies_to n k t.next).applied ≡ prefix n (news t.next.heard) → applied_to k ≡ v
  unfolding applied_to
  settled k h = same_world (applied_to k) v
      (ap (λ (a : ℕ). put w.members t.member (record { kept = written t.write t.kept; running = Some (record { heard = t.next.heard; leader = t.next.leader; applied = a }) })) h ∙ sym t.members)
      (sym t.sent) (sym t.votes) (sym t.told)

  -- where all is applied then
  all_applied_to : (k : ℕ) → AllApplied (applied_to k) → (applies_to n k t.next).applied ≡ prefix n (news t.next.heard)
  unfolding applied_to
  all_applied_to k h =
      h t.member (record { kept = written t.write t.kept; running = Some (applies_to n k t.next) }) (applies_to n k t.next)
      (at_put w.members t.member (record { kept = t.kept; running = Some t.running }) (record { kept = written t.write t.kept; running = Some (applies_to n k t.next) }) t.there) refl
      ∙ ap (λ (l : ℕ). prefix l (news t.next.heard)) (length_put w.members t.member (record { kept = written t.write t.kept; running = Some (applies_to n k t.next) }) ∙ t.many)

  -- it leads nowhere else
  the_only : (c : Choice) → (c.fails ≡ None) ⊎ AllRun (happens app w c event) → AllApplied (happens app w c event) → happens app w c event ≡ v
  the_only c h all = taken c h ∙ settled c.applied (all_applied_to c.applied (subst AllApplied (taken c h) all))

  -- and may lead there
  possible : (c : Choice) × (c.fails ≡ None) × (happens app w c event ≡ v)
  possible = (choice, refl, taken choice (inl refl) ∙ settled choice.applied (one choice.applied t.next.applied t.enough))
    where
      choice : Choice
      choice = record { fails = None; applied = prefix n (news t.next.heard) }

      one : (p a : ℕ) → a ≤ p → cond (leb a p && leb p p) p a ≡ p
      one p a l = rw (le-leb a p l, le-leb p p (omega arith)) refl

  -- each member has applied all then, if it had before
  each_applied : AllApplied w → AllApplied v
  each_applied h i x u e r = ⊎_elim (new i x u e r) (old h i x u e r) (cases_eq i t.member)
    where
      new_member : Member
      new_member = record { kept = written t.write t.kept; running = Some (runs_with n t.next.heard t.next.leader) }

      as_many : length v.members ≡ length w.members
      as_many = ap length t.members ∙ length_put w.members t.member new_member

      new : (i : ℕ) (x : Member) (u : Running) → at v.members i ≡ Some x → x.running ≡ Some u → i ≡ t.member → u.applied ≡ prefix (length v.members) (news u.heard)
      new i x u e r q =
          let is : x ≡ new_member = same_Some x new_member (sym e ∙ (ap₂ (λ (ms : List Member) (k : ℕ). at ms k) t.members q ∙ at_put w.members t.member (record { kept = t.kept; running = Some t.running }) new_member t.there)) in
          let runs : u ≡ runs_with n t.next.heard t.next.leader = same_Some u _ (sym r ∙ ap (λ (y : Member). y.running) is) in
          subst (λ (y : Running). y.applied ≡ prefix (length v.members) (news y.heard)) (sym runs) (ap (λ (l : ℕ). prefix l (news t.next.heard)) (sym (as_many ∙ t.many)))

      old : AllApplied w → (i : ℕ) (x : Member) (u : Running) → at v.members i ≡ Some x → x.running ≡ Some u → (i ≡ t.member → ⊥) → u.applied ≡ prefix (length v.members) (news u.heard)
      old h i x u e r d = h i x u (sym (ap (λ (ms : List Member). at ms i) t.members ∙ at_put_other w.members t.member i new_member d) ∙ e) r ∙ ap (λ (l : ℕ). prefix l (news u.heard)) (sym as_many)

  -- A step that is taken leads to the world after it.
  pub leads : Leads app w event v
  leads = record { only = the_only; may = possible; keeps = each_applied }

-- a message comes to one of n members, which runs
pub delivered : (app : Application) (n : ℕ) (w : World) (number : ℕ) (p : Packet) (r : Record) (u : Running) (e : Effect) → length w.members ≡ n → at w.sent number ≡ Some p
    → at w.members p.target ≡ Some (record { kept = r; running = Some u }) → on_message app n p.target p r u ≡ e
    → (c : Choice) → happens app w c (Deliver number) ≡ after w p.target r (settles n c e)
delivered app n w number p r u e many sent there does c =
    ap (delivers app w (settles (length w.members) c)) sent
    ∙ (ap (takes w p.target (λ r u. settles (length w.members) c (on_message app (length w.members) p.target p r u))) there
    ∙ ap (after w p.target r) (ap (λ (l : ℕ). settles l c (on_message app l p.target p r u)) many ∙ ap (settles n c) does))

-- the events lead to that world, one after the other
abbrev pub Reaches : Application → World → List Event → World → Type 0
Reaches app w [] v = w ≡ v
Reaches app w (e ∷ es) v = (x : World) × Leads app w e x × Reaches app x es v

-- some events, then others
pub reaches_join : (app : Application) (w v x : World) (es fs : List Event) → Reaches app w es v → Reaches app v fs x → Reaches app w (es ++ fs) x
reaches_join app w v x [] fs r s = subst (λ y. Reaches app y fs x) (sym r) s
reaches_join app w v x (e ∷ es) fs r s = (r.0, r.1, reaches_join app r.0 v x es fs r.2 s)

-- deliveries one after the other, through worlds that are numbered
pub deliveries_reach : (app : Application) (at_most from : ℕ) (worlds : ℕ → World) → ((i : ℕ) → i < at_most → Leads app (worlds i) (Deliver (from + i)) (worlds (suc i)))
    → (number i j end : ℕ) → number ≡ from + i → end ≡ i + j → end ≤ at_most → Reaches app (worlds i) (deliveries number j) (worlds end)
deliveries_reach app m from worlds step number i zero end e f l = ap worlds (omega arith)
deliveries_reach app m from worlds step number i (suc j) end e f l = (
  worlds (suc i),
  subst (λ k. Leads app (worlds i) (Deliver k) (worlds (suc i))) (sym e) (step i (omega arith)),
  deliveries_reach app m from worlds step (suc number) (suc i) j end (omega arith) (omega arith) l,
)

-- deliveries, and then others
pub deliveries_join : (a b i j : ℕ) → b ≡ a + i → deliveries a (i + j) ≡ deliveries a i ++ deliveries b j
deliveries_join a b zero j e = ap₂ (λ x y. deliveries x y) (omega arith) (omega arith)
deliveries_join a b (suc i) j e = more ∙ ap (λ (es : List Event). Deliver a ∷ es) (deliveries_join (suc a) b i j (omega arith))
  where
    sum : suc i + j ≡ suc (i + j)
    sum = omega arith

    more : deliveries a (suc i + j) ≡ Deliver a ∷ deliveries (suc a) (i + j)
    more = ap (deliveries a) sum

-- one delivery more
pub deliveries_more : (a b j : ℕ) → b ≡ a + j → deliveries a (suc j) ≡ deliveries a j ++ Deliver b ∷ []
deliveries_more a b j e = ap (deliveries a) next ∙ deliveries_join a b j 1 e
  where
    next : suc j ≡ j + 1
    next = omega arith

-- the first of the happenings, and the others
first_event : (h : Happening) (hs : List Happening) (e : Event) (es : List Event) → map (λ (x : Happening). x.event) (h ∷ hs) ≡ e ∷ es → (h.event ≡ e) × (map (λ (x : Happening). x.event) hs ≡ es)
first_event h hs e es q = (cc, cc)

-- Where no store stops a member and all is applied, they lead to no other world.
pub reaches_only : (app : Application) (w v : World) (es : List Event) → Reaches app w es v → (hs : List Happening) → map (λ (h : Happening). h.event) hs ≡ es → IsSmooth app w hs → run app w hs ≡ v
reaches_only app w v [] r [] q s = r
reaches_only app w v [] r (h ∷ hs) q s = absurd cc
reaches_only app w v (e ∷ es) r [] q s = absurd cc
reaches_only app w v (e ∷ es) r (h ∷ hs) q s =
    let parts = first_event h hs e es q in
    let same : happens app w h.choice h.event ≡ r.0 =
    subst (λ (x : Event). (h.choice.fails ≡ None) ⊎ AllRun (happens app w h.choice x) → AllApplied (happens app w h.choice x) → happens app w h.choice x ≡ r.0) (sym parts.0) (r.1.only h.choice) s.0 s.1 in
    ap (λ (x : World). run app x hs) same ∙ reaches_only app r.0 v es r.2 hs parts.1 (subst (λ (x : World). IsSmooth app x hs) same s.2)

-- And so they may happen.
pub reaches_may : (app : Application) (w v : World) (es : List Event) → AllApplied w → Reaches app w es v
    → (hs : List Happening) × (map (λ (h : Happening). h.event) hs ≡ es) × IsSmooth app w hs × (run app w hs ≡ v)
reaches_may app w v [] all r = ([], refl, tt, r)
reaches_may app w v (e ∷ es) all r =
    let rest = reaches_may app r.0 v es (r.1.keeps all) r.2 in
    let same = r.1.may.2 in (
      record { event = e; choice = r.1.may.0 } ∷ rest.0,
      ap (λ (x : List Event). e ∷ x) rest.1,
      (inl r.1.may.1, subst AllApplied (sym same) (r.1.keeps all), subst (λ (x : World). IsSmooth app x rest.0) (sym same) rest.2),
      ap (λ (x : World). run app x rest.0) same ∙ rest.3,
    )

-- No event leads nowhere.
pub smooth_none : (app : Application) (n : ℕ) → SmoothRun app n [] (start n)
smooth_none app n = ([], refl, tt, refl)

-- one happening more
smoothly_on : (app : Application) (w : World) (hs : List Happening) (h : Happening) → IsSmooth app w hs → (h.choice.fails ≡ None) ⊎ AllRun (happens app (run app w hs) h.choice h.event) → AllApplied (happens app (run app w hs) h.choice h.event) → IsSmooth app w (hs ++ h ∷ [])
smoothly_on app w [] h s f all = (f, all, tt)
smoothly_on app w (x ∷ hs) h s f all = (s.0, s.1, smoothly_on app (happens app w x.choice x.event) hs h s.2 f all)

-- A run goes on by an event at which no store stops a member, and after which all is applied.
pub smooth_more : (app : Application) (n : ℕ) (events : List Event) (w : World) (event : Event) (c : Choice) → SmoothRun app n events w → (c.fails ≡ None) ⊎ AllRun (happens app w c event) → AllApplied (happens app w c event)
    → SmoothRun app n (events ++ event ∷ []) (happens app w c event)
smooth_more app n events w event c r f all = (
  r.0 ++ new ∷ [],
  map-append (λ (h : Happening). h.event) r.0 (new ∷ []) ∙ ap (λ (es : List Event). es ++ event ∷ []) r.1,
  smoothly_on app (start n) r.0 new r.2 (subst (λ (x : World). (c.fails ≡ None) ⊎ AllRun (happens app x c event)) (sym r.3) f) (subst (λ (x : World). AllApplied (happens app x c event)) (sym r.3) all),
  run_more app (start n) r.0 new ∙ ap (λ (x : World). happens app x c event) r.3,
)
  where
    new : Happening
    new = record { event = event; choice = c }

-- It is a run of the protocol.
pub smooth_run : (app : Application) (n : ℕ) (events : List Event) (end : World) → SmoothRun app n events end → Run app (start n) events end
smooth_run app n events end r = (r.0, r.1, r.3)

-- Events that lead to a world lead to no other.
pub reaches_end : (app : Application) (n : ℕ) (events : List Event) (v end : World) → Reaches app (start n) events v → SmoothRun app n events end → v ≡ end
reaches_end app n events v end r s = sym (reaches_only app (start n) v events r s.0 s.1 s.2) ∙ s.3

-- at the start nothing is learnt, and nothing applied
all_applied_first : (n : ℕ) → AllApplied (start n)
all_applied_first n m x u e r =
    let is : fresh ≡ x = at_replicate n m fresh x e in
    let runs : started ≡ u = same_Some started u (ap (λ (y : Member). y.running) is ∙ r) in
    subst (λ (y : Running). y.applied ≡ prefix (length (replicate n fresh)) (news y.heard)) runs (sym (prefix_empty (length (replicate n fresh))))

-- And there is such a run.
pub reaches_run : (app : Application) (n : ℕ) (events : List Event) (v : World) → Reaches app (start n) events v → SmoothRun app n events v
reaches_run app n events v r = reaches_may app (start n) v events (all_applied_first n) r
