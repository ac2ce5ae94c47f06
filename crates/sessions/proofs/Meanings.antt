-- One value more, and the laws of the meaning of a list of values.
use Rattle.std.proofs.Common.{◌≡◌, ℕ, ◌+◌, Bool, true, false, ◌||◌, ◌&&◌, List, [], ◌∷◌, ◌++◌, length, cond, eqb, eq-eqb, refl, ap, sym, ◌∙◌, append_assoc, append-nil, length-append, Option, Some, None, is_some, subst}
use Rattle.std.specs.List.{list_any}
use Rattle.std.specs.Map.{lookup}
use Rattle.std.proofs.lemmas.Bool.{eqb-true}
use Rattle.trees.specs.Forest.{ForestTerm, opening_forest}
use Rattle.ballots.specs.declared.value.Value.{Value}
use Rattle.ballots.specs.declared.value.Value.TheVariants.{NoOp, Request}
use Rattle.ballots.specs.declared.request.RequestId.{RequestId}
use Rattle.ballots.specs.declared.reply.Reply.{Reply}
use Rattle.ballots.specs.Terms.{Request as RequestTerm}
use Rattle.sessions.specs.Terms.{id_of, is_same, is_of}
use Rattle.sessions.specs.Meaning.{new_requests, once_after, once, request_ran, all_run, store_of, reply_for, value_ran, reply_after, kept_reply}
use Rattle.sessions.specs.Session.{SessionTerm, reply_in, Means, after_repeat, after_new, reply_to_new}

-- ---- the store
once_after-push : (before vs : List Value) (v : Value) → once_after before (vs ++ v ∷ []) ≡ once_after before vs ++ new_requests (before ++ vs) v
once_after-push before [] v = append-nil (new_requests before v) ∙ ap (λ b. new_requests b v) (sym (append-nil before))
once_after-push before (w ∷ vs) v = rw (once_after-push (before ++ w ∷ []) vs v, append_assoc, append_assoc)

all_run-append : (f : ForestTerm) (xs ys : List RequestTerm) → all_run f (xs ++ ys) ≡ all_run (all_run f xs) ys
all_run-append f [] ys = refl
all_run-append f (x ∷ xs) ys = all_run-append (request_ran f x).forest xs ys

-- the store that one value more means
pub store_of-push : (names : List (List ℕ)) (values : List Value) (v : Value) → store_of names (values ++ v ∷ []) ≡ all_run (store_of names values) (new_requests values v)
unfolding store_of
store_of-push names values v = ap (all_run (opening_forest names)) (once_after-push [] values v) ∙ all_run-append (opening_forest names) (once values) (new_requests values v)

-- ---- the replies
-- the one, or else the other
abbrev or_else : {A : Type 0} → Option A → Option A → Option A
or_else None b = b
or_else (Some a) b = Some a

or_else-cond : {A : Type 0} (t : Bool) (x : A) (a b : Option A) → or_else (cond t (Some x) a) b ≡ cond t (Some x) (or_else a b)
or_else-cond true x a b = refl
or_else-cond false x a b = refl

-- the reply to a value, where that is the request
abbrev last_reply : List (List ℕ) → List Value → Value → RequestId → Option Reply
last_reply names before v id = cond (is_of id v) (Some (reply_for (value_ran (store_of names before) v).ending (length before + 1))) None

reply_after-push : (names : List (List ℕ)) (before vs : List Value) (v : Value) (id : RequestId) → reply_after names before (vs ++ v ∷ []) id ≡ or_else (reply_after names before vs id) (last_reply names (before ++ vs) v id)
reply_after-push names before [] v id = ap (λ b. last_reply names b v id) (sym (append-nil before))
reply_after-push names before (w ∷ vs) v id =
    let e = reply_after-push names (before ++ w ∷ []) vs v id in
    rw (e, append_assoc) (sym (or_else-cond (is_of id w) _ (reply_after names (before ++ w ∷ []) vs id) _))

kept_reply-push : (names : List (List ℕ)) (values : List Value) (v : Value) (id : RequestId) → kept_reply names (values ++ v ∷ []) id ≡ or_else (kept_reply names values id) (last_reply names values v id)
unfolding kept_reply
kept_reply-push names values v id = reply_after-push names [] values v id

is_some-cond : {A : Type 0} (t : Bool) (x : A) (a : Option A) (b : Bool) → is_some a ≡ b → is_some (cond t (Some x) a) ≡ (t || b)
is_some-cond true x a b e = refl
is_some-cond false x a b e = e

reply_after-some : (names : List (List ℕ)) (before vs : List Value) (id : RequestId) → is_some (reply_after names before vs id) ≡ list_any (is_of id) vs
reply_after-some names before [] id = refl
reply_after-some names before (v ∷ vs) id = is_some-cond (is_of id v) _ (reply_after names (before ++ v ∷ []) vs id) (list_any (is_of id) vs) (reply_after-some names (before ++ v ∷ []) vs id)

-- a reply is kept exactly where the request stands in the list
kept_reply-some : (names : List (List ℕ)) (values : List Value) (id : RequestId) → is_some (kept_reply names values id) ≡ list_any (is_of id) values
unfolding kept_reply
kept_reply-some names values id = reply_after-some names [] values id

lookup-push : {K V : Type 0} (test : K → Bool) (es : List (K × V)) (k : K) (v : V) → lookup test (es ++ (k, v) ∷ []) ≡ or_else (lookup test es) (cond (test k) (Some v) None)
lookup-push test [] k v = refl
lookup-push test (e ∷ es) k v = rw (lookup-push test es k v) (sym (or_else-cond (test e.0) e.1 (lookup test es) _))

pub and-parts : (a b : Bool) → (a && b) ≡ true → (a ≡ true) × (b ≡ true)
and-parts true true h = (refl, refl)
and-parts true false h = cc
and-parts false b h = cc

pub is_same-equal : (a b : RequestId) → is_same a b ≡ true → a ≡ b
is_same-equal a b h =
    let p = and-parts (eqb a.client b.client) (eqb a.number b.number) h in
    let c : a.client ≡ b.client = eqb-true a.client b.client p.0 in
    let n : a.number ≡ b.number = eqb-true a.number b.number p.1 in
    λ i. record { client = c i; number = n i }

-- ---- a state after one value more
or_else-none : {A : Type 0} (o : Option A) → or_else o None ≡ o
or_else-none None = refl
or_else-none (Some x) = refl

or_else-some : {A : Type 0} (o : Option A) (x : A) (p : Option A) → o ≡ Some x → or_else o p ≡ o
or_else-some o x p e = rw e

-- where the test is what it is, and the one is there where it is true
or_else-known : {A : Type 0} (o : Option A) (t : Bool) (x : A) → (t ≡ true → is_some o ≡ true) → or_else o (cond t (Some x) None) ≡ o
or_else-known (Some y) t x h = refl
or_else-known None true x h = (let z = h refl in cc)
or_else-known None false x h = refl

module _ (names : List (List ℕ)) (values : List Value) (s : SessionTerm) (means : Means names values s) where
  length-push : (v : Value) → length (values ++ v ∷ []) ≡ length values + 1
  length-push v = length-append values (v ∷ [])

  -- after a no-op
  pub Means-noop : Means names (values ++ NoOp ∷ []) (after_repeat s)
  Means-noop = record {
    store = means.store ∙ sym (store_of-push names values NoOp);
    applied = ap (λ n. n + 1) means.applied ∙ sym (length-push NoOp);
    replies = λ id. means.replies id ∙ sym (kept_reply-push names values NoOp id ∙ or_else-none (kept_reply names values id));
  }

  module _ (r : RequestTerm) where
    seen : list_any (is_of (id_of r)) values ≡ is_some (reply_in s (id_of r))
    seen = sym (kept_reply-some names values (id_of r)) ∙ ap is_some (sym (means.replies (id_of r)))

    texts : new_requests values (Request r) ≡ cond (is_some (reply_in s (id_of r))) [] (r ∷ [])
    texts = ap (λ b. cond b [] (r ∷ [])) seen

    module _ (reply : Reply) (found : reply_in s (id_of r) ≡ Some reply) where
      kept : kept_reply names values (id_of r) ≡ Some reply
      kept = sym (means.replies (id_of r)) ∙ found

      known : (id : RequestId) → is_same id (id_of r) ≡ true → is_some (kept_reply names values id) ≡ true
      known id e = ap (λ x. is_some (kept_reply names values x)) (is_same-equal id (id_of r) e) ∙ ap is_some kept

      -- a request that stands there already keeps its reply
      same-replies : (id : RequestId) → kept_reply names (values ++ Request r ∷ []) id ≡ kept_reply names values id
      same-replies id = kept_reply-push names values (Request r) id ∙ or_else-known (kept_reply names values id) (is_same id (id_of r)) _ (known id)

      -- after a later occurrence of a request
      pub Means-repeat : Means names (values ++ Request r ∷ []) (after_repeat s)
      Means-repeat = record {
        store = means.store ∙ sym (store_of-push names values (Request r) ∙ ap (all_run (store_of names values)) (texts ∙ ap (λ (o : Option Reply). cond (is_some o) [] (r ∷ [])) found));
        applied = ap (λ n. n + 1) means.applied ∙ sym (length-push (Request r));
        replies = λ id. means.replies id ∙ sym (same-replies id);
      }

      pub reply-repeat : kept_reply names (values ++ Request r ∷ []) (id_of r) ≡ Some reply
      reply-repeat = same-replies (id_of r) ∙ kept

    module _ (absent : reply_in s (id_of r) ≡ None) where
      unkept : kept_reply names values (id_of r) ≡ None
      unkept = sym (means.replies (id_of r)) ∙ absent

      same-reply : reply_for (request_ran (store_of names values) r).ending (length values + 1) ≡ reply_to_new s r
      same-reply = λ i. reply_for (request_ran (sym means.store i) r).ending (sym means.applied i + 1)

      new-replies : (id : RequestId) → reply_in (after_new s r) id ≡ kept_reply names (values ++ Request r ∷ []) id
      new-replies id =
          lookup-push (is_same id) s.replies (id_of r) _ ∙ (λ i. or_else (means.replies id i) (cond (is_same id (id_of r)) (Some (sym same-reply i)) None)) ∙ sym (kept_reply-push names values (Request r) id)

      pub Means-new : Means names (values ++ Request r ∷ []) (after_new s r)
      Means-new = record {
        store = ap (λ f. (request_ran f r).forest) means.store ∙ sym (store_of-push names values (Request r) ∙ ap (all_run (store_of names values)) (texts ∙ ap (λ (o : Option Reply). cond (is_some o) [] (r ∷ [])) absent));
        applied = ap (λ n. n + 1) means.applied ∙ sym (length-push (Request r));
        replies = new-replies;
      }

      is_same-self : (id : RequestId) → is_same id id ≡ true
      is_same-self id = rw (eq-eqb id.client id.client refl, eq-eqb id.number id.number refl) refl

      pub reply-new : kept_reply names (values ++ Request r ∷ []) (id_of r) ≡ Some (reply_to_new s r)
      reply-new = kept_reply-push names values (Request r) (id_of r) ∙ rw (unkept, is_same-self (id_of r)) (ap Some same-reply)

-- the state before any value
pub Means-opening : (names : List (List ℕ)) → Means names [] (record { forest = opening_forest names; replies = []; applied = 0 })
unfolding store_of kept_reply
Means-opening names = record { store = refl; applied = refl; replies = λ id. refl }

-- after a request, new or not
pub Means-request : (names : List (List ℕ)) (values : List Value) (s t : SessionTerm) (r : RequestTerm) (reply : Reply) → ((kept : Reply) → reply_in s (id_of r) ≡ Some kept → (reply ≡ kept) × (t ≡ after_repeat s))
    → (reply_in s (id_of r) ≡ None → (reply ≡ reply_to_new s r) × (t ≡ after_new s r)) → Means names values s → Means names (values ++ Request r ∷ []) t × (kept_reply names (values ++ Request r ∷ []) (id_of r) ≡ Some reply)
Means-request names values s t r reply repeat first means = cases (reply_in s (id_of r)) refl
  where
    cases : (o : Option Reply) → reply_in s (id_of r) ≡ o → Means names (values ++ Request r ∷ []) t × (kept_reply names (values ++ Request r ∷ []) (id_of r) ≡ Some reply)
    cases (Some kept) e =
        let h = repeat kept e in (
          let P : SessionTerm → Type 0 = Means names (values ++ Request r ∷ []) in subst P (sym h.1) (Means-repeat names values s means r kept e),
          reply-repeat names values s means r kept e ∙ ap Some (sym h.0),
        )
    cases None e =
        let h = first e in (
          let P : SessionTerm → Type 0 = Means names (values ++ Request r ∷ []) in subst P (sym h.1) (Means-new names values s means r e),
          reply-new names values s means r e ∙ ap Some (sym h.0),
        )

-- ---- laws
some-true : {A : Type 0} (t : Bool) (x : A) (o : Option A) → t ≡ true → cond t (Some x) o ≡ Some x
some-true t x o e = rw e refl

or-false : (a b : Bool) → (a || b) ≡ false → (a ≡ false) × (b ≡ false)
or-false true b e = cc
or-false false b e = (refl, e)

reply_after-first : (names : List (List ℕ)) (prior before : List Value) (v : Value) (after : List Value) (id : RequestId) → list_any (is_of id) before ≡ false → is_of id v ≡ true
    → reply_after names prior (before ++ v ∷ after) id ≡ Some (reply_for (value_ran (store_of names (prior ++ before)) v).ending (length (prior ++ before) + 1))
reply_after-first names prior [] v after id none is = some-true (is_of id v) _ _ is ∙ ap (λ b. Some (reply_for (value_ran (store_of names b) v).ending (length b + 1))) (sym (append-nil prior))
reply_after-first names prior (w ∷ ws) v after id none is =
    let parts = or-false (is_of id w) (list_any (is_of id) ws) none in
    ap (λ t. cond t (Some (reply_for (value_ran (store_of names prior) w).ending (length prior + 1))) (reply_after names (prior ++ w ∷ []) (ws ++ v ∷ after) id)) parts.0
    ∙ reply_after-first names (prior ++ w ∷ []) ws v after id parts.1 is ∙ ap (λ b. Some (reply_for (value_ran (store_of names b) v).ending (length b + 1))) (append_assoc prior (w ∷ []) ws)

-- the reply to a first occurrence
pub kept_reply-first : (names : List (List ℕ)) (before : List Value) (v : Value) (after : List Value) (id : RequestId) → list_any (is_of id) before ≡ false → is_of id v ≡ true
    → kept_reply names (before ++ v ∷ after) id ≡ Some (reply_for (value_ran (store_of names before) v).ending (length before + 1))
unfolding kept_reply
kept_reply-first names before v after id none is = reply_after-first names [] before v after id none is

is_some-none : {A : Type 0} (o : Option A) → is_some o ≡ false → o ≡ None
is_some-none None e = refl
is_some-none (Some x) e = cc

-- no reply without an occurrence
pub kept_reply-none : (names : List (List ℕ)) (values : List Value) (id : RequestId) → list_any (is_of id) values ≡ false → kept_reply names values id ≡ None
kept_reply-none names values id e = is_some-none (kept_reply names values id) (kept_reply-some names values id ∙ e)

pub store_of-opening : (names : List (List ℕ)) → store_of names [] ≡ opening_forest names
unfolding store_of
store_of-opening names = refl
