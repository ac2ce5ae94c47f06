-- What texts of level 1 do, whatever a copy means.
use Rattle.std.proofs.Common.{◌≡◌, ℕ, ◌+◌, Bool, true, false, cond, if◌then◌else◌, List, [], ◌∷◌, ◌++◌, length, Some, Result, Ok, Err, refl, ap, subst, sym, ◌∙◌}
use Rattle.std.proofs.lemmas.List.Elements.{All-nil, All-cons, All-head, All-tail, All-append}
use Rattle.std.specs.List.{All, list_any}
use Rattle.std.specs.Str.{chars}
use Rattle.trees.specs.Forest.{ForestTerm, opening_forest}
use Rattle.fault_codes.specs.declared.code.Code.{Code}
use Rattle.fault_codes.specs.declared.code.Code.TheVariants.{PXQ0004}
use Rattle.query_grammar.specs.declared.ast.Expr.{Expr}
use Rattle.static_checks.specs.Categories.{judged, is_updating}
use Rattle.static_checks.specs.Static.{parsed}
use Rattle.query_meaning.specs.Meaning.{evaluated}
use Rattle.parser.proofs.Exact.{sound}
use Rattle.ballots.specs.declared.request.RequestId.{RequestId}
use Rattle.ballots.specs.declared.value.Value.{Value}
use Rattle.ballots.specs.declared.value.Value.TheVariants.{NoOp, Request}
use Rattle.ballots.specs.Replies.{fault}
use Rattle.ballots.specs.Terms.{Request as RequestTerm}
use Rattle.sessions.specs.Requests as requests
use Rattle.sessions.specs.Requests.{Ran, run, of_evaluated}
use Rattle.questions.specs.Answers as questions
use Rattle.questions.specs.Answers.{answer, of_outcome}
use Rattle.sessions.specs.Meaning.{all_run, kept_reply, new_requests, once, once_after, reply_after, reply_for, store_of, value_ran}
use Rattle.sessions.specs.Terms.{id_of, is_of}
use Rattle.level_laws.specs.Levels.{Copying, evaluated_with}
use Rattle.level_laws.proofs.Meanings.{same_value}
use Rattle.level_laws.proofs.Spelt.{in_text}
use Rattle.level_runs.specs.Runs.{ran_with, run_with, answered_with, answer_with, all_run_with, store_with, value_ran_with, reply_after_with, replies_with, IsOfLevelOne}

module _ (k : Copying) where
  same_evaluation : (text : List ℕ) (x : Expr) (forest : ForestTerm) → parsed 1 text ≡ Ok x → evaluated x forest ≡ evaluated_with k x forest
  same_evaluation text x forest h = same_value k x forest (in_text text x (sound 1 text x h))

  ran : (forest : ForestTerm) (text : List ℕ) (r : Result Expr Code) → parsed 1 text ≡ r → requests.of_parsed forest r ≡ ran_with k forest r
  ran forest text (Ok x) h = ap (of_evaluated forest) (same_evaluation text x forest h)
  ran forest text (Err code) h = refl

  pub same_run : (forest : ForestTerm) (text : List ℕ) → run forest 1 text ≡ run_with k forest 1 text
  unfolding run run_with
  same_run forest text = ran forest (chars text) (parsed 1 (chars text)) refl

  answered : (forest : ForestTerm) (text : List ℕ) (r : Result Expr Code) → parsed 1 text ≡ r → questions.of_parsed forest r ≡ answered_with k forest r
  answered forest text (Ok x) h = ap (λ e. if is_updating (judged x).category then fault PXQ0004 else of_outcome forest e) (same_evaluation text x forest h)
  answered forest text (Err code) h = refl

  pub same_answer : (forest : ForestTerm) (question : List ℕ) → answer forest 1 question ≡ answer_with k forest 1 question
  unfolding answer answer_with
  same_answer forest question = answered forest (chars question) (parsed 1 (chars question)) refl

  abbrev HasLevelOne : RequestTerm → Type 0
  HasLevelOne r = r.level ≡ 1

  one_run : (forest : ForestTerm) (r : RequestTerm) → HasLevelOne r → run forest r.level r.text ≡ run_with k forest r.level r.text
  one_run forest r is = subst (λ n. run forest n r.text ≡ run_with k forest n r.text) (sym is) (same_run forest r.text)

  all_same : (forest : ForestTerm) (rs : List RequestTerm) → All HasLevelOne rs → all_run forest rs ≡ all_run_with k forest rs
  all_same forest [] all = refl
  all_same forest (r ∷ rs) all =
      all_same (run forest r.level r.text).forest rs (All-tail HasLevelOne r rs all)
      ∙ ap (λ (after : Ran). all_run_with k after.forest rs) (one_run forest r (All-head HasLevelOne r rs all))

  none_or_one : (b : Bool) (r : RequestTerm) → HasLevelOne r → All HasLevelOne (cond b [] (r ∷ []))
  none_or_one true r is = All-nil HasLevelOne
  none_or_one false r is = All-cons HasLevelOne r [] is (All-nil HasLevelOne)

  requests_of : (before : List Value) (v : Value) → IsOfLevelOne v → All HasLevelOne (new_requests before v)
  requests_of before NoOp is = All-nil HasLevelOne
  requests_of before (Request r) is = none_or_one (list_any (is_of (id_of r)) before) r is

  all_once : (before vs : List Value) → All IsOfLevelOne vs → All HasLevelOne (once_after before vs)
  all_once before [] all = All-nil HasLevelOne
  all_once before (v ∷ vs) all =
      All-append HasLevelOne (new_requests before v) (once_after (before ++ v ∷ []) vs)
      (requests_of before v (All-head IsOfLevelOne v vs all)) (all_once (before ++ v ∷ []) vs (All-tail IsOfLevelOne v vs all))

  pub same_store : (names : List (List ℕ)) (values : List Value) → All IsOfLevelOne values → store_of names values ≡ store_with k names values
  unfolding store_of store_with
  same_store names values all = all_same (opening_forest names) (once values) (all_once [] values all)

  value_same : (forest : ForestTerm) (v : Value) → IsOfLevelOne v → value_ran forest v ≡ value_ran_with k forest v
  value_same forest NoOp is = refl
  value_same forest (Request r) is = one_run forest r is

  -- how a value ends, run after others
  ending_same : (names : List (List ℕ)) (before : List Value) (v : Value) → All IsOfLevelOne before → IsOfLevelOne v
      → value_ran (store_of names before) v ≡ value_ran_with k (store_with k names before) v
  ending_same names before v all is = value_same (store_of names before) v is ∙ ap (λ forest. value_ran_with k forest v) (same_store names before all)

  after_same : (names : List (List ℕ)) (before vs : List Value) (id : RequestId) → All IsOfLevelOne before → All IsOfLevelOne vs
      → reply_after names before vs id ≡ reply_after_with k names before vs id
  after_same names before [] id prior all = refl
  after_same names before (v ∷ vs) id prior all =
      let is : IsOfLevelOne v = All-head IsOfLevelOne v vs all in
      let ends = ending_same names before v prior is in
      let longer = All-append IsOfLevelOne before (v ∷ []) prior (All-cons IsOfLevelOne v [] is (All-nil IsOfLevelOne)) in
      let rest = after_same names (before ++ v ∷ []) vs id longer (All-tail IsOfLevelOne v vs all) in
      λ i. cond (is_of id v) (Some (reply_for (ends i).ending (length before + 1))) (rest i)

  pub same_replies : (names : List (List ℕ)) (values : List Value) (id : RequestId) → All IsOfLevelOne values → kept_reply names values id ≡ replies_with k names values id
  unfolding kept_reply replies_with
  same_replies names values id all = after_same names [] values id (All-nil IsOfLevelOne) all
