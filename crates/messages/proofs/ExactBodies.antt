-- The bodies of messages, and whole datagrams, are read exactly.
use Rattle.std.proofs.Common.{◌≡◌, ℕ, zero, suc, ◌+◌, ◌^◌, ◌<◌, ◌≤◌, Bool, true, false, nat_le, ◌==◌, ◌&&◌, ◌||◌, List, [], ◌∷◌, ◌++◌, length, slice_get, Option, Some, None, refl, sym, ap, ◌∙◌, arith, subst, ◌⊎◌, inl, inr}
use Rattle.byteorder.specs.Endian.{big_bytes}
use Rattle.fault_codes.specs.Codes.{code_number}
use Rattle.fault_codes.specs.declared.code.Code.{Code}
use Rattle.ballots.specs.Ballot.{most_members}
use Rattle.ballots.specs.Terms.{is_level, most_answer, most_level, most_text}
use Rattle.ballots.specs.Values.{IsPosition, positions}
use Rattle.ballots.specs.Replies.{Answered, text, fault}
use Rattle.ballots.specs.Messages.{Body, Prepare, Promise, Accept, Accepted, Chosen, CatchUp, Submit, Reply, Ask, Answer, Behind, Elsewhere}
use Rattle.ballots.specs.Spelling.{AreBytes}
use Rattle.ballots.specs.declared.value.Entry.{Entry}
use Rattle.paxos.specs.Lists.{at}
use Rattle.paxos.specs.WellFormed.{IsBody, IsSender, last_position}
use Rattle.messages.specs.declared.fault.WireFault.TheVariants.{Mark, Kind, Number}
use Rattle.messages.specs.Reading.{Gives, on_read, pure, prepare_read, promise_read, accept_read, accepted_read, chosen_read, catch_up_read, submit_read, reply_read, ask_read, answer_after, answer_read, behind_read, elsewhere_read, replied, ends_well, codes_by_number, code_of, outcome_after, outcome_read, bodies, body_of_kind, is_sender, header_read, end_read, datagram_read}
use Rattle.messages.specs.Spelling.{Datagram, mark, ballot_spelling, position_spelling, text_spelling, reply_spelling, answer_spelling, kind, body_spelling, spelling, IsReply, IsAnswer, HasFields, IsDatagram}
use Rattle.std.proofs.lemmas.List.{append_assoc}
use Rattle.messages.proofs.Appending.{append_none}
use Rattle.messages.proofs.Exact.{Exact, step, held-from, link, finish, Between, number-exact, byte-exact, between-exact, small-exact, is-le, is-equal, both}
use Rattle.messages.proofs.ExactParts.{text-exact, value-exact, ballot-exact, own-ballot-exact, entries-exact, pairs-exact}

-- what a body of a kind may be, where its sender may say that kind
record MayBe (sender k : ℕ) (b : Body) : Type 0 where
  of_kind : kind b ≡ k
  said : is_sender k sender ≡ true → IsSender most_members sender b
  body : IsBody most_members b
  fields : HasFields b

from-member : (s : ℕ) → (nat_le 1 s && nat_le s most_members) ≡ true → (1 ≤ s) × (s ≤ most_members)
from-member s h =
    let two = both (nat_le 1 s) (nat_le s most_members) h in
    (is-le _ _ two.0, is-le _ _ two.1)

-- codes

abbrev AreNumbered : (first : ℕ) → List Code → Type 0
AreNumbered first [] = Unit {0}
AreNumbered first (c ∷ cs) = (code_number c ≡ first) × AreNumbered (suc first) cs

numbered-at : (first : ℕ) (cs : List Code) (i : ℕ) (c : Code) → AreNumbered first cs → slice_get cs i ≡ Some c → code_number c ≡ i + first
numbered-at first [] i c h e = cc
numbered-at first (d ∷ cs) zero c h e =
    let same : d ≡ c = cc in
    ap code_number (sym same) ∙ (h.0 ∙ omega arith)
numbered-at first (d ∷ cs) (suc i) c h e = numbered-at (suc first) cs i c h.1 e ∙ omega arith

all-numbered : AreNumbered 1 codes_by_number
all-numbered = (refl, (refl, (refl, (refl, (refl, (refl, (refl, (refl, (refl, (refl, (refl, (refl, (refl, (refl, (refl, (refl, (refl, (refl, (refl, (refl, (refl, (refl, (refl, (refl, (refl, (refl, (refl, (refl, (refl, (refl, (refl, (refl, (refl, (refl, (refl, (refl, (refl, (refl, (refl, (refl, (refl, (refl, (refl, (refl, (refl, (refl, (refl, (refl, tt))))))))))))))))))))))))))))))))))))))))))))))))

abbrev outcome_byte : Option Code → List ℕ
outcome_byte None = 0 ∷ []
outcome_byte (Some code) = code_number code ∷ []

some-code : (n : ℕ) (found : Option Code) (mid rest : List ℕ) (o : Option Code) → slice_get codes_by_number n ≡ found → on_read (code_of found mid) (λ code. pure (Some code)) ≡ Gives o rest → (suc n ∷ mid ≡ outcome_byte o ++ rest)
some-code n None mid rest o e h = cc
some-code n (Some c) mid rest o e h =
    let same : Some c ≡ o = cc in
    let end : mid ≡ rest = cc in
    let number : code_number c ≡ n + 1 = numbered-at 1 codes_by_number n c all-numbered e in
    let spelt : suc n ∷ mid ≡ code_number c ∷ rest = rw (number, end) (ap (λ (x : ℕ). x ∷ rest) (omega arith)) in
    subst (λ (x : Option Code). suc n ∷ mid ≡ outcome_byte x ++ rest) same spelt

after-number : (n : ℕ) (mid rest : List ℕ) (o : Option Code) → outcome_after n mid ≡ Gives o rest → n ∷ mid ≡ outcome_byte o ++ rest
after-number zero mid rest o h =
    let same : None ≡ o = cc in
    let end : mid ≡ rest = cc in
    subst (λ (x : Option Code). 0 ∷ mid ≡ outcome_byte x ++ rest) same (ap (λ (xs : List ℕ). 0 ∷ xs) end)
after-number (suc n) mid rest o h = some-code n (slice_get codes_by_number n) mid rest o refl h

outcome-exact : Exact outcome_read outcome_byte (λ o. Unit {0})
outcome-exact bytes rest o small e =
    let n = step byte-exact small e in
    record { are = n.are ∙ after-number n.first n.mid rest o n.next; good = tt }

-- bodies

prepare-exact : (sender : ℕ) → Exact (prepare_read sender) body_spelling (λ b. MayBe sender 1 b)
prepare-exact sender bytes rest b small e =
    let x = step (own-ballot-exact sender) small e in
    let p = step (between-exact 4 1 positions) x.small x.next in
    finish body_spelling (λ c. MayBe sender 1 c) bytes rest p.mid (Prepare x.first p.first) b p.next
    (link (ballot_spelling x.first) x.are p.are)
    (record { of_kind = refl; said = λ h. x.good.1; body = ((x.good.0, x.good.0.3), p.good); fields = tt })

accept-exact : (sender : ℕ) → Exact (accept_read sender) body_spelling (λ b. MayBe sender 3 b)
accept-exact sender bytes rest b small e =
    let x = step (own-ballot-exact sender) small e in
    let p = step (between-exact 4 1 positions) x.small x.next in
    let v = step value-exact p.small p.next in
    finish body_spelling (λ c. MayBe sender 3 c) bytes rest v.mid (Accept p.first (record { ballot = x.first; value = v.first })) b v.next
    (link (ballot_spelling x.first) x.are (link (position_spelling p.first) p.are v.are))
    (record { of_kind = refl; said = λ h. x.good.1; body = (p.good, (x.good.0, x.good.0.3)); fields = v.good })

accepted-exact : (sender : ℕ) → Exact accepted_read body_spelling (λ b. MayBe sender 4 b)
accepted-exact sender bytes rest b small e =
    let x = step ballot-exact small e in
    let p = step (between-exact 4 1 positions) x.small x.next in
    let v = step value-exact p.small p.next in
    finish body_spelling (λ c. MayBe sender 4 c) bytes rest v.mid (Accepted p.first (record { ballot = x.first; value = v.first })) b v.next
    (link (ballot_spelling x.first) x.are (link (position_spelling p.first) p.are v.are))
    (record { of_kind = refl; said = from-member sender; body = (p.good, (x.good, x.good.3)); fields = v.good })

either : (a b : Bool) → (a || b) ≡ true → (a ≡ true) ⊎ (b ≡ true)
either true b h = inl refl
either false b h = inr h

ends : (covered : ℕ) (es : List Entry) → ends_well covered es ≡ true → (covered ≡ positions) ⊎ ((length es ≡ 8) × (last_position 0 es ≡ covered))
ends covered es h = ends-by covered es (either (covered == positions) (length es == 8 && last_position 0 es == covered) h)
  where
    ends-by : (covered : ℕ) (es : List Entry) → ((covered == positions) ≡ true) ⊎ ((length es == 8 && last_position 0 es == covered) ≡ true) → (covered ≡ positions) ⊎ ((length es ≡ 8) × (last_position 0 es ≡ covered))
    ends-by covered es (inl h) = inl (is-equal _ _ h)
    ends-by covered es (inr h) =
        let two = both (length es == 8) (last_position 0 es == covered) h in
        inr (is-equal _ _ two.0, is-equal _ _ two.1)

promise-exact : (sender : ℕ) → Exact promise_read body_spelling (λ b. MayBe sender 2 b)
promise-exact sender bytes rest b small e =
    let x = step ballot-exact small e in
    let from = step (between-exact 4 1 positions) x.small x.next in
    let covered = step (between-exact 4 from.first positions) from.small from.next in
    let count = step (small-exact 0 8) covered.small covered.next in
    let es = step (entries-exact count.first x.first from.first covered.first) count.small count.next in
    let t = held-from Number (ends_well covered.first es.first) _ es.mid rest b es.next in
    let many : count.first ≡ length es.first = sym es.good.many in
    finish body_spelling (λ c. MayBe sender 2 c) bytes rest es.mid (Promise (record { ballot = x.first; from = from.first; covered = covered.first; entries = es.first })) b t.1
    (link (ballot_spelling x.first) x.are (link (position_spelling from.first) from.are (link (position_spelling covered.first) covered.are (count.are ∙ (ap (λ (n : ℕ). n ∷ count.mid) many ∙ ap (λ (xs : List ℕ). length es.first ∷ xs) es.are)))))
    (record {
      of_kind = refl;
      said = from-member sender;
      body = record {
        ballot = (x.good, x.good.3);
        least = from.good.0;
        most = covered.good.1;
        covers = covered.good.0;
        votes = es.good.votes;
        many = subst (λ (n : ℕ). n ≤ 8) many count.good.1;
        end = ends covered.first es.first t.0;
      };
      fields = es.good.values;
    })

chosen-exact : (sender : ℕ) → Exact chosen_read body_spelling (λ b. MayBe sender 5 b)
chosen-exact sender bytes rest b small e =
    let count = step (small-exact 1 8) small e in
    let es = step (pairs-exact count.first 1) count.small count.next in
    let many : count.first ≡ length es.first = sym es.good.many in
    finish body_spelling (λ c. MayBe sender 5 c) bytes rest es.mid (Chosen es.first) b es.next
    (count.are ∙ (ap (λ (n : ℕ). n ∷ count.mid) many ∙ ap (λ (xs : List ℕ). length es.first ∷ xs) es.are))
    (record { of_kind = refl; said = from-member sender; body = (es.good.pairs, subst (λ (n : ℕ). 1 ≤ n) many count.good.0, subst (λ (n : ℕ). n ≤ 8) many count.good.1); fields = es.good.values })

catch-up-exact : (sender : ℕ) → Exact catch_up_read body_spelling (λ b. MayBe sender 6 b)
catch-up-exact sender bytes rest b small e =
    let p = step (between-exact 4 1 positions) small e in
    finish body_spelling (λ c. MayBe sender 6 c) bytes rest p.mid (CatchUp p.first) b p.next p.are
    (record { of_kind = refl; said = from-member sender; body = p.good; fields = tt })

known : (n : ℕ) → Between 1 most_level n → is_level n ≡ true
known n h = let least : 1 ≤ n = h.0 in let most : n ≤ 2 = h.1 in grind arith

submit-exact : (sender : ℕ) → Exact submit_read body_spelling (λ b. MayBe sender 7 b)
submit-exact sender bytes rest b small e =
    let c = step (number-exact 4) small e in
    let n = step (number-exact 8) c.small c.next in
    let l = step (small-exact 1 most_level) n.small n.next in
    let t = step (text-exact most_text) l.small l.next in
    finish body_spelling (λ x. MayBe sender 7 x) bytes rest t.mid (Submit (record { client = c.first; number = n.first; level = l.first; text = t.first })) b t.next
    (link (big_bytes 4 c.first) c.are (link (big_bytes 8 n.first) n.are (link (l.first ∷ []) l.are t.are)))
    (record { of_kind = refl; said = is-equal sender 0; body = tt; fields = record { client = c.good; number = n.good; level = known l.first l.good; text = t.good.0; utf8 = t.good.1 } })

replied-spelt : (o : Option Code) (p : ℕ) → outcome_byte o ++ position_spelling p ≡ reply_spelling (replied o p)
replied-spelt None p = refl
replied-spelt (Some c) p = refl

replied-good : (o : Option Code) (p : ℕ) → IsPosition p → IsReply (replied o p)
replied-good None p h = h
replied-good (Some c) p h = h

reply-exact : (sender : ℕ) → Exact reply_read body_spelling (λ b. MayBe sender 8 b)
reply-exact sender bytes rest b small e =
    let c = step (number-exact 4) small e in
    let n = step (number-exact 8) c.small c.next in
    let o = step outcome-exact n.small n.next in
    let p = step (between-exact 4 1 positions) o.small o.next in
    let outcome : o.mid ≡ position_spelling p.first ++ p.mid = p.are in
    let spelt : n.mid ≡ reply_spelling (replied o.first p.first) ++ p.mid = o.are ∙ (ap (λ (xs : List ℕ). outcome_byte o.first ++ xs) outcome ∙ (sym (append_assoc (outcome_byte o.first) (position_spelling p.first) p.mid) ∙ ap (λ (xs : List ℕ). xs ++ p.mid) (replied-spelt o.first p.first))) in
    finish body_spelling (λ x. MayBe sender 8 x) bytes rest p.mid (Reply c.first n.first (replied o.first p.first)) b p.next
    (link (big_bytes 4 c.first) c.are (link (big_bytes 8 n.first) n.are spelt))
    (record { of_kind = refl; said = from-member sender; body = tt; fields = ((c.good, n.good), replied-good o.first p.first p.good) })

ask-exact : (sender : ℕ) → Exact ask_read body_spelling (λ b. MayBe sender 9 b)
ask-exact sender bytes rest b small e =
    let c = step (number-exact 4) small e in
    let n = step (number-exact 8) c.small c.next in
    let f = step (between-exact 4 0 positions) n.small n.next in
    let l = step (small-exact 1 most_level) f.small f.next in
    let t = step (text-exact most_text) l.small l.next in
    finish body_spelling (λ x. MayBe sender 9 x) bytes rest t.mid (Ask (record { client = c.first; number = n.first; floor = f.first; level = l.first; text = t.first })) b t.next
    (link (big_bytes 4 c.first) c.are (link (big_bytes 8 n.first) n.are (link (big_bytes 4 f.first) f.are (link (l.first ∷ []) l.are t.are))))
    (record { of_kind = refl; said = is-equal sender 0; body = tt; fields = ((c.good, n.good), f.good.1, known l.first l.good, t.good) })

-- after the outcome
abbrev after_outcome : Answered → List ℕ
after_outcome (text t) = text_spelling t
after_outcome (fault code) = []

record IsAfter (o : Option Code) (a : Answered) : Type 0 where
  spelt : outcome_byte o ++ after_outcome a ≡ answer_spelling a
  good : IsAnswer a

answered-exact : (o : Option Code) → Exact (answer_after o) after_outcome (λ a. IsAfter o a)
answered-exact None bytes rest a small e =
    let t = step (text-exact most_answer) small e in
    finish after_outcome (λ x. IsAfter None x) bytes rest t.mid (text t.first) a t.next t.are (record { spelt = refl; good = t.good })
answered-exact (Some c) bytes rest a small e =
    finish after_outcome (λ x. IsAfter (Some c) x) bytes rest bytes (fault c) a e refl (record { spelt = refl; good = tt })

answer-exact : (sender : ℕ) → Exact answer_read body_spelling (λ b. MayBe sender 10 b)
answer-exact sender bytes rest b small e =
    let c = step (number-exact 4) small e in
    let n = step (number-exact 8) c.small c.next in
    let f = step (between-exact 4 0 positions) n.small n.next in
    let o = step outcome-exact f.small f.next in
    let a = step (answered-exact o.first) o.small o.next in
    let spelt : f.mid ≡ answer_spelling a.first ++ a.mid = o.are ∙ (ap (λ (xs : List ℕ). outcome_byte o.first ++ xs) a.are ∙ (sym (append_assoc (outcome_byte o.first) (after_outcome a.first) a.mid) ∙ ap (λ (xs : List ℕ). xs ++ a.mid) a.good.spelt)) in
    finish body_spelling (λ x. MayBe sender 10 x) bytes rest a.mid (Answer c.first n.first f.first a.first) b a.next
    (link (big_bytes 4 c.first) c.are (link (big_bytes 8 n.first) n.are (link (big_bytes 4 f.first) f.are spelt)))
    (record { of_kind = refl; said = from-member sender; body = tt; fields = ((c.good, n.good), f.good.1, a.good.good) })

behind-exact : (sender : ℕ) → Exact behind_read body_spelling (λ b. MayBe sender 11 b)
behind-exact sender bytes rest b small e =
    let c = step (number-exact 4) small e in
    let n = step (number-exact 8) c.small c.next in
    let f = step (between-exact 4 0 positions) n.small n.next in
    finish body_spelling (λ x. MayBe sender 11 x) bytes rest f.mid (Behind c.first n.first f.first) b f.next
    (link (big_bytes 4 c.first) c.are (link (big_bytes 8 n.first) n.are f.are))
    (record { of_kind = refl; said = from-member sender; body = tt; fields = ((c.good, n.good), f.good.1) })

elsewhere-exact : (sender : ℕ) → Exact elsewhere_read body_spelling (λ b. MayBe sender 12 b)
elsewhere-exact sender bytes rest b small e =
    let c = step (number-exact 4) small e in
    let n = step (number-exact 8) c.small c.next in
    let m = step (small-exact 0 most_members) n.small n.next in
    finish body_spelling (λ x. MayBe sender 12 x) bytes rest m.mid (Elsewhere c.first n.first m.first) b m.next
    (link (big_bytes 4 c.first) c.are (link (big_bytes 8 n.first) n.are m.are))
    (record { of_kind = refl; said = from-member sender; body = m.good.1; fields = (c.good, n.good) })

body-exact : (sender k : ℕ) → Exact (body_of_kind (at (bodies sender) k)) body_spelling (λ b. MayBe sender k b)
body-exact sender zero bytes rest b small e = cc
body-exact sender (suc zero) bytes rest b small e = prepare-exact sender bytes rest b small e
body-exact sender (suc (suc zero)) bytes rest b small e = promise-exact sender bytes rest b small e
body-exact sender (suc (suc (suc zero))) bytes rest b small e = accept-exact sender bytes rest b small e
body-exact sender (suc (suc (suc (suc zero)))) bytes rest b small e = accepted-exact sender bytes rest b small e
body-exact sender (suc (suc (suc (suc (suc zero))))) bytes rest b small e = chosen-exact sender bytes rest b small e
body-exact sender (suc (suc (suc (suc (suc (suc zero)))))) bytes rest b small e = catch-up-exact sender bytes rest b small e
body-exact sender (suc (suc (suc (suc (suc (suc (suc zero))))))) bytes rest b small e = submit-exact sender bytes rest b small e
body-exact sender (suc (suc (suc (suc (suc (suc (suc (suc zero)))))))) bytes rest b small e = reply-exact sender bytes rest b small e
body-exact sender (suc (suc (suc (suc (suc (suc (suc (suc (suc zero))))))))) bytes rest b small e = ask-exact sender bytes rest b small e
body-exact sender (suc (suc (suc (suc (suc (suc (suc (suc (suc (suc zero)))))))))) bytes rest b small e = answer-exact sender bytes rest b small e
body-exact sender (suc (suc (suc (suc (suc (suc (suc (suc (suc (suc (suc zero))))))))))) bytes rest b small e = behind-exact sender bytes rest b small e
body-exact sender (suc (suc (suc (suc (suc (suc (suc (suc (suc (suc (suc (suc zero)))))))))))) bytes rest b small e = elsewhere-exact sender bytes rest b small e
body-exact sender (suc (suc (suc (suc (suc (suc (suc (suc (suc (suc (suc (suc (suc n))))))))))))) bytes rest b small e = cc

abbrev header_spelling : (ℕ × (ℕ × ℕ)) → List ℕ
header_spelling h = big_bytes 4 mark ++ big_bytes 4 h.0 ++ h.1.0 ∷ h.1.1 ∷ []

header-exact : Exact header_read header_spelling (λ h. (h.0 < 2 ^ 32) × (is_sender h.1.1 h.1.0 ≡ true))
header-exact bytes rest h small e =
    let first = step (number-exact 4) small e in
    let t = held-from Mark (first.first == mark) _ first.mid rest h first.next in
    let group = step (number-exact 4) first.small t.1 in
    let sender = step byte-exact group.small group.next in
    let k = step byte-exact sender.small sender.next in
    let known = held-from Kind (nat_le 1 k.first && nat_le k.first 12) _ k.mid rest h k.next in
    let may = held-from Number (is_sender k.first sender.first) _ k.mid rest h known.1 in
    let marked : big_bytes 4 first.first ≡ big_bytes 4 mark = ap (big_bytes 4) (is-equal _ _ t.0) in
    finish header_spelling (λ x. (x.0 < 2 ^ 32) × (is_sender x.1.1 x.1.0 ≡ true)) bytes rest k.mid (group.first, (sender.first, k.first)) h may.1
    (link (big_bytes 4 first.first) first.are (link (big_bytes 4 group.first) group.are (link (sender.first ∷ []) sender.are k.are)) ∙ ap (λ (xs : List ℕ). xs ++ (big_bytes 4 group.first ++ (sender.first ∷ k.first ∷ k.mid))) marked)
    (group.good, may.0)

nothing-left : (bytes : List ℕ) (d e : Datagram) (rest : List ℕ) → on_read (end_read bytes) (λ u. pure d) ≡ Gives e rest → (bytes ≡ []) × ((d ≡ e) × (rest ≡ []))
nothing-left [] d e rest h = (refl, (cc, cc))
nothing-left (b ∷ bytes) d e rest h = cc

-- bytes that read as a datagram are its spelling
pub datagram-exact : (bytes rest : List ℕ) (d : Datagram) → AreBytes bytes → datagram_read bytes ≡ Gives d rest → (bytes ≡ spelling d) × (IsDatagram d × (rest ≡ []))
datagram-exact bytes rest d small e =
    let h = step header-exact small e in
    let b = step (body-exact h.first.1.0 h.first.1.1) h.small h.next in
    let end = nothing-left b.mid (record { group = h.first.0; sender = h.first.1.0; body = b.first }) d rest b.next in
    let body : h.mid ≡ body_spelling b.first = b.are ∙ (ap (λ (xs : List ℕ). body_spelling b.first ++ xs) end.0 ∙ append_none (body_spelling b.first)) in
    let spelt : bytes ≡ big_bytes 4 mark ++ (big_bytes 4 h.first.0 ++ (h.first.1.0 ∷ h.first.1.1 ∷ body_spelling b.first)) = link (header_spelling h.first) h.are body in
    let is : IsDatagram (record { group = h.first.0; sender = h.first.1.0; body = b.first }) = record { group = h.good.0; sender = b.good.said h.good.1; body = b.good.body; fields = b.good.fields } in
    let known : bytes ≡ spelling (record { group = h.first.0; sender = h.first.1.0; body = b.first }) = subst (λ (k : ℕ). bytes ≡ big_bytes 4 mark ++ (big_bytes 4 h.first.0 ++ (h.first.1.0 ∷ k ∷ body_spelling b.first))) (sym b.good.of_kind) spelt in
    (subst (λ (x : Datagram). bytes ≡ spelling x) end.1.0 known, (subst IsDatagram end.1.0 is, end.1.1))
