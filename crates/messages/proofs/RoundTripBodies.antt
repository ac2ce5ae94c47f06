-- Each body, and each datagram, reads as what it spells.
use Rattle.std.proofs.Common.{◌≡◌, ℕ, suc, ◌^◌, ◌<◌, ◌≤◌, Bool, true, false, nat_le, ◌==◌, ◌&&◌, ◌||◌, List, [], ◌∷◌, ◌++◌, length, flat_map, All, Some, None, refl, sym, ap, ◌∙◌, arith, subst, ◌⊎◌, inl, inr}
use Rattle.std.proofs.lemmas.List.{append_assoc}
use Rattle.byteorder.specs.Endian.{big_bytes}
use Rattle.fault_codes.specs.Codes.{code_number}
use Rattle.fault_codes.specs.declared.code.Code.{Code}
use Rattle.fault_codes.specs.declared.code.Code.TheVariants.{XPST0003, XPST0008, XPST0017, XQST0090, XUST0001, XPDY0002, XPTY0004, XPTY0018, XPTY0019, XPTY0020, FOAR0001, FOAR0002, FODC0002, FORG0001, FORG0006, XQTY0024, XQDY0025, XQDY0026, XQDY0041, XQDY0064, XQDY0072, XQDY0074, XUTY0004, XUTY0005, XUTY0006, XUTY0007, XUTY0008, XUTY0010, XUTY0011, XUTY0012, XUTY0022, XUDY0009, XUDY0015, XUDY0016, XUDY0017, XUDY0021, XUDY0027, XUDY0029, XUDY0030, PXQ0001, PXQ0002, PXQ0003, PXQ0004, PXQ0005, XQST0089, XUTY0013, XUDY0014, XUST0002}
use Rattle.ballots.specs.Ballot.{most_members}
use Rattle.ballots.specs.Terms.{is_level, most_answer, most_level, most_text}
use Rattle.ballots.specs.Values.{positions}
use Rattle.ballots.specs.Replies.{text, fault}
use Rattle.ballots.specs.Messages.{Body, Prepare, Promise, Accept, Accepted, Chosen, CatchUp, Submit, Reply, Ask, Answer, Behind, Elsewhere}
use Rattle.ballots.specs.Spelling.{IsValue, value_spelling}
use Rattle.ballots.specs.declared.ballot.Ballot.{Ballot}
use Rattle.ballots.specs.declared.value.Entry.{Entry}
use Rattle.ballots.specs.declared.value.Pair.{Pair}
use Rattle.ballots.specs.declared.reply.Reply.TheVariants.{Done, Fault}
use Rattle.paxos.specs.Lists.{at}
use Rattle.paxos.specs.WellFormed.{AreVotes, ArePairs, IsBody, IsSender, last_position}
use Rattle.messages.specs.Reading.{Read, Gives, on_read, pure, entries_read, pair_read, pairs_read, outcome_after, outcome_read, ends_well, bodies, body_of_kind, is_sender, header_read, datagram_read}
use Rattle.messages.specs.Spelling.{Datagram, mark, position_spelling, text_spelling, entry_spelling, pair_spelling, kind, body_spelling, spelling, HasFields, IsDatagram}
use Rattle.messages.proofs.Appending.{append_none}
use Rattle.messages.proofs.RoundTrip.{le-true, eq-true, number-back, byte-back, small-back, position-back, text-back, value-back, ballot-back, own-ballot-back, entry-back}

same : (n : ℕ) → n ≤ n
same n = omega arith

le-trans : {a b c : ℕ} → a ≤ b → b ≤ c → a ≤ c
le-trans h g = omega arith

from-one : (n : ℕ) → is_level n ≡ true → 1 ≤ n
from-one n e = grind arith

to-most : (n : ℕ) → is_level n ≡ true → n ≤ most_level
to-most n e = grind arith

or-true : (b : Bool) → (b || true) ≡ true
or-true true = refl
or-true false = refl

-- lists

pub entries-back : (es : List Entry) (highest : Ballot) (least most : ℕ) (rest : List ℕ) → most ≤ positions → AreVotes most_members highest least most es → All (λ (e : Entry). IsValue e.vote.value) es → entries_read (length es) highest least most (flat_map entry_spelling es ++ rest) ≡ Gives es rest
entries-back [] highest least most rest top votes values = refl
entries-back (e ∷ es) highest least most rest top votes values =
    let value : IsValue e.vote.value = values 0 e (omega arith) in
    let first = entry-back highest least most e (flat_map entry_spelling es ++ rest) top votes.0 votes.1 votes.2.0 votes.3 value in
    let others = entries-back es highest (suc e.position) most rest top votes.4 (λ k d within. values (suc k) d (omega arith)) in
    subst (λ (bytes : List ℕ). entries_read (suc (length es)) highest least most bytes ≡ Gives (e ∷ es) rest) (sym (append_assoc (entry_spelling e) (flat_map entry_spelling es) rest)) (rw (first, others) refl)

pair-back : (least : ℕ) (e : Pair) (rest : List ℕ) → least ≤ e.position → e.position ≤ positions → IsValue e.value → pair_read least (pair_spelling e ++ rest) ≡ Gives e rest
pair-back least e rest l m v = rw (position-back least positions e.position (value_spelling e.value ++ rest) l m (same positions), value-back e.value rest v) refl

pub pairs-back : (es : List Pair) (least : ℕ) (rest : List ℕ) → ArePairs least es → All (λ (e : Pair). IsValue e.value) es → pairs_read (length es) least (flat_map pair_spelling es ++ rest) ≡ Gives es rest
pairs-back [] least rest pairs values = refl
pairs-back (e ∷ es) least rest pairs values =
    let value : IsValue e.value = values 0 e (omega arith) in
    let first = pair-back least e (flat_map pair_spelling es ++ rest) pairs.0 pairs.1 value in
    let others = pairs-back es (suc e.position) rest pairs.2 (λ k d within. values (suc k) d (omega arith)) in
    subst (λ (bytes : List ℕ). pairs_read (suc (length es)) least bytes ≡ Gives (e ∷ es) rest) (sym (append_assoc (pair_spelling e) (flat_map pair_spelling es) rest)) (rw (first, others) refl)

-- codes

code-back : (c : Code) (rest : List ℕ) → outcome_after (code_number c) rest ≡ Gives (Some c) rest
code-back XPST0003 rest = refl
code-back XPST0008 rest = refl
code-back XPST0017 rest = refl
code-back XQST0090 rest = refl
code-back XUST0001 rest = refl
code-back XPDY0002 rest = refl
code-back XPTY0004 rest = refl
code-back XPTY0018 rest = refl
code-back XPTY0019 rest = refl
code-back XPTY0020 rest = refl
code-back FOAR0001 rest = refl
code-back FOAR0002 rest = refl
code-back FODC0002 rest = refl
code-back FORG0001 rest = refl
code-back FORG0006 rest = refl
code-back XQTY0024 rest = refl
code-back XQDY0025 rest = refl
code-back XQDY0026 rest = refl
code-back XQDY0041 rest = refl
code-back XQDY0064 rest = refl
code-back XQDY0072 rest = refl
code-back XQDY0074 rest = refl
code-back XUTY0004 rest = refl
code-back XUTY0005 rest = refl
code-back XUTY0006 rest = refl
code-back XUTY0007 rest = refl
code-back XUTY0008 rest = refl
code-back XUTY0010 rest = refl
code-back XUTY0011 rest = refl
code-back XUTY0012 rest = refl
code-back XUTY0022 rest = refl
code-back XUDY0009 rest = refl
code-back XUDY0015 rest = refl
code-back XUDY0016 rest = refl
code-back XUDY0017 rest = refl
code-back XUDY0021 rest = refl
code-back XUDY0027 rest = refl
code-back XUDY0029 rest = refl
code-back XUDY0030 rest = refl
code-back PXQ0001 rest = refl
code-back PXQ0002 rest = refl
code-back PXQ0003 rest = refl
code-back PXQ0004 rest = refl
code-back PXQ0005 rest = refl
code-back XQST0089 rest = refl
code-back XUTY0013 rest = refl
code-back XUDY0014 rest = refl
code-back XUST0002 rest = refl

code-read : (c : Code) (rest : List ℕ) → outcome_read (code_number c ∷ rest) ≡ Gives (Some c) rest
code-read c rest = rw (byte-back (code_number c) rest, code-back c rest) refl

done-read : (rest : List ℕ) → outcome_read (0 ∷ rest) ≡ Gives None rest
done-read rest = rw (byte-back 0 rest) refl

-- bodies

ends-true : (covered : ℕ) (es : List Entry) → (covered ≡ positions) ⊎ ((length es ≡ 8) × (last_position 0 es ≡ covered)) → ends_well covered es ≡ true
ends-true covered es (inl e) = rw (eq-true covered positions e) refl
ends-true covered es (inr h) = rw (eq-true (length es) 8 h.0, eq-true (last_position 0 es) covered h.1) (or-true (covered == positions))

abbrev Back : (sender : ℕ) (b : Body) → Type 0
Back sender b = (rest : List ℕ) → IsSender most_members sender b → IsBody most_members b → HasFields b → body_of_kind (at (bodies sender) (kind b)) (body_spelling b ++ rest) ≡ Gives b rest

body-back : (sender : ℕ) (b : Body) → Back sender b
body-back sender (Prepare ballot from) rest s b f =
    rw (own-ballot-back sender ballot (position_spelling from ++ rest) b.0.0 s, position-back 1 positions from rest b.1.0 b.1.1 (same positions)) refl
body-back sender (Promise w) rest s b f =
    let after-count = flat_map entry_spelling w.entries ++ rest in
    let after-covered = length w.entries ∷ after-count in
    let after-from = position_spelling w.covered ++ after-covered in
    rw (ballot-back w.ballot (position_spelling w.from ++ after-from) b.ballot.0, position-back 1 positions w.from after-from b.least (le-trans b.covers b.most) (same positions), position-back w.from positions w.covered after-covered b.covers b.most (same positions), small-back 0 8 (length w.entries) after-count (omega arith) b.many, entries-back w.entries w.ballot w.from w.covered rest b.most b.votes f, ends-true w.covered w.entries b.end) refl
body-back sender (Accept position v) rest s b f =
    rw (own-ballot-back sender v.ballot (position_spelling position ++ (value_spelling v.value ++ rest)) b.1.0 s, position-back 1 positions position (value_spelling v.value ++ rest) b.0.0 b.0.1 (same positions), value-back v.value rest f) refl
body-back sender (Accepted position v) rest s b f =
    rw (ballot-back v.ballot (position_spelling position ++ (value_spelling v.value ++ rest)) b.1.0, position-back 1 positions position (value_spelling v.value ++ rest) b.0.0 b.0.1 (same positions), value-back v.value rest f) refl
body-back sender (Chosen es) rest s b f =
    rw (small-back 1 8 (length es) (flat_map pair_spelling es ++ rest) b.1 b.2, pairs-back es 1 rest b.0 f) refl
body-back sender (CatchUp from) rest s b f = rw (position-back 1 positions from rest b.0 b.1 (same positions)) refl
body-back sender (Submit q) rest s b f =
    let t = text_spelling q.text ++ rest in
    rw (number-back 4 q.client (big_bytes 8 q.number ++ (q.level ∷ t)) f.client, number-back 8 q.number (q.level ∷ t) f.number, small-back 1 most_level q.level t (from-one q.level f.level) (to-most q.level f.level), text-back most_text q.text rest (omega arith) (f.text, f.utf8)) refl
body-back sender (Reply client number (Done position)) rest s b f =
    let o = 0 ∷ (position_spelling position ++ rest) in
    rw (number-back 4 client (big_bytes 8 number ++ o) f.0.0, number-back 8 number o f.0.1, done-read (position_spelling position ++ rest), position-back 1 positions position rest f.1.0 f.1.1 (same positions)) refl
body-back sender (Reply client number (Fault code position)) rest s b f =
    let o = code_number code ∷ (position_spelling position ++ rest) in
    rw (number-back 4 client (big_bytes 8 number ++ o) f.0.0, number-back 8 number o f.0.1, code-read code (position_spelling position ++ rest), position-back 1 positions position rest f.1.0 f.1.1 (same positions)) refl
body-back sender (Ask q) rest s b f =
    let t = text_spelling q.text ++ rest in
    let l = q.level ∷ t in
    rw (number-back 4 q.client (big_bytes 8 q.number ++ (big_bytes 4 q.floor ++ l)) f.0.0, number-back 8 q.number (big_bytes 4 q.floor ++ l) f.0.1, position-back 0 positions q.floor l (omega arith) f.1 (same positions), small-back 1 most_level q.level t (from-one q.level f.2) (to-most q.level f.2), text-back most_text q.text rest (omega arith) f.3) refl
body-back sender (Answer client number applied (text t)) rest s b f =
    let x = text_spelling t ++ rest in
    rw (number-back 4 client (big_bytes 8 number ++ (big_bytes 4 applied ++ (0 ∷ x))) f.0.0, number-back 8 number (big_bytes 4 applied ++ (0 ∷ x)) f.0.1, position-back 0 positions applied (0 ∷ x) (omega arith) f.1 (same positions), done-read x, text-back most_answer t rest (omega arith) f.2) refl
body-back sender (Answer client number applied (fault code)) rest s b f =
    let x = code_number code ∷ rest in
    rw (number-back 4 client (big_bytes 8 number ++ (big_bytes 4 applied ++ x)) f.0.0, number-back 8 number (big_bytes 4 applied ++ x) f.0.1, position-back 0 positions applied x (omega arith) f.1 (same positions), code-read code rest) refl
body-back sender (Behind client number applied) rest s b f =
    rw (number-back 4 client (big_bytes 8 number ++ (big_bytes 4 applied ++ rest)) f.0.0, number-back 8 number (big_bytes 4 applied ++ rest) f.0.1, position-back 0 positions applied rest (omega arith) f.1 (same positions)) refl
body-back sender (Elsewhere client number member) rest s b f =
    rw (number-back 4 client (big_bytes 8 number ++ (member ∷ rest)) f.0, number-back 8 number (member ∷ rest) f.1, small-back 0 most_members member rest (omega arith) b) refl

-- headers

member-may : (s : ℕ) → 1 ≤ s → s ≤ most_members → (nat_le 1 s && nat_le s most_members) ≡ true
member-may s l m = rw (le-true 1 s l, le-true s most_members m) refl

sender-may : (s : ℕ) (b : Body) → IsSender most_members s b → IsBody most_members b → is_sender (kind b) s ≡ true
sender-may s (Prepare ballot from) e b = rw e (member-may ballot.member b.0.0.2 b.0.0.3)
sender-may s (Promise w) h b = member-may s h.0 h.1
sender-may s (Accept position v) e b = rw e (member-may v.ballot.member b.1.0.2 b.1.0.3)
sender-may s (Accepted position v) h b = member-may s h.0 h.1
sender-may s (Chosen es) h b = member-may s h.0 h.1
sender-may s (CatchUp from) h b = member-may s h.0 h.1
sender-may s (Submit q) e b = eq-true s 0 e
sender-may s (Reply client number r) h b = member-may s h.0 h.1
sender-may s (Ask q) e b = eq-true s 0 e
sender-may s (Answer client number applied a) h b = member-may s h.0 h.1
sender-may s (Behind client number applied) h b = member-may s h.0 h.1
sender-may s (Elsewhere client number member) h b = member-may s h.0 h.1

known-kind : (b : Body) → (nat_le 1 (kind b) && nat_le (kind b) 12) ≡ true
known-kind (Prepare ballot from) = refl
known-kind (Promise w) = refl
known-kind (Accept p v) = refl
known-kind (Accepted p v) = refl
known-kind (Chosen es) = refl
known-kind (CatchUp from) = refl
known-kind (Submit q) = refl
known-kind (Reply c n r) = refl
known-kind (Ask q) = refl
known-kind (Answer c n p a) = refl
known-kind (Behind c n p) = refl
known-kind (Elsewhere c n m) = refl

pub header-back : (group s : ℕ) (b : Body) (rest : List ℕ) → group < 256 ^ 4 → IsSender most_members s b → IsBody most_members b → header_read (big_bytes 4 mark ++ (big_bytes 4 group ++ (s ∷ kind b ∷ rest))) ≡ Gives (group, (s, kind b)) rest
header-back group s b rest small may is =
    rw (number-back 4 mark (big_bytes 4 group ++ (s ∷ kind b ∷ rest)) (omega arith), number-back 4 group (s ∷ kind b ∷ rest) small, byte-back s (kind b ∷ rest), byte-back (kind b) rest, known-kind b, sender-may s b may is) refl

-- what is said before the end is looked at
abbrev pub said : List ℕ → Read Datagram
said bytes = on_read (header_read bytes) (λ h bs. on_read (body_of_kind (at (bodies h.1.0) h.1.1) bs) (λ b. pure (record { group = h.0; sender = h.1.0; body = b })))

pub said-back : (d : Datagram) (more : List ℕ) → IsDatagram d → said (spelling d ++ more) ≡ Gives d more
said-back d more is = rw (header-back d.group d.sender d.body (body_spelling d.body ++ more) is.group is.sender is.body, body-back d.sender d.body more is.sender is.body is.fields) refl

pub datagram-back : (d : Datagram) → IsDatagram d → datagram_read (spelling d) ≡ Gives d []
datagram-back d is =
    let body : body_of_kind (at (bodies d.sender) (kind d.body)) (body_spelling d.body) ≡ Gives d.body [] = subst (λ (xs : List ℕ). body_of_kind (at (bodies d.sender) (kind d.body)) xs ≡ Gives d.body []) (append_none (body_spelling d.body)) (body-back d.sender d.body [] is.sender is.body is.fields) in
    rw (header-back d.group d.sender d.body (body_spelling d.body) is.group is.sender is.body, body) refl

given-both : (d e : Datagram) (xs ys : List ℕ) → Gives d xs ≡ Gives e ys → (d ≡ e) × (xs ≡ ys)
given-both d e xs ys h = (cc, cc)

-- no spelling begins another
pub no-beginning : (d e : Datagram) (xs ys : List ℕ) → IsDatagram d → IsDatagram e → spelling d ++ xs ≡ spelling e ++ ys → (d ≡ e) × (xs ≡ ys)
no-beginning d e xs ys a b h = given-both d e xs ys (sym (said-back d xs a) ∙ (ap said h ∙ said-back e ys b))
