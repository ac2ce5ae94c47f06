-- Spellings read as what they spell, and nothing else does.
use Rattle.std.proofs.Common.{◌≡◌, ℕ, ◌+◌, ◌^◌, ◌<◌, ◌≤◌, Bool, true, false, nat_le, ◌==◌, if◌then◌else◌, List, [], ◌∷◌, ◌++◌, length, take, drop, refl, sym, ap, ap₂, ◌∙◌, arith, subst}
use Rattle.std.proofs.lemmas.List.{append_assoc, length-append, take-append-drop, length-take-le, get_or-drop}
use Rattle.std.proofs.Math.Seq.{drop-append_seam, take-append_seam}
use Rattle.std.proofs.Math.Nat.{mod-eq_of_lt}
use Rattle.std.specs.Str.{is_utf8}
use Rattle.byteorder.specs.Endian.{big_bytes, big_number}
use Rattle.byteorder.specs.Numbers.{length-bytes_high_first, big_number-reads_back, big_from-lt}
use Rattle.ballots.specs.Terms.{Request, is_level, most_text}
use Rattle.ballots.specs.declared.value.Value.{Value}
use Rattle.ballots.specs.declared.value.Value.TheVariants.{NoOp, Request as Of}
use Rattle.ballots.specs.declared.spelling.SpellingFault.{SpellingFault}
use Rattle.ballots.specs.declared.spelling.SpellingFault.TheVariants.{Short, Number, NotUtf8}
use Rattle.ballots.specs.Spelling.{Read, Gives, Fails, on_read, bytes_read, number_read, check, check_utf8, text_read, request_read, value_after, value_read, request_spelling, value_spelling, IsRequest, IsValue, AreBytes}
use Rattle.ballots.proofs.Numbers.{bytes-of-number}

-- Round trip.

le-true : (a b : ℕ) → a ≤ b → nat_le a b ≡ true
le-true a b h = grind arith

number-spelt : (n x : ℕ) (rest : List ℕ) → x < 256 ^ n → number_read n (big_bytes n x ++ rest) ≡ Gives x rest
number-spelt n x rest small =
    let bs = big_bytes n x in
    let long : length bs ≡ n = length-bytes_high_first n x in
    let within : nat_le n (length (bs ++ rest)) ≡ true = le-true n (length (bs ++ rest)) (rw (length-append bs rest) (omega arith)) in
    let after : drop n (bs ++ rest) ≡ rest = subst (λ (m : ℕ). drop m (bs ++ rest) ≡ rest) long (drop-append_seam bs rest) in
    rw (within, after, big_number-reads_back n x rest small) refl

bytes-spelt : (text rest : List ℕ) → bytes_read (length text) (text ++ rest) ≡ Gives text rest
bytes-spelt text rest =
    let within : nat_le (length text) (length (text ++ rest)) ≡ true = le-true (length text) (length (text ++ rest)) (rw (length-append text rest) (omega arith)) in
    rw (within, take-append_seam text rest, drop-append_seam text rest) refl

text-spelt : (text rest : List ℕ) → length text ≤ most_text → is_utf8 text ≡ true → text_read (big_bytes 2 (length text) ++ (text ++ rest)) ≡ Gives text rest
text-spelt text rest short utf8 =
    rw (number-spelt 2 (length text) (text ++ rest) (omega arith), le-true (length text) 4096 short, bytes-spelt text rest, utf8) refl

byte-read : (b : ℕ) (rest : List ℕ) → number_read 1 (b ∷ rest) ≡ Gives b rest
byte-read b rest =
    let number : big_number 1 (b ∷ rest) ≡ b = omega arith in
    rw (le-true 1 (length (b ∷ rest)) (omega arith), number) refl

request-spelt : (r : Request) (rest : List ℕ) → IsRequest r → request_read (request_spelling r ++ rest) ≡ Gives r rest
request-spelt r rest is =
    let text = big_bytes 2 (length r.text) ++ (r.text ++ rest) in
    rw (number-spelt 4 r.client (big_bytes 8 r.number ++ (r.level ∷ text)) is.client, number-spelt 8 r.number (r.level ∷ text) is.number, byte-read r.level text, is.level, text-spelt r.text rest is.text is.utf8) refl

pub round-trip : (v : Value) (rest : List ℕ) → IsValue v → value_read (value_spelling v ++ rest) ≡ Gives v rest
round-trip NoOp rest is = rw (byte-read 0 rest) refl
round-trip (Of r) rest is = rw (byte-read 1 (request_spelling r ++ rest), request-spelt r rest is) refl

-- No spelling begins another.

abbrev value-of : Read Value → Value
value-of (Gives v rest) = v
value-of (Fails fault) = NoOp

pub no-beginning : (v w : Value) (xs ys : List ℕ) → IsValue v → IsValue w → value_spelling v ++ xs ≡ value_spelling w ++ ys → v ≡ w
no-beginning v w xs ys a b e = ap value-of (sym (round-trip v xs a) ∙ (ap value_read e ∙ round-trip w ys b))

-- What reads as a value is its spelling.

-- what was read before the rest was
record Parts {A B : Type 0} (r : Read A) (g : A → List ℕ → Read B) (b : B) (more : List ℕ) : Type 0 where
  value : A
  rest : List ℕ
  first : r ≡ Gives value rest
  second : g value rest ≡ Gives b more

parts : {A B : Type 0} (r : Read A) (g : A → List ℕ → Read B) (b : B) (more : List ℕ) → on_read r g ≡ Gives b more → Parts r g b more
parts (Gives a rest) g b more e = record { value = a; rest = rest; first = refl; second = e }
parts (Fails fault) g b more e = cc

given : {A : Type 0} (t : Bool) (v x : A) (r rest : List ℕ) (f : SpellingFault) → (if t then Gives v r else Fails f) ≡ Gives x rest → (t ≡ true) × ((v ≡ x) × (r ≡ rest))
given true v x r rest f e = (refl, (cc, cc))
given false v x r rest f e = cc

-- the bytes are a field and others
record Field (all field rest : List ℕ) : Type 0 where
  are : all ≡ field ++ rest
  small : AreBytes rest

rest-bytes : (n : ℕ) (bytes : List ℕ) → AreBytes bytes → AreBytes (drop n bytes)
rest-bytes n bytes small i = rw (get_or-drop n bytes i 0) (small (n + i))

is-le : (a b : ℕ) → nat_le a b ≡ true → a ≤ b
is-le a b h = grind arith

split-field : (n : ℕ) (bytes field rest : List ℕ) → AreBytes bytes → take n bytes ≡ field → drop n bytes ≡ rest → Field bytes field rest
split-field n bytes field rest small f r = record { are = sym (take-append-drop n bytes) ∙ ap₂ (λ (a b : List ℕ). a ++ b) f r; small = subst AreBytes r (rest-bytes n bytes small) }

number-field : (n x : ℕ) (bytes rest : List ℕ) → AreBytes bytes → number_read n bytes ≡ Gives x rest → Field bytes (big_bytes n x) rest × (x < 256 ^ n)
number-field n x bytes rest small e =
    let g = given (nat_le n (length bytes)) (big_number n bytes) x (drop n bytes) rest Short e in
    let spelt : take n bytes ≡ big_bytes n x = sym (bytes-of-number n bytes (is-le n (length bytes) g.0) small) ∙ ap (big_bytes n) g.1.0 in
    (split-field n bytes (big_bytes n x) rest small spelt g.1.1, subst (λ (y : ℕ). y < 256 ^ n) g.1.0 (big_from-lt 0 n bytes small))

bytes-field : (n : ℕ) (bytes text rest : List ℕ) → AreBytes bytes → bytes_read n bytes ≡ Gives text rest → Field bytes text rest × (length text ≡ n)
bytes-field n bytes text rest small e =
    let g = given (nat_le n (length bytes)) (take n bytes) text (drop n bytes) rest Short e in
    (split-field n bytes text rest small g.1.0 g.1.1, ap length (sym g.1.0) ∙ length-take-le n bytes (is-le n (length bytes) g.0))

same : {A : Type 0} (a b : A) (xs ys : List ℕ) → Gives a xs ≡ Gives b ys → (a ≡ b) × (xs ≡ ys)
same a b xs ys e = (cc, cc)

text-field : (bytes text rest : List ℕ) → AreBytes bytes → text_read bytes ≡ Gives text rest → Field bytes (big_bytes 2 (length text) ++ text) rest × ((length text ≤ most_text) × (is_utf8 text ≡ true))
text-field bytes text rest small e =
    let a = parts (number_read 2 bytes) _ text rest e in
    let length_field = number-field 2 a.value bytes a.rest small a.first in
    let b = parts (check (nat_le a.value most_text) a.rest) _ text rest a.second in
    let short = given (nat_le a.value most_text) tt b.value a.rest b.rest Number b.first in
    let c = parts (bytes_read a.value b.rest) _ text rest b.second in
    let text_field = bytes-field a.value b.rest c.value c.rest (subst AreBytes short.1.1 length_field.0.small) c.first in
    let d = parts (check_utf8 c.value c.rest) _ text rest c.second in
    let utf8 = given (is_utf8 c.value) tt d.value c.rest d.rest NotUtf8 d.first in
    let end = same c.value text d.rest rest d.second in
    let after : c.rest ≡ rest = utf8.1.1 ∙ end.1 in
    let long : a.value ≡ length text = sym text_field.1 ∙ ap length end.0 in
    let are = length_field.0.are ∙ (ap₂ (λ (m : ℕ) (xs : List ℕ). big_bytes 2 m ++ xs) long (short.1.1 ∙ (text_field.0.are ∙ ap₂ (λ (xs ys : List ℕ). xs ++ ys) end.0 after)) ∙ sym (append_assoc (big_bytes 2 (length text)) text rest)) in
    (record { are = are; small = subst AreBytes after text_field.0.small }, (subst (λ (m : ℕ). m ≤ most_text) long (is-le a.value most_text short.0), subst (λ (xs : List ℕ). is_utf8 xs ≡ true) end.0 utf8.0))

is-equal : (a b : ℕ) → (a == b) ≡ true → a ≡ b
is-equal a b h = grind arith

byte-field : (x : ℕ) (bytes rest : List ℕ) → AreBytes bytes → number_read 1 bytes ≡ Gives x rest → Field bytes (x ∷ []) rest
byte-field x bytes rest small e =
    let f = number-field 1 x bytes rest small e in
    record { are = f.0.are ∙ ap (λ (b : ℕ). b ∷ rest) (mod-eq_of_lt f.1); small = f.0.small }

request-field : (bytes : List ℕ) (r : Request) (rest : List ℕ) → AreBytes bytes → request_read bytes ≡ Gives r rest → Field bytes (request_spelling r) rest × IsRequest r
request-field bytes r rest small e =
    let a = parts (number_read 4 bytes) _ r rest e in
    let client = number-field 4 a.value bytes a.rest small a.first in
    let b = parts (number_read 8 a.rest) _ r rest a.second in
    let number = number-field 8 b.value a.rest b.rest client.0.small b.first in
    let c = parts (number_read 1 b.rest) _ r rest b.second in
    let level = byte-field c.value b.rest c.rest number.0.small c.first in
    let d = parts (check (is_level c.value) c.rest) _ r rest c.second in
    let known = given (is_level c.value) tt d.value c.rest d.rest Number d.first in
    let t = parts (text_read d.rest) _ r rest d.second in
    let text = text-field d.rest t.value t.rest (subst AreBytes known.1.1 level.small) t.first in
    let end = same (record { client = a.value; number = b.value; level = c.value; text = t.value }) r t.rest rest t.second in
    let spelt : bytes ≡ request_spelling (record { client = a.value; number = b.value; level = c.value; text = t.value }) ++ t.rest =
    client.0.are ∙ ap (λ (xs : List ℕ). big_bytes 4 a.value ++ xs) (number.0.are ∙ ap (λ (xs : List ℕ). big_bytes 8 b.value ++ xs) (level.are ∙ ap (λ (xs : List ℕ). c.value ∷ xs) (known.1.1 ∙ text.0.are))) in
    let is : IsRequest (record { client = a.value; number = b.value; level = c.value; text = t.value }) = record { client = client.1; number = number.1; level = known.0; text = text.1.0; utf8 = text.1.1 } in
    (record { are = spelt ∙ ap₂ (λ (q : Request) (xs : List ℕ). request_spelling q ++ xs) end.0 end.1; small = subst AreBytes end.1 text.0.small }, subst IsRequest end.0 is)

after-tag : (tag : ℕ) (is_no_op is_request : Bool) (bytes : List ℕ) (v : Value) (rest : List ℕ) → (tag == 0) ≡ is_no_op → (tag == 1) ≡ is_request → AreBytes bytes
    → (if is_no_op then Gives NoOp bytes else (if is_request then on_read (request_read bytes) (λ r. λ xs. Gives (Of r) xs) else Fails Number)) ≡ Gives v rest → (tag ∷ bytes ≡ value_spelling v ++ rest) × IsValue v
after-tag tag true is_request bytes v rest t0 t1 small e =
    let end = same NoOp v bytes rest e in
    subst (λ (w : Value). (tag ∷ bytes ≡ value_spelling w ++ rest) × IsValue w) end.0 (ap₂ (λ (t : ℕ) (xs : List ℕ). t ∷ xs) (is-equal tag 0 t0) end.1, tt)
after-tag tag false true bytes v rest t0 t1 small e =
    let a = parts (request_read bytes) (λ r. λ xs. Gives (Of r) xs) v rest e in
    let field = request-field bytes a.value a.rest small a.first in
    let end = same (Of a.value) v a.rest rest a.second in
    subst (λ (w : Value). (tag ∷ bytes ≡ value_spelling w ++ rest) × IsValue w) end.0
    (ap₂ (λ (t : ℕ) (xs : List ℕ). t ∷ xs) (is-equal tag 1 t1) (field.0.are ∙ ap (λ (xs : List ℕ). request_spelling a.value ++ xs) end.1), field.1)
after-tag tag false false bytes v rest t0 t1 small e = cc

pub exact : (bytes : List ℕ) (v : Value) (rest : List ℕ) → AreBytes bytes → value_read bytes ≡ Gives v rest → (bytes ≡ value_spelling v ++ rest) × IsValue v
exact bytes v rest small e =
    let a = parts (number_read 1 bytes) value_after v rest e in
    let tag = byte-field a.value bytes a.rest small a.first in
    let x = after-tag a.value (a.value == 0) (a.value == 1) a.rest v rest refl refl tag.small a.second in
    (tag.are ∙ x.0, x.1)
