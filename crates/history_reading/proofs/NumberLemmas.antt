-- What reading finds in front of a number's digits and what follows them.
use Rattle.std.proofs.Common.{◌≡◌, ℕ, ◌+◌, ◌-◌, ◌*◌, ◌/◌, ◌%◌, ◌<◌, ◌≤◌, ◌^◌, ◌==◌, nat_le, true, ◌&&◌, List, [], ◌∷◌, ◌++◌, append_assoc, Some, decimal, refl, sym, ap, ◌∙◌, arith}
use Rattle.std.proofs.lemmas.Bool.{le-leb, and_from}
use Rattle.std.proofs.lemmas.Fmt.{decimal_by_steps}
use Rattle.std.proofs.lemmas.List.{append-nil}
use Rattle.history_reading.specs.ReadWords.{after_text, number_from, field_at, last_field_at, two_fields_at, letter_at, ranged, node_of, session_of, key_of, stamp_of, term_of, last_stamp_at}
use Rattle.stamp_base.specs.Ranges.{IsNumber, IsStamp, IsTerm, IsNode, IsSession, IsKey}

is_digit : (b : ℕ) → 48 ≤ b → b ≤ 57 → (nat_le 48 b && nat_le b 57) ≡ true
is_digit b low high = and_from _ _ (le-leb 48 b low) (le-leb b 57 high)

-- one more digit
number_from-digit : (n d : ℕ) (rest : List ℕ) → d < 10 → 10 * n + d ≤ 18446744073709551615 → number_from n ((48 + d) ∷ rest) ≡ number_from (10 * n + d) rest
unfolding number_from
number_from-digit n d rest small low =
    let digit : (nat_le 48 (48 + d) && nat_le (48 + d) 57) ≡ true = is_digit (48 + d) (omega arith) (omega arith) in
    let value : 48 + d - 48 ≡ d = omega arith in
    let room : n ≤ (18446744073709551615 - d) / 10 = omega arith in
    let few : nat_le n ((18446744073709551615 - d) / 10) ≡ true = le-leb n ((18446744073709551615 - d) / 10) room in
    rw (digit, value, few) refl

-- the digits of a number in front of anything lead to the number
after_digits : (n : ℕ) → IsNumber n → (rest : List ℕ) → number_from 0 (decimal n ++ rest) ≡ number_from n rest
after_digits n low = decimal_by_steps (λ m ds. m < 2 ^ 64 → (rest : List ℕ) → number_from 0 (ds ++ rest) ≡ number_from m rest)
    (λ m one low rest. number_from-digit 0 m rest one (omega arith) ∙ ap (λ k. number_from k rest) (omega arith))
    (λ m ds ten deeper low rest.
    let small : m % 10 < 10 = omega arith in
    let whole : 10 * (m / 10) + m % 10 ≡ m = omega arith in
    let room : 10 * (m / 10) + m % 10 ≤ 18446744073709551615 = omega arith in
    ap (number_from 0) (append_assoc ds _ rest) ∙ deeper (omega arith) ((48 + m % 10) ∷ rest) ∙ number_from-digit (m / 10) (m % 10) rest small room ∙ ap (λ k. number_from k rest) whole)
    n (omega arith) low

blank_stops : (n : ℕ) (rest : List ℕ) → number_from n (32 ∷ rest) ≡ (n, 32 ∷ rest)
unfolding number_from
blank_stops n rest = refl

end_stops : (n : ℕ) → number_from n [] ≡ (n, [])
unfolding number_from
end_stops n = refl

-- a number before a blank
pub number-blank : (n : ℕ) (rest : List ℕ) → IsNumber n → number_from 0 (decimal n ++ 32 ∷ rest) ≡ (n, 32 ∷ rest)
number-blank n rest low = after_digits n low (32 ∷ rest) ∙ blank_stops n rest

-- a number at the end
pub number-end : (n : ℕ) → IsNumber n → number_from 0 (decimal n) ≡ (n, [])
number-end n low = ap (number_from 0) (sym (append-nil (decimal n))) ∙ after_digits n low [] ∙ end_stops n

same : (b : ℕ) → (b == b) ≡ true
same b = grind arith

-- a text is found in front of anything
after_text-append : (text rest : List ℕ) → after_text text (text ++ rest) ≡ Some rest
unfolding after_text
after_text-append [] rest = refl
after_text-append (t ∷ ts) rest = rw (same t) (after_text-append ts rest)

pub letter-in : (n : ℕ) (rest : List ℕ) → IsNode n → letter_at ((97 + n) ∷ rest) ≡ Some (n, rest)
unfolding letter_at
letter-in n rest low =
    let value : 97 + n - 97 ≡ n = omega arith in
    rw (le-leb 97 (97 + n) (omega arith), le-leb (97 + n) 104 (omega arith), value) refl

ranged-in : (low high n : ℕ) → low ≤ n → n ≤ high → ranged low high n ≡ Some n
ranged-in low high n a b = rw (le-leb low n a, le-leb n high b) refl

pub node-in : (n : ℕ) → IsNode n → node_of n ≡ Some n
unfolding node_of
node-in n h = ranged-in 0 7 n (omega arith) (omega arith)

pub session-in : (n : ℕ) → IsSession n → session_of n ≡ Some n
unfolding session_of
session-in n h = ranged-in 0 15 n (omega arith) (omega arith)

pub key-in : (n : ℕ) → IsKey n → key_of n ≡ Some n
unfolding key_of
key-in n h = ranged-in 0 4095 n (omega arith) (omega arith)

pub stamp-in : (n : ℕ) → IsStamp n → stamp_of n ≡ Some n
unfolding stamp_of
stamp-in n h = ranged-in 1 4611686018427387904 n h.0 (omega arith)

pub term-in : (n : ℕ) → IsTerm n → term_of n ≡ Some n
unfolding term_of
term-in n h = ranged-in 1 18446744073709551615 n h.0 (omega arith)

-- a text and a number, before a blank and at the end
pub field-blank : (text : List ℕ) (n : ℕ) (rest : List ℕ) → IsNumber n → field_at text (text ++ (decimal n ++ 32 ∷ rest)) ≡ Some (n, 32 ∷ rest)
unfolding field_at
field-blank text n rest low = rw (after_text-append text (decimal n ++ 32 ∷ rest), number-blank n rest low) refl

pub field-end : (text : List ℕ) (n : ℕ) → IsNumber n → field_at text (text ++ decimal n) ≡ Some (n, [])
unfolding field_at
field-end text n low = rw (after_text-append text (decimal n), number-end n low) refl

pub last-field : (text : List ℕ) (n : ℕ) → IsNumber n → last_field_at text (text ++ decimal n) ≡ Some n
unfolding last_field_at
last-field text n low = rw (field-end text n low) refl

pub last-stamp : (text : List ℕ) (n : ℕ) → IsStamp n → last_stamp_at text (text ++ decimal n) ≡ Some n
unfolding last_stamp_at
last-stamp text n h = rw (last-field text n (omega arith), stamp-in n h) refl

-- two fields of which a blank begins the second, before a blank and at the end
pub two-blank : (first second : List ℕ) (m n : ℕ) (rest : List ℕ) → IsNumber m → IsNumber n → two_fields_at first (32 ∷ second) (first ++ (decimal m ++ 32 ∷ (second ++ (decimal n ++ 32 ∷ rest)))) ≡ Some (m, n, 32 ∷ rest)
unfolding two_fields_at
two-blank first second m n rest a b = rw (field-blank first m (second ++ (decimal n ++ 32 ∷ rest)) a, field-blank (32 ∷ second) n rest b) refl

pub two-end-right : (first second : List ℕ) (m n : ℕ) → IsNumber m → IsNumber n → two_fields_at first (32 ∷ second) (first ++ (decimal m ++ 32 ∷ (second ++ decimal n))) ≡ Some (m, n, [])
unfolding two_fields_at
two-end-right first second m n a b = rw (field-blank first m (second ++ decimal n) a, field-end (32 ∷ second) n b) refl

-- the same as texts are written
pub two-end : (first second : List ℕ) (m n : ℕ) → IsNumber m → IsNumber n → two_fields_at first (32 ∷ second) (first ++ decimal m ++ (32 ∷ second) ++ decimal n) ≡ Some (m, n, [])
two-end first second m n a b = simp append_assoc (two-end-right first second m n a b)
