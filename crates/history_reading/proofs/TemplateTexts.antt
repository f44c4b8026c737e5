-- What a template reads is printed as it was read.
use Rattle.std.proofs.Common.{◌≡◌, ℕ, ◌+◌, ◌-◌, ◌*◌, ◌/◌, ◌%◌, ◌<◌, ◌≤◌, ◌==◌, nat_eq, nat_le, true, ◌&&◌, List, [], ◌∷◌, ◌++◌, append_assoc, append-nil, length, Option, None, Some, IfSome, decimal, codes, refl, sym, ap, ◌∙◌, inl, inr, arith}
use Rattle.std.specs.Option.{option_map, option_or}
use Rattle.std.specs.List.{list_all}
use Rattle.std.specs.Cmp.Lexicographic.{pointwise}
use Rattle.std.proofs.lemmas.Bool.{leb-true, and_parts, cases_Bool}
use Rattle.std.proofs.lemmas.Option.{IfSome_then}
use Rattle.std.proofs.lemmas.Fmt.{decimal_digit, decimal_step}
use Rattle.stamp_base.specs.Ranges.{IsNumber, IsStamp, IsTerm, IsNode, IsSession, IsKey}
use Rattle.stamp_base.specs.Words.{IsValue}
use Rattle.history_reading.specs.ReadWords.{◌>>=◌, after_text, letter_at, ranged, node_of, session_of, key_of, stamp_of, term_of, value_at}
use Rattle.history_reading.specs.Templates.{digits_from, exact_number_at, exact_field_at, alone, exact_end_at, exact_asked_at, exact_started_at, exact_cell_at}
use Rattle.history_reading.proofs.ReadingLemmas.{value_back}

-- ---- options

pub if_bind : {A B : Type 0} (m : Option A) (f : A → Option B) {P : A → Type 0} (Q : B → Type 0) → IfSome m P → ((x : A) → P x → IfSome (f x) Q) → IfSome (m >>= f) Q
if_bind None f Q h g = tt
if_bind (Some x) f Q h g = g x h

pub if_map : {A B : Type 0} (m : Option A) {f : A → B} {P : A → Type 0} (Q : B → Type 0) → IfSome m P → ((x : A) → P x → Q (f x)) → IfSome (option_map f m) Q
if_map None Q h g = tt
if_map (Some x) Q h g = g x h

pub if_or : {A : Type 0} (one other : Option A) (Q : A → Type 0) → IfSome one Q → IfSome other Q → IfSome (option_or one other) Q
if_or None other Q a b = b
if_or (Some x) other Q a b = a

-- ---- texts

pub told_same : (a b : ℕ) → (a == b) ≡ true → a ≡ b
told_same a b h = grind arith

pub after_is : (text bs : List ℕ) → IfSome (after_text text bs) (λ rest. bs ≡ text ++ rest)
unfolding after_text
after_is [] bs = refl
after_is (t ∷ ts) [] = tt
after_is (t ∷ ts) (b ∷ bs) =
    elim (cases_Bool (t == b)) [
      | inl e ↦ rw e (IfSome_then (after_text ts bs) (after_is ts bs) (λ rest is. let one : b ≡ t = sym (told_same t b e) in rw (one, is) refl))
      | inr e ↦ rw e tt
    ]

pub word_is : (bs word : List ℕ) → pointwise nat_eq bs word ≡ true → bs ≡ word
word_is [] [] e = refl
word_is [] (w ∷ ws) e = cc
word_is (b ∷ bs) [] e = cc
word_is (b ∷ bs) (w ∷ ws) e =
    let p = and_parts (nat_eq b w) (pointwise nat_eq bs ws) e in
    let one : b ≡ w = told_same b w p.0 in
    rw (one, word_is bs ws p.1) refl

-- ---- numbers

one_digit : (n b : ℕ) (bs : List ℕ) → 0 < n → n ≤ 1844674407370955160 → 48 ≤ b → b ≤ 57 → decimal n ++ b ∷ bs ≡ decimal (10 * n + (b - 48)) ++ bs
one_digit n b bs some small low high =
    let m : ℕ = 10 * n + (b - 48) in
    let front : m / 10 ≡ n = omega arith in
    let end : 48 + m % 10 ≡ b = omega arith in
    let last : decimal m ≡ decimal n ++ b ∷ [] = decimal_step m (omega arith) (omega arith) ∙ rw (front, end) refl in
    sym (ap (λ ds. ds ++ bs) last ∙ append_assoc (decimal n) (b ∷ []) bs)

digits_is : (n : ℕ) (bs : List ℕ) → 0 < n → IsNumber n → (decimal n ++ bs ≡ decimal (digits_from n bs).0 ++ (digits_from n bs).1) × IsNumber (digits_from n bs).0
unfolding digits_from
digits_is n [] some small = (refl, small)
digits_is n (b ∷ bs) some small =
    elim (cases_Bool ((nat_le 48 b && nat_le b 57) && nat_le n 1844674407370955160)) [
      | inl e ↦
          let p = and_parts (nat_le 48 b && nat_le b 57) (nat_le n 1844674407370955160) e in
          let q = and_parts (nat_le 48 b) (nat_le b 57) p.0 in
          let low : 48 ≤ b = leb-true 48 b q.0 in
          let high : b ≤ 57 = leb-true b 57 q.1 in
          let few : n ≤ 1844674407370955160 = leb-true n 1844674407370955160 p.1 in
          let more = digits_is (10 * n + (b - 48)) bs (omega arith) (omega arith) in
          rw e (one_digit n b bs some few low high ∙ more.0, more.1)
      | inr e ↦ rw e (refl, small)
    ]

abbrev pub IsFrontOf : List ℕ → List ℕ → ℕ × List ℕ → Type 0
IsFrontOf bs text found = (bs ≡ text ++ (decimal found.0 ++ found.1)) × IsNumber found.0

first_digit : (b : ℕ) (bs : List ℕ) → 49 ≤ b → b ≤ 57 → b ∷ bs ≡ decimal (b - 48) ++ bs
first_digit b bs low high =
    let one : decimal (b - 48) ≡ (48 + (b - 48)) ∷ [] = decimal_digit (b - 48) (omega arith) in
    let same : 48 + (b - 48) ≡ b = omega arith in
    rw (one, same) refl

zero_alone : (b : ℕ) (bs : List ℕ) → b ≡ 48 → b ∷ bs ≡ decimal 0 ++ bs
zero_alone b bs is =
    let zero : decimal 0 ≡ 48 ∷ [] = decimal_digit 0 (omega arith) in
    rw (is, zero) refl

number_is : (bs : List ℕ) → IfSome (exact_number_at bs) (IsFrontOf bs [])
unfolding exact_number_at
number_is [] = tt
number_is (b ∷ bs) =
    elim (cases_Bool (nat_le 49 b && nat_le b 57)) [
      | inl e ↦
          let p = and_parts (nat_le 49 b) (nat_le b 57) e in
          let low : 49 ≤ b = leb-true 49 b p.0 in
          let high : b ≤ 57 = leb-true b 57 p.1 in
          let more = digits_is (b - 48) bs (omega arith) (omega arith) in
          rw e (first_digit b bs low high ∙ more.0, more.1)
      | inr e ↦ rw e (elim (cases_Bool (b == 48)) [
        | inl z ↦ rw z (zero_alone b bs (told_same b 48 z), omega arith)
        | inr z ↦ rw z tt
      ])
    ]

pub field_is : (text bs : List ℕ) → IfSome (exact_field_at text bs) (IsFrontOf bs text)
unfolding exact_field_at
field_is text bs =
    if_bind (after_text text bs) _ _ (after_is text bs) (λ rest is.
    IfSome_then (exact_number_at rest) (number_is rest) (λ found h. (is ∙ ap (λ more. text ++ more) h.0, h.1)))

pub alone_is : (found : ℕ × List ℕ) → IfSome (alone found) (λ n. (found.0 ≡ n) × (found.1 ≡ []))
unfolding alone
alone_is (n, []) = (refl, refl)
alone_is (n, b ∷ bs) = tt

pub end_is : (text bs : List ℕ) → IfSome (exact_end_at text bs) (λ n. (bs ≡ text ++ decimal n) × IsNumber n)
unfolding exact_end_at
end_is text bs =
    if_bind (exact_field_at text bs) _ _ (field_is text bs) (λ found h.
    IfSome_then (alone found) (alone_is found) (λ n last.
    let is : bs ≡ text ++ (decimal n ++ []) = h.0 ∙ rw (last.0, last.1) refl in
    let few : IsNumber n = rw (sym last.0) h.1 in
    (is ∙ ap (λ more. text ++ more) (append-nil (decimal n)), few)))

-- ---- what is in its range

in_range : (low high n : ℕ) → IfSome (ranged low high n) (λ m. (m ≡ n) × (low ≤ m) × (m ≤ high))
in_range low high n =
    elim (cases_Bool (nat_le low n && nat_le n high)) [
      | inl e ↦ let p = and_parts (nat_le low n) (nat_le n high) e in rw e (refl, leb-true low n p.0, leb-true n high p.1)
      | inr e ↦ rw e tt
    ]

pub node_is : (n : ℕ) → IfSome (node_of n) (λ m. (m ≡ n) × IsNode m)
unfolding node_of
node_is n = IfSome_then (ranged 0 7 n) (in_range 0 7 n) (λ m h. (h.0, omega (arith, h.2)))

pub session_is : (n : ℕ) → IfSome (session_of n) (λ m. (m ≡ n) × IsSession m)
unfolding session_of
session_is n = IfSome_then (ranged 0 15 n) (in_range 0 15 n) (λ m h. (h.0, omega (arith, h.2)))

pub key_is : (n : ℕ) → IfSome (key_of n) (λ m. (m ≡ n) × IsKey m)
unfolding key_of
key_is n = IfSome_then (ranged 0 4095 n) (in_range 0 4095 n) (λ m h. (h.0, omega (arith, h.2)))

pub stamp_is : (n : ℕ) → IfSome (stamp_of n) (λ m. (m ≡ n) × IsStamp m)
unfolding stamp_of
stamp_is n = IfSome_then (ranged 1 4611686018427387904 n) (in_range 1 4611686018427387904 n) (λ m h. (h.0, (h.1, omega (arith, h.2))))

pub term_is : (n : ℕ) → IfSome (term_of n) (λ m. (m ≡ n) × IsTerm m)
unfolding term_of
term_is n = IfSome_then (ranged 1 18446744073709551615 n) (in_range 1 18446744073709551615 n) (λ m h. (h.0, (h.1, omega (arith, h.2))))

-- a stamp that ends the bytes
pub end_stamp_is : (text bs : List ℕ) → IfSome (exact_end_at text bs >>= stamp_of) (λ stamp. (bs ≡ text ++ decimal stamp) × IsStamp stamp)
end_stamp_is text bs =
    if_bind (exact_end_at text bs) _ _ (end_is text bs) (λ n a.
    IfSome_then (stamp_of n) (stamp_is n) (λ stamp c. (a.0 ∙ rw c.0 refl, c.1)))

pub value_is : (bs : List ℕ) → IfSome (value_at bs) (λ value. (bs ≡ value) × IsValue value)
unfolding value_at
value_is bs =
    elim (cases_Bool ((nat_le 1 (length bs) && nat_le (length bs) 64) && list_all (λ b. nat_le 33 b && nat_le b 126) bs)) [
      | inl e ↦ rw e (refl, value_back bs e)
      | inr e ↦ rw e tt
    ]

pub letter_is : (bs : List ℕ) → IfSome (letter_at bs) (λ found. bs ≡ (97 + found.0) ∷ found.1)
unfolding letter_at
letter_is [] = tt
letter_is (b ∷ bs) =
    elim (cases_Bool (nat_le 97 b && nat_le b 104)) [
      | inl e ↦
          let p = and_parts (nat_le 97 b) (nat_le b 104) e in
          let low : 97 ≤ b = leb-true 97 b p.0 in
          let same : 97 + (b - 97) ≡ b = omega arith in
          rw (e, same) refl
      | inr e ↦ rw e tt
    ]

-- ---- parts that kinds share

pub asked_is : (text bs : List ℕ) → IfSome (exact_asked_at text bs) (λ asked. bs ≡ text ++ (decimal asked.0 ++ 32 ∷ (97 + asked.1) ∷ asked.2))
unfolding exact_asked_at
asked_is text bs =
    if_bind (exact_field_at text bs) _ _ (field_is text bs) (λ session a.
    if_bind (after_text (codes " ") session.1) _ _ (after_is (codes " ") session.1) (λ rest b.
    if_bind (letter_at rest) _ _ (letter_is rest) (λ node c.
    a.0 ∙ ap (λ more. text ++ (decimal session.0 ++ more)) (b ∙ ap (λ more. 32 ∷ more) c))))

pub started_is : (text bs : List ℕ) → IfSome (exact_started_at text bs) (λ begun. bs ≡ text ++ (decimal begun.0 ++ (codes " start=" ++ (decimal begun.1 ++ begun.2))))
unfolding exact_started_at
started_is text bs =
    if_bind (exact_field_at text bs) _ _ (field_is text bs) (λ session a.
    if_bind (exact_field_at (codes " start=") session.1) _ _ (field_is (codes " start=") session.1) (λ start b.
    a.0 ∙ ap (λ more. text ++ (decimal session.0 ++ more)) b.0))

pub cell_is : (text bs : List ℕ) → IfSome (exact_cell_at text bs) (λ cell. bs ≡ text ++ (decimal cell.0 ++ (codes " " ++ (decimal cell.1 ++ cell.2))))
unfolding exact_cell_at
cell_is text bs =
    if_bind (exact_field_at text bs) _ _ (field_is text bs) (λ key a.
    if_bind (exact_field_at (codes " ") key.1) _ _ (field_is (codes " ") key.1) (λ txn b.
    a.0 ∙ ap (λ more. text ++ (decimal key.0 ++ more)) b.0))

-- ---- how texts are put together: as they are printed, and as they are read

pub four : (a b c d : List ℕ) → a ++ (b ++ (c ++ d)) ≡ a ++ b ++ c ++ d
four a b c d = simp append_assoc

pub five : (a b c d e : List ℕ) → a ++ (b ++ (c ++ (d ++ e))) ≡ a ++ (b ++ c) ++ d ++ e
five a b c d e = simp append_assoc

pub seven : (a b c d e f g : List ℕ) → a ++ (b ++ (c ++ (d ++ (e ++ (f ++ g))))) ≡ a ++ (b ++ c) ++ d ++ e ++ f ++ g
seven a b c d e f g = simp append_assoc

pub nine : (a b c d e f g h i : List ℕ) → a ++ (b ++ (c ++ (d ++ (e ++ (f ++ (g ++ (h ++ i))))))) ≡ a ++ (b ++ c) ++ d ++ e ++ f ++ g ++ h ++ i
nine a b c d e f g h i = simp append_assoc

pub ten : (a b c d e f g h i j : List ℕ) → a ++ (b ++ (c ++ (d ++ (e ++ (f ++ (g ++ (h ++ (i ++ j)))))))) ≡ a ++ (b ++ c) ++ d ++ e ++ f ++ g ++ h ++ i ++ j
ten a b c d e f g h i j = simp append_assoc

pub keyed : (a b c d e f g h i j : List ℕ) → a ++ (b ++ (c ++ (d ++ (e ++ (f ++ (g ++ (h ++ (i ++ j)))))))) ≡ a ++ (b ++ c) ++ d ++ e ++ f ++ (g ++ h) ++ i ++ j
keyed a b c d e f g h i j = simp append_assoc
