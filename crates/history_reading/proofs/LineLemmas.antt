-- For history_json too.
-- How the lines of a history follow from their front: laws for whoever reads one line by line (history_json).
use Rattle.std.proofs.Common.{◌≡◌, ℕ, zero, suc, ◌+◌, ◌<◌, Bool, true, false, cond, nat_lt, List, [], ◌∷◌, Option, None, Some, length, take, drop, refl, sym, subst, arith, add-one}
use Rattle.std.specs.Prelude.{slice_index, slice_get, Result, Ok, Err, IfErr, IsErrAnd}
use Rattle.std.specs.List.{position, position_or_len}
use Rattle.std.proofs.lemmas.List.Quantifiers.{position-Some}
use Rattle.std.proofs.lemmas.List.Splits.{slice_split_first, slice_split_none}
use Rattle.std.proofs.lemmas.List.Sums.{position_or_len_is, fails_before_first}
use Rattle.std.proofs.lemmas.Bool.{le-ltb, lt-ltb}
use Rattle.std.proofs.lemmas.Grind.{common_steps}
use Rattle.memchr.specs.Find.{IsFirstByte, Nowhere, Passes, is_byte}
use Rattle.history_reading.specs.History.{is_line_feed, lines_of}

-- a search for the first line feed
unmarked : (b : Bool) → (b ≡ true → ⊥) → b ≡ false
unmarked true no_mark = absurd (no_mark refl)
unmarked false no_mark = refl

none_below : (bytes : List ℕ) (n : ℕ) → Nowhere (Passes (is_byte 10) bytes) 0 n → (k : ℕ) → k < n → is_line_feed (slice_index bytes k) ≡ false
none_below bytes n nowhere k below = unmarked (is_line_feed (slice_index bytes k)) (nowhere k (omega arith) below)

pub first_feed-is : (bytes : List ℕ) (r : Option ℕ) → IsFirstByte (is_byte 10) bytes r → r ≡ position is_line_feed bytes
first_feed-is bytes None nowhere =
    let at : position_or_len is_line_feed bytes ≡ length bytes = position_or_len_is is_line_feed bytes (length bytes) 0 (omega arith) (none_below bytes (length bytes) nowhere) (λ h. absurd (omega (arith, h))) in
    rw (at, le-ltb (length bytes) (length bytes) (omega arith)) refl
first_feed-is bytes (Some end) found =
    let at : position_or_len is_line_feed bytes ≡ end = position_or_len_is is_line_feed bytes end 0 (omega (arith, found.0.high)) (none_below bytes end found.0.before) (λ _. found.1) in
    rw (at, lt-ltb end (length bytes) found.0.high) refl

-- the first line ends at the first line feed
pub lines-front : (bytes : List ℕ) (end : ℕ) → position is_line_feed bytes ≡ Some end → lines_of bytes ≡ take end bytes ∷ lines_of (drop (end + 1) bytes)
lines-front bytes end at =
    let found = position-Some is_line_feed bytes end 0 at in
    let is : position_or_len is_line_feed bytes ≡ end = position_or_len_is is_line_feed bytes end 0 (omega (arith, found.0)) found.2 (λ _. found.1) in
    subst (λ (n : ℕ). lines_of bytes ≡ take n bytes ∷ lines_of (drop (n + 1) bytes)) is
    (slice_split_first is_line_feed bytes 0 (rw is found.0))

-- without a line feed, the bytes are one line
past : (b : Bool) (n : ℕ) → cond b (Some n) None ≡ None → b ≡ false
past true n none = cc
past false n none = refl

pub lines-last : (bytes : List ℕ) → position is_line_feed bytes ≡ None → lines_of bytes ≡ bytes ∷ []
lines-last bytes none =
    let all : nat_lt (position_or_len is_line_feed bytes) (length bytes) ≡ false = past _ (position_or_len is_line_feed bytes) none in
    slice_split_none is_line_feed bytes (λ k d h. fails_before_first is_line_feed bytes k d (grind (arith, common_steps, all, h)))

next_suc : (n : ℕ) (xs : List (List ℕ)) (line : List ℕ) (rest : List (List ℕ)) → (drop (n + 1) xs ≡ rest) × (slice_get xs n ≡ Some line) → (drop (suc n) xs ≡ rest) × (slice_get xs n ≡ Some line)
next_suc n xs line rest next = (rw add-one at next.0, next.1)

-- the line after n lines, and what follows it
pub next_line : (n : ℕ) (lines : List (List ℕ)) (line : List ℕ) (rest : List (List ℕ)) → drop n lines ≡ line ∷ rest → (drop (n + 1) lines ≡ rest) × (slice_get lines n ≡ Some line)
next_line zero [] line rest at = cc
next_line zero (x ∷ xs) line rest at = (cc, cc)
next_line (suc n) [] line rest at = cc
next_line (suc n) (x ∷ xs) line rest at = rw add-one (next_suc n xs line rest (next_line n xs line rest at))

-- an error that was passed on keeps what is known of it
pub passed_on : {A E : Type 0} (answer : Result A E) (fault : E) (P : E → Type 0) → IsErrAnd answer (λ e. e ≡ fault) → P fault → IfErr answer P
passed_on (Ok x) fault P is holds = tt
passed_on (Err e) fault P is holds = subst P (sym is) holds
