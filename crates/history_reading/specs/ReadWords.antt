-- What reading finds in some bytes: the value in front, and the bytes after it.
use Rattle.std.specs.Prelude.{ℕ, suc, ◌+◌, ◌-◌, ◌*◌, ◌/◌, ◌==◌, nat_eq, nat_le, Bool, ◌&&◌, ◌||◌, if◌then◌else◌, List, [], ◌∷◌, Option, None, Some, codes, take, drop, length}
use Rattle.std.specs.Cmp.Lexicographic.{pointwise}
use Rattle.std.specs.List.{list_all}
use Rattle.std.specs.Option.{option_map, option_or}
use Rattle.stamp_base.specs.declared.numbers.TheConstants.KeyNo as keys
use Rattle.stamp_base.specs.declared.numbers.TheConstants.NodeNo as nodes
use Rattle.stamp_base.specs.declared.numbers.TheConstants.SessionNo as sessions
use Rattle.stamp_base.specs.declared.numbers.TheConstants.Stamp as stamps
use Rattle.history_book.specs.declared.item.Actor.{Actor}
use Rattle.history_book.specs.declared.item.Actor.TheVariants.{Clock, Node, Session, Janitor}

infixl 10 ◌>>=◌
abbrev pub ◌>>=◌ : {A B : Type 0} → Option A → (A → Option B) → Option B
None >>= f = None
(Some x) >>= f = f x

-- how many bytes stand before the first blank
unfoldable pub word_len : List ℕ → ℕ
word_len [] = 0
word_len (b ∷ bs) = if b == 32 then 0 else suc (word_len bs)

-- the first word, and the bytes after its blank
unfoldable pub first_word : List ℕ → List ℕ
first_word bs = take (word_len bs) bs

unfoldable pub after_word : List ℕ → List ℕ
after_word bs = drop (suc (word_len bs)) bs

abbrev pub is_word : List ℕ → List ℕ → Bool
is_word word bs = pointwise nat_eq bs word

-- the bytes after a text
unfoldable pub after_text : List ℕ → List ℕ → Option (List ℕ)
after_text [] bs = Some bs
after_text (t ∷ ts) [] = None
after_text (t ∷ ts) (b ∷ bs) = if t == b then after_text ts bs else None

-- the number of the digits in front, as far as it stays below 2 ^ 64
unfoldable pub number_from : ℕ → List ℕ → ℕ × List ℕ
number_from n [] = (n, [])
number_from n (b ∷ bs) = if (nat_le 48 b && nat_le b 57) && nat_le n ((18446744073709551615 - (b - 48)) / 10) then number_from (10 * n + (b - 48)) bs else (n, b ∷ bs)

abbrev pub number_at : List ℕ → Option (ℕ × List ℕ)
number_at bs = Some (number_from 0 bs)

-- a text, and a number after it
unfoldable pub field_at : List ℕ → List ℕ → Option (ℕ × List ℕ)
field_at text bs = do
  rest ← after_text text bs
  Some (number_from 0 rest)

-- a field that is the last: its number
unfoldable pub last_field_at : List ℕ → List ℕ → Option ℕ
last_field_at text bs = option_map (λ found. found.0) (field_at text bs)

-- two fields that follow each other: their numbers, and the bytes after them
unfoldable pub two_fields_at : List ℕ → List ℕ → List ℕ → Option (ℕ × ℕ × List ℕ)
two_fields_at first second bs = do
  one ← field_at first bs
  other ← field_at second one.1
  Some (one.0, other.0, other.1)

-- a node's letter
unfoldable pub letter_at : List ℕ → Option (ℕ × List ℕ)
letter_at [] = None
letter_at (b ∷ bs) = if nat_le 97 b && nat_le b 104 then Some (b - 97, bs) else None

-- a number that is in its range
abbrev pub ranged : ℕ → ℕ → ℕ → Option ℕ
ranged low high n = if nat_le low n && nat_le n high then Some n else None

unfoldable pub node_of : ℕ → Option ℕ
node_of n = ranged 0 (nodes.COUNT - 1) n

unfoldable pub session_of : ℕ → Option ℕ
session_of n = ranged 0 (sessions.COUNT - 1) n

unfoldable pub key_of : ℕ → Option ℕ
key_of n = ranged 0 (keys.COUNT - 1) n

unfoldable pub stamp_of : ℕ → Option ℕ
stamp_of n = ranged 1 stamps.GREATEST n

unfoldable pub term_of : ℕ → Option ℕ
term_of n = ranged 1 18446744073709551615 n

-- a field that is the last, and a stamp
unfoldable pub last_stamp_at : List ℕ → List ℕ → Option ℕ
last_stamp_at text bs = last_field_at text bs >>= stamp_of

-- a value and a name are all of the bytes
unfoldable pub value_at : List ℕ → Option (List ℕ)
value_at bs = if (nat_le 1 (length bs) && nat_le (length bs) 64) && list_all (λ b. nat_le 33 b && nat_le b 126) bs then Some bs else None

abbrev pub is_name_byte : ℕ → Bool
is_name_byte b = (b == 45) || (nat_le 48 b && nat_le b 57) || (nat_le 65 b && nat_le b 90) || (nat_le 97 b && nat_le b 122)

unfoldable pub name_at : List ℕ → Option (List ℕ)
name_at bs = if (nat_le 1 (length bs) && nat_le (length bs) 16) && list_all is_name_byte bs then Some bs else None

unfoldable pub node_actor_at : List ℕ → Option Actor
node_actor_at bs = do
  node ← letter_at bs
  node_no ← node_of node.0
  Some (Node node_no)

unfoldable pub session_actor_at : List ℕ → Option Actor
session_actor_at bs = do
  session ← field_at (codes "s") bs
  session_no ← session_of session.0
  Some (Session session_no)

unfoldable pub actor_at : List ℕ → Option Actor
actor_at bs = if is_word (codes "clock") bs then Some Clock else (if is_word (codes "janitor") bs then Some Janitor else option_or (session_actor_at bs) (node_actor_at bs))
