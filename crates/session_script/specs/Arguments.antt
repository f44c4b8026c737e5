-- What the words of a line name: numbers, keys, sessions, nodes, actors, values.
use Rattle.std.specs.Prelude.{ℕ, ◌+◌, ◌-◌, ◌*◌, ◌==◌, nat_lt, nat_le, Bool, false, ◌&&◌, ◌||◌, not, if◌then◌else◌, List, [], ◌∷◌, Option, None, Some, option_map, length, codes}
use Rattle.std.specs.List.{list_all}
use Rattle.std.specs.Str.{bytes_eq}
use Rattle.stamp_base.specs.declared.numbers.TheConstants.KeyNo as keys
use Rattle.stamp_base.specs.declared.numbers.TheConstants.SessionNo as sessions
use Rattle.history_book.specs.declared.item.Actor.{Actor}
use Rattle.history_book.specs.declared.item.Actor.TheVariants.{Clock, Node, Session, Janitor}
use Rattle.script_data.specs.declared.line.Target.{Target}
use Rattle.script_data.specs.declared.line.Target.TheVariants as targets

abbrev pub is_digit : ℕ → Bool
is_digit b = nat_le 48 b && nat_le b 57

-- the word is `0`, or its first digit is another
abbrev pub leads_well : List ℕ → Bool
leads_well [] = false
leads_well (b ∷ bs) = not (b == 48) || length bs == 0

-- the number that digits spell behind those that spell n
unfoldable pub spelled_from : ℕ → List ℕ → Option ℕ
spelled_from n [] = Some n
spelled_from n (b ∷ bs) = if is_digit b then spelled_from (10 * n + (b - 48)) bs else None

-- the number that a word is: 1 to 19 digits without a leading zero
abbrev pub number_of : List ℕ → Option ℕ
number_of word = if leads_well word && nat_le (length word) 19 then spelled_from 0 word else None

-- the number behind a letter
abbrev pub number_behind : ℕ → List ℕ → Option ℕ
number_behind letter [] = None
number_behind letter (b ∷ bs) = if b == letter then number_of bs else None

abbrev pub below : ℕ → Option ℕ → Option ℕ
below limit None = None
below limit (Some n) = if nat_lt n limit then Some n else None

-- `s0` to `s15`
abbrev pub session_of : List ℕ → Option ℕ
session_of word = below sessions.COUNT (number_behind 115 word)

-- `k0` to `k4095`
abbrev pub key_of : List ℕ → Option ℕ
key_of word = below keys.COUNT (number_behind 107 word)

-- `a` to the last of the nodes
abbrev pub node_of : ℕ → List ℕ → Option ℕ
node_of nodes [] = None
node_of nodes (b ∷ []) = if nat_le 97 b && nat_lt b (97 + nodes) then Some (b - 97) else None
node_of nodes (b ∷ c ∷ bs) = None

-- `master`, or a node
abbrev pub target_of : ℕ → List ℕ → Option Target
target_of nodes word = if bytes_eq word (codes "master") then Some targets.Master else option_map (λ node. targets.Node node) (node_of nodes word)

-- 1 to 64 bytes that can be seen
abbrev pub value_of : List ℕ → Option (List ℕ)
value_of word = if nat_le 1 (length word) && nat_le (length word) 64 && list_all (λ b. nat_le 33 b && nat_le b 126) word then Some word else None

-- a dash, a digit or an ASCII letter
abbrev pub is_name_byte : ℕ → Bool
is_name_byte b = b == 45 || (nat_le 48 b && nat_le b 57) || (nat_le 65 b && nat_le b 90) || (nat_le 97 b && nat_le b 122)

-- 1 to 16 letters, digits or dashes
abbrev pub name_of : List ℕ → Option (List ℕ)
name_of word = if nat_le 1 (length word) && nat_le (length word) 16 && list_all is_name_byte word then Some word else None

abbrev pub numbered_actor : Option ℕ → Option ℕ → Option Actor
numbered_actor (Some node) session = Some (Node node)
numbered_actor None (Some session) = Some (Session session)
numbered_actor None None = None

-- `clock`, `janitor`, a node or a session
abbrev pub actor_of : ℕ → List ℕ → Option Actor
actor_of nodes word =
    if bytes_eq word (codes "clock") then Some Clock
    else if bytes_eq word (codes "janitor") then Some Janitor
    else numbered_actor (node_of nodes word) (session_of word)
