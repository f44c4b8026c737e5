-- How the code goes over a read's recalls: by what the read has left, and what it says is next.
use Rattle.std.specs.Prelude.{◌≡◌, ℕ, ◌+◌, length, Option, None, Some}
use Rattle.system_parts.specs.declared.key_read.Next.{Next}
use Rattle.system_parts.specs.declared.key_read.Next.TheVariants.{Recall as NextRecall, Ask as NextAsk, Done as NextDone}
use Rattle.system_parts.specs.KeyRead.{Reading, ReadTurn, Asks, Answers, found_none, read_ask}
use Rattle.system_parts.specs.Cache.{Cache, known_of}
use Rattle.system_parts.specs.Recalled.{Remembering, recalled_known}

-- the read's turn
abbrev pub turn_shown : Option Reading → Next → ReadTurn
turn_shown (Some r) next = Asks r
turn_shown None (NextDone answer) = Answers answer
turn_shown None _ = Answers found_none

-- what is said to be next is so
abbrev pub ShowsNext : Option Reading → Next → Type 0
ShowsNext (Some r) (NextRecall txn) = txn ≡ r.cell.version
ShowsNext (Some r) (NextAsk asked) = asked ≡ read_ask r
ShowsNext None (NextDone answer) = Unit {0}
ShowsNext _ _ = ⊥

-- what the read comes to over what is remembered: where a recall is next, by what is kept of the cell
abbrev pub remembers : Cache → Option Reading → Next → Remembering
remembers cache (Some r) (NextRecall txn) = recalled_known cache r (known_of cache r.cell.version)
remembers cache reading next = (turn_shown reading next, cache)

-- how many cells may still be recalled
abbrev pub recalls_left : Option Reading → Next → ℕ
recalls_left (Some r) (NextRecall txn) = length r.older + 1
recalls_left reading next = 0
