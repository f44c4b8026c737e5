-- What is over of a session's ask stays over, until the session asks again.
use Rattle.std.specs.Prelude.{◌≡◌, ℕ, true, false, All, List, ◌++◌}
use Rattle.history_book.specs.Members.{◌∈◌}
use Rattle.history_book.specs.declared.item.Item.{Item}
use Rattle.cause_rules.specs.OpenAsks.{closes, asks_at, open_asks_of}

abbrev pub NoAsk : ℕ → ℕ → Item → Type 0
NoAsk n s x = asks_at n s x ≡ false

-- no item is an ask of the session at the node
abbrev pub NoneAsks : ℕ → ℕ → List Item → Type 0
NoneAsks n s items = All (NoAsk n s) items

abbrev pub OverStaysOver : Type 0
OverStaysOver = (h items : List Item) (n s : ℕ) → open_asks_of h n s ≡ 0 → NoneAsks n s items → open_asks_of (h ++ items) n s ≡ 0

-- an item that closes the ask, and none behind it that asks
abbrev pub ClosedAsksAreOver : Type 0
ClosedAsksAreOver = (h items : List Item) (n s : ℕ) (x : Item) → x ∈ items → closes n s x ≡ true → NoneAsks n s items → open_asks_of (h ++ items) n s ≡ 0
