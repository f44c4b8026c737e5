-- The resolve of one cell: what is asked at each point, and what an answer decides.
use Rattle.std.specs.Prelude.{◌≡◌, ℕ, ◌<◌, ◌≤◌, ◌⊎◌, Bool, true, false, IsTrue, Option, None, Some, if◌then◌else◌}
use Rattle.system_parts.specs.declared.asks.Ask.{Ask}
use Rattle.system_parts.specs.declared.asks.Ask.TheVariants.{Get, Mark, Look}
use Rattle.system_parts.specs.declared.asks.Told.{Told}
use Rattle.system_parts.specs.declared.asks.Told.TheVariants.{Absent, Invalid, Committed, Marked, Bare, Gone, Shadowed}
use Rattle.system_parts.specs.declared.resolve.SettlePoint.{SettlePoint}
use Rattle.system_parts.specs.declared.resolve.SettlePoint.TheVariants.{FirstLook, Table, Marking, LastLook}
use Rattle.system_parts.specs.declared.resolve.Outcome.{Outcome}
use Rattle.system_parts.specs.declared.resolve.Outcome.TheVariants.{Committed as CommittedAt, Dead}
use Rattle.system_parts.specs.Asks.{Fits}

-- the resolve of a transaction's cell at a key
pub record Settling : Type 0 where
  pub key : ℕ
  pub txn : ℕ
  pub may_mark : Bool
  pub point : SettlePoint

abbrev pub settle_open : ℕ → ℕ → Bool → Bool → Settling
settle_open key txn may_mark look_first = record { key = key; txn = txn; may_mark = may_mark; point = if look_first then FirstLook else Table }

-- a session settles its own open commit by the first key that it wrote
abbrev pub own_settling : ℕ → ℕ → Settling
own_settling first_key txn = settle_open first_key txn true true

abbrev pub ask_at : ℕ → ℕ → SettlePoint → Ask
ask_at key txn FirstLook = Look key txn
ask_at key txn Table = Get txn
ask_at key txn Marking = Mark txn
ask_at key txn (LastLook met) = Look key txn

abbrev pub settle_ask : Settling → Ask
settle_ask s = ask_at s.key s.txn s.point

-- an answer leads on, or decides
pub data SettleTurn : Type 0 where
  Goes : SettlePoint → SettleTurn
  Decides : Outcome → SettleTurn

-- a shadow decides, and otherwise the table is asked
abbrev pub after_first_look : Told → SettleTurn
after_first_look (Shadowed c) = Decides (CommittedAt c false)
after_first_look _ = Goes Table

-- a commit decides; where there is no entry a mark is placed if one is allowed; an invalid mark is met, and does not decide
abbrev pub after_table : Bool → Told → SettleTurn
after_table may_mark (Committed c) = Decides (CommittedAt c true)
after_table may_mark Absent = Goes (if may_mark then Marking else LastLook false)
after_table may_mark _ = Goes (LastLook true)

-- a commit that was found decides; a mark, placed or found, is met, and does not
abbrev pub after_marking : Told → SettleTurn
after_marking (Committed c) = Decides (CommittedAt c true)
after_marking _ = Goes (LastLook true)

abbrev pub after_last_look : Told → SettleTurn
after_last_look (Shadowed c) = Decides (CommittedAt c false)
after_last_look _ = Decides Dead

abbrev pub settle_turn_at : Bool → SettlePoint → Told → SettleTurn
settle_turn_at may_mark FirstLook told = after_first_look told
settle_turn_at may_mark Table told = after_table may_mark told
settle_turn_at may_mark Marking told = after_marking told
settle_turn_at may_mark (LastLook met) told = after_last_look told

abbrev pub settle_turn : Settling → Told → SettleTurn
settle_turn s told = settle_turn_at s.may_mark s.point told

-- a resolve that is decided stays where it is
abbrev pub settle_by : Settling → SettleTurn → Settling
settle_by s (Goes p) = record s { point = p }
settle_by s (Decides o) = s

abbrev pub outcome_of : SettleTurn → Option Outcome
outcome_of (Goes p) = None
outcome_of (Decides o) = Some o

-- how many steps there may be, this one included
abbrev pub settle_left : SettlePoint → ℕ
settle_left FirstLook = 4
settle_left Table = 3
settle_left Marking = 2
settle_left (LastLook met) = 1

abbrev pub IsLastLook : SettlePoint → Type 0
IsLastLook (LastLook met) = Unit {0}
IsLastLook _ = ⊥

-- a mark, placed or found, leads on to the last look, which knows of it
abbrev pub MarkNeverDecides : Type 0
MarkNeverDecides =
    (s : Settling) → (s.point ≡ Marking → settle_turn s Marked ≡ Goes (LastLook true)) × (s.point ≡ Marking → settle_turn s Invalid ≡ Goes (LastLook true)) × (s.point ≡ Table → settle_turn s Invalid ≡ Goes (LastLook true))

-- the last look showed no shadow
abbrev pub DeadByLastLook : Type 0
DeadByLastLook =
    (s : Settling) (told : Told) → Fits (settle_ask s) told → settle_turn s told ≡ Decides Dead → IsLastLook s.point × ((told ≡ Bare) ⊎ (told ≡ Gone))

-- the commit was the table's, one that the mark found, or a shadow's
abbrev pub CommittedIsTold : Type 0
CommittedIsTold =
    (s : Settling) (told : Told) (c : ℕ) (by_table : Bool) → settle_turn s told ≡ Decides (CommittedAt c by_table) → ((told ≡ Committed c) × (by_table ≡ true) × ((settle_ask s ≡ Get s.txn) ⊎ (settle_ask s ≡ Mark s.txn))) ⊎ ((told ≡ Shadowed c) × (by_table ≡ false) × (settle_ask s ≡ Look s.key s.txn))

-- only the empty table leads to a mark, and only where one is allowed
abbrev pub MarksWhereAllowed : Type 0
MarksWhereAllowed =
    (s : Settling) (told : Told) → settle_turn s told ≡ Goes Marking → IsTrue s.may_mark × (s.point ≡ Table) × (told ≡ Absent)

-- at most four steps, and each answer that leads on leaves fewer
abbrev pub SettlesEnd : Type 0
SettlesEnd =
    (s : Settling) → (settle_left s.point ≤ 4) × ((told : Told) (p : SettlePoint) → settle_turn s told ≡ Goes p → settle_left p < settle_left s.point)
