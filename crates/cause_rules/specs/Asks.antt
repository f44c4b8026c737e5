-- What a history tells of a session's request: its ask, its node, its term and its draw.
use Rattle.std.specs.Prelude.{◌≡◌, ℕ, ◌==◌, Bool, false, if◌then◌else◌, List, Option, None, Some}
use Rattle.std.specs.Option.{option_or}
use Rattle.history_book.specs.declared.item.Item.{Item}
use Rattle.history_book.specs.declared.item.Item.TheVariants.{AskBegin, AskCommit, Accept, Draw}
use Rattle.cause_rules.specs.Since.{last_told, since}

-- what was asked of which node: a start, or the commit of the transaction with this start
pub record Ask : Type 0 where
  pub node : ℕ
  pub start : Option ℕ

-- ---- what one item tells of the session
abbrev pub ask_by : ℕ → Item → Option Ask
ask_by s (AskBegin session node) = if session == s then Some (record { node = node; start = None }) else None
ask_by s (AskCommit session node start) = if session == s then Some (record { node = node; start = Some start }) else None
ask_by s _ = None

abbrev pub asks_for : ℕ → Item → Bool
asks_for s (AskBegin session node) = session == s
asks_for s (AskCommit session node start) = session == s
asks_for s _ = false

abbrev pub term_by : ℕ → Item → Option ℕ
term_by s (Accept session node term reading) = if session == s then Some term else None
term_by s _ = None

-- the start and, of a commit, the commit
abbrev pub draw_by : ℕ → Item → Option (ℕ × Option ℕ)
draw_by s (Draw session node term start commit) = if session == s then Some (start, commit) else None
draw_by s _ = None

abbrev pub draws_for : ℕ → Item → Bool
draws_for s (Draw session node term start commit) = session == s
draws_for s _ = false

-- ---- the session's request, as the history shows it
-- its ask: the session's last
abbrev pub its_ask : List Item → ℕ → Option Ask
its_ask h s = last_told (ask_by s) h

abbrev pub since_ask : List Item → ℕ → List Item
since_ask h s = since (asks_for s) h

-- its term: that in which it was accepted last since the ask
abbrev pub its_term : List Item → ℕ → Option ℕ
its_term h s = last_told (term_by s) (since_ask h s)

-- its draw: the last one since the ask
abbrev pub its_draw : List Item → ℕ → Option (ℕ × Option ℕ)
its_draw h s = last_told (draw_by s) (since_ask h s)

abbrev pub since_draw : List Item → ℕ → List Item
since_draw h s = since (draws_for s) (since_ask h s)

-- its start: that of the ask, or of a begin's draw
abbrev pub start_asked : Option Ask → Option ℕ
start_asked None = None
start_asked (Some ask) = ask.start

abbrev pub start_drawn : Option (ℕ × Option ℕ) → Option ℕ
start_drawn None = None
start_drawn (Some stamps) = Some stamps.0

abbrev pub its_start : List Item → ℕ → Option ℕ
its_start h s = option_or (start_asked (its_ask h s)) (start_drawn (its_draw h s))

-- its node
abbrev pub node_asked : Option Ask → Option ℕ
node_asked None = None
node_asked (Some ask) = Some ask.node

abbrev pub its_node : List Item → ℕ → Option ℕ
its_node h s = node_asked (its_ask h s)

-- the session has asked
abbrev pub HasAsked : List Item → ℕ → Type 0
HasAsked h s = (node : ℕ) × (its_node h s ≡ Some node)
