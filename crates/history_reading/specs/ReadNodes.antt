-- The items of the clock and of the nodes, as reading finds them.
use Rattle.std.specs.Prelude.{ℕ, if◌then◌else◌, List, Option, None, Some, codes}
use Rattle.history_reading.specs.ReadWords.{◌>>=◌, is_word, number_at, field_at, letter_at, node_of, term_of}
use Rattle.history_book.specs.declared.item.Item.{Item}
use Rattle.history_book.specs.declared.item.Item.TheVariants.{Tick, Take, Renew, Extend, Crash}

unfoldable pub tick_at : List ℕ → Option Item
tick_at bs = do
  to ← number_at bs
  Some (Tick to.0)

unfoldable pub take_at : List ℕ → Option Item
take_at bs = do
  node ← letter_at bs
  reading ← field_at (codes " reading=") node.1
  term ← field_at (codes " term=") reading.1
  epoch ← field_at (codes " epoch=") term.1
  until ← field_at (codes " until=") epoch.1
  ceiling ← field_at (codes " ceiling=") until.1
  node_no ← node_of node.0
  term_no ← term_of term.0
  Some (Take node_no reading.0 term_no epoch.0 until.0 ceiling.0)

unfoldable pub renew_at : List ℕ → Option Item
renew_at bs = do
  node ← letter_at bs
  reading ← field_at (codes " reading=") node.1
  term ← field_at (codes " term=") reading.1
  until ← field_at (codes " until=") term.1
  node_no ← node_of node.0
  term_no ← term_of term.0
  Some (Renew node_no reading.0 term_no until.0)

unfoldable pub extend_at : List ℕ → Option Item
extend_at bs = do
  node ← letter_at bs
  term ← field_at (codes " term=") node.1
  ceiling ← field_at (codes " ceiling=") term.1
  node_no ← node_of node.0
  term_no ← term_of term.0
  Some (Extend node_no term_no ceiling.0)

unfoldable pub crash_at : List ℕ → Option Item
crash_at bs = do
  node ← letter_at bs
  term ← field_at (codes " term=") node.1
  node_no ← node_of node.0
  term_no ← term_of term.0
  Some (Crash node_no term_no)

-- by the kind's word
unfoldable pub node_kind_at : List ℕ → List ℕ → Option Item
node_kind_at word bs =
    if is_word (codes "tick") word then tick_at bs else
    (if is_word (codes "take") word then take_at bs else
    (if is_word (codes "renew") word then renew_at bs else
    (if is_word (codes "extend") word then extend_at bs else
    (if is_word (codes "crash") word then crash_at bs else None))))
