-- The items of requests, and of placed commits, as reading finds them.
use Rattle.std.specs.Prelude.{ℕ, if◌then◌else◌, List, [], ◌∷◌, Option, None, Some, codes}
use Rattle.std.specs.Option.{option_map, option_or}
use Rattle.history_reading.specs.ReadWords.{◌>>=◌, is_word, after_text, field_at, two_fields_at, letter_at, node_of, session_of, stamp_of, term_of, last_stamp_at}
use Rattle.history_book.specs.declared.item.Item.{Item}
use Rattle.history_book.specs.declared.item.Item.TheVariants.{AskBegin, AskCommit, Accept, Draw, Placed}

-- the session and the node of a request, and the bytes after them
unfoldable pub asked_at : List ℕ → Option (ℕ × ℕ × List ℕ)
asked_at bs = do
  session ← field_at (codes "s") bs
  rest ← after_text (codes " ") session.1
  node ← letter_at rest
  Some (session.0, node.0, node.1)

-- a begin draws no commit
unfoldable pub no_commit_at : List ℕ → Option (Option ℕ)
no_commit_at [] = Some None
no_commit_at (b ∷ bs) = None

unfoldable pub commit_at : List ℕ → Option (Option ℕ)
commit_at bs = option_map Some (last_stamp_at (codes " commit=") bs)

abbrev pub drawn_at : List ℕ → Option (Option ℕ)
drawn_at bs = option_or (no_commit_at bs) (commit_at bs)

unfoldable pub ask_begin_at : List ℕ → Option Item
ask_begin_at bs = do
  asked ← asked_at bs
  session ← session_of asked.0
  node ← node_of asked.1
  Some (AskBegin session node)

unfoldable pub ask_commit_at : List ℕ → Option Item
ask_commit_at bs = do
  asked ← asked_at bs
  start ← last_stamp_at (codes " start=") asked.2
  session ← session_of asked.0
  node ← node_of asked.1
  Some (AskCommit session node start)

unfoldable pub accept_at : List ℕ → Option Item
accept_at bs = do
  asked ← asked_at bs
  found ← two_fields_at (codes " term=") (codes " reading=") asked.2
  session ← session_of asked.0
  node ← node_of asked.1
  term ← term_of found.0
  Some (Accept session node term found.1)

unfoldable pub draw_at : List ℕ → Option Item
draw_at bs = do
  asked ← asked_at bs
  found ← two_fields_at (codes " term=") (codes " start=") asked.2
  commit ← drawn_at found.2
  session ← session_of asked.0
  node ← node_of asked.1
  term ← term_of found.0
  start ← stamp_of found.1
  Some (Draw session node term start commit)

unfoldable pub placed_at : List ℕ → Option Item
placed_at bs = do
  found ← two_fields_at (codes "start=") (codes " commit=") bs
  start ← stamp_of found.0
  commit ← stamp_of found.1
  Some (Placed start commit)

-- by the kind's word
unfoldable pub request_kind_at : List ℕ → List ℕ → Option Item
request_kind_at word bs =
    if is_word (codes "ask-begin") word then ask_begin_at bs else
    (if is_word (codes "ask-commit") word then ask_commit_at bs else
    (if is_word (codes "accept") word then accept_at bs else
    (if is_word (codes "draw") word then draw_at bs else
    (if is_word (codes "placed") word then placed_at bs else None))))
