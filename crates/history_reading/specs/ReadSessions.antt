-- The items of sessions, as reading finds them.
use Rattle.std.specs.Prelude.{ℕ, if◌then◌else◌, List, Option, None, Some, codes}
use Rattle.std.specs.Option.{option_map, option_or}
use Rattle.history_reading.specs.ReadWords.{◌>>=◌, is_word, after_text, field_at, last_field_at, two_fields_at, session_of, key_of, stamp_of, last_stamp_at, value_at}
use Rattle.history_book.specs.declared.item.Found.{Found}
use Rattle.history_book.specs.declared.item.Ending.{Ending}
use Rattle.history_book.specs.declared.item.Ending.TheVariants.{ReadOnly, Aborted, Dead}
use Rattle.history_book.specs.declared.item.Item.{Item}
use Rattle.history_book.specs.declared.item.Item.TheVariants.{Begin, Write, Read, Committed, End, Vanish}

unfoldable pub no_answer_at : List ℕ → Option (Option Found)
no_answer_at bs = if is_word (codes "none") bs then Some None else None

unfoldable pub found_at : List ℕ → Option (Option Found)
found_at bs = do
  start ← field_at (codes "from=") bs
  rest ← after_text (codes " ") start.1
  value ← value_at rest
  start_no ← stamp_of start.0
  Some (Some (record { from = start_no; value = value }))

abbrev pub answer_at : List ℕ → Option (Option Found)
answer_at bs = option_or (no_answer_at bs) (found_at bs)

unfoldable pub ending_at : List ℕ → Option Ending
ending_at bs =
    if is_word (codes "read-only") bs then Some ReadOnly else
    (if is_word (codes "aborted") bs then Some Aborted else
    (if is_word (codes "dead") bs then Some Dead else None))

unfoldable pub begin_at : List ℕ → Option Item
begin_at bs = do
  found ← two_fields_at (codes "s") (codes " start=") bs
  session ← session_of found.0
  start ← stamp_of found.1
  Some (Begin session start)

unfoldable pub write_at : List ℕ → Option Item
write_at bs = do
  found ← two_fields_at (codes "s") (codes " start=") bs
  key ← field_at (codes " k") found.2
  rest ← after_text (codes " ") key.1
  value ← value_at rest
  session ← session_of found.0
  start ← stamp_of found.1
  key_no ← key_of key.0
  Some (Write session start key_no value)

unfoldable pub read_at : List ℕ → Option Item
read_at bs = do
  found ← two_fields_at (codes "s") (codes " start=") bs
  key ← field_at (codes " k") found.2
  rest ← after_text (codes " ") key.1
  answer ← answer_at rest
  session ← session_of found.0
  start ← stamp_of found.1
  key_no ← key_of key.0
  Some (Read session start key_no answer)

unfoldable pub committed_at : List ℕ → Option Item
committed_at bs = do
  found ← two_fields_at (codes "s") (codes " start=") bs
  commit ← last_stamp_at (codes " commit=") found.2
  session ← session_of found.0
  start ← stamp_of found.1
  Some (Committed session start commit)

unfoldable pub end_at : List ℕ → Option Item
end_at bs = do
  found ← two_fields_at (codes "s") (codes " start=") bs
  rest ← after_text (codes " ") found.2
  how ← ending_at rest
  session ← session_of found.0
  start ← stamp_of found.1
  Some (End session start how)

-- by the kind's word
unfoldable pub session_kind_at : List ℕ → List ℕ → Option Item
session_kind_at word bs =
    if is_word (codes "begin") word then begin_at bs else
    (if is_word (codes "write") word then write_at bs else
    (if is_word (codes "read") word then read_at bs else
    (if is_word (codes "committed") word then committed_at bs else
    (if is_word (codes "end") word then end_at bs else
    (if is_word (codes "vanish") word then option_map Vanish (last_field_at (codes "s") bs >>= session_of) else None)))))
