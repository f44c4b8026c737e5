-- The steps on the stores, as reading finds them.
use Rattle.std.specs.Prelude.{ℕ, if◌then◌else◌, List, Option, None, Some, codes}
use Rattle.std.specs.Option.{option_map, option_or}
use Rattle.history_reading.specs.ReadWords.{◌>>=◌, first_word, after_word, is_word, after_text, number_at, two_fields_at, key_of, stamp_of, last_stamp_at}
use Rattle.stamp_base.specs.declared.stores.Mark.{Mark}
use Rattle.stamp_base.specs.declared.stores.Mark.TheVariants.{Committed, Invalid}
use Rattle.history_book.specs.declared.item.Seen.{Seen}
use Rattle.history_book.specs.declared.item.Seen.TheVariants.{Bare, Gone, Commit}
use Rattle.history_book.specs.declared.item.StoreStep.{StoreStep}
use Rattle.history_book.specs.declared.item.StoreStep.TheVariants.{Fetch, Get, MarkFound, Look, Shadow, Remove, Erase, Keys, PutFound, Handed}

unfoldable pub mark_at : List ℕ → Option Mark
mark_at bs = if is_word (codes "invalid") bs then Some Invalid else option_map Committed (last_stamp_at (codes "committed=") bs)

unfoldable pub entry_at : List ℕ → Option (Option Mark)
entry_at bs = if is_word (codes "absent") bs then Some None else option_map Some (mark_at bs)

unfoldable pub seen_at : List ℕ → Option Seen
seen_at bs = if is_word (codes "none") bs then Some Bare else (if is_word (codes "gone") bs then Some Gone else option_map Commit (last_stamp_at (codes "commit=") bs))

unfoldable pub fetch_at : List ℕ → Option StoreStep
fetch_at bs = do
  found ← two_fields_at (codes "k") (codes " cells=") bs
  key ← key_of found.0
  Some (Fetch key found.1)

unfoldable pub get_at : List ℕ → Option StoreStep
get_at bs = do
  txn ← number_at bs
  rest ← after_text (codes " ") txn.1
  answer ← entry_at rest
  txn_no ← stamp_of txn.0
  Some (Get txn_no answer)

unfoldable pub mark_found_at : List ℕ → Option StoreStep
mark_found_at bs = do
  txn ← number_at bs
  rest ← after_text (codes " ") txn.1
  mark ← mark_at rest
  txn_no ← stamp_of txn.0
  Some (MarkFound txn_no mark)

unfoldable pub look_at : List ℕ → Option StoreStep
look_at bs = do
  found ← two_fields_at (codes "k") (codes " ") bs
  rest ← after_text (codes " ") found.2
  answer ← seen_at rest
  key ← key_of found.0
  txn ← stamp_of found.1
  Some (Look key txn answer)

unfoldable pub shadow_at : List ℕ → Option StoreStep
shadow_at bs = do
  found ← two_fields_at (codes "k") (codes " ") bs
  commit ← last_stamp_at (codes " ") found.2
  key ← key_of found.0
  txn ← stamp_of found.1
  Some (Shadow key txn commit)

unfoldable pub erase_at : List ℕ → Option StoreStep
erase_at bs = do
  found ← two_fields_at (codes "k") (codes " ") bs
  key ← key_of found.0
  txn ← stamp_of found.1
  Some (Erase key txn)

unfoldable pub keys_at : List ℕ → Option StoreStep
keys_at bs = do
  found ← two_fields_at (codes "") (codes " count=") bs
  txn ← stamp_of found.0
  Some (Keys txn found.1)

unfoldable pub put_found_at : List ℕ → Option StoreStep
put_found_at bs = do
  txn ← number_at bs
  txn_no ← stamp_of txn.0
  Some (PutFound txn_no)

unfoldable pub handed_at : List ℕ → Option StoreStep
handed_at bs = do
  found ← two_fields_at (codes "") (codes " ") bs
  txn ← stamp_of found.0
  commit ← stamp_of found.1
  Some (Handed txn commit)

-- by the step's word
unfoldable pub cell_step_at : List ℕ → List ℕ → Option StoreStep
cell_step_at word bs =
    if is_word (codes "fetch") word then fetch_at bs else
    (if is_word (codes "look") word then look_at bs else
    (if is_word (codes "shadow") word then shadow_at bs else
    (if is_word (codes "erase") word then erase_at bs else None)))

unfoldable pub table_step_at : List ℕ → List ℕ → Option StoreStep
table_step_at word bs =
    if is_word (codes "get") word then get_at bs else
    (if is_word (codes "mark") word then mark_found_at bs else
    (if is_word (codes "remove") word then option_map Remove (last_stamp_at (codes "") bs) else
    (if is_word (codes "keys") word then keys_at bs else
    (if is_word (codes "put") word then put_found_at bs else
    (if is_word (codes "handed") word then handed_at bs else None)))))

abbrev pub step_at : List ℕ → Option StoreStep
step_at bs = option_or (cell_step_at (first_word bs) (after_word bs)) (table_step_at (first_word bs) (after_word bs))
