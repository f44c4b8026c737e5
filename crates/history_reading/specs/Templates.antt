-- The lines that most of a history is, as their templates find them: texts that each line of a kind has, and between them numbers
-- exactly as they are printed. What is found so is printed as it was read.
use Rattle.std.specs.Prelude.{ℕ, ◌+◌, ◌-◌, ◌*◌, ◌==◌, nat_le, ◌&&◌, if◌then◌else◌, List, [], ◌∷◌, Option, None, Some, codes}
use Rattle.std.specs.Option.{option_map, option_or}
use Rattle.stamp_base.specs.declared.stores.Mark.{Mark}
use Rattle.stamp_base.specs.declared.stores.Mark.TheVariants.{Committed}
use Rattle.history_book.specs.declared.item.Actor.TheVariants.{Session}
use Rattle.history_book.specs.declared.item.Found.{Found}
use Rattle.history_book.specs.declared.item.Seen.{Seen}
use Rattle.history_book.specs.declared.item.Seen.TheVariants as seen
use Rattle.history_book.specs.declared.item.StoreStep.{StoreStep}
use Rattle.history_book.specs.declared.item.StoreStep.TheVariants as step
use Rattle.history_book.specs.declared.item.Item.{Item}
use Rattle.history_book.specs.declared.item.Item.TheVariants as item
use Rattle.history_reading.specs.ReadWords.{◌>>=◌, is_word, after_text, letter_at, node_of, session_of, key_of, stamp_of, term_of, value_at}

-- further digits of a number, as far as one more leaves it below 2 ^ 64
unfoldable pub digits_from : ℕ → List ℕ → ℕ × List ℕ
digits_from n [] = (n, [])
digits_from n (b ∷ bs) = if (nat_le 48 b && nat_le b 57) && nat_le n 1844674407370955160 then digits_from (10 * n + (b - 48)) bs else (n, b ∷ bs)

-- a number in front as it is printed, and the bytes after it: a zero stands alone
unfoldable pub exact_number_at : List ℕ → Option (ℕ × List ℕ)
exact_number_at [] = None
exact_number_at (b ∷ bs) = if nat_le 49 b && nat_le b 57 then Some (digits_from (b - 48) bs) else (if b == 48 then Some (0, bs) else None)

-- a text, and a number after it
unfoldable pub exact_field_at : List ℕ → List ℕ → Option (ℕ × List ℕ)
exact_field_at text bs = do
  rest ← after_text text bs
  exact_number_at rest

unfoldable pub alone : ℕ × List ℕ → Option ℕ
alone (n, []) = Some n
alone (n, b ∷ bs) = None

-- a text, and a number that is all that follows it
unfoldable pub exact_end_at : List ℕ → List ℕ → Option ℕ
exact_end_at text bs = do
  found ← exact_field_at text bs
  alone found

-- a session's number, a node's letter and the bytes after it
unfoldable pub exact_asked_at : List ℕ → List ℕ → Option (ℕ × ℕ × List ℕ)
exact_asked_at text bs = do
  session ← exact_field_at text bs
  rest ← after_text (codes " ") session.1
  node ← letter_at rest
  Some (session.0, node.0, node.1)

-- a session's number and a start, and the bytes after it
unfoldable pub exact_started_at : List ℕ → List ℕ → Option (ℕ × ℕ × List ℕ)
exact_started_at text bs = do
  session ← exact_field_at text bs
  start ← exact_field_at (codes " start=") session.1
  Some (session.0, start.0, start.1)

-- ---- requests

unfoldable pub ask_begin_line : List ℕ → Option Item
ask_begin_line bs = do
  asked ← exact_asked_at (codes "sk-begin s") bs
  node ← alone (asked.1, asked.2)
  session ← session_of asked.0
  node_no ← node_of node
  Some (item.AskBegin session node_no)

unfoldable pub ask_commit_line : List ℕ → Option Item
ask_commit_line bs = do
  asked ← exact_asked_at (codes "sk-commit s") bs
  start ← exact_end_at (codes " start=") asked.2
  session ← session_of asked.0
  node ← node_of asked.1
  start_no ← stamp_of start
  Some (item.AskCommit session node start_no)

unfoldable pub accept_line : List ℕ → Option Item
accept_line bs = do
  asked ← exact_asked_at (codes "ccept s") bs
  term ← exact_field_at (codes " term=") asked.2
  reading ← exact_end_at (codes " reading=") term.1
  session ← session_of asked.0
  node ← node_of asked.1
  term_no ← term_of term.0
  Some (item.Accept session node term_no reading)

-- a begin draws no commit
unfoldable pub commit_line : List ℕ → Option (Option ℕ)
commit_line [] = Some None
commit_line (b ∷ bs) = option_map Some (exact_end_at (codes " commit=") (b ∷ bs) >>= stamp_of)

unfoldable pub draw_line : List ℕ → Option Item
draw_line bs = do
  asked ← exact_asked_at (codes "raw s") bs
  term ← exact_field_at (codes " term=") asked.2
  start ← exact_field_at (codes " start=") term.1
  commit ← commit_line start.1
  session ← session_of asked.0
  node ← node_of asked.1
  term_no ← term_of term.0
  start_no ← stamp_of start.0
  Some (item.Draw session node term_no start_no commit)

unfoldable pub placed_line : List ℕ → Option Item
placed_line bs = do
  start ← exact_field_at (codes "laced start=") bs
  commit ← exact_end_at (codes " commit=") start.1
  start_no ← stamp_of start.0
  commit_no ← stamp_of commit
  Some (item.Placed start_no commit_no)

-- ---- sessions

unfoldable pub begin_line : List ℕ → Option Item
begin_line bs = do
  session ← exact_field_at (codes "egin s") bs
  start ← exact_end_at (codes " start=") session.1
  session_no ← session_of session.0
  start_no ← stamp_of start
  Some (item.Begin session_no start_no)

unfoldable pub committed_line : List ℕ → Option Item
committed_line bs = do
  begun ← exact_started_at (codes "ommitted s") bs
  commit ← exact_end_at (codes " commit=") begun.2
  session ← session_of begun.0
  start ← stamp_of begun.1
  commit_no ← stamp_of commit
  Some (item.Committed session start commit_no)

unfoldable pub write_line : List ℕ → Option Item
write_line bs = do
  begun ← exact_started_at (codes "rite s") bs
  key ← exact_field_at (codes " k") begun.2
  rest ← after_text (codes " ") key.1
  value ← value_at rest
  session ← session_of begun.0
  start ← stamp_of begun.1
  key_no ← key_of key.0
  Some (item.Write session start key_no value)

unfoldable pub found_line : List ℕ → Option (Option Found)
found_line bs = do
  from ← exact_field_at (codes "from=") bs
  rest ← after_text (codes " ") from.1
  value ← value_at rest
  start ← stamp_of from.0
  Some (Some (record { from = start; value = value }))

unfoldable pub answer_line : List ℕ → Option (Option Found)
answer_line bs = if is_word (codes "none") bs then Some None else found_line bs

unfoldable pub read_line : List ℕ → Option Item
read_line bs = do
  begun ← exact_started_at (codes "ead s") bs
  key ← exact_field_at (codes " k") begun.2
  rest ← after_text (codes " ") key.1
  answer ← answer_line rest
  session ← session_of begun.0
  start ← stamp_of begun.1
  key_no ← key_of key.0
  Some (item.Read session start key_no answer)

-- ---- steps of a session on the stores

unfoldable pub fetch_line : List ℕ → Option StoreStep
fetch_line bs = do
  key ← exact_field_at (codes "etch k") bs
  cells ← exact_end_at (codes " cells=") key.1
  key_no ← key_of key.0
  Some (step.Fetch key_no cells)

unfoldable pub mark_line : List ℕ → Option Mark
mark_line bs = do
  commit ← exact_end_at (codes "committed=") bs
  commit_no ← stamp_of commit
  Some (Committed commit_no)

unfoldable pub entry_line : List ℕ → Option (Option Mark)
entry_line bs = if is_word (codes "absent") bs then Some None else option_map Some (mark_line bs)

unfoldable pub get_line : List ℕ → Option StoreStep
get_line bs = do
  txn ← exact_field_at (codes "et ") bs
  rest ← after_text (codes " ") txn.1
  answer ← entry_line rest
  txn_no ← stamp_of txn.0
  Some (step.Get txn_no answer)

-- a key and a transaction, and the bytes after them
unfoldable pub exact_cell_at : List ℕ → List ℕ → Option (ℕ × ℕ × List ℕ)
exact_cell_at text bs = do
  key ← exact_field_at text bs
  txn ← exact_field_at (codes " ") key.1
  Some (key.0, txn.0, txn.1)

unfoldable pub seen_line : List ℕ → Option Seen
seen_line bs = if is_word (codes "none") bs then Some seen.Bare else option_map seen.Commit (exact_end_at (codes "commit=") bs >>= stamp_of)

unfoldable pub look_line : List ℕ → Option StoreStep
look_line bs = do
  cell ← exact_cell_at (codes "ook k") bs
  rest ← after_text (codes " ") cell.2
  answer ← seen_line rest
  key ← key_of cell.0
  txn ← stamp_of cell.1
  Some (step.Look key txn answer)

unfoldable pub shadow_line : List ℕ → Option StoreStep
shadow_line bs = do
  cell ← exact_cell_at (codes "hadow k") bs
  commit ← exact_end_at (codes " ") cell.2
  key ← key_of cell.0
  txn ← stamp_of cell.1
  commit_no ← stamp_of commit
  Some (step.Shadow key txn commit_no)

unfoldable pub remove_line : List ℕ → Option StoreStep
remove_line bs = do
  txn ← exact_end_at (codes "emove ") bs
  txn_no ← stamp_of txn
  Some (step.Remove txn_no)

-- by the first letter of the step's word
unfoldable pub what_line : List ℕ → Option StoreStep
what_line [] = None
what_line (b ∷ bs) =
    if b == 102 then fetch_line bs else
    (if b == 103 then get_line bs else
    (if b == 108 then look_line bs else
    (if b == 115 then shadow_line bs else
    (if b == 114 then remove_line bs else None))))

unfoldable pub step_line : List ℕ → Option Item
step_line bs = do
  session ← exact_field_at (codes "tep s") bs
  rest ← after_text (codes " ") session.1
  what ← what_line rest
  session_no ← session_of session.0
  Some (item.Step (Session session_no) what)

-- ---- by the first letter of the line

unfoldable pub request_line : List ℕ → Option Item
request_line bs = option_or (accept_line bs) (option_or (ask_begin_line bs) (ask_commit_line bs))

unfoldable pub template_at : List ℕ → Option Item
template_at [] = None
template_at (b ∷ bs) =
    if b == 97 then request_line bs else
    (if b == 98 then begin_line bs else
    (if b == 99 then committed_line bs else
    (if b == 100 then draw_line bs else
    (if b == 112 then placed_line bs else
    (if b == 114 then read_line bs else
    (if b == 115 then step_line bs else
    (if b == 119 then write_line bs else None)))))))
