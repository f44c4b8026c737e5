-- The causes, as reading finds them.
use Rattle.std.specs.Prelude.{ℕ, if◌then◌else◌, List, Option, None, Some, codes}
use Rattle.std.specs.Option.{option_map, option_or}
use Rattle.history_reading.specs.ReadWords.{◌>>=◌, first_word, after_word, is_word, after_text, field_at, last_field_at, two_fields_at, letter_at, node_of, session_of, key_of, stamp_of, term_of, last_stamp_at}
use Rattle.history_book.specs.declared.cause.Cause.{Cause}
use Rattle.history_book.specs.declared.cause.Cause.TheVariants.{Conflict, Hidden, OldEpoch, Expired, Replaced, Spent, NoStamp, Invalid, Open, Crashed, NotYet, NoRequest, NoOracle, Full, Early, Holding, Undecided, NoTransaction, Busy, TooManyKeys, Gone, Idle}

-- the causes of two fields of which a key or a stamp is one
unfoldable pub conflict_at : List ℕ → Option Cause
conflict_at bs = do
  found ← two_fields_at (codes "key=k") (codes " by=") bs
  key ← key_of found.0
  by ← stamp_of found.1
  Some (Conflict key by)

unfoldable pub hidden_at : List ℕ → Option Cause
hidden_at bs = do
  found ← two_fields_at (codes "key=k") (codes " water=") bs
  key ← key_of found.0
  Some (Hidden key found.1)

unfoldable pub old_epoch_at : List ℕ → Option Cause
old_epoch_at bs = do
  found ← two_fields_at (codes "start=") (codes " epoch=") bs
  start ← stamp_of found.0
  Some (OldEpoch start found.1)

unfoldable pub undecided_at : List ℕ → Option Cause
undecided_at bs = do
  found ← two_fields_at (codes "start=") (codes " epoch=") bs
  start ← stamp_of found.0
  Some (Undecided start found.1)

-- the causes that name a node
unfoldable pub crashed_at : List ℕ → Option Cause
crashed_at bs = do
  rest ← after_text (codes "node=") bs
  node ← letter_at rest
  term ← field_at (codes " term=") node.1
  node_no ← node_of node.0
  term_no ← term_of term.0
  Some (Crashed node_no term_no)

unfoldable pub no_oracle_at : List ℕ → Option Cause
no_oracle_at bs = do
  rest ← after_text (codes "node=") bs
  node ← letter_at rest
  node_no ← node_of node.0
  Some (NoOracle node_no)

-- by the cause's word
unfoldable pub transaction_cause_at : List ℕ → List ℕ → Option Cause
transaction_cause_at word bs =
    if is_word (codes "conflict") word then conflict_at bs else
    (if is_word (codes "hidden") word then hidden_at bs else
    (if is_word (codes "old-epoch") word then old_epoch_at bs else
    (if is_word (codes "invalid") word then option_map Invalid (last_stamp_at (codes "start=") bs) else
    (if is_word (codes "open") word then option_map Open (last_stamp_at (codes "start=") bs) else
    (if is_word (codes "not-yet") word then option_map NotYet (last_stamp_at (codes "commit=") bs) else
    (if is_word (codes "undecided") word then undecided_at bs else None))))))

unfoldable pub lease_cause_at : List ℕ → List ℕ → Option Cause
lease_cause_at word bs =
    if is_word (codes "expired") word then option_map (λ found. Expired found.0 found.1) (two_fields_at (codes "reading=") (codes " until=") bs) else
    (if is_word (codes "replaced") word then option_map Replaced (last_field_at (codes "found=") bs) else
    (if is_word (codes "spent") word then option_map Spent (last_field_at (codes "ceiling=") bs) else
    (if is_word (codes "no-stamp") word then option_map NoStamp (last_field_at (codes "last=") bs) else
    (if is_word (codes "early") word then option_map (λ found. Early found.0 found.1) (two_fields_at (codes "reading=") (codes " until=") bs) else
    (if is_word (codes "holding") word then option_map Holding (last_field_at (codes "term=") bs >>= term_of) else
    (if is_word (codes "crashed") word then crashed_at bs else None))))))

unfoldable pub place_cause_at : List ℕ → List ℕ → Option Cause
place_cause_at word bs =
    if is_word (codes "no-request") word then option_map NoRequest (last_field_at (codes "session=s") bs >>= session_of) else
    (if is_word (codes "no-oracle") word then no_oracle_at bs else
    (if is_word (codes "full") word then option_map Full (last_field_at (codes "in-flight=") bs) else None))

unfoldable pub plain_cause_at : List ℕ → Option Cause
plain_cause_at word =
    if is_word (codes "no-transaction") word then Some NoTransaction else
    (if is_word (codes "busy") word then Some Busy else
    (if is_word (codes "too-many-keys") word then Some TooManyKeys else
    (if is_word (codes "gone") word then Some Gone else
    (if is_word (codes "idle") word then Some Idle else None))))

abbrev pub cause_at : List ℕ → Option Cause
cause_at bs = option_or (transaction_cause_at (first_word bs) (after_word bs)) (option_or (lease_cause_at (first_word bs) (after_word bs)) (option_or (place_cause_at (first_word bs) (after_word bs)) (plain_cause_at (first_word bs))))
