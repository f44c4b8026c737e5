-- Short histories of what a commit is told of its keys, of a mark and of its loss, each with the numbers that may be turned.
use Rattle.std.specs.Prelude.{ℕ, true, List, [], ◌∷◌, ◌++◌, None, Some}
use Rattle.stamp_base.specs.SetupNumbers.{SetupNumbers, default_numbers}
use Rattle.history_book.specs.declared.cause.Cause.TheVariants as cause
use Rattle.history_book.specs.declared.item.Actor.TheVariants.{Session}
use Rattle.history_book.specs.declared.item.StoreStep.TheVariants.{Fetch}
use Rattle.history_book.specs.declared.item.Item.{Item}
use Rattle.history_book.specs.declared.item.Item.TheVariants.{AskCommit, Accept, Begin, Draw, Write, Mark, Step}
use Rattle.cause_rules.specs.WorkedHistories.{told, told_between, v}

-- with strict reads a transaction is told of keys too that it only read
abbrev pub strictly : SetupNumbers → SetupNumbers
strictly setup = record setup { strict = true }

-- a session places its commit itself, and its node none
abbrev pub directly : SetupNumbers → SetupNumbers
directly setup = record setup { direct = true }

-- ---- a conflict on the key 0
-- a session fetched a key, began a transaction, and fetched another key; the transaction 1 wrote a key, and its commit 3 was drawn
-- in a term; another one wrote a key, and asks to commit in the term 1; it is told of a commit
pub record Conflicting : Type 0 where
  pub reader : ℕ
  pub read_before : ℕ
  pub begun : ℕ
  pub read : ℕ
  pub written : ℕ
  pub drawn_in : ℕ
  pub start : ℕ
  pub own : ℕ
  pub by : ℕ

abbrev pub conflicting : Conflicting
conflicting = record { reader = 1; read_before = 6; begun = 2; read = 6; written = 0; drawn_in = 1; start = 2; own = 0; by = 3 }

-- the transaction wrote another key, and read the key 0
abbrev pub read_conflicting : Conflicting
read_conflicting = record conflicting { own = 5; read = 0 }

-- what a session read before its begin, and since
abbrev pub reads_of : ℕ → ℕ → ℕ → ℕ → List Item
reads_of session before start since = Step (Session session) (Fetch before 1) ∷ Begin session start ∷ Step (Session session) (Fetch since 1) ∷ []

abbrev pub before_conflict : Conflicting → List Item
before_conflict c =
    reads_of c.reader c.read_before c.begun c.read
    ++ Write 0 1 c.written v ∷ Write 1 c.start c.own v ∷ Draw 0 0 c.drawn_in 1 (Some 3) ∷ AskCommit 1 0 c.start ∷ Accept 1 0 1 0 ∷ []

abbrev pub conflict_told : Conflicting → List Item
conflict_told c = told (before_conflict c) (Session 1) (cause.Conflict 0 c.by)

-- the other transaction has begun, and does not ask to commit
abbrev pub before_conflict_unasked : List Item
before_conflict_unasked = Write 0 1 0 v ∷ Write 1 2 0 v ∷ Draw 0 0 1 1 (Some 3) ∷ Accept 1 0 1 0 ∷ Draw 1 0 1 2 None ∷ []

abbrev pub conflict_told_unasked : List Item
conflict_told_unasked = told before_conflict_unasked (Session 1) (cause.Conflict 0 3)

-- the commit is drawn only after the session was told of it
abbrev pub before_draw : List Item
before_draw = Write 0 1 0 v ∷ Write 1 2 0 v ∷ AskCommit 1 0 2 ∷ Accept 1 0 1 0 ∷ []

abbrev pub conflict_told_first : List Item
conflict_told_first = told_between before_draw (Session 1) (cause.Conflict 0 3) (Draw 0 0 1 1 (Some 3) ∷ [])

-- ---- a key that is hidden
-- four buckets of a width: the keys 0, 4 and 8 share one, and 1 has another
abbrev pub buckets_of : ℕ → SetupNumbers
buckets_of width = record default_numbers { buckets = 4; width = width }

-- a session fetched a key, began a transaction, and fetched another key; the transaction 1 wrote a key, and its commit 4 was drawn
-- in a term; the transaction 2 wrote the key 4, and its commit 5 was drawn in the term 1; another one wrote a key, and asks to
-- commit in the term 1; it is told of a key and of a water
pub record Hiding : Type 0 where
  pub reader : ℕ
  pub read_before : ℕ
  pub begun : ℕ
  pub read : ℕ
  pub written : ℕ
  pub drawn_in : ℕ
  pub start : ℕ
  pub own : ℕ
  pub key : ℕ
  pub water : ℕ

abbrev pub hiding : Hiding
hiding = record { reader = 2; read_before = 6; begun = 3; read = 6; written = 0; drawn_in = 1; start = 3; own = 0; key = 0; water = 4 }

-- the transaction wrote another key, and read the key 0
abbrev pub read_hiding : Hiding
read_hiding = record hiding { own = 8; read = 0 }

abbrev pub before_hidden : Hiding → List Item
before_hidden c =
    reads_of c.reader c.read_before c.begun c.read
    ++ Write 0 1 c.written v ∷ Write 1 2 4 v ∷ Write 2 c.start c.own v
    ∷ Draw 0 0 c.drawn_in 1 (Some 4) ∷ Draw 1 0 1 2 (Some 5)
    ∷ AskCommit 2 0 c.start ∷ Accept 2 0 1 0 ∷ []

abbrev pub hidden_told : Hiding → List Item
hidden_told c = told (before_hidden c) (Session 2) (cause.Hidden c.key c.water)

-- the third transaction has begun, and does not ask to commit
abbrev pub before_hidden_unasked : List Item
before_hidden_unasked =
    Write 0 1 0 v ∷ Write 1 2 4 v ∷ Write 2 3 0 v
    ∷ Draw 0 0 1 1 (Some 4) ∷ Draw 1 0 1 2 (Some 5)
    ∷ Accept 2 0 1 0 ∷ Draw 2 0 1 3 None ∷ []

abbrev pub hidden_told_unasked : List Item
hidden_told_unasked = told before_hidden_unasked (Session 2) (cause.Hidden 0 4)

-- ---- a mark
-- a transaction asks to commit, one is marked, and the session is told of one
abbrev pub before_invalid : ℕ → ℕ → List Item
before_invalid asked marked = AskCommit 0 0 asked ∷ Mark (Session 1) marked ∷ []

abbrev pub invalid_told : ℕ → ℕ → ℕ → List Item
invalid_told asked marked start = told (before_invalid asked marked) (Session 0) (cause.Invalid start)

-- the transaction is marked only after its session was told
abbrev pub invalid_told_first : List Item
invalid_told_first = told_between (AskCommit 0 0 1 ∷ []) (Session 0) (cause.Invalid 1) (Mark (Session 1) 1 ∷ [])

-- the transaction has begun, and does not ask to commit
abbrev pub before_invalid_unasked : List Item
before_invalid_unasked = Draw 0 0 1 1 None ∷ Mark (Session 1) 1 ∷ []

abbrev pub invalid_told_unasked : List Item
invalid_told_unasked = told before_invalid_unasked (Session 0) (cause.Invalid 1)

-- ---- an open outcome
-- the transaction 1 asks the node 0 to commit, and its commit is drawn; with what comes before the ask, between the two, and
-- after the draw; the session is told of a transaction
abbrev pub before_open : List Item → List Item → List Item → List Item
before_open first between last = first ++ AskCommit 0 0 1 ∷ between ++ Draw 0 0 1 1 (Some 2) ∷ last

abbrev pub open_told : List Item → List Item → List Item → ℕ → List Item
open_told first between last start = told (before_open first between last) (Session 0) (cause.Open start)
