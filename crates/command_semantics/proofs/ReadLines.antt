-- For turn_rules and grant_laws too.
-- A read that a line has begun ends with its value or with a fault: its fetch, and each of its steps.
use Rattle.std.proofs.Common.{arith}
use Rattle.command_semantics.proofs.Names.{◌≡◌, ℕ, Bool, List, [], ◌∷◌}
use Rattle.command_semantics.proofs.Names.{◌++◌, Option, None, ◌⊎◌, inl, refl, Session, Item, Cell, Told}
use Rattle.command_semantics.proofs.Names.{SettleTurn, settle_turn, Reading, ReadTurn}
use Rattle.command_semantics.proofs.Names.{Asks, Answers, settling_of}
use Rattle.command_semantics.proofs.Names.{read_over, read_by, Cache, recalled_over, recalled_told}
use Rattle.command_semantics.proofs.Names.{Client, State, Step, ClientAt}
use Rattle.history_book.specs.declared.item.Item.TheVariants as item
use Rattle.system_parts.proofs.RecalledLemmas.{AnyCache, Recalls, over_holds, told_holds}
use Rattle.command_semantics.proofs.Plain.{AllPlain}
use Rattle.command_semantics.proofs.Working.{ReadWork}
use Rattle.command_semantics.proofs.Walks.{AllNot, plain_not, Paid, paid_before}

-- ---- a read keeps its key and its start
-- the reads of a turn are of this key and this start
abbrev pub OfRead : ℕ → ℕ → ReadTurn → Type 0
OfRead key start (Asks r) = (r.key ≡ key) × (r.start ≡ start)
OfRead key start (Answers a) = Unit {0}

over_read : (every : Bool) (key start epoch : ℕ) (cells : List Cell) → OfRead key start (read_over every key start epoch cells)
over_read every key start epoch cells = grind arith

settled_read : (r : Reading) (turn : SettleTurn) → OfRead r.key r.start (read_by r turn)
settled_read r turn = grind arith

-- a recall keeps them too
recalls_read : (key start : ℕ) → Recalls (OfRead key start) AnyCache
recalls_read key start = grind arith

pub over_recalls : (every : Bool) (key start epoch : ℕ) (cells : List Cell) (cache : Cache) → OfRead key start (recalled_over every key start epoch cells cache).0
over_recalls every key start epoch cells cache = (over_holds (OfRead key start) AnyCache (recalls_read key start) every key start epoch cells cache tt (over_read every key start epoch cells)).0

pub told_recalls : (cache : Cache) (r : Reading) (told : Told) → OfRead r.key r.start (recalled_told cache r told).0
told_recalls cache r told = (told_holds (OfRead r.key r.start) AnyCache (recalls_read r.key r.start) cache r told tt (settled_read r (settle_turn (settling_of r) told))).0

-- ---- a read under way
-- the session reads the key
pub record ReadsKey (w : State) (s key : ℕ) : Type 0 where
  pub c : Client
  pub at : ClientAt w.clients s c
  pub work : ReadWork c
  pub key_is : work.r.key ≡ key

-- after a step the read has ended, or goes on
abbrev pub EndsOrReads : ℕ → ℕ → Step → Type 0
EndsOrReads s key step = Paid (Session s) key step.items ⊎ (AllNot (Session s) step.items × ReadsKey step.state s key × (step.stop ≡ None))

-- the items after those that the store's step shows
pub ends_with : (s key : ℕ) (items : List Item) (x : Item) → AllPlain items → Paid (Session s) key (x ∷ []) → Paid (Session s) key (items ++ x ∷ [])
ends_with s key items x plain ends = paid_before (Session s) key items (x ∷ []) (plain_not (Session s) items plain) ends

pub read_pays : (s start key read : ℕ) (found : Option (ℕ × List ℕ)) → read ≡ key → Paid (Session s) key (item.Read s start read (Rattle.machine.specs.Events.Fetch.found_of found) ∷ [])
unfolding Paid AllNot
read_pays s start key read found is = inl ((refl, is), tt)
