-- The items of an event that reads the clocks: each reading is that of its node's clock, there is no tick, and a fault only
-- where a store call failed.
use Rattle.std.proofs.Common.{arith}
use Rattle.command_semantics.proofs.Names.{of_post, of_both, ◌≡◌, ◌≢◌, ℕ, Bool, List, [], ◌∷◌, ◌++◌}
use Rattle.command_semantics.proofs.Names.{Option, Some, None, Result, Ok, Err, ◌⊎◌, inl, All, slice_get}
use Rattle.command_semantics.proofs.Names.{All-nil, All-cons, Store, Fate, Works, FailsUnchanged, FailsApplied, Cause}
use Rattle.command_semantics.proofs.Names.{Actor, Node, Session, Item, InstanceEntry, Client, State}
use Rattle.command_semantics.proofs.Names.{refused_once, Step, at_post, at_client, at_both, asks_at_post}
use Rattle.command_semantics.proofs.Names.{asks_at_client, Clocks, reading_at}
use Rattle.machine.proofs.LookedUp.{of_client}
use Rattle.history_book.specs.declared.cause.Cause.TheVariants as cause
use Rattle.history_book.specs.declared.item.Item.TheVariants as item

-- ---- one item
abbrev pub IsCauseRead : Clocks → Actor → Cause → Type 0
IsCauseRead clocks (Node n) (cause.Early reading until) = reading ≡ reading_at clocks n
IsCauseRead clocks (Session s) (cause.Expired reading until) = ⊥
IsCauseRead clocks actor why = Unit {0}

-- neither a tick nor a fault, and its reading is that of its node's clock; of a request that has expired the item does not
-- tell the node
abbrev pub IsRead : Clocks → Item → Type 0
IsRead clocks (item.Tick to) = ⊥
IsRead clocks (item.Fault actor store) = ⊥
IsRead clocks (item.Take node reading term epoch until ceiling) = reading ≡ reading_at clocks node
IsRead clocks (item.Renew node reading term until) = reading ≡ reading_at clocks node
IsRead clocks (item.Accept session node term reading) = reading ≡ reading_at clocks node
IsRead clocks (item.Refused actor why) = IsCauseRead clocks actor why
IsRead clocks x = Unit {0}

-- ---- all items of an event, by the store that it asks and the fate of its call
-- the call failed, and the fault stands among items that are read
pub record Failed (clocks : Clocks) (asked : Option Store) (fate : Fate) (items : List Item) : Type 0 where
  pub before : List Item
  pub actor : Actor
  pub store : Store
  pub after : List Item
  pub is : items ≡ before ++ item.Fault actor store ∷ after
  pub before_read : All (IsRead clocks) before
  pub after_read : All (IsRead clocks) after
  pub asked_is : asked ≡ Some store
  pub fails : fate ≢ Works

abbrev pub Made : Clocks → Option Store → Fate → List Item → Type 0
Made clocks asked fate items = All (IsRead clocks) items ⊎ Failed clocks asked fate items

pub none_read : (clocks : Clocks) → All (IsRead clocks) []
none_read clocks = All-nil (IsRead clocks)

pub one_read : (clocks : Clocks) (x : Item) → IsRead clocks x → All (IsRead clocks) (x ∷ [])
one_read clocks x read = All-cons (IsRead clocks) x [] read (none_read clocks)

pub made_none : (clocks : Clocks) (asked : Option Store) (fate : Fate) → Made clocks asked fate []
made_none clocks asked fate = inl (none_read clocks)

pub made_one : (clocks : Clocks) (asked : Option Store) (fate : Fate) (x : Item) → IsRead clocks x → Made clocks asked fate (x ∷ [])
made_one clocks asked fate x read = inl (one_read clocks x read)

pub made_failed : (clocks : Clocks) (store : Store) (fate : Fate) (before : List Item) (actor : Actor) (after : List Item) → fate ≢ Works → All (IsRead clocks) before → All (IsRead clocks) after → Made clocks (Some store) fate (before ++ item.Fault actor store ∷ after)
made_failed clocks store fate before actor after fails before_read after_read = grind arith

-- a fault behind what took effect all the same
pub made_fault : (clocks : Clocks) (store : Store) (fate : Fate) (before : List Item) (actor : Actor) → fate ≢ Works → All (IsRead clocks) before → Made clocks (Some store) fate (before ++ item.Fault actor store ∷ [])
made_fault clocks store fate before actor fails read = made_failed clocks store fate before actor [] fails read (none_read clocks)

pub unchanged_fails : FailsUnchanged ≢ Works
unchanged_fails same = cc

pub applied_fails : FailsApplied ≢ Works
applied_fails same = cc

-- ---- refusals
-- the cause tells no reading
abbrev pub Untimed : Cause → Type 0
Untimed (cause.Early reading until) = ⊥
Untimed (cause.Expired reading until) = ⊥
Untimed why = Unit {0}

abbrev pub IfUntimed : Option Cause → Type 0
IfUntimed None = Unit {0}
IfUntimed (Some why) = Untimed why

abbrev pub AnswersUntimed : {A : Type 0} → Result A Cause → Type 0
AnswersUntimed (Ok x) = Unit {0}
AnswersUntimed (Err why) = Untimed why

pub untimed_read : (clocks : Clocks) (actor : Actor) (why : Cause) → Untimed why → IsCauseRead clocks actor why
untimed_read clocks actor why untimed = grind arith

pub made_refused : (clocks : Clocks) (asked : Option Store) (fate : Fate) (actor : Actor) (why : Cause) → Untimed why → Made clocks asked fate (item.Refused actor why ∷ [])
made_refused clocks asked fate actor why untimed = made_one clocks asked fate (item.Refused actor why) (untimed_read clocks actor why untimed)

-- one that a request is told once
pub made_once : {P : Type 0} (clocks : Clocks) (asked : Option Store) (fate : Fate) (told : Bool) (parts : P) (actor : Actor) (why : Cause) → Untimed why → Made clocks asked fate (refused_once told parts actor why).items
made_once clocks asked fate told parts actor why untimed = grind (arith, made_none, made_refused)

-- ---- the parts that an event looks up, with the store that it asks by them
pub post_made : (clocks : Clocks) (fate : Fate) (w left : State) (node : ℕ) (f : Option InstanceEntry → Step) (asks : Option InstanceEntry → Option Store) → ((post : Option InstanceEntry) → slice_get w.nodes node ≡ Some post → Made clocks (asks post) fate (f post).items) → (found : Option (Option InstanceEntry)) → slice_get w.nodes node ≡ found → Made clocks (asks_at_post found asks) fate (at_post left found f).items
post_made clocks fate w left node f asks each found at = grind (arith, made_none)

pub client_made : (clocks : Clocks) (fate : Fate) (w : State) (f : Client → Step) (asks : Client → Option Store) → ((c : Client) → Made clocks (asks c) fate (f c).items) → (found : Option Client) → Made clocks (asks_at_client found asks) fate (at_client w found f).items
client_made clocks fate w f asks each found = grind (arith, made_none)

-- of an event that asks no store
abbrev pub MadeUnasked : Clocks → Fate → Step → Type 0
MadeUnasked clocks fate step = Made clocks None fate step.items

pub node_made : (clocks : Clocks) (fate : Fate) (w : State) (node : ℕ) (f : Option InstanceEntry → Step) → ((post : Option InstanceEntry) → slice_get w.nodes node ≡ Some post → Made clocks None fate (f post).items) → Made clocks None fate (at_post w (slice_get w.nodes node) f).items
node_made clocks fate w node f each = of_post (MadeUnasked clocks fate) w f (slice_get w.nodes node) (made_none clocks None fate) each

pub session_made : (clocks : Clocks) (fate : Fate) (w : State) (session : ℕ) (f : Client → Step) → ((c : Client) → Made clocks None fate (f c).items) → Made clocks None fate (at_client w (slice_get w.clients session) f).items
session_made clocks fate w session f each = of_client (MadeUnasked clocks fate) w f (slice_get w.clients session) (made_none clocks None fate) (λ c at. each c)

pub both_made : (clocks : Clocks) (fate : Fate) (w : State) (node session : ℕ) (f : Option InstanceEntry → Client → Step) → ((post : Option InstanceEntry) (c : Client) → slice_get w.nodes node ≡ Some post → Made clocks None fate (f post c).items) → Made clocks None fate (at_both w (slice_get w.nodes node) (slice_get w.clients session) f).items
both_made clocks fate w node session f each = of_both (MadeUnasked clocks fate) w f (slice_get w.nodes node) (slice_get w.clients session) (made_none clocks None fate) (λ post c at there. each post c at)
