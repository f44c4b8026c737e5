-- What is wrong with a list, whatever stamps there are.
use Rattle.std.specs.Prelude.{◌≡◌, ◌≢◌, ℕ, ◌<◌, ◌≤◌, List, Some, slice_get}
use Rattle.trace_rules.specs.Trace.{Trace, Done}
use Rattle.list_orders.specs.declared.listing.Listing.{Listing}
use Rattle.list_orders.specs.Lists.{WriteAt}
use Rattle.list_orders.specs.Listings.{values_of}
use Rattle.list_ranks.specs.declared.wrong.Flaw.{Flaw}
use Rattle.list_ranks.specs.declared.wrong.Flaw.TheVariants as flaw
use Rattle.list_ranks.specs.declared.wrong.Stop.{Stop}
use Rattle.list_ranks.specs.declared.wrong.Stop.TheVariants as stop
use Rattle.list_ranks.specs.declared.wrong.WrongList.{WrongList}

-- the committed reader read these values of the key
pub record IsListOf (trace : Trace) (listed : List ℕ) (lists : List Listing) (reader key : ℕ) (values : List ℕ) : Type 0 where
  pub place : ℕ
  pub list : Listing
  pub stands : slice_get lists place ≡ Some list
  pub reader_is : list.txn ≡ reader
  pub key_is : list.key ≡ key
  pub values_are : values_of listed list ≡ values
  pub done : Done trace reader

-- the value is written at this place alone
abbrev pub IsOnce : Trace → ℕ → ℕ → ℕ → Type 0
IsOnce trace k v q = (r u : ℕ) → WriteAt trace r u k v → r ≡ q

abbrev pub Lacks : List ℕ → ℕ → Type 0
Lacks values x = (j : ℕ) → slice_get values j ≡ Some x → ⊥

-- ---- of the values of a list
-- a member is of another one that did not commit
pub record IsDirty (trace : Trace) (key other : ℕ) (values : List ℕ) : Type 0 where
  pub i : ℕ
  pub v : ℕ
  pub q : ℕ
  pub at : slice_get values i ≡ Some v
  pub wrote : WriteAt trace q other key v
  pub once : IsOnce trace key v q
  pub undone : Done trace other → ⊥

-- two members of one writer stand the wrong way round, or are one
pub record IsTurned (trace : Trace) (key other : ℕ) (values : List ℕ) : Type 0 where
  pub i : ℕ
  pub j : ℕ
  pub v : ℕ
  pub x : ℕ
  pub q : ℕ
  pub r : ℕ
  pub less : i < j
  pub at_v : slice_get values i ≡ Some v
  pub at_x : slice_get values j ≡ Some x
  pub wrote_v : WriteAt trace q other key v
  pub wrote_x : WriteAt trace r other key x
  pub turned : r ≤ q

-- a member of the other one stands between two of one writer
pub record IsSplit (trace : Trace) (key other : ℕ) (values : List ℕ) : Type 0 where
  pub i : ℕ
  pub j : ℕ
  pub l : ℕ
  pub v : ℕ
  pub x : ℕ
  pub y : ℕ
  pub q : ℕ
  pub r : ℕ
  pub s : ℕ
  pub w : ℕ
  pub less : i < j
  pub more : j < l
  pub at_v : slice_get values i ≡ Some v
  pub at_x : slice_get values j ≡ Some x
  pub at_y : slice_get values l ≡ Some y
  pub wrote_v : WriteAt trace q w key v
  pub wrote_x : WriteAt trace r other key x
  pub wrote_y : WriteAt trace s w key y
  pub differ : w ≢ other

-- a value of the other one is not there that it wrote before a member
pub record IsMissing (trace : Trace) (key other : ℕ) (values : List ℕ) : Type 0 where
  pub i : ℕ
  pub v : ℕ
  pub x : ℕ
  pub q : ℕ
  pub r : ℕ
  pub at_v : slice_get values i ≡ Some v
  pub once : IsOnce trace key v q
  pub wrote_v : WriteAt trace q other key v
  pub wrote_x : WriteAt trace r other key x
  pub before : r < q
  pub lacks : Lacks values x

-- a value of the other one is not there, behind one of whose members stands another writer's
pub record IsCut (trace : Trace) (key other : ℕ) (values : List ℕ) : Type 0 where
  pub i : ℕ
  pub j : ℕ
  pub v : ℕ
  pub y : ℕ
  pub x : ℕ
  pub q : ℕ
  pub r : ℕ
  pub s : ℕ
  pub u : ℕ
  pub less : i < j
  pub at_v : slice_get values i ≡ Some v
  pub at_y : slice_get values j ≡ Some y
  pub once_v : IsOnce trace key v q
  pub once_y : IsOnce trace key y r
  pub wrote_v : WriteAt trace q other key v
  pub wrote_y : WriteAt trace r u key y
  pub differ : other ≢ u
  pub wrote_x : WriteAt trace s other key x
  pub lacks : Lacks values x

-- the values that another one read differ first at this place
pub record IsDifferentAt (values lacking : List ℕ) (i : ℕ) : Type 0 where
  pub x : ℕ
  pub y : ℕ
  pub same : (j : ℕ) → j < i → slice_get values j ≡ slice_get lacking j
  pub at_x : slice_get values i ≡ Some x
  pub at_y : slice_get lacking i ≡ Some y
  pub differ : x ≢ y

pub record IsDifferent (trace : Trace) (listed : List ℕ) (lists : List Listing) (key other : ℕ) (values : List ℕ) : Type 0 where
  pub i : ℕ
  pub lacking : List ℕ
  pub also : IsListOf trace listed lists other key lacking
  pub differ : IsDifferentAt values lacking i

-- ---- of a trace
abbrev pub HasFlaw : Trace → List ℕ → List Listing → ℕ → ℕ → List ℕ → Flaw → Type 0
HasFlaw trace listed lists key other values flaw.Dirty = IsDirty trace key other values
HasFlaw trace listed lists key other values flaw.Turned = IsTurned trace key other values
HasFlaw trace listed lists key other values flaw.Split = IsSplit trace key other values
HasFlaw trace listed lists key other values flaw.Missing = IsMissing trace key other values
HasFlaw trace listed lists key other values flaw.Cut = IsCut trace key other values
HasFlaw trace listed lists key other values flaw.Different = IsDifferent trace listed lists key other values

-- this is wrong with a list of the reader's
pub record IsWrong (trace : Trace) (listed : List ℕ) (lists : List Listing) (wrong : WrongList) : Type 0 where
  pub values : List ℕ
  pub list : IsListOf trace listed lists wrong.reader wrong.key values
  pub flawed : HasFlaw trace listed lists wrong.key wrong.other values wrong.flaw

abbrev pub IsStop : Trace → List ℕ → List Listing → Stop → Type 0
IsStop trace listed lists (stop.Wrong wrong) = IsWrong trace listed lists wrong
IsStop trace listed lists stop.Unknown = Unit {0}

-- of a list of these values
abbrev pub Stops : Trace → ℕ → ℕ → List ℕ → Stop → Type 0
Stops trace reader key values s = (listed : List ℕ) (lists : List Listing) → IsListOf trace listed lists reader key values → IsStop trace listed lists s
