-- The items of the events that serve a request. One that is refused as expired is told the reading of its node's clock, and
-- its node is that of the session's last ask.
use Rattle.std.proofs.Common.{arith}
use Rattle.command_semantics.proofs.Names.{◌≡◌, ℕ, Bool, if◌then◌else◌, List, [], ◌∷◌, Option, Some}
use Rattle.command_semantics.proofs.Names.{None, ◌⊎◌, slice_get}
use Rattle.command_semantics.proofs.Names.{Mark, Table, Fate, Works, FailsUnchanged, FailsApplied, Node, Session}
use Rattle.command_semantics.proofs.Names.{Item, Pairs, Held}
use Rattle.command_semantics.proofs.Names.{Progress, InstanceEntry, held_of}
use Rattle.command_semantics.proofs.Names.{InstanceStep, epoch_refusal}
use Rattle.command_semantics.proofs.Names.{accept_unless, accept_if_asked}
use Rattle.command_semantics.proofs.Names.{Client, State, accept_by, accept_request, accept_on}
use Rattle.command_semantics.proofs.Names.{decide_request, decide_on, put_by, put_commit, put_on, commit_asks}
use Rattle.command_semantics.proofs.Names.{put_asks, answer_on, its_node, InstanceAt, StopOf}
use Rattle.command_semantics.proofs.Names.{AreStops, held_by, ShownInvariant, Clocks, reading_at}
use Rattle.history_book.specs.declared.cause.Cause.TheVariants as cause
use Rattle.history_book.specs.declared.item.Item.TheVariants as item
use Rattle.cause_laws.specs.Due.{Serves}
use Rattle.cause_laws.proofs.ShownOfRequests.{node_of}
use Rattle.command_semantics.proofs.ReadItems.{Made, none_read, one_read, made_one, made_fault, unchanged_fails, applied_fails, made_refused, made_once}

-- ---- accept
-- a request that has expired is told so alone, by the clock of the node that its session asked last
pub record Expires (clocks : Clocks) (h items : List Item) : Type 0 where
  pub session : ℕ
  pub node : ℕ
  pub reading : ℕ
  pub until : ℕ
  pub is : items ≡ item.Refused (Session session) (cause.Expired reading until) ∷ []
  pub node_is : its_node h session ≡ Some node
  pub reads : reading ≡ reading_at clocks node

abbrev pub Accepts : Clocks → Fate → List Item → List Item → Type 0
Accepts clocks fate h items = Made clocks None fate items ⊎ Expires clocks h items

abbrev accepted_by : Clocks → Fate → List Item → ℕ → ℕ → ℕ → Held → Client → InstanceStep (Unit {0}) → Type 0
accepted_by clocks fate h node session reading held c taken = Accepts clocks fate h (accept_by node session reading held.request taken.left c taken.answer).items

accept_timely : (clocks : Clocks) (fate : Fate) (h : List Item) (node session reading : ℕ) (i : InstanceEntry) (held : Held) (c : Client) (in_time : Bool) → reading ≡ reading_at clocks node → its_node h session ≡ Some node → accepted_by clocks fate h node session reading held c (accept_unless i session held (if in_time then epoch_refusal i held.request else Some (cause.Expired reading i.until)))
accept_timely clocks fate h node session reading i held c in_time reads asked = grind (arith, made_one, made_refused)

accept_progress : (clocks : Clocks) (fate : Fate) (h : List Item) (node session reading : ℕ) (i : InstanceEntry) (held : Held) (c : Client) (p : Progress) → reading ≡ reading_at clocks node → its_node h session ≡ Some node → accepted_by clocks fate h node session reading held c (accept_if_asked i session reading held p)
accept_progress clocks fate h node session reading i held c p reads asked = grind (arith, accept_timely, made_refused)

-- the node that holds a request is the one that its session asked last
asked_there : (w : State) (h : List Item) (node session : ℕ) (i : InstanceEntry) (held : Held) → ShownInvariant w h → InstanceAt w.nodes node i → held_of i session ≡ Some held → its_node h session ≡ Some node
asked_there w h node session i held shows at has =
    let serves : Serves w session i held.request held.progress = record { node = node; at = at; holds = held_by i session held has } in
    node_of w h session i held.request held.progress shows serves

accept_found : (clocks : Clocks) (fate : Fate) (w : State) (h : List Item) (node session reading : ℕ) (i : InstanceEntry) (c : Client) → ShownInvariant w h → InstanceAt w.nodes node i → reading ≡ reading_at clocks node → (found : Option Held) → held_of i session ≡ found → Accepts clocks fate h (accept_request node session reading i c found).items
accept_found clocks fate w h node session reading i c shows at reads found has =
    grind (arith, made_refused, accept_progress, asked_there)

pub accept_on_made : (clocks : Clocks) (fate : Fate) (w : State) (h : List Item) (node session reading : ℕ) (post : Option InstanceEntry) (c : Client) → ShownInvariant w h → slice_get w.nodes node ≡ Some post → reading ≡ reading_at clocks node → Accepts clocks fate h (accept_on node session reading post c).items
accept_on_made clocks fate w h node session reading post c shows at reads = grind (arith, made_refused, accept_found)

-- ---- decide
decide_found : (clocks : Clocks) (fate : Fate) (node session : ℕ) (i : InstanceEntry) (c : Client) → StopOf i.stop → (found : Option Held) → Made clocks None fate (decide_request node session i c found).items
decide_found clocks fate node session i c stop found = grind (arith, made_refused, made_once, made_one)

pub decide_on_made : (clocks : Clocks) (fate : Fate) (w : State) (node session : ℕ) (post : Option InstanceEntry) (c : Client) → AreStops w.nodes → slice_get w.nodes node ≡ Some post → Made clocks None fate (decide_on node session post c).items
decide_on_made clocks fate w node session post c stops at = grind (arith, made_refused, decide_found)

-- ---- put
put_made : (clocks : Clocks) (node session start commit : ℕ) (fate : Fate) (found : Option Mark) (i : InstanceEntry) (pairs : Pairs) → Made clocks (Some Table) fate (put_by node session start commit fate found i pairs).items
put_made clocks node session start commit Works None i pairs = made_one clocks (Some Table) Works (item.Placed start commit) tt
put_made clocks node session start commit Works (Some mark) i pairs = made_one clocks (Some Table) Works _ tt
put_made clocks node session start commit FailsUnchanged found i pairs = made_fault clocks Table FailsUnchanged [] (Node node) unchanged_fails (none_read clocks)
put_made clocks node session start commit FailsApplied None i pairs = made_fault clocks Table FailsApplied (item.Placed start commit ∷ []) (Node node) applied_fails (one_read clocks (item.Placed start commit) tt)
put_made clocks node session start commit FailsApplied (Some mark) i pairs = made_fault clocks Table FailsApplied [] (Node node) applied_fails (none_read clocks)

put_found : (clocks : Clocks) (node session : ℕ) (fate : Fate) (i : InstanceEntry) (pairs : Pairs) (stamps : Option (ℕ × ℕ)) → Made clocks (commit_asks stamps) fate (put_commit node session fate i pairs stamps).items
put_found clocks node session fate i pairs stamps = grind (arith, made_refused, put_made)

pub put_on_made : (clocks : Clocks) (node session : ℕ) (fate : Fate) (post : Option InstanceEntry) (pairs : Pairs) → Made clocks (put_asks session post) fate (put_on node session fate post pairs).items
put_on_made clocks node session fate post pairs = grind (arith, made_refused, put_found)

-- ---- answer
pub answer_on_made : (clocks : Clocks) (fate : Fate) (node session : ℕ) (post : Option InstanceEntry) (c : Client) → Made clocks None fate (answer_on node session post c).items
answer_on_made clocks fate node session post c = grind (arith, made_refused, made_one, made_once)
