-- A state that is reached agrees in all that events ask of their parts.
use Rattle.std.proofs.Common.{arith, ◌≡◌, ℕ, List, Option, Some, None, inl, inr, refl, sym, ◌∙◌, subst}
use Rattle.std.specs.Prelude.{IfSome}
use Rattle.history_book.specs.declared.item.Item.{Item}
use Rattle.system_parts.specs.declared.rows.Cell.{Cell}
use Rattle.system_parts.specs.Rows.{Row, looked, IsBare}
use Rattle.system_parts.specs.declared.session.State.{State as Phase}
use Rattle.system_parts.specs.declared.session.State.TheVariants as phase
use Rattle.system_parts.specs.declared.instance.Held.{Held}
use Rattle.system_parts.specs.declared.instance.Request.{Request}
use Rattle.system_parts.specs.declared.instance.Request.TheVariants.{Begin, Commit}
use Rattle.system_parts.specs.Instance.{InstanceEntry, held_of}
use Rattle.machine.specs.State.{Client, State}
use Rattle.machine.specs.Calls.{HoldsNone}
use Rattle.machine.specs.Events.Put.{to_place}
use Rattle.machine.proofs.Lookups.{held_by, one_client}
use Rattle.isolation_laws.specs.Words.{InstanceAt, ClientAt, epoch_or_none, cell_with}
use Rattle.isolation_laws.specs.Pending.{IsOpen}
use Rattle.isolation_laws.specs.Requests.{WaitsFor}
use Rattle.isolation_laws.specs.IsolationInvariant.{IsolationInvariant}
use Rattle.cause_laws.specs.ShownInvariant.{ExplainedInvariant}
use Rattle.cause_laws.specs.RequestCalls.{PostAt}
use Rattle.cause_laws.proofs.RequestCalls.{puts_place}
use Rattle.cluster_core.specs.Served.{held_in}
use Rattle.split_parts.specs.Agrees.{HasAsked, HasAskedIf, HasAskedAt, IsAsked, HoldsNoneIn, NotPlaced, WritesBare}
use Rattle.part_laws.specs.Reached.{HoldWrittenKeys}

-- ---- the session of a request
asked_by : (w : State) (h : List Item) (n s : ℕ) (i : InstanceEntry) (held : Held) (c : Client) (request : Request) → IsolationInvariant w h → HoldWrittenKeys w.nodes h → InstanceAt w.nodes n i → held_of i s ≡ Some held → held.request ≡ request → ClientAt w.clients s c → WaitsFor request c → HasAsked request c.entry
asked_by w h n s i held c (Begin asker) holds keys at has is client (inl gone) = λ stays. absurd (stays gone)
asked_by w h n s i held c (Begin asker) holds keys at has is client (inr asks) = λ stays. asks
asked_by w h n s i held c (Commit asker t keys) holds written at has is client (inl gone) = λ stays. absurd (stays gone)
asked_by w h n s i held c (Commit asker t keys) holds written at has is client (inr asks) = λ stays. (
  asks.0,
  asks.1,
  holds.requests.keys.written s t c client (inr (inl asks.0)) asks.1 ∙ sym (written.keys n s asker t keys held.progress i at (record { held = held; has = has; asks = is; stands = refl })),
)

asked_if : (w : State) (h : List Item) (n s : ℕ) (i : InstanceEntry) (c : Client) (found : Option Held) → IsolationInvariant w h → HoldWrittenKeys w.nodes h → InstanceAt w.nodes n i → held_of i s ≡ found → ClientAt w.clients s c → HasAskedIf found c.entry
asked_if w h n s i c None holds keys at has client = tt
asked_if w h n s i c (Some held) holds keys at has client =
    let waiting = holds.requests.requests.waits n s i held.request held.progress at (held_by i s held has) in
    asked_by w h n s i held c held.request holds keys at has refl client (subst (λ (d : Client). WaitsFor held.request d) (one_client w.clients s waiting.0 c waiting.1 client) waiting.2)

asked_at : (w : State) (h : List Item) (n s : ℕ) (post : Option InstanceEntry) (c : Client) → IsolationInvariant w h → HoldWrittenKeys w.nodes h → PostAt w n post → ClientAt w.clients s c → HasAskedAt post s c.entry
asked_at w h n s post c holds keys at client = grind (arith, asked_if)

-- so each session has asked for what a node holds of it
pub all_asked : (w : State) (h : List Item) → ExplainedInvariant w h → HoldWrittenKeys w.nodes h → (node session : ℕ) → IsAsked w node session
all_asked w h tells keys node session post c at client = asked_at w h node session post c tells.stands.holds keys at client

-- ---- a session that has asked for nothing
-- in this state
record IsIdle (at : Phase) : Type 0 where
  gone : at ≡ phase.Gone → ⊥
  asking : at ≡ phase.Asking → ⊥
  committing : at ≡ phase.Committing → ⊥

none_asked : (request : Request) (c : Client) (at : Phase) → IsIdle at → c.entry.state ≡ at → WaitsFor request c → ⊥
none_asked request c at idle is h = grind arith

none_found : (w : State) (h : List Item) (n s : ℕ) (i : InstanceEntry) (c : Client) (at : Phase) (found : Option Held) → IsolationInvariant w h → InstanceAt w.nodes n i → held_of i s ≡ found → ClientAt w.clients s c → IsIdle at → c.entry.state ≡ at → found ≡ None
none_found w h n s i c at None holds there has client idle is = refl
none_found w h n s i c at (Some held) holds there has client idle is =
    let waiting = holds.requests.requests.waits n s i held.request held.progress there (held_by i s held has) in
    absurd (none_asked held.request c at idle is (subst (λ (d : Client). WaitsFor held.request d) (one_client w.clients s waiting.0 c waiting.1 client) waiting.2))

none_at : (w : State) (h : List Item) (n s : ℕ) (post : Option InstanceEntry) (c : Client) (at : Phase) → IsolationInvariant w h → PostAt w n post → ClientAt w.clients s c → IsIdle at → c.entry.state ≡ at → HoldsNone post s
none_at w h n s None c at holds there client idle is = tt
none_at w h n s (Some i) c at holds there client idle is = none_found w h n s i c at (held_of i s) holds there refl client idle is

-- a free session, and one with an open transaction
pub free_holds_none : (w : State) (h : List Item) → ExplainedInvariant w h → (session node : ℕ) → HoldsNoneIn phase.Free w session node
free_holds_none w h tells session node c post client at is = none_at w h node session post c phase.Free tells.stands.holds at client (record { gone = λ same. cc; asking = λ same. cc; committing = λ same. cc }) is

pub open_holds_none : (w : State) (h : List Item) → ExplainedInvariant w h → (session node : ℕ) → HoldsNoneIn phase.Open w session node
open_holds_none w h tells session node c post client at is = none_at w h node session post c phase.Open tells.stands.holds at client (record { gone = λ same. cc; asking = λ same. cc; committing = λ same. cc }) is

-- ---- a put
-- where a node is to place a commit, the table has none
pub puts_find_none : (w : State) (h : List Item) → ExplainedInvariant w h → (node session : ℕ) → NotPlaced w.pairs (to_place (held_in w node session))
puts_find_none w h tells node session = grind (arith, puts_place)

-- ---- a write
bare_with : (t : ℕ) (value : Option (List ℕ)) → IfSome (cell_with t None value) (λ cell. cell.shadow ≡ None)
bare_with t value = grind arith

is_bare : (rows : List Row) (k t : ℕ) (found : Option Cell) → looked rows k t ≡ found → IfSome found (λ cell. cell.shadow ≡ None) → IsBare rows k t
is_bare rows k t found is bare = subst (λ (o : Option Cell). IfSome o (λ cell. cell.shadow ≡ None)) (sym is) bare

open_bare : (w : State) (h : List Item) (session key : ℕ) (c : Client) (start : Option ℕ) → IsolationInvariant w h → ClientAt w.clients session c → c.entry.state ≡ phase.Open → c.entry.start ≡ start → IfSome start (λ t. IsBare w.rows key t)
open_bare w h session key c None holds at is begun = tt
open_bare w h session key c (Some t) holds at is begun =
    let live : IsOpen w.clients t = record { session = session; epoch = epoch_or_none c.entry.epoch; open_at = record { client = c; at = at; state_is = is; start_is = begun; epoch_is = refl } } in
    grind (arith, is_bare, bare_with)

-- where a session writes, the cell is bare
pub writes_find_bare : (w : State) (h : List Item) → ExplainedInvariant w h → (session key : ℕ) → WritesBare w session key
writes_find_bare w h tells session key c at is = open_bare w h session key c c.entry.start tells.stands.holds at is refl
