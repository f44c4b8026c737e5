-- Which store each kind of event asks, and that its refusals that leave all put back what was looked up.
use Rattle.machine.proofs.Names.{◌≡◌, ℕ, Bool, true, false, List, Option, Some, None, refl, ap, slice_get, length}
use Rattle.machine.proofs.Names.{IfSome, Store, Fate, Works, FailsUnchanged, FailsApplied, Item, Row, Pairs}
use Rattle.machine.proofs.Names.{MasterRecord, Sweeping, InstanceEntry, Client, State, Faults, Effect, done, Step}
use Rattle.machine.proofs.Names.{step_by, nothing, with_post, with_client, at_post, at_client, asks_at_post}
use Rattle.machine.proofs.Names.{asks_at_client, on_record, on_clients, on_ask, on_request, on_table, on_client}
use Rattle.machine.proofs.Names.{on_cells, on_stores, on_sweep, on_swept, StepParts, SweepParts, IsFaultOf, KeepsStop}
use Rattle.machine.proofs.Names.{KeepStops}
use Rattle.machine.proofs.LookedUp.{of_post, of_client, of_both}
use Rattle.machine.proofs.Refusals.{LeavesAll, Plain, AllLeft, nothing_left, put_left, same_post, same_client, same_both}
use Rattle.machine.proofs.StoreAsked.{AskedOnce}
use Rattle.machine.proofs.KindsKept.{Kept, kept, kept_record, kept_clients, kept_ask, kept_request, kept_table, kept_client, kept_cells, kept_stores, kept_sweep, kept_swept}

-- ---- what the node keeps
keeps_at : (w : State) (node : ℕ) (post : Option InstanceEntry) → KeepStops w → slice_get w.nodes node ≡ Some post → IfSome post KeepsStop
keeps_at w node None keeps is = tt
keeps_at w node (Some i) keeps is = keeps node i is

-- ---- of the whole step
-- a refusal that leaves all puts back what was looked up; the fate does not matter where no store is asked, and where one is, the
-- step fails exactly where its call does
pub record Exactly (w : State) (asked : Option Store) (s : Fate → Step) : Type 0 where
  pub leaves : KeepStops w → (fate : Fate) → AllLeft w (s fate)
  pub none : asked ≡ None → (fate other : Fate) → s fate ≡ s other
  pub unchanged : (store : Store) → asked ≡ Some store → IsFaultOf store (s FailsUnchanged).stop
  pub applied : (store : Store) → asked ≡ Some store → IsFaultOf store (s FailsApplied).stop
  pub works : (store : Store) → (s Works).stop ≡ Some (Faults store) → ⊥

abbrev Unasked : State → Step → Type 0
Unasked w s = Exactly w None (λ fate. s)

unasked : (w : State) (s : Step) → (KeepStops w → AllLeft w s) → ((store : Store) → s.stop ≡ Some (Faults store) → ⊥) → Unasked w s
unasked w s leaves works = record {
  leaves = λ keeps fate. leaves keeps;
  none = λ not fate other. refl;
  unchanged = λ store is. absurd (cc);
  applied = λ store is. absurd (cc);
  works = works;
}

nothing_asked : (w : State) → Unasked w (nothing w)
nothing_asked w = unasked w (nothing w) (λ keeps. nothing_left w) (λ store stop. absurd (cc))

goes_on : (w : State) (s : Step) → s.stop ≡ None → Unasked w s
goes_on w s goes = unasked w s (λ keeps why stop is. absurd (cc)) (λ store stop. absurd (cc))

-- the parts that are put back as they were make the same state
put_asked : {P : Type 0} (w : State) (old : P) (asked : Option Store) (f : Fate → Effect P) (whole : P → State) → whole old ≡ w → AskedOnce old asked f → Exactly w asked (λ fate. step_by (f fate) whole)
put_asked w old asked f whole same once = record {
  leaves = λ keeps fate. put_left w old whole (f fate) same (once.leaves fate);
  none = λ not fate other. ap (λ e. step_by e whole) (once.none not fate other);
  unchanged = once.unchanged;
  applied = once.applied;
  works = once.works;
}

put_plain : {P : Type 0} (w : State) (old : P) (e : Effect P) (whole : P → State) → whole old ≡ w → Plain old e → Unasked w (step_by e whole)
put_plain w old e whole same plain = unasked w (step_by e whole) (λ keeps. put_left w old whole e same plain.leaves) plain.works

-- ---- the parts looked up
post_asked : (w : State) (asked : Option InstanceEntry → Option Store) (f : Fate → Option InstanceEntry → Step) (found : Option (Option InstanceEntry)) → ((post : Option InstanceEntry) → found ≡ Some post → Exactly w (asked post) (λ fate. f fate post)) → Exactly w (asks_at_post found asked) (λ fate. at_post w found (f fate))
post_asked w asked f None each = nothing_asked w
post_asked w asked f (Some post) each = each post refl

client_asked : (w : State) (asked : Client → Option Store) (f : Fate → Client → Step) (found : Option Client) → ((c : Client) → found ≡ Some c → Exactly w (asked c) (λ fate. f fate c)) → Exactly w (asks_at_client found asked) (λ fate. at_client w found (f fate))
client_asked w asked f None each = nothing_asked w
client_asked w asked f (Some c) each = each c refl

-- ---- which store a kind asks
record_asked : (w : State) (node : ℕ) (asked : Option InstanceEntry → Option Store) (f : Fate → Option InstanceEntry → Effect (Option InstanceEntry × MasterRecord)) → ((post : Option InstanceEntry) → AskedOnce (post, w.master) (asked post) (λ fate. f fate post)) → Exactly w (asks_at_post (slice_get w.nodes node) asked) (λ fate. on_record w node (f fate))
record_asked w node asked f once = post_asked w asked _ (slice_get w.nodes node) (λ post is. put_asked w (post, w.master) (asked post) (λ fate. f fate post) (λ p. record (with_post w node p.0) { master = p.1 }) (same_post w node post is) (once post))

ask_plain : (w : State) (session node : ℕ) (f : Client → Option InstanceEntry → Effect (Client × Option InstanceEntry)) → ((c : Client) (post : Option InstanceEntry) → Plain (c, post) (f c post)) → Unasked w (on_ask w session node f)
ask_plain w session node f plain = of_both (Unasked w) w _ (slice_get w.nodes node) (slice_get w.clients session) (nothing_asked w) (λ post c is there. put_plain w (c, post) (f c post) (λ p. with_client (with_post w node p.1) session p.0) (same_both w node session post c is there) (plain c post))

-- some refusals leave all since the instance keeps Replaced or Spent alone
request_plain : (w : State) (node session : ℕ) (f : Option InstanceEntry → Client → Effect (Option InstanceEntry × Client)) → ((post : Option InstanceEntry) (c : Client) → IfSome post KeepsStop → LeavesAll (post, c) (f post c)) → ((post : Option InstanceEntry) (c : Client) (store : Store) → (f post c).stop ≡ Some (Faults store) → ⊥) → Unasked w (on_request w node session f)
request_plain w node session f leaves works = of_both (Unasked w) w _ (slice_get w.nodes node) (slice_get w.clients session) (nothing_asked w) (λ post c is there.
    let whole : Option InstanceEntry × Client → State = (λ p. with_client (with_post w node p.0) session p.1) in
    unasked w (step_by (f post c) whole) (λ keeps. put_left w (post, c) whole (f post c) (same_both w node session post c is there) (leaves post c (keeps_at w node post keeps is))) (works post c))

client_plain : (w : State) (session : ℕ) (f : Client → Effect Client) → ((c : Client) → Plain c (f c)) → Unasked w (on_client w session f)
client_plain w session f plain = of_client (Unasked w) w _ (slice_get w.clients session) (nothing_asked w) (λ c is. put_plain w c (f c) (λ p. with_client w session p) (same_client w session c is) (plain c))

cells_asked : (w : State) (session : ℕ) (asked : Client → Option Store) (f : Fate → Client → Effect (Client × List Row)) → ((c : Client) → AskedOnce (c, w.rows) (asked c) (λ fate. f fate c)) → Exactly w (asks_at_client (slice_get w.clients session) asked) (λ fate. on_cells w session (f fate))
cells_asked w session asked f once = client_asked w asked _ (slice_get w.clients session) (λ c is. put_asked w (c, w.rows) (asked c) (λ fate. f fate c) (λ p. record (with_client w session p.0) { rows = p.1 }) (same_client w session c is) (once c))

clients_plain : (w : State) (node : ℕ) (f : Option InstanceEntry → Effect (Option InstanceEntry × List Client)) → ((post : Option InstanceEntry) → Plain (post, w.clients) (f post)) → Unasked w (on_clients w node f)
clients_plain w node f plain = of_post (Unasked w) w _ (slice_get w.nodes node) (nothing_asked w) (λ post is. put_plain w (post, w.clients) (f post) (λ p. record (with_post w node p.0) { clients = p.1 }) (same_post w node post is) (plain post))

table_asked : (w : State) (node : ℕ) (asked : Option InstanceEntry → Option Store) (f : Fate → Option InstanceEntry → Effect (Option InstanceEntry × Pairs)) → ((post : Option InstanceEntry) → AskedOnce (post, w.pairs) (asked post) (λ fate. f fate post)) → Exactly w (asks_at_post (slice_get w.nodes node) asked) (λ fate. on_table w node (f fate))
table_asked w node asked f once = post_asked w asked _ (slice_get w.nodes node) (λ post is. put_asked w (post, w.pairs) (asked post) (λ fate. f fate post) (λ p. record (with_post w node p.0) { pairs = p.1 }) (same_post w node post is) (once post))

read_asked : (w : State) (session : ℕ) (asked : Client → Option Store) (f : Fate → Client → Effect Client) → ((c : Client) → AskedOnce c (asked c) (λ fate. f fate c)) → Exactly w (asks_at_client (slice_get w.clients session) asked) (λ fate. on_client w session (f fate))
read_asked w session asked f once = client_asked w asked _ (slice_get w.clients session) (λ c is. put_asked w c (asked c) (λ fate. f fate c) (λ p. with_client w session p) (same_client w session c is) (once c))

stores_asked : (w : State) (session : ℕ) (asked : Client → Option Store) (f : Fate → Client → Effect StepParts) → ((c : Client) → AskedOnce (c, w.rows, w.pairs) (asked c) (λ fate. f fate c)) → Exactly w (asks_at_client (slice_get w.clients session) asked) (λ fate. on_stores w session (f fate))
stores_asked w session asked f once = client_asked w asked _ (slice_get w.clients session) (λ c is. put_asked w (c, w.rows, w.pairs) (asked c) (λ fate. f fate c) (λ p. record (with_client w session p.0) { rows = p.1; pairs = p.2 }) (same_client w session c is) (once c))

sweep_plain : (w : State) (node : ℕ) (f : Option InstanceEntry → Effect (Option Sweeping)) → ((post : Option InstanceEntry) → Plain w.sweep (f post)) → Unasked w (on_sweep w node f)
sweep_plain w node f plain = of_post (Unasked w) w _ (slice_get w.nodes node) (nothing_asked w) (λ post is. put_plain w w.sweep (f post) (λ p. record w { sweep = p }) refl (plain post))

-- ---- both: what an event of the kind leaves, and what it asks
pub record Kind (c n s r p m : Bool) (w : State) (asked : Option Store) (step : Fate → Step) : Type 0 where
  pub kept : (fate : Fate) → Kept c n s r p m w (step fate).state
  pub exact : Exactly w asked step

-- the items alone
pub plain_kind : (w : State) (items : List Item) → Kind false false false false false false w None (λ fate. step_by (done w items) (λ p. p))
plain_kind w items = record { kept = λ fate. kept false false false false false false _ _ refl refl refl; exact = goes_on w (step_by (done w items) (λ p. p)) refl }

pub record_kind : (w : State) (node : ℕ) (asked : Option InstanceEntry → Option Store) (f : Fate → Option InstanceEntry → Effect (Option InstanceEntry × MasterRecord)) → ((post : Option InstanceEntry) → AskedOnce (post, w.master) (asked post) (λ fate. f fate post)) → Kind false true false false false true w (asks_at_post (slice_get w.nodes node) asked) (λ fate. on_record w node (f fate))
record_kind w node asked f once = record { kept = λ fate. kept_record w node (f fate); exact = record_asked w node asked f once }

pub clients_kind : (w : State) (node : ℕ) (f : Option InstanceEntry → Effect (Option InstanceEntry × List Client)) → ((post : Option InstanceEntry) → length (f post).parts.1 ≡ length w.clients) → ((post : Option InstanceEntry) → Plain (post, w.clients) (f post)) → Kind true true false false false false w None (λ fate. on_clients w node f)
clients_kind w node f many plain = record { kept = λ fate. kept_clients w node f many; exact = clients_plain w node f plain }

pub ask_kind : (w : State) (session node : ℕ) (f : Client → Option InstanceEntry → Effect (Client × Option InstanceEntry)) → ((c : Client) (post : Option InstanceEntry) → Plain (c, post) (f c post)) → Kind true true false false false false w None (λ fate. on_ask w session node f)
ask_kind w session node f plain = record { kept = λ fate. kept_ask w session node f; exact = ask_plain w session node f plain }

pub request_kind : (w : State) (node session : ℕ) (f : Option InstanceEntry → Client → Effect (Option InstanceEntry × Client)) → ((post : Option InstanceEntry) (c : Client) → IfSome post KeepsStop → LeavesAll (post, c) (f post c)) → ((post : Option InstanceEntry) (c : Client) (store : Store) → (f post c).stop ≡ Some (Faults store) → ⊥) → Kind true true false false false false w None (λ fate. on_request w node session f)
request_kind w node session f leaves works = record { kept = λ fate. kept_request w node session f; exact = request_plain w node session f leaves works }

pub table_kind : (w : State) (node : ℕ) (asked : Option InstanceEntry → Option Store) (f : Fate → Option InstanceEntry → Effect (Option InstanceEntry × Pairs)) → ((post : Option InstanceEntry) → AskedOnce (post, w.pairs) (asked post) (λ fate. f fate post)) → Kind false true false false true false w (asks_at_post (slice_get w.nodes node) asked) (λ fate. on_table w node (f fate))
table_kind w node asked f once = record { kept = λ fate. kept_table w node (f fate); exact = table_asked w node asked f once }

pub client_kind : (w : State) (session : ℕ) (f : Client → Effect Client) → ((c : Client) → Plain c (f c)) → Kind true false false false false false w None (λ fate. on_client w session f)
client_kind w session f plain = record { kept = λ fate. kept_client w session f; exact = client_plain w session f plain }

pub read_kind : (w : State) (session : ℕ) (asked : Client → Option Store) (f : Fate → Client → Effect Client) → ((c : Client) → AskedOnce c (asked c) (λ fate. f fate c)) → Kind true false false false false false w (asks_at_client (slice_get w.clients session) asked) (λ fate. on_client w session (f fate))
read_kind w session asked f once = record { kept = λ fate. kept_client w session (f fate); exact = read_asked w session asked f once }

pub cells_kind : (w : State) (session : ℕ) (asked : Client → Option Store) (f : Fate → Client → Effect (Client × List Row)) → ((c : Client) → AskedOnce (c, w.rows) (asked c) (λ fate. f fate c)) → Kind true false false true false false w (asks_at_client (slice_get w.clients session) asked) (λ fate. on_cells w session (f fate))
cells_kind w session asked f once = record { kept = λ fate. kept_cells w session (f fate); exact = cells_asked w session asked f once }

pub stores_kind : (w : State) (session : ℕ) (asked : Client → Option Store) (f : Fate → Client → Effect StepParts) → ((c : Client) → AskedOnce (c, w.rows, w.pairs) (asked c) (λ fate. f fate c)) → Kind true false false true true false w (asks_at_client (slice_get w.clients session) asked) (λ fate. on_stores w session (f fate))
stores_kind w session asked f once = record { kept = λ fate. kept_stores w session (f fate); exact = stores_asked w session asked f once }

pub sweep_kind : (w : State) (node : ℕ) (f : Option InstanceEntry → Effect (Option Sweeping)) → ((post : Option InstanceEntry) → Plain w.sweep (f post)) → Kind false false true false false false w None (λ fate. on_sweep w node f)
sweep_kind w node f plain = record { kept = λ fate. kept_sweep w node f; exact = sweep_plain w node f plain }

pub swept_kind : (w : State) (asked : Option Store) (f : Fate → Effect SweepParts) → AskedOnce (w.sweep, w.rows, w.pairs) asked f → Kind false false true true true false w asked (λ fate. on_swept w (f fate))
swept_kind w asked f once = record { kept = λ fate. kept_swept w (f fate); exact = put_asked w (w.sweep, w.rows, w.pairs) asked f (λ p. record w { sweep = p.0; rows = p.1; pairs = p.2 }) refl once }
