-- What each kind of event leaves of the parts that it does not touch, and that nodes and clients stay as many. Each of the kinds is
-- one by the parts that it looks up and puts back.
use Rattle.machine.proofs.Names.{◌≡◌, ℕ, zero, suc, Bool, true, false, List, [], ◌∷◌, Option, Some, None, refl, sym}
use Rattle.machine.proofs.Names.{◌∙◌, ap, arith, slice_get, slice_set, length, Row, Pairs, MasterRecord, Sweeping}
use Rattle.machine.proofs.Names.{InstanceEntry, Client, State, Effect, step_by, with_post, with_client, at_post}
use Rattle.machine.proofs.Names.{at_client, at_both, on_record, on_clients, on_ask, on_request, on_table, on_client}
use Rattle.machine.proofs.Names.{on_cells, on_stores, on_sweep, on_swept, StepParts, SweepParts}

-- the parts that are not touched, in the order clients, nodes, sweep, rows, pairs, master
pub record Kept (c n s r p m : Bool) (old new : State) : Type 0 where
  pub setup : new.setup ≡ old.setup
  pub seen : new.seen ≡ old.seen
  pub clients : c ≡ false → new.clients ≡ old.clients
  pub nodes : n ≡ false → new.nodes ≡ old.nodes
  pub sweep : s ≡ false → new.sweep ≡ old.sweep
  pub rows : r ≡ false → new.rows ≡ old.rows
  pub pairs : p ≡ false → new.pairs ≡ old.pairs
  pub master : m ≡ false → new.master ≡ old.master
  pub posts : length new.nodes ≡ length old.nodes
  pub many : length new.clients ≡ length old.clients

-- a part is the new one where it is touched
abbrev if_touched : {A : Type 0} → Bool → A → A → A
if_touched true old new = new
if_touched false old new = old

part_kept : {A : Type 0} (touched : Bool) (old new : A) → touched ≡ false → if_touched touched old new ≡ old
part_kept true old new is = absurd (cc)
part_kept false old new is = refl

abbrev touched : (clients nodes sweep rows pairs master : Bool) → State → State → State
touched clients nodes sweep rows pairs master old new = record old {
  clients = if_touched clients old.clients new.clients;
  nodes = if_touched nodes old.nodes new.nodes;
  sweep = if_touched sweep old.sweep new.sweep;
  rows = if_touched rows old.rows new.rows;
  pairs = if_touched pairs old.pairs new.pairs;
  master = if_touched master old.master new.master;
}

-- a state that has all but the touched parts of the old one
pub kept : (clients nodes sweep rows pairs master : Bool) (old new : State) → touched clients nodes sweep rows pairs master old new ≡ new → length new.nodes ≡ length old.nodes → length new.clients ≡ length old.clients → Kept clients nodes sweep rows pairs master old new
kept clients nodes sweep rows pairs master old new is posts many = record {
  setup = sym (ap (λ (left : State). left.setup) is);
  seen = sym (ap (λ (left : State). left.seen) is);
  clients = λ not. sym (ap (λ (left : State). left.clients) is) ∙ part_kept clients old.clients new.clients not;
  nodes = λ not. sym (ap (λ (left : State). left.nodes) is) ∙ part_kept nodes old.nodes new.nodes not;
  sweep = λ not. sym (ap (λ (left : State). left.sweep) is) ∙ part_kept sweep old.sweep new.sweep not;
  rows = λ not. sym (ap (λ (left : State). left.rows) is) ∙ part_kept rows old.rows new.rows not;
  pairs = λ not. sym (ap (λ (left : State). left.pairs) is) ∙ part_kept pairs old.pairs new.pairs not;
  master = λ not. sym (ap (λ (left : State). left.master) is) ∙ part_kept master old.master new.master not;
  posts = posts;
  many = many;
}

-- ---- as many as before
pub set_long : {X : Type 0} (xs : List X) (p : ℕ) (x : X) → length (slice_set xs p x) ≡ length xs
set_long [] p x = refl
set_long (y ∷ ys) zero x = refl
set_long (y ∷ ys) (suc p) x = omega (arith, set_long ys p x)

-- ---- what a kind leaves
record_at : (w : State) (node : ℕ) (f : Option InstanceEntry → Effect (Option InstanceEntry × MasterRecord)) (post : Option (Option InstanceEntry)) → Kept false true false false false true w (at_post w post (λ p. step_by (f p) (λ p. record (with_post w node p.0) { master = p.1 }))).state
record_at w node f None = kept false true false false false true _ _ refl refl refl
record_at w node f (Some post) = kept false true false false false true _ _ refl (set_long w.nodes node _) refl

pub kept_record : (w : State) (node : ℕ) (f : Option InstanceEntry → Effect (Option InstanceEntry × MasterRecord)) → Kept false true false false false true w (on_record w node f).state
kept_record w node f = record_at w node f (slice_get w.nodes node)

clients_at : (w : State) (node : ℕ) (f : Option InstanceEntry → Effect (Option InstanceEntry × List Client)) (post : Option (Option InstanceEntry)) → ((p : Option InstanceEntry) → length (f p).parts.1 ≡ length w.clients) → Kept true true false false false false w (at_post w post (λ p. step_by (f p) (λ p. record (with_post w node p.0) { clients = p.1 }))).state
clients_at w node f None many = kept true true false false false false _ _ refl refl refl
clients_at w node f (Some post) many = kept true true false false false false _ _ refl (set_long w.nodes node _) (many post)

pub kept_clients : (w : State) (node : ℕ) (f : Option InstanceEntry → Effect (Option InstanceEntry × List Client)) → ((p : Option InstanceEntry) → length (f p).parts.1 ≡ length w.clients) → Kept true true false false false false w (on_clients w node f).state
kept_clients w node f many = clients_at w node f (slice_get w.nodes node) many

ask_at : (w : State) (session node : ℕ) (f : Client → Option InstanceEntry → Effect (Client × Option InstanceEntry)) (post : Option (Option InstanceEntry)) (c : Option Client) → Kept true true false false false false w (at_both w post c (λ post c. step_by (f c post) (λ p. with_client (with_post w node p.1) session p.0))).state
ask_at w session node f (Some post) (Some c) = kept true true false false false false _ _ refl (set_long w.nodes node _) (set_long w.clients session _)
ask_at w session node f _ _ = kept true true false false false false _ _ refl refl refl

pub kept_ask : (w : State) (session node : ℕ) (f : Client → Option InstanceEntry → Effect (Client × Option InstanceEntry)) → Kept true true false false false false w (on_ask w session node f).state
kept_ask w session node f = ask_at w session node f (slice_get w.nodes node) (slice_get w.clients session)

pub kept_request : (w : State) (node session : ℕ) (f : Option InstanceEntry → Client → Effect (Option InstanceEntry × Client)) → Kept true true false false false false w (on_request w node session f).state
kept_request w node session f = ask_at w session node (λ c post. let e = f post c in record { parts = (e.parts.1, e.parts.0); items = e.items; stop = e.stop }) (slice_get w.nodes node) (slice_get w.clients session)

table_at : (w : State) (node : ℕ) (f : Option InstanceEntry → Effect (Option InstanceEntry × Pairs)) (post : Option (Option InstanceEntry)) → Kept false true false false true false w (at_post w post (λ p. step_by (f p) (λ p. record (with_post w node p.0) { pairs = p.1 }))).state
table_at w node f None = kept false true false false true false _ _ refl refl refl
table_at w node f (Some post) = kept false true false false true false _ _ refl (set_long w.nodes node _) refl

pub kept_table : (w : State) (node : ℕ) (f : Option InstanceEntry → Effect (Option InstanceEntry × Pairs)) → Kept false true false false true false w (on_table w node f).state
kept_table w node f = table_at w node f (slice_get w.nodes node)

stores_at : (w : State) (session : ℕ) (f : Client → Effect StepParts) (c : Option Client) → Kept true false false true true false w (at_client w c (λ c. step_by (f c) (λ p. record (with_client w session p.0) { rows = p.1; pairs = p.2 }))).state
stores_at w session f None = kept true false false true true false _ _ refl refl refl
stores_at w session f (Some c) = kept true false false true true false _ _ refl refl (set_long w.clients session _)

pub kept_stores : (w : State) (session : ℕ) (f : Client → Effect StepParts) → Kept true false false true true false w (on_stores w session f).state
kept_stores w session f = stores_at w session f (slice_get w.clients session)

cells_at : (w : State) (session : ℕ) (f : Client → Effect (Client × List Row)) (c : Option Client) → Kept true false false true false false w (at_client w c (λ c. step_by (f c) (λ p. record (with_client w session p.0) { rows = p.1 }))).state
cells_at w session f None = kept true false false true false false _ _ refl refl refl
cells_at w session f (Some c) = kept true false false true false false _ _ refl refl (set_long w.clients session _)

pub kept_cells : (w : State) (session : ℕ) (f : Client → Effect (Client × List Row)) → Kept true false false true false false w (on_cells w session f).state
kept_cells w session f = cells_at w session f (slice_get w.clients session)

client_at : (w : State) (session : ℕ) (f : Client → Effect Client) (c : Option Client) → Kept true false false false false false w (at_client w c (λ c. step_by (f c) (λ p. with_client w session p))).state
client_at w session f None = kept true false false false false false _ _ refl refl refl
client_at w session f (Some c) = kept true false false false false false _ _ refl refl (set_long w.clients session _)

pub kept_client : (w : State) (session : ℕ) (f : Client → Effect Client) → Kept true false false false false false w (on_client w session f).state
kept_client w session f = client_at w session f (slice_get w.clients session)

sweep_at : (w : State) (f : Option InstanceEntry → Effect (Option Sweeping)) (post : Option (Option InstanceEntry)) → Kept false false true false false false w (at_post w post (λ p. step_by (f p) (λ p. record w { sweep = p }))).state
sweep_at w f None = kept false false true false false false _ _ refl refl refl
sweep_at w f (Some post) = kept false false true false false false _ _ refl refl refl

pub kept_sweep : (w : State) (node : ℕ) (f : Option InstanceEntry → Effect (Option Sweeping)) → Kept false false true false false false w (on_sweep w node f).state
kept_sweep w node f = sweep_at w f (slice_get w.nodes node)

pub kept_swept : (w : State) (effect : Effect SweepParts) → Kept false false true true true false w (on_swept w effect).state
kept_swept w effect = kept false false true true true false _ _ refl refl refl
