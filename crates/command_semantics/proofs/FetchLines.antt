-- For turn_rules too.
-- The fetch of a read line answers it; and then the read has ended, or is under way.
use Rattle.std.proofs.Common.{arith}
use Rattle.command_semantics.proofs.Names.{◌≡◌, ℕ, Bool, cond, List, [], ◌∷◌, Option, Some}
use Rattle.command_semantics.proofs.Names.{None, ◌⊎◌, inl, inr, refl, option_or, Fate}
use Rattle.command_semantics.proofs.Names.{Cause, Session, Item, Store}
use Rattle.command_semantics.proofs.Names.{SessionState, ReadTurn, Asks, Answers, work_refusal}
use Rattle.command_semantics.proofs.Names.{Client, State, Step, step_by, with_client}
use Rattle.command_semantics.proofs.Names.{stepped, reads_refusal}
use Rattle.command_semantics.proofs.Names.{client_read, read_items, fetch_open}
use Rattle.command_semantics.proofs.Names.{ClientAt, ReachedInvariant, set_found, RefusesLine, IsFetch, IsRefusal}
use Rattle.command_semantics.proofs.Names.{read_begun}
use Rattle.history_book.specs.declared.cause.Cause.TheVariants as cause
use Rattle.history_book.specs.declared.item.StoreStep.TheVariants as step
use Rattle.history_book.specs.declared.item.Item.TheVariants as item
use Rattle.system_parts.specs.declared.session.State.TheVariants as phase
use Rattle.machine.specs.declared.event.Event.TheVariants as event
use Rattle.script_data.specs.declared.line.Verb.TheVariants as verb
use Rattle.command_semantics.proofs.Fitting.{fit_at}
use Rattle.command_semantics.proofs.AlwaysFit.{Fit}
use Rattle.command_semantics.proofs.WorkItems.{HasNumber, starts}
use Rattle.command_semantics.proofs.Walks.{AllNot, LineItems}
use Rattle.command_semantics.proofs.ReadLines.{OfRead, over_recalls, ReadsKey, read_pays}

-- what answers a read line
abbrev pub ReadAnswer : ℕ → ℕ → Item → Type 0
ReadAnswer s key x = IsFetch s key x ⊎ IsRefusal (Session s) x ⊎ ⊥

-- the items so far: the first has begun a read of the key, which is under way
pub record ReadBegun (w : State) (s key : ℕ) (xs : List Item) : Type 0 where
  pub first : Item
  pub rest : List Item
  pub is : xs ≡ first ∷ rest
  pub answers : ReadAnswer s key first
  pub begun : read_begun (verb.Read key) first ≡ Some key
  pub none : AllNot (Session s) rest
  pub reads : ReadsKey w s key

-- after the fetch
abbrev pub FetchDone : ℕ → ℕ → Step → Type 0
FetchDone s key step = LineItems (ReadAnswer s key) (Session s) (verb.Read key) step.items ⊎ (ReadBegun step.state s key step.items × (step.stop ≡ None))

refusal_line : (s key : ℕ) (why : Cause) → RefusesLine (Session s) why → LineItems (ReadAnswer s key) (Session s) (verb.Read key) (item.Refused (Session s) why ∷ [])
unfolding AllNot
refusal_line s key why refuses = record { first = item.Refused (Session s) why; rest = []; is = refl; answers = inr (inl (refl, refuses)); behind = tt }

fault_line : (s key : ℕ) (store : Store) → LineItems (ReadAnswer s key) (Session s) (verb.Read key) (item.Fault (Session s) store ∷ [])
unfolding AllNot
fault_line s key store = record { first = item.Fault (Session s) store; rest = []; is = refl; answers = inr (inl refl); behind = tt }

turn_done : (w : State) (s key start cells : ℕ) (was c : Client) (turn : ReadTurn) → ClientAt w.clients s was → c.entry.state ≡ phase.Open → OfRead key start turn → FetchDone s key (record { state = with_client w s (client_read c turn); items = item.Step (Session s) (step.Fetch key cells) ∷ read_items s start key turn; stop = None })
unfolding AllNot
turn_done w s key start cells was c (Asks r) at is_open same = inr (
  record {
    first = item.Step (Session s) (step.Fetch key cells);
    rest = [];
    is = refl;
    answers = inl (refl, refl);
    begun = refl;
    none = tt;
    reads = record { c = client_read c (Asks r); at = set_found w.clients s (client_read c (Asks r)) was at; work = record { r = r; is_open = is_open; under_way = refl }; key_is = same.0 };
  },
  refl,
)
turn_done w s key start cells was c (Answers a) at is_open same = grind (arith, read_pays)

open_done : (w : State) (s key : ℕ) (fate : Fate) (c : Client) (start epoch : Option ℕ) → ClientAt w.clients s c → c.entry.state ≡ phase.Open → HasNumber phase.Open start → HasNumber phase.Open epoch → FetchDone s key (step_by (fetch_open w.setup s key fate c w.rows None start epoch) (λ (p : Client). with_client w s p))
open_done w s key fate c start epoch at is_open has sees = grind (arith, turn_done, over_recalls, fault_line)

-- a key that is to be kept has no room
room_done : (w : State) (s key : ℕ) (fate : Fate) (c : Client) (start epoch : Option ℕ) (kept room : Bool) → ClientAt w.clients s c → c.entry.state ≡ phase.Open → HasNumber phase.Open start → HasNumber phase.Open epoch
    → FetchDone s key (step_by (fetch_open w.setup s key fate c w.rows (cond kept (cond room None (Some cause.TooManyKeys)) None) start epoch) (λ (p : Client). with_client w s p))
room_done w s key fate c start epoch kept room at is_open has sees = grind (arith, refusal_line, open_done)

done_by : (w : State) (s key : ℕ) (fate : Fate) (c : Client) (state : SessionState) (reading : Bool) (start epoch : Option ℕ) → ClientAt w.clients s c → c.entry.state ≡ state → HasNumber state start → HasNumber state epoch → FetchDone s key (step_by (fetch_open w.setup s key fate c w.rows (option_or (work_refusal state reading) (reads_refusal w.setup c key)) start epoch) (λ (p : Client). with_client w s p))
done_by w s key fate c state reading start epoch at is has sees = grind (arith, refusal_line, room_done)

pub fetch_done : (w : State) (h : List Item) (s key : ℕ) (fate : Fate) (c : Client) → ReachedInvariant w h → Fit w → ClientAt w.clients s c → FetchDone s key (stepped w (event.Fetch s key) fate)
fetch_done w h s key fate c stands fit at = grind (arith, done_by, starts, fit_at)
