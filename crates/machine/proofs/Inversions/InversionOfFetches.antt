-- What a fetch comes to.
use Rattle.machine.proofs.Dues.DueItems.{DueAnyway, plain_due, all_due}
use Rattle.machine.proofs.Dues.OwnRefusals.{fetch_own}
use Rattle.machine.proofs.Dues.StepsDue.{read_free}
use Rattle.machine.proofs.Names.{All-cons, read_items, client_put_fresh, keeps_read, reads_refusal, fetch_refused}
use Rattle.machine.proofs.Names.{fetch_by, fetch_open, fetch_on, [], ◌≡◌, ℕ, Bool, true, false, if◌then◌else◌, ◌∷◌}
use Rattle.machine.proofs.Names.{Option, Some, None, inl, inr, refl, length, Cells, SetupNumbers, Fate, Works}
use Rattle.machine.proofs.Names.{FailsUnchanged, FailsApplied, Cause, Session, fetched, work_refusal, key_refusal}
use Rattle.machine.proofs.Names.{Client, State, is_reading, with_client, ClientAt, OfFetched, OfReadDropped, Mild}
use Rattle.history_book.specs.declared.item.StoreStep.TheVariants as step
use Rattle.history_book.specs.declared.item.Item.TheVariants as item
use Rattle.machine.proofs.Outcome.PlainItems.{one_silent, mild_is}
use Rattle.machine.proofs.Inversions.InversionParts.{nothing_told, state_told, ComesTo, ComesBy, still_client}
use Rattle.machine.proofs.Inversions.InversionOfSessions.{for_client, work_open, work_mild, open_by_work, full_mild, either_mild, write_may}
use Rattle.machine.proofs.Outcome.QuietItems.{one_quiet}
use Rattle.machine.proofs.MarksTold.{marks_same}

-- ---- a fetch is refused by what it would keep, too
kept_mild : (keeps : Bool) (refusal : Option Cause) → Mild refusal → Mild (if keeps then refusal else None)
kept_mild true refusal mild = mild
kept_mild false refusal mild = tt

fetch_mild : (setup : SetupNumbers) (c : Client) (key : ℕ) → Mild (fetch_refused setup c key)
fetch_mild setup c key =
    either_mild (work_refusal c.entry.state (is_reading c)) (reads_refusal setup c key) (work_mild c.entry.state (is_reading c))
    (kept_mild (keeps_read setup c key) (key_refusal c.reads key) (full_mild _))

fetch_may : (setup : SetupNumbers) (c : Client) (key : ℕ) → fetch_refused setup c key ≡ None → work_refusal c.entry.state (is_reading c) ≡ None
fetch_may setup c key go = write_may (work_refusal c.entry.state (is_reading c)) (reads_refusal setup c key) go

-- ---- fetch
fetch_failed : (w : State) (session : ℕ) (c : Client) → ClientAt w.clients session c → work_refusal c.entry.state (is_reading c) ≡ None → ComesTo w (with_client w session (record (client_put_fresh c) { heal = None })) (item.Fault (Session session) Cells ∷ [])
fetch_failed w session c at go = (
  OfReadDropped (record {
    session = session;
    c = c;
    under_way = c.under_way;
    client_at = at;
    under_way_is = inl (refl, (work_open c.entry.state (is_reading c) go).1);
    heal = None;
    heal_is = inr refl;
    pairs = w.pairs;
    pairs_are = inl refl;
    items = item.Fault (Session session) Cells ∷ [];
    marks = marks_same w.pairs (item.Fault (Session session) Cells ∷ []);
    quiet = one_quiet (item.Fault (Session session) Cells) refl;
    silent = one_silent (item.Fault (Session session) Cells) refl;
  }),
  refl,
  refl,
  tt,
  plain_due w _ (λ told. tt),
)

fetch_fated : (w : State) (session start epoch key : ℕ) (fate : Fate) (c : Client) → ClientAt w.clients session c → fetch_refused w.setup c key ≡ None → c.entry.start ≡ Some start → c.entry.epoch ≡ Some epoch → ComesBy w (for_client w session (fetch_by w.setup session start epoch key fate c (fetched w.rows key start)))
fetch_fated w session start epoch key Works c at go begun known = (
  OfFetched (record {
    it = open_by_work w session c at (fetch_may w.setup c key go);
    key = key;
    start = start;
    epoch = epoch;
    start_is = begun;
    epoch_is = known;
    may = go;
    cells = length (fetched w.rows key start);
    first = item.Step (Session session) (step.Fetch key (length (fetched w.rows key start)));
    tells = refl;
    quiet = refl;
    silent = refl;
  }),
  refl,
  refl,
  tt,
  all_due w _ (All-cons (DueAnyway w) _ (read_items session start key _) (λ told. tt) (read_free w session start key _)),
)
fetch_fated w session start epoch key FailsUnchanged c at go begun known = fetch_failed w session c at (fetch_may w.setup c key go)
fetch_fated w session start epoch key FailsApplied c at go begun known = fetch_failed w session c at (fetch_may w.setup c key go)

fetch_comes : (w : State) (session key : ℕ) (fate : Fate) (c : Client) → ClientAt w.clients session c → (why : Option Cause) → fetch_refused w.setup c key ≡ why → (start : Option ℕ) → c.entry.start ≡ start → (epoch : Option ℕ) → c.entry.epoch ≡ epoch → ComesBy w (for_client w session (fetch_open w.setup session key fate c w.rows why start epoch))
fetch_comes w session key fate c at (Some why) go start begun epoch known = still_client w session c _ at (state_told w session c why at (mild_is (fetch_refused w.setup c key) why go (fetch_mild w.setup c key)) (fetch_own w.setup c key why (work_refusal c.entry.state (is_reading c)) refl go))
fetch_comes w session key fate c at None go None begun epoch known = still_client w session c [] at (nothing_told w)
fetch_comes w session key fate c at None go (Some start) begun None known = still_client w session c [] at (nothing_told w)
fetch_comes w session key fate c at None go (Some start) begun (Some epoch) known = fetch_fated w session start epoch key fate c at go begun known

pub fetch_at : (w : State) (session key : ℕ) (fate : Fate) (c : Client) → ClientAt w.clients session c → ComesBy w (for_client w session (fetch_on w.setup session key fate c w.rows))
fetch_at w session key fate c at = fetch_comes w session key fate c at (fetch_refused w.setup c key) refl c.entry.start refl c.entry.epoch refl
