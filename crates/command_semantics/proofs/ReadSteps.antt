-- For turn_rules too.
-- A step of a read that a line has begun ends it with its value or with a fault, or leaves a read of the same key; and such a
-- read has a next step.
use Rattle.std.proofs.Common.{arith}
use Rattle.command_semantics.proofs.Names.{◌≡◌, ℕ, true, [], ◌∷◌, ◌++◌, Some, None, inl, inr, refl}
use Rattle.command_semantics.proofs.Names.{◌∙◌, ap, Store, Fate, Works, Session}
use Rattle.command_semantics.proofs.Names.{Told, ReadTurn, Asks, Answers, read_ask, Cache}
use Rattle.command_semantics.proofs.Names.{Client, State, is_reading, is_reading_by, items_met}
use Rattle.command_semantics.proofs.Names.{rows_after, pairs_after, met, Step, with_client, stepped}
use Rattle.command_semantics.proofs.Names.{found_of, client_read, read_items}
use Rattle.command_semantics.proofs.Names.{read_step, doing_of, set_found}
use Rattle.command_semantics.proofs.Names.{read_next}
use Rattle.history_book.specs.declared.item.Item.TheVariants as item
use Rattle.machine.specs.declared.event.Event.TheVariants as event
use Rattle.command_semantics.proofs.PlainEvents.{effect_plain, met_plain}
use Rattle.command_semantics.proofs.Plain.{plain_append, no_plain}
use Rattle.command_semantics.proofs.Working.{ReadWork}
use Rattle.command_semantics.proofs.Stepping.{stores_step, step_is, unhanded}
use Rattle.command_semantics.proofs.Walks.{AllNot, plain_not, Paid}
use Rattle.command_semantics.proofs.ReadLines.{OfRead, told_recalls, ReadsKey, EndsOrReads, ends_with, read_pays}

fault_pays : (s key : ℕ) (store : Store) → Paid (Session s) key (item.Fault (Session s) store ∷ [])
unfolding Paid AllNot
fault_pays s key store = inl (refl, tt)

-- ---- the step, by what the read does next
read_turns : (w : State) (s key : ℕ) (k : ReadsKey w s key) (cache : Cache) (told : Told) (turn : ReadTurn) → OfRead k.work.r.key k.work.r.start turn →
    EndsOrReads s key (record {
      state = record (with_client w s (client_read (record k.c { cache = cache }) turn)) { rows = rows_after (read_ask k.work.r) w.rows; pairs = pairs_after (read_ask k.work.r) w.pairs };
      items = items_met (Session s) (read_ask k.work.r) told Works ++ read_items s k.work.r.start k.work.r.key turn;
      stop = None;
    })
read_turns w s key k cache told (Asks next) same = inr (
  plain_not (Session s) _ (plain_append (items_met (Session s) (read_ask k.work.r) told Works) [] (met_plain (Session s) (read_ask k.work.r) told Works) no_plain),
  record {
    c = client_read (record k.c { cache = cache }) (Asks next);
    at = set_found w.clients s (client_read (record k.c { cache = cache }) (Asks next)) k.c k.at;
    work = record { r = next; is_open = k.work.is_open; under_way = refl };
    key_is = same.0 ∙ k.key_is;
  },
  refl,
)
read_turns w s key k cache told (Answers a) same = inl (ends_with s key (items_met (Session s) (read_ask k.work.r) told Works) (item.Read s k.work.r.start k.work.r.key (found_of a.found)) (met_plain (Session s) (read_ask k.work.r) told Works) (read_pays s k.work.r.start key k.work.r.key a.found k.key_is))

read_steps : (w : State) (s key : ℕ) (k : ReadsKey w s key) (fate : Fate) → let step : Step = stores_step w s (read_step s k.c k.work.r (met (Session s) (read_ask k.work.r) fate w.rows w.pairs)) in EndsOrReads s key step
read_steps w s key k fate = grind (arith, read_turns, told_recalls, fault_pays, ends_with, effect_plain)

-- ---- the event
reads_on : (c : Client) (k : ReadWork c) → is_reading c ≡ true
reads_on c k = ap is_reading_by k.under_way

pub read_goes_on : (w : State) (s key : ℕ) (k : ReadsKey w s key) (fate : Fate) → EndsOrReads s key (stepped w (event.Step s) fate)
read_goes_on w s key k fate = grind (arith, reads_on, step_is, unhanded, read_steps)

-- the run of a line does not end while the read is under way
pub read_has_next : (w : State) (s key : ℕ) → ReadsKey w s key → read_next s (doing_of w s) ≡ Some (event.Step s)
read_has_next w s key k = grind arith
