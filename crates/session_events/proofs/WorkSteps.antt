-- The machine's step meets what is asked next, and then hears the answer, or that the store failed.
use Rattle.std.proofs.Common.{◌≡◌, ℕ, List, [], ◌∷◌, ◌++◌, Option, None, Some, refl, sym, ◌∙◌, ap, append_assoc, subst}
use Rattle.std.proofs.lemmas.Option.{none-some, same_Some}
use Rattle.stamp_base.specs.declared.stores.Store.{Store}
use Rattle.port_io.specs.declared.weather.Fate.{Fate}
use Rattle.history_book.specs.declared.item.Actor.TheVariants.{Session}
use Rattle.history_book.specs.declared.item.Item.{Item}
use Rattle.system_parts.specs.Rows.{Row}
use Rattle.system_parts.specs.Pairs.{Pairs}
use Rattle.system_parts.specs.declared.asks.Ask.{Ask}
use Rattle.system_parts.specs.declared.asks.Told.{Told}
use Rattle.system_parts.specs.Resolve.{Settling, settle_ask}
use Rattle.system_parts.specs.KeyRead.{Reading, read_ask}
use Rattle.machine.specs.State.{UnderWay, Nothing, Reads, Settles, Completes, Client}
use Rattle.machine.specs.Effect.{Effect, Faults}
use Rattle.machine.specs.StoreSteps.{Met, met, store_of}
use Rattle.machine.specs.Events.Step.{StepParts, step_at, stepped_on, step_failed, next_of, work_of, read_by, settle_by, complete_by}
use Rattle.machine.specs.Events.Fetch.{client_put_fresh}
use Rattle.event_parts.specs.Made.{Leaves}
use Rattle.session_events.specs.Meeting.{IsMet}
use Rattle.event_parts.specs.Working.{client_ready, client_told, told_items, client_failed}

-- what a step comes to, by what it was told
abbrev by_told : ℕ → Client → UnderWay → Ask → Met → Option Told → Effect StepParts
by_told session c work asked m None = step_failed (client_failed c work) asked m
by_told session c work asked m (Some answer) = stepped_on (client_told c work answer) m (told_items session c work answer)

reads_by : (session : ℕ) (c : Client) (r : Reading) (m : Met) (told : Option Told) → read_by session c r m told ≡ by_told session c (Reads r) (read_ask r) m told
reads_by session c r m None = refl
reads_by session c r m (Some answer) = refl

ready_by : (session : ℕ) (c : Client) (r : Reading) (m : Met) (told : Option Told) → read_by session (client_put_fresh c) r m told ≡ by_told session (client_ready c (Reads r)) (Reads r) (read_ask r) m told
ready_by session c r m told = reads_by session (client_put_fresh c) r m told

settles_by : (session : ℕ) (c : Client) (x : Settling) (m : Met) (told : Option Told) → settle_by session c x m told ≡ by_told session c (Settles x) (settle_ask x) m told
settles_by session c x m None = refl
settles_by session c x m (Some answer) = refl

completes_by : (session : ℕ) (c : Client) (asked : Ask) (asks : List Ask) (m : Met) (told : Option Told) → complete_by c asked asks m told ≡ by_told session c (Completes (asked ∷ asks)) asked m told
completes_by session c asked asks m None = refl
completes_by session c asked asks m (Some answer) = refl

-- the step that meets this ask
abbrev by_met : ℕ → Fate → Client → List Row → Pairs → UnderWay → Ask → Effect StepParts
by_met session fate c rows pairs work asked = by_told session (client_ready c work) work asked (met (Session session) asked fate rows pairs) (met (Session session) asked fate rows pairs).told

step_is : (session : ℕ) (fate : Fate) (c : Client) (rows : List Row) (pairs : Pairs) (work : UnderWay) (asked : Ask) → next_of work ≡ Some asked → step_at session fate c rows pairs work ≡ by_met session fate c rows pairs work asked
step_is session fate c rows pairs Nothing asked is = elim (none-some asked is) [ ]
step_is session fate c rows pairs (Reads r) asked is = ready_by session c r (met (Session session) (read_ask r) fate rows pairs) _ ∙ ap (by_met session fate c rows pairs (Reads r)) (same_Some _ _ is)
step_is session fate c rows pairs (Settles x) asked is = settles_by session c x (met (Session session) (settle_ask x) fate rows pairs) _ ∙ ap (by_met session fate c rows pairs (Settles x)) (same_Some _ _ is)
step_is session fate c rows pairs (Completes []) asked is = elim (none-some asked is) [ ]
step_is session fate c rows pairs (Completes (first ∷ asks)) asked is = completes_by session c first asks (met (Session session) first fate rows pairs) _ ∙ ap (by_met session fate c rows pairs (Completes (first ∷ asks))) (same_Some _ _ is)

left_parts : {a b : Client} {r s : List Row} {p q : Pairs} → a ≡ b → r ≡ s → p ≡ q → ◌≡◌ {A = StepParts} (a, r, p) (b, s, q)
left_parts d e f = cc

-- the step: whose it is, the fate of its call, the client and the stores before it, the work that is under way, and what it asks next
pub record Asking : Type 0 where
  pub session : ℕ
  pub fate : Fate
  pub client : Client
  pub rows : List Row
  pub pairs : Pairs
  pub work : UnderWay
  pub asked : Ask

-- what it leaves: the client as it was made ready and as it is at the end, and the stores
pub record Left : Type 0 where
  pub ready : Client
  pub client : Client
  pub rows : List Row
  pub pairs : Pairs

abbrev pub met_in : Asking → Met
met_in x = met (Session x.session) x.asked x.fate x.rows x.pairs

abbrev pub step_of : Asking → Effect StepParts
step_of x = step_at x.session x.fate x.client x.rows x.pairs x.work

abbrev pub parts_of : Left → StepParts
parts_of y = (y.client, y.rows, y.pairs)

-- the ask is the next of the work, the call met it, and the client was ready for it
pub record IsAsked (x : Asking) (y : Left) (before after : List Item) (told : Option Told) : Type 0 where
  pub next : next_of x.work ≡ Some x.asked
  pub met : IsMet (met_in x) y.rows y.pairs before after told
  pub ready : y.ready ≡ client_ready x.client x.work
  pub work : work_of y.ready ≡ x.work

met_is : (x : Asking) (y : Left) (before after : List Item) (told : Option Told) → IsAsked x y before after told → step_of x ≡ by_told x.session (client_ready x.client x.work) x.work x.asked (met_in x) told
met_is x y before after told is = step_is x.session x.fate x.client x.rows x.pairs x.work x.asked is.next ∙ ap (by_told x.session (client_ready x.client x.work) x.work x.asked (met_in x)) is.met.told

pub step_heard : (x : Asking) (y : Left) (answer : Told) (before between after : List Item) → IsAsked x y before between (Some answer) → y.client ≡ client_told y.ready (work_of y.ready) answer → after ≡ between ++ told_items x.session y.ready (work_of y.ready) answer → Leaves (step_of x) (parts_of y) before after None
step_heard x y answer before between after is of_client of_items =
    let told_client : y.client ≡ client_told (client_ready x.client x.work) x.work answer = rw (is.work, is.ready) at of_client in
    let told : after ≡ between ++ told_items x.session (client_ready x.client x.work) x.work answer = rw (is.work, is.ready) at of_items in
    subst (λ (e : Effect StepParts). Leaves e (parts_of y) before after None)
    (sym (met_is x y before between (Some answer) is))
    (record {
      parts = left_parts told_client is.met.rows is.met.pairs;
      items = told ∙ ap (λ (b : List Item). b ++ told_items x.session (client_ready x.client x.work) x.work answer) is.met.items ∙ append_assoc before (met_in x).items (told_items x.session (client_ready x.client x.work) x.work answer);
      stop = refl;
    })

pub step_faulted : (x : Asking) (y : Left) (before after : List Item) (store : Store) → IsAsked x y before after None → y.client ≡ client_failed y.ready (work_of y.ready) → store ≡ store_of x.asked → Leaves (step_of x) (parts_of y) before after (Some (Faults store))
step_faulted x y before after store is of_client of_store =
    let failed : y.client ≡ client_failed (client_ready x.client x.work) x.work = rw (is.work, is.ready) at of_client in
    subst (λ (e : Effect StepParts). Leaves e (parts_of y) before after (Some (Faults store)))
    (sym (met_is x y before after None is))
    (record {
      parts = left_parts failed is.met.rows is.met.pairs;
      items = is.met.items;
      stop = ap (λ s. Some (Faults s)) (sym of_store);
    })
