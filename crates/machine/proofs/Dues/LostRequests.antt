-- What a crash tells the sessions whose requests it has lost is due.
use Rattle.machine.proofs.Names.{◌≡◌, ℕ, zero, suc, List, [], ◌∷◌, Option, Some, None, inl, inr, refl, sym, ap, subst}
use Rattle.machine.proofs.Names.{slice_get, slice_index_or, take, All, same_Some, All-nil, All-cons, All-take, All-head}
use Rattle.machine.proofs.Names.{All-tail, All-append, Session, Item, SessionState, Held, Request, Begin, Commit}
use Rattle.machine.proofs.Names.{InstanceEntry, session_of, Client, State, loss_heard, loss_items, crashed_items}
use Rattle.machine.proofs.Names.{all_crashed_items, InstanceAt, AreOwnRequests, cause_of_loss, IsRefusal, Due, AreDue}
use Rattle.history_book.specs.declared.item.Item.TheVariants as item
use Rattle.system_parts.specs.declared.session.State.TheVariants as phase
use Rattle.machine.proofs.Lookups.{held_by}

-- the item tells a session of a request among these that was lost
pub record TellsLoss (node term : ℕ) (requests : List (Option Held)) (x : Item) : Type 0 where
  pub session : ℕ
  pub held : Held
  pub has : slice_index_or requests session None ≡ Some held
  pub item_is : x ≡ item.Refused (Session (session_of held.request)) (cause_of_loss node term held.request)

-- ---- all that is told is of requests that were held
heard_told : (P : Item → Type 0) (state : SessionState) (items : List Item) → All P items → All P (loss_heard state items)
heard_told P phase.Gone items told = All-nil P
heard_told P _ items told = told

loss_told : (P : Item → Type 0) (node term : ℕ) (request : Request) (c : Client) → P (item.Refused (Session (session_of request)) (cause_of_loss node term request)) → All P (loss_items node term request c)
loss_told P node term (Begin session) c told = heard_told P c.entry.state _ (All-cons P _ [] told (All-nil P))
loss_told P node term (Commit session start keys) c told = heard_told P c.entry.state _ (All-cons P _ [] told (All-nil P))

first_told : (node term : ℕ) (held : Option Held) (others : List (Option Held)) (c : Client) → All (TellsLoss node term (held ∷ others)) (crashed_items node term held c)
first_told node term None others c = All-nil (TellsLoss node term (None ∷ others))
first_told node term (Some held) others c = loss_told (TellsLoss node term (Some held ∷ others)) node term held.request c (record { session = zero; held = held; has = refl; item_is = refl })

later_told : (node term : ℕ) (held : Option Held) (others : List (Option Held)) (items : List Item) → All (TellsLoss node term others) items → All (TellsLoss node term (held ∷ others)) items
later_told node term held others [] told = All-nil (TellsLoss node term (held ∷ others))
later_told node term held others (x ∷ items) told =
    let one : TellsLoss node term others x = All-head (TellsLoss node term others) x items told in
    All-cons (TellsLoss node term (held ∷ others)) x items (record { session = suc one.session; held = one.held; has = one.has; item_is = one.item_is }) (later_told node term held others items (All-tail (TellsLoss node term others) x items told))

all_told : (node term : ℕ) (requests : List (Option Held)) (clients : List Client) → All (TellsLoss node term requests) (all_crashed_items node term requests clients)
unfolding all_crashed_items
all_told node term [] clients = All-nil (TellsLoss node term [])
all_told node term (held ∷ others) [] = All-nil (TellsLoss node term (held ∷ others))
all_told node term (held ∷ others) (c ∷ clients) = All-append (TellsLoss node term (held ∷ others)) (crashed_items node term held c) (all_crashed_items node term others clients) (first_told node term held others c) (later_told node term held others (all_crashed_items node term others clients) (all_told node term others clients))

-- ---- so it is due, behind the crash and what others were told
all_refusals : (node term : ℕ) (requests : List (Option Held)) (items : List Item) → All (TellsLoss node term requests) items → All IsRefusal items
all_refusals node term requests [] told = All-nil IsRefusal
all_refusals node term requests (x ∷ items) told =
    let one : TellsLoss node term requests x = All-head (TellsLoss node term requests) x items told in
    All-cons IsRefusal x items (subst (λ (y : Item). IsRefusal y) (sym one.item_is) tt) (all_refusals node term requests items (All-tail (TellsLoss node term requests) x items told))

found_told : (node term : ℕ) (requests : List (Option Held)) (items : List Item) (place : ℕ) (x : Item) → All (TellsLoss node term requests) items → slice_get items place ≡ Some x → TellsLoss node term requests x
found_told node term requests [] place x told found = absurd (cc)
found_told node term requests (y ∷ items) zero x told found = subst (λ (z : Item). TellsLoss node term requests z) (same_Some y x found) (All-head (TellsLoss node term requests) y items told)
found_told node term requests (y ∷ items) (suc place) x told found = found_told node term requests items place x (All-tail (TellsLoss node term requests) y items told) found

loss_due : (w : State) (node : ℕ) (i : InstanceEntry) (earlier : List Item) (x : Item) → AreOwnRequests w.nodes → InstanceAt w.nodes node i → TellsLoss node i.term i.requests x → All IsRefusal earlier → Due w (item.Crash node i.term ∷ earlier) x
loss_due w node i earlier x requests at tells refusals =
    let own : session_of tells.held.request ≡ tells.session = requests.own node tells.session i tells.held.request tells.held.progress at (held_by i tells.session tells.held tells.has) in
    subst (λ (y : Item). Due w (item.Crash node i.term ∷ earlier) y) (sym tells.item_is) (inr (inr (inl (record {
      session = tells.session;
      actor_is = ap (λ s. Session s) own;
      i = i;
      request = tells.held.request;
      p = tells.held.progress;
      serves = record { node = node; at = at; holds = held_by i tells.session tells.held tells.has };
      why_is = refl;
      earlier = earlier;
      told_is = refl;
      refusals = refusals;
    }))))

crash_place : (w : State) (node : ℕ) (i : InstanceEntry) (items : List Item) → AreOwnRequests w.nodes → InstanceAt w.nodes node i → All (TellsLoss node i.term i.requests) items → (place : ℕ) (x : Item) → slice_get (item.Crash node i.term ∷ items) place ≡ Some x → Due w (take place (item.Crash node i.term ∷ items)) x
crash_place w node i items requests at told zero x found = subst (λ (y : Item). Due w [] y) (same_Some (item.Crash node i.term) x found) tt
crash_place w node i items requests at told (suc place) x found = loss_due w node i (take place items) x requests at (found_told node i.term i.requests items place x told found) (All-take IsRefusal place items (all_refusals node i.term i.requests items told))

pub crash_due : (w : State) (node : ℕ) (i : InstanceEntry) → AreOwnRequests w.nodes → InstanceAt w.nodes node i → AreDue w (item.Crash node i.term ∷ all_crashed_items node i.term i.requests w.clients)
crash_due w node i requests at = record { at = crash_place w node i (all_crashed_items node i.term i.requests w.clients) requests at (all_told node i.term i.requests w.clients) }
