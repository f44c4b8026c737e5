-- One event: each session is there before and after, and who asks.
use Rattle.request_completion.proofs.Names.{◌≡◌, ℕ, ◌<◌, List, length, sym, arith, slice_get_within, slice_get-get_or}
use Rattle.request_completion.proofs.Names.{Fate, Item, Event, Client, State, stepped, clients_stay, ClientAt}
use Rattle.request_completion.proofs.Names.{ReachedInvariant, each_outcome}
use Rattle.system_parts.specs.declared.session.State.TheVariants as phase
use Rattle.request_completion.proofs.AskItems.{NoneAsked, Asking, asking, unasked}

there_by : (old new : List Client) (s : ℕ) (c : Client) → length new ≡ length old → ClientAt old s c → (d : Client) × ClientAt new s d
there_by old new s c same at =
    let within : s < length old = slice_get_within old s c at in
    (_, slice_get-get_or new s c (omega (arith, within, same)))

pub still_there : (w : State) (e : Event) (fate : Fate) (s : ℕ) (c : Client) → ClientAt w.clients s c → (d : Client) × ClientAt (stepped w e fate).state.clients s d
still_there w e fate s c at = there_by w.clients (stepped w e fate).state.clients s c (clients_stay w e fate) at

pub was_there : (w : State) (e : Event) (fate : Fate) (s : ℕ) (d : Client) → ClientAt (stepped w e fate).state.clients s d → (c : Client) × ClientAt w.clients s c
was_there w e fate s d at = there_by (stepped w e fate).state.clients w.clients s d (sym (clients_stay w e fate)) at

pub asks_of : (w : State) (h : List Item) (e : Event) (fate : Fate) (s : ℕ) → ReachedInvariant w h → Asking w s (stepped w e fate).items
asks_of w h e fate s stands = each_outcome (λ v items. Asking w s items) w h e fate stands (λ o. asking w o s)

pub none_asks : (w : State) (h : List Item) (e : Event) (fate : Fate) (s : ℕ) (c : Client) → ReachedInvariant w h → ClientAt w.clients s c → (c.entry.state ≡ phase.Free → ⊥) → (c.entry.state ≡ phase.Open → ⊥) → NoneAsked s (stepped w e fate).items
none_asks w h e fate s c stands at not_free not_open = unasked w s c (stepped w e fate).items at not_free not_open (asks_of w h e fate s stands)
