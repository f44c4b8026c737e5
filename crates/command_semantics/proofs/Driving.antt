-- For run_board too.
-- Each event that drives a request lowers what is left, and so does the completion that follows.
use Rattle.command_semantics.proofs.Names.{◌≡◌, ℕ, ◌<◌, Bool, List, Option, Some, None, refl, sym, ◌∙◌, ap, subst}
use Rattle.command_semantics.proofs.Names.{arith, slice_get, Mark, Fate}
use Rattle.command_semantics.proofs.Names.{Item, Pairs, mark_of, Held, Place, Progress, Request, Begin, Commit}
use Rattle.command_semantics.proofs.Names.{InstanceEntry, held_of, place_of_progress, stamps_by, stamps_of_held, Client}
use Rattle.command_semantics.proofs.Names.{State, Step}
use Rattle.command_semantics.proofs.Names.{stepped, place_by}
use Rattle.command_semantics.proofs.Names.{place_of, is_commit, asks_commit, Verb, ClientAt}
use Rattle.command_semantics.proofs.Names.{ReachedInvariant, held_by, Clocks, serves, of_client}
use Rattle.command_semantics.proofs.Names.{client_completes, client_settles, drive_left_by, drive_left}
use Rattle.system_parts.specs.declared.instance.Place.TheVariants as place
use Rattle.system_parts.specs.declared.instance.Progress.TheVariants as progress
use Rattle.machine.specs.declared.event.Event.TheVariants as event
use Rattle.command_semantics.proofs.Holders.{Served, is_served_at}
use Rattle.command_semantics.proofs.Clients.{client_now, aborted_left, committed_left}
use Rattle.command_semantics.proofs.Serving.{Lowers, Serving, left_to_drive, ends_so}
use Rattle.command_semantics.proofs.Accepting.{accept_lowers}
use Rattle.command_semantics.proofs.Deciding.{decide_lowers}
use Rattle.command_semantics.proofs.Putting.{put_lowers}
use Rattle.command_semantics.proofs.Answering.{answer_begin_lowers, answer_commit_lowers, answer_handed_lowers}
use Rattle.command_semantics.proofs.Working.{PlaceWork}
use Rattle.command_semantics.proofs.Stepping.{FewerAsks, placed_step, place_is, place_settles}

-- a request that stands somewhere can be served: its client is there
pub serving_at : (w : State) (h : List Item) (s : ℕ) (request : ℕ × Place) → ReachedInvariant w h → place_of w s ≡ Some request → Serving w h s request
serving_at w h s request stands at =
    let served : Served w s request = is_served_at w s request at in
    let i : InstanceEntry = served.holder.i in
    let waits = stands.holds.requests.requests.waits request.0 s i served.held.request served.held.progress served.holder.at (held_by i s served.held served.holder.has) in
    record { stands = stands; at = at; served = served; c = waits.0; client_at = waits.1 }

-- ---- a begin is never settled or handed over; were it, its answer would be refused
answer_none : (w : State) (h : List Item) (node s : ℕ) (fate : Fate) (verb : Verb) (k : Serving w h s (node, place.Settled)) → stamps_of_held (held_of k.served.holder.i s) ≡ None → Lowers w s verb (stepped w (event.Answer node s) fate)
answer_none w h node s fate verb k none = grind (arith, left_to_drive, ends_so)

-- ---- by the request and how far it has come
served_by : (clocks : Clocks) (w : State) (h : List Item) (node s : ℕ) (verb : Verb) (fate : Fate) (held : Held) (request : Request) (p : Progress) → held.request ≡ request → held.progress ≡ p → (k : Serving w h s (node, place_of_progress p)) → k.served.held ≡ held → Lowers w s verb (stepped w (serves clocks s node (is_commit request) (place_of_progress p)) fate)
served_by clocks w h node s verb fate held request progress.Asked asks stands k is = accept_lowers w h node s _ fate verb k (ap (λ (x : Held). x.progress) is ∙ stands)
served_by clocks w h node s verb fate held request progress.Accepted asks stands k is = decide_lowers w h node s fate verb k (ap (λ (x : Held). x.progress) is ∙ stands)
served_by clocks w h node s verb fate held (Begin asker) (progress.Drawn stamp) asks stands k is = answer_begin_lowers w h node s fate verb k asker stamp (ap (λ (x : Held). x.request) is ∙ asks) (ap (λ (x : Held). x.progress) is ∙ stands)
served_by clocks w h node s verb fate held (Commit asker start keys) (progress.Drawn stamp) asks stands k is = put_lowers w h node s fate verb k (record { session = asker; start = start; commit = stamp; keys = keys; request = ap (λ (x : Held). x.request) is ∙ asks; progress = ap (λ (x : Held). x.progress) is ∙ stands })
served_by clocks w h node s verb fate held (Begin asker) (progress.Settled commit by) asks stands k is = answer_none w h node s fate verb k (ap stamps_of_held k.served.holder.has ∙ ap stamps_of_held (ap (λ (x : Held). Some x) is) ∙ ap (λ (r : Request). stamps_by r held.progress) asks ∙ ap (λ (q : Progress). stamps_by (Begin asker) q) stands)
served_by clocks w h node s verb fate held (Begin asker) (progress.Handed commit) asks stands k is = answer_none w h node s fate verb k (ap stamps_of_held k.served.holder.has ∙ ap stamps_of_held (ap (λ (x : Held). Some x) is) ∙ ap (λ (r : Request). stamps_by r held.progress) asks ∙ ap (λ (q : Progress). stamps_by (Begin asker) q) stands)
served_by clocks w h node s verb fate held (Commit asker start keys) (progress.Settled commit by) asks stands k is = answer_commit_lowers w h node s fate verb k asker start commit keys by (ap (λ (x : Held). x.request) is ∙ asks) (ap (λ (x : Held). x.progress) is ∙ stands)
served_by clocks w h node s verb fate held (Commit asker start keys) (progress.Handed commit) asks stands k is = answer_handed_lowers w h node s fate verb k asker start commit keys (ap (λ (x : Held). x.request) is ∙ asks) (ap (λ (x : Held). x.progress) is ∙ stands)

pub serves_lower : (clocks : Clocks) (w : State) (h : List Item) (s : ℕ) (request : ℕ × Place) (verb : Verb) (fate : Fate) → ReachedInvariant w h → place_of w s ≡ Some request → Lowers w s verb (stepped w (serves clocks s request.0 (asks_commit w s) request.1) fate)
serves_lower clocks w h s request verb fate stands at =
    let first : Serving w h s request = serving_at w h s request stands at in
    let held : Held = first.served.held in
    let here : place_of w s ≡ Some (request.0, place_of_progress held.progress) = at ∙ ap (λ (p : Place). Some (request.0, p)) (sym first.served.place_is) in
    let k : Serving w h s (request.0, place_of_progress held.progress) = grind (arith, place_is) in
    subst (λ (commit : Bool). Lowers w s verb (stepped w (serves clocks s request.0 commit request.1) fate)) (sym first.served.commit_is)
    (subst (λ (p : Place). Lowers w s verb (stepped w (serves clocks s request.0 (is_commit held.request) p) fate)) first.served.place_is
    (served_by clocks w h request.0 s verb fate held held.request held.progress refl refl k refl))

-- ---- where no request is left
pub undriven : (u : State) (s : ℕ) → place_of u s ≡ None → drive_left u s ≡ of_client (slice_get u.clients s) client_settles
undriven u s none = ap (λ (r : Option (ℕ × Place)). drive_left_by u (slice_get u.clients s) r) none

pub undriven_at : (w : State) (s : ℕ) (c : Client) → ClientAt w.clients s c → place_of w s ≡ None → drive_left w s ≡ client_settles c
undriven_at w s c at none = undriven w s none ∙ ap (λ (found : Option Client). of_client found client_settles) at

-- a completion goes on
pub completion_lowers : (w : State) (s : ℕ) (verb : Verb) (c : Client) (step : Step) → ClientAt w.clients s c → place_of w s ≡ None → FewerAsks w s c step → Lowers w s verb step
completion_lowers w s verb c step at none k = grind (arith, client_now, undriven, undriven_at)

-- a commit that was handed over is placed, found marked, or not known to be placed
placed_lowers : (w : State) (s : ℕ) (verb : Verb) (c : Client) (k : PlaceWork c) → ClientAt w.clients s c → place_of w s ≡ None → (fate : Fate) (found : Option Mark) (pairs : Pairs) → Lowers w s verb (placed_step w s (place_by s k.start k.commit fate found c pairs))
placed_lowers w s verb c k at none fate found pairs =
    grind (arith, undriven, client_now, committed_left, undriven_at, place_settles, aborted_left)

pub placing_lowers : (w : State) (s : ℕ) (verb : Verb) (fate : Fate) (c : Client) (k : PlaceWork c) → ClientAt w.clients s c → place_of w s ≡ None → Lowers w s verb (stepped w (event.Step s) fate)
placing_lowers w s verb fate c k at none =
    subst (λ (step : Step). Lowers w s verb step) (sym (place_is w s fate c k at)) (placed_lowers w s verb c k at none fate (mark_of w.pairs k.start) _)

-- a completion alone
pub finish_lowers : (w : State) (s : ℕ) (verb : Verb) (c : Client) (step : Step) → ClientAt w.clients s c → FewerAsks w s c step → of_client (slice_get step.state.clients s) client_completes < of_client (slice_get w.clients s) client_completes
finish_lowers w s verb c step at k = grind (arith, client_now)
