-- Each event that the run of a session's line makes lowers what is left.
use Rattle.command_semantics.proofs.Names.{◌≡◌, ℕ, ◌+◌, ◌<◌, Bool, cond, List, Option, Some, None, ◌⊎◌}
use Rattle.command_semantics.proofs.Names.{◌≤◌, inl, inr, refl, sym, ◌∙◌, ap, subst, arith, slice_get}
use Rattle.command_semantics.proofs.Names.{same_Some, none-some, Fate, Cause, Session, Item}
use Rattle.command_semantics.proofs.Names.{step_refusal, handed_commit, Place, Event}
use Rattle.command_semantics.proofs.Names.{Client, State, is_reading, Step, stepped}
use Rattle.command_semantics.proofs.Names.{client_doing, doing_at, doing_of, place_of}
use Rattle.command_semantics.proofs.Names.{asks_commit, Verb, ClientAt, ReachedInvariant, Point, Opens}
use Rattle.command_semantics.proofs.Names.{Extends, Finishes, Reads, Steps, halt_of, after_serving}
use Rattle.command_semantics.proofs.Names.{follows, view_of, Clocks, target_node, serves}
use Rattle.command_semantics.proofs.Names.{finish_next, placing_next, drive_next, extend_by}
use Rattle.command_semantics.proofs.Names.{extend_next, idle_next, collect_next, read_next, steps_next, session_opens}
use Rattle.command_semantics.proofs.Names.{session_next, of_client}
use Rattle.command_semantics.proofs.Names.{client_completes, client_reads, client_steps, drive_left, session_left}
use Rattle.system_parts.specs.declared.session.State.TheVariants as phase
use Rattle.system_parts.specs.declared.instance.Place.TheVariants as place
use Rattle.machine.specs.declared.event.Event.TheVariants as event
use Rattle.script_data.specs.declared.line.Verb.TheVariants as verb
use Rattle.command_semantics.proofs.Clients.{client_now}
use Rattle.command_semantics.proofs.Serving.{Lowers}
use Rattle.command_semantics.proofs.Extending.{extend_lowers}
use Rattle.command_semantics.proofs.Working.{CompleteWork, HasWork, completes, places_commit, has_work}
use Rattle.command_semantics.proofs.Stepping.{StepsEnd, LowersAt, steps_lower, reads_lower, completes_lower}
use Rattle.command_semantics.proofs.Opening.{halted_less, begin_lowers, commit_lowers, write_lowers, abort_lowers, fetch_lowers}
use Rattle.command_semantics.proofs.Doings.{Finishing, finishing_by, Placing, placing_by, stepping_by, ReadingOn, reading_by, idling_by, not_idle, step_refused, plainly_refused, refused_unhanded}
use Rattle.command_semantics.proofs.Driving.{serving_at, serves_lower, undriven_at, completion_lowers, placing_lowers, finish_lowers}

-- what is left of a session's line after its event is less than it was
abbrev pub SessionLowers : State → ℕ → Verb → Point → Event → Fate → Type 0
SessionLowers w s verb point e fate = session_left (stepped w e fate).state s verb (follows verb point (halt_of (stepped w e fate).stop)) < session_left w s verb point

-- ---- a completion
finish_at : (w : State) (h : List Item) (s : ℕ) (verb : Verb) (fate : Fate) (e : Event) → ReachedInvariant w h → (found : Option Client) → slice_get w.clients s ≡ found → finish_next s (doing_at found) ≡ Some e → SessionLowers w s verb Finishes e fate
finish_at w h s verb fate e stands None at is = absurd (none-some e is)
finish_at w h s verb fate e stands (Some c) at is =
    let k : Finishing s c.entry.state e = finishing_by s c.entry.state (is_reading c) e is in
    let work : CompleteWork c = completes w h s c stands at k.undo k.state_is in
    let step : Step = stepped w (event.Step s) fate in
    let less : session_left step.state s verb Finishes < session_left w s verb Finishes = finish_lowers w s verb c step at (completes_lower w s fate c work at) in
    subst (λ (x : Event). SessionLowers w s verb Finishes x fate) k.event_is (halted_less step.state s verb Finishes (halt_of step.stop) (session_left w s verb Finishes) less)

-- a placing, or a completion, where no request is left
settled_by : (w : State) (h : List Item) (s : ℕ) (verb : Verb) (fate : Fate) (c : Client) (e : Event) → ReachedInvariant w h → place_of w s ≡ None → ClientAt w.clients s c → Placing s c.entry.state e ⊎ Finishing s c.entry.state e → Lowers w s verb (stepped w e fate)
settled_by w h s verb fate c e stands none at (inl k) = subst (λ (x : Event). Lowers w s verb (stepped w x fate)) k.event_is (placing_lowers w s verb fate c (places_commit w h s c stands at k.state_is) at none)
settled_by w h s verb fate c e stands none at (inr k) =
    let work : CompleteWork c = completes w h s c stands at k.undo k.state_is in
    subst (λ (x : Event). Lowers w s verb (stepped w x fate)) k.event_is (completion_lowers w s verb c (stepped w (event.Step s) fate) at none (completes_lower w s fate c work at))

settled_at : (w : State) (h : List Item) (s : ℕ) (verb : Verb) (fate : Fate) (e : Event) (placed : Bool) → ReachedInvariant w h → place_of w s ≡ None → (found : Option Client) → slice_get w.clients s ≡ found → placing_next s (doing_at found) placed ≡ Some e → Lowers w s verb (stepped w e fate)
settled_at w h s verb fate e placed stands none None at is = absurd (none-some e is)
settled_at w h s verb fate e placed stands none (Some c) at is = settled_by w h s verb fate c e stands none at (placing_by s c.entry.state (is_reading c) placed e is)

-- ---- a request that is driven
served_if : (clocks : Clocks) (w : State) (h : List Item) (s : ℕ) (verb : Verb) (fate : Fate) (e : Event) (request : ℕ × Place) → ReachedInvariant w h → place_of w s ≡ Some request → (served : Bool) → cond served (Some (serves clocks s request.0 (asks_commit w s) request.1)) None ≡ Some e → Lowers w s verb (stepped w e fate)
served_if clocks w h s verb fate e request stands at served is = grind (arith, none-some, same_Some, serves_lower)

drive_at : (clocks : Clocks) (w : State) (h : List Item) (s : ℕ) (line verb : Verb) (fate : Fate) (e : Event) → ReachedInvariant w h → (request : Option (ℕ × Place)) → place_of w s ≡ request → drive_next clocks s line (view_of w (Session s)) request ≡ Some e → Lowers w s verb (stepped w e fate)
drive_at clocks w h s line verb fate e stands request at is = grind (arith, settled_at, served_if)

extend_at : (w : State) (h : List Item) (s : ℕ) (verb : Verb) (fate : Fate) (e : Event) (node : ℕ) (at : Place) → ReachedInvariant w h → place_of w s ≡ Some (node, at) → extend_by node at ≡ Some e → SessionLowers w s verb Extends e fate
extend_at w h s verb fate e node place.Accepted stands there is = subst (λ (x : Event). SessionLowers w s verb Extends x fate) (same_Some (event.Extend node) e is) (extend_lowers w h node s fate verb (serving_at w h s (node, place.Accepted) stands there))
extend_at w h s verb fate e node place.Asked stands there is = absurd (none-some e is)
extend_at w h s verb fate e node place.Drawn stands there is = absurd (none-some e is)
extend_at w h s verb fate e node place.Settled stands there is = absurd (none-some e is)

extends_at : (w : State) (h : List Item) (s : ℕ) (verb : Verb) (fate : Fate) (e : Event) → ReachedInvariant w h → (request : Option (ℕ × Place)) → place_of w s ≡ request → extend_next request ≡ Some e → SessionLowers w s verb Extends e fate
extends_at w h s verb fate e stands request at is = grind (arith, none-some, extend_at)

-- ---- what is under way
steps_at : (ends : StepsEnd) (w : State) (h : List Item) (s : ℕ) (verb : Verb) (fate : Fate) (e : Event) → ReachedInvariant w h → (found : Option Client) → slice_get w.clients s ≡ found → steps_next s (doing_at found) ≡ Some e → SessionLowers w s verb Steps e fate
steps_at ends w h s verb fate e stands found at is = grind (arith, none-some, stepping_by, steps_lower, has_work)

read_by : (ends : StepsEnd) (w : State) (s : ℕ) (verb : Verb) (fate : Fate) (c : Client) → ClientAt w.clients s c → step_refusal c.entry.state (is_reading c) ≡ None → c.entry.state ≡ phase.Open → HasWork c → LowersAt Reads (client_reads c) s verb (stepped w (event.Step s) fate)
read_by ends w s verb fate c at goes is_open (inl k) = reads_lower ends w s verb fate c k at goes
read_by ends w s verb fate c at goes is_open (inr (inl k)) = let clash : phase.Open ≡ phase.OpenOutcome = sym is_open ∙ k.is_open in absurd (cc)
read_by ends w s verb fate c at goes is_open (inr (inr (inr k))) = let clash : phase.Open ≡ phase.Placing = sym is_open ∙ k.placing in absurd (cc)
read_by ends w s verb fate c at goes is_open (inr (inr (inl k))) = let clash : phase.Open ≡ phase.Completing k.undo = sym is_open ∙ k.completing in absurd (cc)

reads_at : (ends : StepsEnd) (w : State) (h : List Item) (s : ℕ) (verb : Verb) (fate : Fate) (e : Event) → ReachedInvariant w h → (found : Option Client) → slice_get w.clients s ≡ found → read_next s (doing_at found) ≡ Some e → SessionLowers w s verb Reads e fate
reads_at ends w h s verb fate e stands None at is = absurd (none-some e is)
reads_at ends w h s verb fate e stands (Some c) at is =
    let k : ReadingOn s c.entry.state (is_reading c) e = reading_by s c.entry.state (is_reading c) e is in
    let full : client_reads c ≡ session_left w s verb Reads = sym (ap (λ (x : Option Client). of_client x client_reads) at) in
    subst (λ (x : Event). SessionLowers w s verb Reads x fate) k.event_is (subst (λ (n : ℕ). LowersAt Reads n s verb (stepped w (event.Step s) fate)) full (read_by ends w s verb fate c at k.goes k.state_is (has_work w h s c stands at k.goes)))

-- ---- the first step of a line that makes all that is under way
-- a completion is counted among all that is under way
completes_within : (c : Client) → handed_commit c.entry ≡ None → client_completes c ≤ client_steps c
completes_within c none = grind arith

first_by : (ends : StepsEnd) (w : State) (h : List Item) (s : ℕ) (verb : Verb) (fate : Fate) (c : Client) → ReachedInvariant w h → ClientAt w.clients s c → (why : Option Cause) → step_refusal c.entry.state (is_reading c) ≡ why → LowersAt Steps (1 + client_steps c) s verb (stepped w (event.Step s) fate)
first_by ends w h s verb fate c stands at why is =
    grind (arith, plainly_refused, client_now, completes_within, refused_unhanded, step_refused, steps_lower, has_work)

first_step : (ends : StepsEnd) (w : State) (h : List Item) (s : ℕ) (verb : Verb) (fate : Fate) → ReachedInvariant w h → (found : Option Client) → slice_get w.clients s ≡ found → LowersAt Steps (1 + of_client found client_steps) s verb (stepped w (event.Step s) fate)
first_step ends w h s verb fate stands found at = grind (arith, first_by)

-- ---- a session with nothing to collect
abbrev CollectLowers : State → ℕ → Step → Type 0
CollectLowers w s step = session_left step.state s verb.Collect (after_serving (halt_of step.stop)) < 1 + drive_left w s

idle_by : (w : State) (h : List Item) (s : ℕ) (fate : Fate) (c : Client) (e : Event) → ReachedInvariant w h → ClientAt w.clients s c → place_of w s ≡ None → idle_next s (client_doing c) ≡ Some e → (why : Option Cause) → step_refusal c.entry.state (is_reading c) ≡ why → CollectLowers w s (stepped w (event.Step s) fate)
idle_by w h s fate c e stands at none idle why is =
    grind (arith, not_idle, has_work, plainly_refused, client_now, undriven_at, refused_unhanded, step_refused)

idle_at : (w : State) (h : List Item) (s : ℕ) (fate : Fate) (e : Event) → ReachedInvariant w h → place_of w s ≡ None → (found : Option Client) → slice_get w.clients s ≡ found → idle_next s (doing_at found) ≡ Some e → CollectLowers w s (stepped w (event.Step s) fate)
idle_at w h s fate e stands none found at is = grind (arith, idle_by)

collect_at : (clocks : Clocks) (w : State) (h : List Item) (s : ℕ) (fate : Fate) (e : Event) → ReachedInvariant w h → (request : Option (ℕ × Place)) → place_of w s ≡ request → collect_next clocks s (view_of w (Session s)) request ≡ Some e → CollectLowers w s (stepped w e fate)
collect_at clocks w h s fate e stands None at is = subst (λ (x : Event). CollectLowers w s (stepped w x fate)) (idling_by s (doing_of w s) e is) (idle_at w h s fate e stands at (slice_get w.clients s) refl is)
collect_at clocks w h s fate e stands (Some request) at is = omega (arith, drive_at clocks w h s verb.Collect verb.Collect fate e stands (Some request) at is)

-- ---- any line of a session
opens_lower : (ends : StepsEnd) (clocks : Clocks) (w : State) (h : List Item) (s : ℕ) (line : Verb) (fate : Fate) (e : Event) → ReachedInvariant w h → session_opens clocks s line (view_of w (Session s)) ≡ Some e → SessionLowers w s line Opens e fate
opens_lower ends clocks w h s (verb.Begin to) fate e stands is = subst (λ (x : Event). SessionLowers w s (verb.Begin to) Opens x fate) (same_Some (event.AskBegin s (target_node clocks to)) e is) (begin_lowers w s (target_node clocks to) (verb.Begin to) fate)
opens_lower ends clocks w h s (verb.Commit to) fate e stands is = subst (λ (x : Event). SessionLowers w s (verb.Commit to) Opens x fate) (same_Some (event.AskCommit s (target_node clocks to)) e is) (commit_lowers w s (target_node clocks to) (verb.Commit to) fate)
opens_lower ends clocks w h s (verb.Submit to) fate e stands is = subst (λ (x : Event). SessionLowers w s (verb.Submit to) Opens x fate) (same_Some (event.AskCommit s (target_node clocks to)) e is) (commit_lowers w s (target_node clocks to) (verb.Submit to) fate)
opens_lower ends clocks w h s (verb.Write key value) fate e stands is = subst (λ (x : Event). SessionLowers w s (verb.Write key value) Opens x fate) (same_Some (event.Write s key value) e is) (write_lowers w s key value (verb.Write key value) fate)
opens_lower ends clocks w h s (verb.Read key) fate e stands is = subst (λ (x : Event). SessionLowers w s (verb.Read key) Opens x fate) (same_Some (event.Fetch s key) e is) (fetch_lowers ends.reads w s key (verb.Read key) fate)
opens_lower ends clocks w h s verb.Abort fate e stands is = subst (λ (x : Event). SessionLowers w s verb.Abort Opens x fate) (same_Some (event.Abort s) e is) (abort_lowers w s verb.Abort fate)
opens_lower ends clocks w h s verb.Finish fate e stands is = subst (λ (x : Event). SessionLowers w s verb.Finish Opens x fate) (same_Some (event.Step s) e is) (first_step ends w h s verb.Finish fate stands (slice_get w.clients s) refl)
opens_lower ends clocks w h s verb.Collect fate e stands is = collect_at clocks w h s fate e stands (place_of w s) refl is
opens_lower ends clocks w h s (verb.Sweep node txn) fate e stands is = absurd (none-some e is)
opens_lower ends clocks w h s _ fate e stands is = omega arith

pub session_lowers : (ends : StepsEnd) (clocks : Clocks) (w : State) (h : List Item) (s : ℕ) (line : Verb) (point : Point) (fate : Fate) (e : Event) → ReachedInvariant w h → session_next clocks s line (view_of w (Session s)) point ≡ Some e → SessionLowers w s line point e fate
session_lowers ends clocks w h s line point fate e stands is =
    grind (arith, opens_lower, drive_at, extends_at, finish_at, reads_at, steps_at, none-some)
