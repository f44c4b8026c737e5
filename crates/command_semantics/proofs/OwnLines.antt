-- For turn_rules too.
-- The items of a line that has an opening item: its first answers it, and a read that it has begun ends.
use Rattle.std.proofs.Common.{arith}
use Rattle.command_semantics.proofs.Names.{◌≡◌, ℕ, ◌<◌, true, List, ◌++◌, Option, Some, None, ◌⊎◌, inl, inr, refl, sym}
use Rattle.command_semantics.proofs.Names.{◌∙◌, subst, same_Some, Fate, Actor, Clock, Node, Session, Janitor, Item}
use Rattle.command_semantics.proofs.Names.{Event, State, Step, stepped, doing_of, Target, Verb, ReachedInvariant, Point}
use Rattle.command_semantics.proofs.Names.{Opens, View, halt_of, follows, Clocks, target_node, read_next, next}
use Rattle.command_semantics.proofs.Names.{IsAnswer, read_begun, has_opening, ActorFits, VerbFits}
use Rattle.machine.specs.declared.event.Event.TheVariants as event
use Rattle.script_data.specs.declared.line.Verb.TheVariants as verb
use Rattle.command_semantics.proofs.AllLower.{followed_once}
use Rattle.command_semantics.proofs.AlwaysFit.{Fit, found}
use Rattle.command_semantics.proofs.OpeningItems.{Begins}
use Rattle.command_semantics.proofs.OpenedLines.{line_answered}
use Rattle.command_semantics.proofs.PlainEvents.{events_plain}
use Rattle.command_semantics.proofs.LaterEvents.{IsLater, later_opens_none}
use Rattle.command_semantics.proofs.Walks.{AllNot, plain_not, not_append, paid_before, paid_behind, Behind, LineItems}
use Rattle.command_semantics.proofs.ReadLines.{ReadsKey, EndsOrReads}
use Rattle.command_semantics.proofs.ReadSteps.{read_has_next}
use Rattle.command_semantics.proofs.FetchLines.{ReadAnswer, ReadBegun, fetch_done}

-- ---- a run that has opened
pub follows_later : (line : Verb) (at : Point) (step : Step) → IsLater (follows line at (halt_of step.stop))
follows_later line at step = grind (arith, followed_once)

-- ---- after the first event
-- a read of the line is under way
pub record ReadOn (actor : Actor) (line : Verb) (w : State) (xs : List Item) : Type 0 where
  pub s : ℕ
  pub key : ℕ
  pub actor_is : actor ≡ Session s
  pub verb_is : line ≡ verb.Read key
  pub begun : ReadBegun w s key xs

abbrev pub AfterOpen : (Target → ℕ → Type 0) → Actor → Verb → Step → Type 0
AfterOpen asks actor line step = LineItems (IsAnswer asks actor line) actor line step.items ⊎ (ReadOn actor line step.state step.items × (step.stop ≡ None))

-- a line that reads nothing
answered_line : (A : Item → Type 0) (actor : Actor) (line : Verb) (xs : List Item) → ((x : Item) → read_begun line x ≡ None) → Begins A xs → LineItems A actor line xs
answered_line A actor line xs reads k = record { first = k.first; rest = k.rest; is = k.is; answers = k.answers; behind = subst (λ (begun : Option ℕ). Behind actor begun k.rest) (sym (reads k.first)) (plain_not actor k.rest k.plain) }

fetch_opens : (asks : Target → ℕ → Type 0) (w : State) (h : List Item) (s key : ℕ) (fate : Fate) → ReachedInvariant w h → Fit w → s < 16 → AfterOpen asks (Session s) (verb.Read key) (stepped w (event.Fetch s key) fate)
fetch_opens asks w h s key fate stands fit in_range =
    let mine = found w.clients s (subst (λ (m : ℕ). s < m) (sym fit.clients) in_range) in
    elim (fetch_done w h s key fate mine.0 stands fit mine.1) [
      | inl line ↦ inl line
      | inr on ↦ inr (record { s = s; key = key; actor_is = refl; verb_is = refl; begun = on.0 }, on.1)
    ]

pub opens_line : (asks : Target → ℕ → Type 0) (clocks : Clocks) (w : State) (h : List Item) (actor : Actor) (line : Verb) (view : View) (e : Event) (fate : Fate) → ReachedInvariant w h → Fit w → ActorFits w.setup actor → VerbFits w.setup line → clocks.master < w.setup.nodes → ((to : Target) → asks to (target_node clocks to)) → has_opening actor line ≡ true → next clocks actor line Opens view ≡ Some e → AfterOpen asks actor line (stepped w e fate)
opens_line asks clocks w h (Session s) (verb.Read key) view e fate stands fit in_range fits master may opening is = subst (λ (x : Event). AfterOpen asks (Session s) (verb.Read key) (stepped w x fate)) (same_Some (event.Fetch s key) e is) (fetch_opens asks w h s key fate stands fit in_range)
opens_line asks clocks w h Clock (verb.Read key) view e fate stands fit in_range fits master may opening is = absurd (cc)
opens_line asks clocks w h (Node n) (verb.Read key) view e fate stands fit in_range fits master may opening is = absurd (cc)
opens_line asks clocks w h Janitor (verb.Read key) view e fate stands fit in_range fits master may opening is = absurd (cc)
opens_line asks clocks w h actor line view e fate stands fit in_range fits master may opening is = inl (answered_line (IsAnswer asks actor line) actor line (stepped w e fate).items (λ x. refl) (line_answered asks clocks w h actor line view e fate stands fit in_range fits master may opening is))

-- ---- later events
pub line_longer : (A : Item → Type 0) (actor : Actor) (line : Verb) (xs items : List Item) → LineItems A actor line xs → AllNot actor items → LineItems A actor line (xs ++ items)
line_longer A actor line xs items k none = grind (arith, not_append, paid_behind)

pub later_plain : (clocks : Clocks) (w : State) (actor other : Actor) (line : Verb) (at : Point) (view : View) (e : Event) (fate : Fate) → IsLater at → next clocks actor line at view ≡ Some e → AllNot other (stepped w e fate).items
later_plain clocks w actor other line at view e fate later is = plain_not other (stepped w e fate).items (events_plain w e fate (later_opens_none clocks actor line at view e later is))

-- a read goes on, or has ended
pub read_longer : (w : State) (s key : ℕ) (xs : List Item) (step : Step) → ReadBegun w s key xs → EndsOrReads s key step → LineItems (ReadAnswer s key) (Session s) (verb.Read key) (xs ++ step.items) ⊎ (ReadBegun step.state s key (xs ++ step.items) × (step.stop ≡ None))
read_longer w s key xs step k h = grind (arith, paid_before, not_append)

-- the next event of a read under way
pub read_next_is : (w : State) (s key : ℕ) (e : Event) → ReadsKey w s key → read_next s (doing_of w s) ≡ Some e → event.Step s ≡ e
read_next_is w s key e reads is = same_Some (event.Step s) e (sym (read_has_next w s key reads) ∙ is)

-- ---- a line with an opening item has a first event
pub opens_some : (clocks : Clocks) (actor : Actor) (line : Verb) (view : View) → has_opening actor line ≡ true → next clocks actor line Opens view ≡ None → ⊥
opens_some clocks actor line view opening is = grind arith
