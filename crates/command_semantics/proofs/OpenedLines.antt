-- For turn_rules and log_refinement too.
-- The first event of a line that has an opening item answers the line, where all that the line names is there.
use Rattle.std.proofs.Common.{arith}
use Rattle.command_semantics.proofs.Names.{◌≡◌, ℕ, ◌<◌, true, List, Option, Some, ◌⊎◌, inl, refl, sym, subst}
use Rattle.command_semantics.proofs.Names.{slice_get, same_Some, SetupNumbers, Fate, Actor, Clock, Node, Session}
use Rattle.command_semantics.proofs.Names.{Janitor, Note, Item, InstanceEntry, Event, Client, State, Step, at_post}
use Rattle.command_semantics.proofs.Names.{at_client, at_both, with_reading, stepped, Target, Verb, ReachedInvariant}
use Rattle.command_semantics.proofs.Names.{Opens, View, Clocks, reading_at, target_node, next, ActorFits, TargetFits}
use Rattle.command_semantics.proofs.Names.{VerbFits, IsAskBegin, IsAskCommit, IsRefusal, IsReadOnly, IsAnswer}
use Rattle.command_semantics.proofs.Names.{has_opening}
use Rattle.history_book.specs.declared.item.Note.TheVariants as note
use Rattle.history_book.specs.declared.item.Item.TheVariants as item
use Rattle.machine.specs.declared.event.Event.TheVariants as event
use Rattle.script_data.specs.declared.line.Verb.TheVariants as verb
use Rattle.command_semantics.proofs.Fitting.{fit_at}
use Rattle.command_semantics.proofs.AlwaysFit.{Fit, found}
use Rattle.command_semantics.proofs.OpeningItems.{Begins, BeginAnswer, alone, take_begins, renew_begins, crash_begins, ask_begin_begins, vanish_begins}
use Rattle.command_semantics.proofs.WorkItems.{CommitAnswer, starts, ask_commit_begins, write_begins, fetch_begins}

-- ---- parts that are there
weaken : (A B : Item → Type 0) (xs : List Item) → ((x : Item) → A x → B x) → Begins A xs → Begins B xs
weaken A B xs weaker k = record { first = k.first; rest = k.rest; is = k.is; answers = weaker k.first k.answers; plain = k.plain }

post_at : (w : State) (n : ℕ) → Fit w → n < w.setup.nodes → (post : Option InstanceEntry) × (slice_get w.nodes n ≡ Some post)
post_at w n fit less = found w.nodes n (subst (λ (m : ℕ). n < m) (sym fit.nodes) less)

client_at : (w : State) (s : ℕ) → Fit w → s < 16 → (c : Client) × (slice_get w.clients s ≡ Some c)
client_at w s fit less = found w.clients s (subst (λ (m : ℕ). s < m) (sym fit.clients) less)

at_node : (A : Item → Type 0) (u : State) (f : Option InstanceEntry → Step) (there : Option (Option InstanceEntry)) (post : Option InstanceEntry) → there ≡ Some post → Begins A (f post).items → Begins A (at_post u there f).items
at_node A u f there post is begins = subst (λ (x : Option (Option InstanceEntry)). Begins A (at_post u x f).items) (sym is) begins

at_session : (A : Item → Type 0) (u : State) (f : Client → Step) (there : Option Client) (c : Client) → there ≡ Some c → Begins A (f c).items → Begins A (at_client u there f).items
at_session A u f there c is begins = subst (λ (x : Option Client). Begins A (at_client u x f).items) (sym is) begins

at_ask : (A : Item → Type 0) (u : State) (f : Option InstanceEntry → Client → Step) (node : Option (Option InstanceEntry)) (there : Option Client) (post : Option InstanceEntry) (c : Client) → node ≡ Some post → there ≡ Some c → Begins A (f post c).items → Begins A (at_both u node there f).items
at_ask A u f post_there there post c post_is is begins = subst (λ (x : Option (Option InstanceEntry)). Begins A (at_both u x there f).items) (sym post_is) (subst (λ (x : Option Client). Begins A (at_both u (Some post) x f).items) (sym is) begins)

-- ---- each event
abbrev Answered : (Target → ℕ → Type 0) → State → Actor → Verb → Event → Fate → Type 0
Answered asks w actor line e fate = Begins (IsAnswer asks actor line) (stepped w e fate).items

-- an answer is the opening item, or a refusal
either : (O R E : Type 0) → O ⊎ R → O ⊎ R ⊎ E
either O R E h = grind arith

-- an ask of a node that may be asked
begins_so : (s n : ℕ) (may : ℕ → Type 0) → may n → (x : Item) → BeginAnswer s n x → IsAskBegin s may x ⊎ IsRefusal (Session s) x ⊎ ⊥
begins_so s n may here x h = grind arith

asks_commit : (s n : ℕ) (may : ℕ → Type 0) → may n → (x : Item) → IsAskCommit s (λ asked. asked ≡ n) x → IsAskCommit s may x
asks_commit s n may here (item.AskCommit session node start) is = (is.0, subst may (sym is.1) here)
asks_commit s n may here _ is = absurd is

commits_so : (s n : ℕ) (may : ℕ → Type 0) → may n → (x : Item) → CommitAnswer s n x → IsAskCommit s may x ⊎ IsRefusal (Session s) x ⊎ IsReadOnly s x
commits_so s n may here x h = grind (arith, asks_commit)

target_fits : (setup : SetupNumbers) (clocks : Clocks) (to : Target) → TargetFits setup to → clocks.master < setup.nodes → target_node clocks to < setup.nodes
target_fits setup clocks to fits master = grind arith

took : (asks : Target → ℕ → Type 0) (w : State) (n reading : ℕ) (fate : Fate) → Fit w → n < w.setup.nodes → Answered asks w (Node n) verb.Take (event.Take n reading) fate
took asks w n reading fate fit less =
    let there = post_at w n fit less in
    at_node _ (with_reading w reading) _ (slice_get w.nodes n) there.0 there.1 (weaken _ _ _ (λ x. either _ _ _) (take_begins w n reading fate there.0))

renewed : (asks : Target → ℕ → Type 0) (w : State) (n reading : ℕ) (fate : Fate) → Fit w → n < w.setup.nodes → Answered asks w (Node n) verb.Renew (event.Renew n reading) fate
renewed asks w n reading fate fit less =
    let there = post_at w n fit less in
    at_node _ (with_reading w reading) _ (slice_get w.nodes n) there.0 there.1 (weaken _ _ _ (λ x. either _ _ _) (renew_begins w n reading fate there.0))

crashed : (asks : Target → ℕ → Type 0) (w : State) (n : ℕ) (fate : Fate) → Fit w → n < w.setup.nodes → Answered asks w (Node n) verb.Crash (event.Crash n) fate
crashed asks w n fate fit less =
    let there = post_at w n fit less in
    at_node _ w _ (slice_get w.nodes n) there.0 there.1 (weaken _ _ _ (λ x. either _ _ _) (crash_begins w n there.0))

begun : (w : State) (s n : ℕ) (may : ℕ → Type 0) (fate : Fate) → Fit w → s < 16 → n < w.setup.nodes → may n → Begins (λ x. IsAskBegin s may x ⊎ IsRefusal (Session s) x ⊎ ⊥) (stepped w (event.AskBegin s n) fate).items
begun w s n may fate fit in_range less here =
    let there = post_at w n fit less in
    let mine = client_at w s fit in_range in
    at_ask _ w _ (slice_get w.nodes n) (slice_get w.clients s) there.0 mine.0 there.1 mine.1 (weaken _ _ _ (begins_so s n may here) (ask_begin_begins s n mine.0 there.0))

asked : (w : State) (h : List Item) (s n : ℕ) (may : ℕ → Type 0) (fate : Fate) → ReachedInvariant w h → Fit w → s < 16 → n < w.setup.nodes → may n → Begins (λ x. IsAskCommit s may x ⊎ IsRefusal (Session s) x ⊎ IsReadOnly s x) (stepped w (event.AskCommit s n) fate).items
asked w h s n may fate stands fit in_range less here =
    let there = post_at w n fit less in
    let mine = client_at w s fit in_range in
    at_ask _ w _ (slice_get w.nodes n) (slice_get w.clients s) there.0 mine.0 there.1 mine.1 (weaken _ _ _ (commits_so s n may here) (ask_commit_begins s n mine.0 there.0 (starts w h s mine.0 stands mine.1)))

wrote : (asks : Target → ℕ → Type 0) (w : State) (h : List Item) (s key : ℕ) (value : List ℕ) (fate : Fate) → ReachedInvariant w h → Fit w → s < 16 → Answered asks w (Session s) (verb.Write key value) (event.Write s key value) fate
wrote asks w h s key value fate stands fit in_range =
    let mine = client_at w s fit in_range in
    at_session _ w _ (slice_get w.clients s) mine.0 mine.1 (weaken _ _ _ (λ x. either _ _ _) (write_begins s key value fate mine.0 w.rows (starts w h s mine.0 stands mine.1)))

fetches : (asks : Target → ℕ → Type 0) (w : State) (h : List Item) (s key : ℕ) (fate : Fate) → ReachedInvariant w h → Fit w → s < 16 → Answered asks w (Session s) (verb.Fetch key) (event.Fetch s key) fate
fetches asks w h s key fate stands fit in_range =
    let mine = client_at w s fit in_range in
    at_session _ w _ (slice_get w.clients s) mine.0 mine.1 (weaken _ _ _ (λ x. either _ _ _) (fetch_begins w.setup s key fate mine.0 w.rows (starts w h s mine.0 stands mine.1) (fit_at w.clients s mine.0 fit.epochs mine.1)))

vanished : (asks : Target → ℕ → Type 0) (w : State) (s : ℕ) (fate : Fate) → Fit w → s < 16 → Answered asks w (Session s) verb.Vanish (event.Vanish s) fate
vanished asks w s fate fit in_range =
    let mine = client_at w s fit in_range in
    at_session _ w _ (slice_get w.clients s) mine.0 mine.1 (weaken _ _ _ (λ x. either _ _ _) (vanish_begins s mine.0))

-- ---- each line
by_event : (asks : Target → ℕ → Type 0) (w : State) (actor : Actor) (line : Verb) (fate : Fate) (made e : Event) → Some made ≡ Some e → Answered asks w actor line made fate → Answered asks w actor line e fate
by_event asks w actor line fate made e is answered = subst (λ (x : Event). Answered asks w actor line x fate) (same_Some made e is) answered

noted : (asks : Target → ℕ → Type 0) (w : State) (actor : Actor) (line : Verb) (said : Note) (fate : Fate) → IsAnswer asks actor line (item.Note actor said) → Answered asks w actor line (event.Note actor said) fate
noted asks w actor line said fate answers = alone _ _ answers

session_answered : (asks : Target → ℕ → Type 0) (clocks : Clocks) (w : State) (h : List Item) (s : ℕ) (line : Verb) (view : View) (e : Event) (fate : Fate) → ReachedInvariant w h → Fit w → s < 16 → VerbFits w.setup line → clocks.master < w.setup.nodes → ((to : Target) → asks to (target_node clocks to)) → has_opening (Session s) line ≡ true → next clocks (Session s) line Opens view ≡ Some e → Answered asks w (Session s) line e fate
session_answered asks clocks w h s (verb.Begin to) view e fate stands fit in_range fits master may opening is = by_event asks w (Session s) (verb.Begin to) fate (event.AskBegin s (target_node clocks to)) e is (begun w s (target_node clocks to) (asks to) fate fit in_range (target_fits w.setup clocks to fits master) (may to))
session_answered asks clocks w h s (verb.AskBegin node) view e fate stands fit in_range fits master may opening is = by_event asks w (Session s) (verb.AskBegin node) fate (event.AskBegin s node) e is (begun w s node (λ n. n ≡ node) fate fit in_range fits refl)
session_answered asks clocks w h s (verb.Commit to) view e fate stands fit in_range fits master may opening is = by_event asks w (Session s) (verb.Commit to) fate (event.AskCommit s (target_node clocks to)) e is (asked w h s (target_node clocks to) (asks to) fate stands fit in_range (target_fits w.setup clocks to fits master) (may to))
session_answered asks clocks w h s (verb.Submit to) view e fate stands fit in_range fits master may opening is = by_event asks w (Session s) (verb.Submit to) fate (event.AskCommit s (target_node clocks to)) e is (asked w h s (target_node clocks to) (asks to) fate stands fit in_range (target_fits w.setup clocks to fits master) (may to))
session_answered asks clocks w h s (verb.AskCommit node) view e fate stands fit in_range fits master may opening is = by_event asks w (Session s) (verb.AskCommit node) fate (event.AskCommit s node) e is (asked w h s node (λ n. n ≡ node) fate stands fit in_range fits refl)
session_answered asks clocks w h s (verb.Write key value) view e fate stands fit in_range fits master may opening is = by_event asks w (Session s) (verb.Write key value) fate (event.Write s key value) e is (wrote asks w h s key value fate stands fit in_range)
session_answered asks clocks w h s (verb.Read key) view e fate stands fit in_range fits master may opening is = by_event asks w (Session s) (verb.Read key) fate (event.Fetch s key) e is (fetches asks w h s key fate stands fit in_range)
session_answered asks clocks w h s (verb.Fetch key) view e fate stands fit in_range fits master may opening is = by_event asks w (Session s) (verb.Fetch key) fate (event.Fetch s key) e is (fetches asks w h s key fate stands fit in_range)
session_answered asks clocks w h s verb.Vanish view e fate stands fit in_range fits master may opening is = by_event asks w (Session s) verb.Vanish fate (event.Vanish s) e is (vanished asks w s fate fit in_range)
session_answered asks clocks w h s (verb.Post name) view e fate stands fit in_range fits master may opening is = by_event asks w (Session s) (verb.Post name) fate (event.Note (Session s) (note.Post name)) e is (noted asks w (Session s) (verb.Post name) (note.Post name) fate (inl (refl, refl)))
session_answered asks clocks w h s (verb.Await name) view e fate stands fit in_range fits master may opening is = by_event asks w (Session s) (verb.Await name) fate (event.Note (Session s) (note.Await name)) e is (noted asks w (Session s) (verb.Await name) (note.Await name) fate (inl (refl, refl)))
session_answered asks clocks w h s _ view e fate stands fit in_range fits master may opening is = absurd (cc)

node_answered : (asks : Target → ℕ → Type 0) (clocks : Clocks) (w : State) (n : ℕ) (line : Verb) (view : View) (e : Event) (fate : Fate) → Fit w → n < w.setup.nodes → has_opening (Node n) line ≡ true → next clocks (Node n) line Opens view ≡ Some e → Answered asks w (Node n) line e fate
node_answered asks clocks w n verb.Take view e fate fit less opening is = by_event asks w (Node n) verb.Take fate (event.Take n (reading_at clocks n)) e is (took asks w n (reading_at clocks n) fate fit less)
node_answered asks clocks w n verb.Renew view e fate fit less opening is = by_event asks w (Node n) verb.Renew fate (event.Renew n (reading_at clocks n)) e is (renewed asks w n (reading_at clocks n) fate fit less)
node_answered asks clocks w n verb.Crash view e fate fit less opening is = by_event asks w (Node n) verb.Crash fate (event.Crash n) e is (crashed asks w n fate fit less)
node_answered asks clocks w n (verb.Hold stage) view e fate fit less opening is = by_event asks w (Node n) (verb.Hold stage) fate (event.Note (Node n) (note.Hold stage)) e is (noted asks w (Node n) (verb.Hold stage) (note.Hold stage) fate (inl (refl, refl)))
node_answered asks clocks w n (verb.Free stage) view e fate fit less opening is = by_event asks w (Node n) (verb.Free stage) fate (event.Note (Node n) (note.Free stage)) e is (noted asks w (Node n) (verb.Free stage) (note.Free stage) fate (inl (refl, refl)))
node_answered asks clocks w n (verb.Post name) view e fate fit less opening is = by_event asks w (Node n) (verb.Post name) fate (event.Note (Node n) (note.Post name)) e is (noted asks w (Node n) (verb.Post name) (note.Post name) fate (inl (refl, refl)))
node_answered asks clocks w n (verb.Await name) view e fate fit less opening is = by_event asks w (Node n) (verb.Await name) fate (event.Note (Node n) (note.Await name)) e is (noted asks w (Node n) (verb.Await name) (note.Await name) fate (inl (refl, refl)))
node_answered asks clocks w n _ view e fate fit less opening is = absurd (cc)

other_answered : (asks : Target → ℕ → Type 0) (w : State) (clocks : Clocks) (line : Verb) (view : View) (e : Event) (fate : Fate) → has_opening Clock line ≡ true → next clocks Clock line Opens view ≡ Some e → Answered asks w Clock line e fate
other_answered asks w clocks (verb.Tick by) view e fate opening is = by_event asks w Clock (verb.Tick by) fate (event.Tick _) e is (alone _ _ (inl tt))
other_answered asks w clocks (verb.Post name) view e fate opening is = by_event asks w Clock (verb.Post name) fate (event.Note Clock (note.Post name)) e is (noted asks w Clock (verb.Post name) (note.Post name) fate (inl (refl, refl)))
other_answered asks w clocks (verb.Await name) view e fate opening is = by_event asks w Clock (verb.Await name) fate (event.Note Clock (note.Await name)) e is (noted asks w Clock (verb.Await name) (note.Await name) fate (inl (refl, refl)))
other_answered asks w clocks _ view e fate opening is = absurd (cc)

janitor_answered : (asks : Target → ℕ → Type 0) (w : State) (clocks : Clocks) (line : Verb) (view : View) (e : Event) (fate : Fate) → has_opening Janitor line ≡ true → next clocks Janitor line Opens view ≡ Some e → Answered asks w Janitor line e fate
janitor_answered asks w clocks (verb.Post name) view e fate opening is = by_event asks w Janitor (verb.Post name) fate (event.Note Janitor (note.Post name)) e is (noted asks w Janitor (verb.Post name) (note.Post name) fate (inl (refl, refl)))
janitor_answered asks w clocks (verb.Await name) view e fate opening is = by_event asks w Janitor (verb.Await name) fate (event.Note Janitor (note.Await name)) e is (noted asks w Janitor (verb.Await name) (note.Await name) fate (inl (refl, refl)))
janitor_answered asks w clocks _ view e fate opening is = absurd (cc)

pub line_answered : (asks : Target → ℕ → Type 0) (clocks : Clocks) (w : State) (h : List Item) (actor : Actor) (line : Verb) (view : View) (e : Event) (fate : Fate) → ReachedInvariant w h → Fit w → ActorFits w.setup actor → VerbFits w.setup line → clocks.master < w.setup.nodes → ((to : Target) → asks to (target_node clocks to)) → has_opening actor line ≡ true → next clocks actor line Opens view ≡ Some e → Begins (IsAnswer asks actor line) (stepped w e fate).items
line_answered asks clocks w h Clock line view e fate stands fit in_range fits master may opening is = other_answered asks w clocks line view e fate opening is
line_answered asks clocks w h (Node n) line view e fate stands fit in_range fits master may opening is = node_answered asks clocks w n line view e fate fit in_range opening is
line_answered asks clocks w h (Session s) line view e fate stands fit in_range fits master may opening is = session_answered asks clocks w h s line view e fate stands fit in_range fits master may opening is
line_answered asks clocks w h Janitor line view e fate stands fit in_range fits master may opening is = janitor_answered asks w clocks line view e fate opening is
