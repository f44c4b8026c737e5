-- What the items of a session's step say of it: a fault, a removal or an idle refusal that it rests then; an erase what it undoes.
use Rattle.log_refinement.proofs.Names.{◌≡◌, ℕ, Bool, true, false, List, [], ◌∷◌, ◌++◌, Option, None, Some, inl, inr}
use Rattle.log_refinement.proofs.Names.{refl, sym, ◌∙◌, ap, subst, none-some, slice_get, slice_set, IsTrue, Mark, Fate}
use Rattle.log_refinement.proofs.Names.{Works, FailsUnchanged, FailsApplied, ◌∈◌, Cause, Session, Item, Pairs, mark_of}
use Rattle.log_refinement.proofs.Names.{SessionState, SessionEntry, step_refusal, handed_by, handed_commit}
use Rattle.log_refinement.proofs.Names.{has_transaction, UnderWay, Settles, Completes, Client, State, is_reading}
use Rattle.log_refinement.proofs.Names.{is_reading_by, client_freed, Effect, Step, stepped, at_client, step_by}
use Rattle.log_refinement.proofs.Names.{with_client, ClientAt, ReachedInvariant, client_set, one_client, set_found}
use Rattle.std.specs.Prelude.{if◌then◌else◌}
use Rattle.history_book.specs.declared.cause.Cause.TheVariants as cause
use Rattle.history_book.specs.declared.item.StoreStep.TheVariants as step
use Rattle.history_book.specs.declared.item.Item.TheVariants as item
use Rattle.system_parts.specs.Rows.{Row}
use Rattle.system_parts.specs.declared.asks.Ask.{Ask}
use Rattle.system_parts.specs.declared.asks.Ask.TheVariants as ask
use Rattle.system_parts.specs.declared.asks.Told.{Told}
use Rattle.system_parts.specs.declared.asks.Told.TheVariants as told
use Rattle.system_parts.specs.declared.resolve.Outcome.TheVariants as outcome
use Rattle.system_parts.specs.declared.resolve.SettlePoint.{SettlePoint}
use Rattle.system_parts.specs.declared.resolve.SettlePoint.TheVariants as point
use Rattle.system_parts.specs.declared.session.State.TheVariants as phase
use Rattle.system_parts.specs.Completion.{finish_asks, undo_asks}
use Rattle.system_parts.specs.KeyRead.{Reading, ReadTurn, Asks, Answers, read_ask}
use Rattle.system_parts.specs.Recalled.{Remembering}
use Rattle.system_parts.specs.Resolve.{Settling, own_settling, ask_at, settle_ask, SettleTurn, Decides, settle_turn}
use Rattle.machine.specs.declared.event.Event.TheVariants as event
use Rattle.machine.specs.State.{Nothing, Reads}
use Rattle.machine.specs.Events.Fetch.{client_recalled, client_put_fresh, read_items}
use Rattle.machine.specs.Events.Place.{place_by}
use Rattle.machine.specs.Events.Step.{StepParts, step_recall, settle_items, client_settled, read_step, settle_step, complete_step, placed_among, after_asks, own_resolve, work_by, work_of, step_at, step_due, step_by as step_refused, step_on}
use Rattle.machine.specs.StoreSteps.{met, entry_of, mark_item, step_item, mark_kept, effect_items, store_of, told_by}
use Rattle.isolation_laws.specs.Words.{Begun}
use Rattle.isolation_laws.specs.UnderWay.{IsUndo}

-- ---- what items say
-- the session neither places a commit nor completes a transaction
abbrev pub rests : SessionState → Bool
rests phase.Placing = false
rests (phase.Completing undo) = false
rests _ = true

-- by a fault, a removal or an idle refusal, that the session rests then; by an erase, that it undoes this transaction
abbrev pub Says : ℕ → Client → Client → Item → Type 0
Says r c d (item.Fault (Session session) store) = (session ≡ r) × (rests d.entry.state ≡ true)
Says r c d (item.Refused (Session session) cause.Idle) = (session ≡ r) × (rests d.entry.state ≡ true)
Says r c d (item.Step (Session session) (step.Remove txn)) = (session ≡ r) × (rests d.entry.state ≡ true)
Says r c d (item.Step (Session session) (step.Erase key txn)) = (session ≡ r) × (c.entry.state ≡ phase.Completing true) × (c.entry.start ≡ Some txn)
Says r c d _ = Unit {0}

-- ---- all of some items
unfoldable pub Each : (Item → Type 0) → List Item → Type 0
Each P [] = Unit {0}
Each P (x ∷ xs) = P x × Each P xs

each_append : (P : Item → Type 0) (xs ys : List Item) → Each P xs → Each P ys → Each P (xs ++ ys)
unfolding Each
each_append P [] ys first rest = rest
each_append P (x ∷ xs) ys first rest = (first.0, each_append P xs ys first.1 rest)

each_in : (P : Item → Type 0) (xs : List Item) (x : Item) → Each P xs → x ∈ xs → P x
unfolding Each ◌∈◌
each_in P [] x each m = absurd m
each_in P (y ∷ ys) x each (inl same) = subst P (sym same) each.0
each_in P (y ∷ ys) x each (inr m) = each_in P ys x each.1 m

one_each : (P : Item → Type 0) (x : Item) → P x → Each P (x ∷ [])
unfolding Each
one_each P x is = (is, tt)

-- ---- a step on a store
-- a removal leaves the session at rest, and an erase is of the transaction that it undoes
pub record Fit (c d : Client) (asked : Ask) : Type 0 where
  pub removes : (txn : ℕ) → asked ≡ ask.Remove txn → rests d.entry.state ≡ true
  pub erases : (key txn : ℕ) → asked ≡ ask.Erase key txn → (c.entry.state ≡ phase.Completing true) × (c.entry.start ≡ Some txn)

mark_says : (r : ℕ) (c d : Client) (txn : ℕ) (found : Option Mark) → Says r c d (mark_item (Session r) txn found)
mark_says r c d txn None = tt
mark_says r c d txn (Some found) = tt

step_says : (r : ℕ) (c d : Client) (asked : Ask) (answer : Told) → Fit c d asked → Says r c d (step_item (Session r) asked answer)
step_says r c d (ask.Get txn) answer fit = tt
step_says r c d (ask.Mark txn) answer fit = mark_says r c d txn (entry_of answer)
step_says r c d (ask.Look key txn) answer fit = tt
step_says r c d (ask.Shadow key txn commit) answer fit = tt
step_says r c d (ask.Remove txn) answer fit = (refl, fit.removes txn refl)
step_says r c d (ask.Erase key txn) answer fit = let is = fit.erases key txn refl in (refl, is.0, is.1)
step_says r c d (ask.Keys txn) answer fit = tt

mark_kept_says : (r : ℕ) (c d : Client) (asked : Ask) (answer : Told) → Each (Says r c d) (mark_kept (Session r) asked answer)
unfolding Each
mark_kept_says r c d (ask.Mark txn) told.Marked = (tt, tt)
mark_kept_says r c d _ _ = tt

kept_says : (r : ℕ) (c d : Client) (asked : Ask) (answer : Told) (fate : Fate) → Each (Says r c d) (effect_items (Session r) asked answer fate)
unfolding Each
kept_says r c d asked answer FailsApplied = mark_kept_says r c d asked answer
kept_says r c d asked answer _ = tt

-- a call that fails leaves the session at rest
failed_says : (r : ℕ) (c d : Client) (asked : Ask) (answer : Told) (fate : Fate) → rests d.entry.state ≡ true → Each (Says r c d) (effect_items (Session r) asked answer fate ++ item.Fault (Session r) (store_of asked) ∷ [])
failed_says r c d asked answer fate rest = each_append (Says r c d) (effect_items (Session r) asked answer fate) _ (kept_says r c d asked answer fate) (one_each (Says r c d) (item.Fault (Session r) (store_of asked)) (refl, rest))

-- ---- reads and resolves neither remove nor erase
asks_only : (c d : Client) (key txn : ℕ) (at : SettlePoint) → Fit c d (ask_at key txn at)
asks_only c d key txn point.FirstLook = record { removes = λ t is. absurd (cc); erases = λ k t is. absurd (cc) }
asks_only c d key txn point.Table = record { removes = λ t is. absurd (cc); erases = λ k t is. absurd (cc) }
asks_only c d key txn point.Marking = record { removes = λ t is. absurd (cc); erases = λ k t is. absurd (cc) }
asks_only c d key txn (point.LastLook found) = record { removes = λ t is. absurd (cc); erases = λ k t is. absurd (cc) }

read_says : (r : ℕ) (c d : Client) (start key : ℕ) (turn : ReadTurn) → Each (Says r c d) (read_items r start key turn)
unfolding Each
read_says r c d start key (Asks rd) = tt
read_says r c d start key (Answers a) = (tt, tt)

settled_says : (r : ℕ) (c d : Client) (start : Option ℕ) (turn : SettleTurn) → Each (Says r c d) (settle_items r start turn)
unfolding Each
settled_says r c d (Some start) (Decides (outcome.Committed commit by_table)) = (tt, tt)
settled_says r c d (Some start) (Decides outcome.Dead) = (tt, tt)
settled_says r c d _ _ = tt

-- ---- what a step does
-- what an effect tells of the session is so
abbrev SaysOf : ℕ → Client → Effect StepParts → Type 0
SaysOf r c effect = Each (Says r c effect.parts.0) effect.items

state_rests : (c : Client) (state : SessionState) → c.entry.state ≡ state → rests state ≡ true → rests c.entry.state ≡ true
state_rests c state is rest = ap rests is ∙ rest

read_kind : (r : ℕ) (fate : Fate) (c : Client) (rd : Reading) (rows : List Row) (pairs : Pairs) → c.entry.state ≡ phase.Open → SaysOf r c (read_step r c rd (met (Session r) (read_ask rd) fate rows pairs))
unfolding Each
read_kind r Works c rd rows pairs is =
    let answer : Told = told_by (read_ask rd) rows pairs in
    let x : Remembering = step_recall (client_put_fresh c) rd answer in
    let d : Client = client_recalled (client_put_fresh c) x in
    each_append (Says r c d) (step_item (Session r) (read_ask rd) answer ∷ []) (read_items r rd.start rd.key x.0)
    (one_each (Says r c d) (step_item (Session r) (read_ask rd) answer) (step_says r c d (read_ask rd) answer (asks_only c d rd.key rd.cell.version rd.point)))
    (read_says r c d rd.start rd.key x.0)
read_kind r FailsApplied c rd rows pairs is = failed_says r c (record (client_put_fresh c) { under_way = Nothing }) (read_ask rd) (told_by (read_ask rd) rows pairs) FailsApplied (state_rests c phase.Open is refl)
read_kind r FailsUnchanged c rd rows pairs is = failed_says r c (record (client_put_fresh c) { under_way = Nothing }) (read_ask rd) (told_by (read_ask rd) rows pairs) FailsUnchanged (state_rests c phase.Open is refl)

settle_kind : (r : ℕ) (fate : Fate) (c : Client) (x : Settling) (rows : List Row) (pairs : Pairs) → c.entry.state ≡ phase.OpenOutcome → SaysOf r c (settle_step r c x (met (Session r) (settle_ask x) fate rows pairs))
unfolding Each
settle_kind r Works c x rows pairs is =
    let answer : Told = told_by (settle_ask x) rows pairs in
    let turn : SettleTurn = settle_turn x answer in
    let d : Client = client_settled c x turn in
    each_append (Says r c d) (step_item (Session r) (settle_ask x) answer ∷ []) (settle_items r c.entry.start turn)
    (one_each (Says r c d) (step_item (Session r) (settle_ask x) answer) (step_says r c d (settle_ask x) answer (asks_only c d x.key x.txn x.point)))
    (settled_says r c d c.entry.start turn)
settle_kind r FailsApplied c x rows pairs is = failed_says r c (record c { under_way = Nothing }) (settle_ask x) (told_by (settle_ask x) rows pairs) FailsApplied (state_rests c phase.OpenOutcome is refl)
settle_kind r FailsUnchanged c x rows pairs is = failed_says r c (record c { under_way = Nothing }) (settle_ask x) (told_by (settle_ask x) rows pairs) FailsUnchanged (state_rests c phase.OpenOutcome is refl)

complete_kind : (r : ℕ) (fate : Fate) (c : Client) (asked : Ask) (asks : List Ask) (rows : List Row) (pairs : Pairs) → Fit c (after_asks c asks) asked → SaysOf r c (complete_step c asked asks (met (Session r) asked fate rows pairs))
unfolding Each
complete_kind r Works c asked asks rows pairs fit = one_each (Says r c (after_asks c asks)) (step_item (Session r) asked (told_by asked rows pairs)) (step_says r c (after_asks c asks) asked (told_by asked rows pairs) fit)
complete_kind r FailsApplied c asked asks rows pairs fit = failed_says r c (client_freed c) asked (told_by asked rows pairs) FailsApplied refl
complete_kind r FailsUnchanged c asked asks rows pairs fit = failed_says r c (client_freed c) asked (told_by asked rows pairs) FailsUnchanged refl

place_kind : (r start commit : ℕ) (fate : Fate) (found : Option Mark) (c : Client) (rows : List Row) (pairs : Pairs) → SaysOf r c (placed_among rows (place_by r start commit fate found c pairs))
unfolding Each
place_kind r start commit Works None c rows pairs = (tt, (tt, tt))
place_kind r start commit Works (Some found) c rows pairs = (tt, (tt, tt))
place_kind r start commit FailsApplied None c rows pairs = (tt, ((refl, refl), (tt, tt)))
place_kind r start commit FailsApplied (Some found) c rows pairs = ((refl, refl), (tt, tt))
place_kind r start commit FailsUnchanged found c rows pairs = ((refl, refl), (tt, tt))

-- ---- by what is under way
pub record FitsWork (c : Client) (work : UnderWay) : Type 0 where
  pub reads : (rd : Reading) → work ≡ Reads rd → c.entry.state ≡ phase.Open
  pub settles : (x : Settling) → work ≡ Settles x → c.entry.state ≡ phase.OpenOutcome
  pub completes : (asked : Ask) (asks : List Ask) → work ≡ Completes (asked ∷ asks) → Fit c (after_asks c asks) asked

step_kind : (r : ℕ) (fate : Fate) (c : Client) (rows : List Row) (pairs : Pairs) (work : UnderWay) → FitsWork c work → SaysOf r c (step_at r fate c rows pairs work)
unfolding Each
step_kind r fate c rows pairs Nothing fits = tt
step_kind r fate c rows pairs (Reads rd) fits = read_kind r fate c rd rows pairs (fits.reads rd refl)
step_kind r fate c rows pairs (Settles x) fits = settle_kind r fate c x rows pairs (fits.settles x refl)
step_kind r fate c rows pairs (Completes []) fits = tt
step_kind r fate c rows pairs (Completes (asked ∷ asks)) fits = complete_kind r fate c asked asks rows pairs (fits.completes asked asks refl)

due_kind : (r : ℕ) (fate : Fate) (c : Client) (rows : List Row) (pairs : Pairs) (stamps : Option (ℕ × ℕ)) → (stamps ≡ None → FitsWork c (work_of c)) → SaysOf r c (step_due r fate c rows pairs stamps)
due_kind r fate c rows pairs None fits = step_kind r fate c rows pairs (work_of c) (fits refl)
due_kind r fate c rows pairs (Some stamps) fits = place_kind r stamps.0 stamps.1 fate (mark_of pairs stamps.0) c rows _

refused_says : (r : ℕ) (c : Client) (why : Cause) → rests c.entry.state ≡ true → Says r c c (item.Refused (Session r) why)
refused_says r c cause.Idle rest = (refl, rest)
refused_says r c _ rest = tt

refused_rests : (state : SessionState) (reading : Bool) (why : Cause) → step_refusal state reading ≡ Some why → rests state ≡ true
refused_rests phase.Free reading why is = refl
refused_rests phase.Asking reading why is = refl
refused_rests phase.Open reading why is = refl
refused_rests phase.Committing reading why is = refl
refused_rests phase.Placing reading why is = absurd (none-some why is)
refused_rests phase.OpenOutcome reading why is = refl
refused_rests (phase.Completing undo) reading why is = absurd (none-some why is)
refused_rests phase.Gone reading why is = refl

refused_kind : (r : ℕ) (fate : Fate) (c : Client) (rows : List Row) (pairs : Pairs) (refusal : Option Cause) → step_refusal c.entry.state (is_reading c) ≡ refusal → (refusal ≡ None → handed_commit c.entry ≡ None → FitsWork c (work_of c)) → SaysOf r c (step_refused r fate c rows pairs refusal)
refused_kind r fate c rows pairs (Some why) is fits = one_each (Says r c c) (item.Refused (Session r) why) (refused_says r c why (refused_rests c.entry.state (is_reading c) why is))
refused_kind r fate c rows pairs None is fits = due_kind r fate c rows pairs (handed_commit c.entry) (fits refl)

-- ---- what is under way of a session that may make a step
not_handed : (e : SessionEntry) (state : SessionState) (start commit : ℕ) → e.state ≡ phase.Placing → e.start ≡ Some start → e.commit ≡ Some commit → handed_commit e ≡ None → ⊥
not_handed e state start commit placing started committed none =
    let is : handed_commit e ≡ Some (start, commit) = ap (λ (s : SessionState). handed_by s e.start e.commit) placing ∙ (ap (λ (t : Option ℕ). handed_by phase.Placing t e.commit) started ∙ ap (λ (t : Option ℕ). handed_by phase.Placing (Some start) t) committed) in
    none-some (start, commit) (sym none ∙ is)

last_removes : (txn commit : ℕ) (left : List ℕ) (t : ℕ) (asked : Ask) (asks : List Ask) → asked ∷ asks ≡ finish_asks txn commit left → asked ≡ ask.Remove t → asks ≡ []
last_removes txn commit [] t asked asks is removes = cc
last_removes txn commit (key ∷ left) t asked asks is removes = let clash : ask.Shadow key txn commit ≡ ask.Remove t = cc in absurd (cc)

finishes_none : (txn commit : ℕ) (left : List ℕ) (key t : ℕ) (asked : Ask) (asks : List Ask) → asked ∷ asks ≡ finish_asks txn commit left → asked ≡ ask.Erase key t → ⊥
finishes_none txn commit [] key t asked asks is erases = let clash : ask.Remove txn ≡ ask.Erase key t = cc in absurd (cc)
finishes_none txn commit (k ∷ left) key t asked asks is erases = let clash : ask.Shadow k txn commit ≡ ask.Erase key t = cc in absurd (cc)

undoes_only : (txn : ℕ) (left : List ℕ) (asked : Ask) (asks : List Ask) → asked ∷ asks ≡ undo_asks txn left → (key : ℕ) × (asked ≡ ask.Erase key txn)
undoes_only txn [] asked asks is = absurd (cc)
undoes_only txn (key ∷ left) asked asks is = (key, cc)

freed_rests : (c : Client) (asks : List Ask) → asks ≡ [] → rests (after_asks c asks).entry.state ≡ true
freed_rests c asks none = ap (λ (xs : List Ask). rests (after_asks c xs).entry.state) none

-- a completion that fills shadows, or erases cells
fit_finish : (c : Client) (txn commit : ℕ) (left : List ℕ) (asked : Ask) (asks : List Ask) → asked ∷ asks ≡ finish_asks txn commit left → Fit c (after_asks c asks) asked
fit_finish c txn commit left asked asks is = record {
  removes = λ t removes. freed_rests c asks (last_removes txn commit left t asked asks is removes);
  erases = λ key t erases. absurd (finishes_none txn commit left key t asked asks is erases);
}

fit_undo : (c : Client) (txn : ℕ) (left : List ℕ) (asked : Ask) (asks : List Ask) → c.entry.state ≡ phase.Completing true → c.entry.start ≡ Some txn → asked ∷ asks ≡ undo_asks txn left → Fit c (after_asks c asks) asked
fit_undo c txn left asked asks state start is =
    let k : (key : ℕ) × (asked ≡ ask.Erase key txn) = undoes_only txn left asked asks is in
    record {
      removes = λ t removes. let clash : ask.Erase k.0 txn ≡ ask.Remove t = sym k.1 ∙ removes in absurd (cc);
      erases = λ key t erases. (state, start ∙ (let same : ask.Erase k.0 txn ≡ ask.Erase key t = sym k.1 ∙ erases in cc));
    }

fits_none : (c : Client) (work : UnderWay) → work ≡ Nothing → FitsWork c work
fits_none c work none = record {
  reads = λ rd is. let clash : Nothing ≡ Reads rd = sym none ∙ is in absurd (cc);
  settles = λ x is. let clash : Nothing ≡ Settles x = sym none ∙ is in absurd (cc);
  completes = λ asked asks is. let clash : Nothing ≡ Completes (asked ∷ asks) = sym none ∙ is in absurd (cc);
}

fits_reading : (c : Client) (work : UnderWay) (rd : Reading) → work ≡ Reads rd → c.entry.state ≡ phase.Open → FitsWork c work
fits_reading c work rd busy state = record {
  reads = λ r is. state;
  settles = λ x is. let clash : Reads rd ≡ Settles x = sym busy ∙ is in absurd (cc);
  completes = λ asked asks is. let clash : Reads rd ≡ Completes (asked ∷ asks) = sym busy ∙ is in absurd (cc);
}

fits_settling : (c : Client) (work : UnderWay) (x : Settling) → work ≡ Settles x → c.entry.state ≡ phase.OpenOutcome → FitsWork c work
fits_settling c work x busy state = record {
  reads = λ rd is. let clash : Settles x ≡ Reads rd = sym busy ∙ is in absurd (cc);
  settles = λ y is. state;
  completes = λ asked asks is. let clash : Settles x ≡ Completes (asked ∷ asks) = sym busy ∙ is in absurd (cc);
}

same_asks : (a b : List Ask) → Completes a ≡ Completes b → a ≡ b
same_asks a b is = cc

fits_completing : (c : Client) (work : UnderWay) (all : List Ask) → work ≡ Completes all → ((asked : Ask) (asks : List Ask) → asked ∷ asks ≡ all → Fit c (after_asks c asks) asked) → FitsWork c work
fits_completing c work all busy fit = record {
  reads = λ rd is. let clash : Completes all ≡ Reads rd = sym busy ∙ is in absurd (cc);
  settles = λ x is. let clash : Completes all ≡ Settles x = sym busy ∙ is in absurd (cc);
  completes = λ asked asks is. fit asked asks (same_asks (asked ∷ asks) all (sym is ∙ busy));
}

own_fits : (c : Client) (start : Option ℕ) (keys : List ℕ) → c.entry.state ≡ phase.OpenOutcome → FitsWork c (own_resolve start keys)
own_fits c (Some start) (key ∷ keys) state = fits_settling c (own_resolve (Some start) (key ∷ keys)) (own_settling key start) refl state
own_fits c (Some start) [] state = fits_none c Nothing refl
own_fits c None keys state = fits_none c Nothing refl

open_fits : (w : State) (h : List Item) (r : ℕ) (c : Client) → ReachedInvariant w h → ClientAt w.clients r c → c.entry.state ≡ phase.OpenOutcome → FitsWork c (work_of c)
open_fits w h r c stands at state = elim (stands.holds.under_way.settling.resolve r c at state) [
  | inl none ↦ subst (FitsWork c) (sym (ap (λ (s : SessionState). work_by s c.entry c.under_way) state ∙ ap (work_by phase.OpenOutcome c.entry) none)) (own_fits c c.entry.start c.entry.keys state)
  | inr k ↦ fits_settling c (work_of c) k.0 (ap (λ (s : SessionState). work_by s c.entry c.under_way) state ∙ ap (work_by phase.OpenOutcome c.entry) k.2) state
]

completing_fits : (w : State) (h : List Item) (r : ℕ) (c : Client) (undo : Bool) → ReachedInvariant w h → ClientAt w.clients r c → c.entry.state ≡ phase.Completing undo → FitsWork c (work_of c)
completing_fits w h r c false stands at state =
    let busy : (asks : List Ask) × (c.under_way ≡ Completes asks) = stands.holds.under_way.finishing.busy r c at state in
    let (t, commit, start, placed, finish) = stands.holds.under_way.finishing.finish r c busy.0 at state busy.1 in
    fits_completing c (work_of c) busy.0 (ap (λ (s : SessionState). work_by s c.entry c.under_way) state ∙ busy.1) (λ asked asks is. fit_finish c t commit finish.left asked asks (is ∙ finish.shape))
completing_fits w h r c true stands at state =
    let busy : (asks : List Ask) × (c.under_way ≡ Completes asks) = stands.holds.under_way.undoing.busy r c at state in
    let begun : (t : ℕ) × (c.entry.start ≡ Some t) × Begun h r t = stands.holds.requests.have_begun.begun r c at (subst (λ (s : SessionState). IsTrue (has_transaction s)) (sym state) refl) in
    let undo : IsUndo begun.0 busy.0 = stands.holds.under_way.undoing.undo r begun.0 c busy.0 at state begun.1 busy.1 in
    fits_completing c (work_of c) busy.0 (ap (λ (s : SessionState). work_by s c.entry c.under_way) state ∙ busy.1) (λ asked asks is. fit_undo c begun.0 undo.left asked asks state begun.1 (is ∙ undo.shape))

placing_fits : (w : State) (h : List Item) (r : ℕ) (c : Client) → ReachedInvariant w h → ClientAt w.clients r c → c.entry.state ≡ phase.Placing → handed_commit c.entry ≡ None → FitsWork c (work_of c)
placing_fits w h r c stands at state none =
    let begun : (t : ℕ) × (c.entry.start ≡ Some t) × Begun h r t = stands.holds.requests.have_begun.begun r c at (subst (λ (s : SessionState). IsTrue (has_transaction s)) (sym state) refl) in
    let handed : (commit : ℕ) × (c.entry.commit ≡ Some commit) = stands.holds.under_way.handed.commit r c at state in
    absurd (not_handed c.entry phase.Placing begun.0 handed.0 state begun.1 handed.1 none)

-- one whose state lets it make a step only while it reads
reading_by : (work : UnderWay) → is_reading_by work ≡ true → (rd : Reading) × (work ≡ Reads rd)
reading_by (Reads rd) is = (rd, refl)
reading_by Nothing is = absurd (cc)
reading_by (Settles x) is = absurd (cc)
reading_by (Completes asks) is = absurd (cc)

may_read : (reading : Bool) → (if reading then None else Some cause.Idle) ≡ None → reading ≡ true
may_read true is = refl
may_read false is = absurd (none-some cause.Idle (sym is))

reads_fit : (w : State) (h : List Item) (r : ℕ) (c : Client) → ReachedInvariant w h → ClientAt w.clients r c → work_of c ≡ c.under_way → is_reading c ≡ true → FitsWork c (work_of c)
reads_fit w h r c stands at same reading =
    let busy : (rd : Reading) × (c.under_way ≡ Reads rd) = reading_by c.under_way reading in
    let (b, e, opened, is) = stands.holds.reads.reading.reads r c busy.0 at busy.1 in
    let state : c.entry.state ≡ phase.Open = ap (λ (x : Client). x.entry.state) (one_client w.clients r c opened.client at opened.at) ∙ opened.state_is in
    fits_reading c (work_of c) busy.0 (same ∙ busy.1) state

fits_by : (w : State) (h : List Item) (r : ℕ) (c : Client) (state : SessionState) → ReachedInvariant w h → ClientAt w.clients r c → c.entry.state ≡ state → step_refusal state (is_reading c) ≡ None → handed_commit c.entry ≡ None → FitsWork c (work_of c)
fits_by w h r c phase.Placing stands at is may none = placing_fits w h r c stands at is none
fits_by w h r c phase.OpenOutcome stands at is may none = open_fits w h r c stands at is
fits_by w h r c (phase.Completing undo) stands at is may none = completing_fits w h r c undo stands at is
fits_by w h r c phase.Gone stands at is may none = absurd (none-some cause.Gone (sym may))
fits_by w h r c phase.Free stands at is may none = reads_fit w h r c stands at (ap (λ (s : SessionState). work_by s c.entry c.under_way) is) (may_read (is_reading c) may)
fits_by w h r c phase.Asking stands at is may none = reads_fit w h r c stands at (ap (λ (s : SessionState). work_by s c.entry c.under_way) is) (may_read (is_reading c) may)
fits_by w h r c phase.Open stands at is may none = reads_fit w h r c stands at (ap (λ (s : SessionState). work_by s c.entry c.under_way) is) (may_read (is_reading c) may)
fits_by w h r c phase.Committing stands at is may none = reads_fit w h r c stands at (ap (λ (s : SessionState). work_by s c.entry c.under_way) is) (may_read (is_reading c) may)

-- ---- the event
set_is : (clients : List Client) (s : ℕ) (new d : Client) → ClientAt (slice_set clients s new) s d → d ≡ new
set_is clients s new d there = elim (client_set clients s s new d there) [ inl here ↦ here.1 | inr other ↦ absurd (other.0 refl) ]

own_step_says : (w : State) (h : List Item) (r : ℕ) (fate : Fate) (c d : Client) (x : Item) → ReachedInvariant w h → ClientAt w.clients r c → ClientAt (stepped w (event.Step r) fate).state.clients r d → x ∈ (stepped w (event.Step r) fate).items → Says r c d x
own_step_says w h r fate c d x stands at there m =
    let on : Effect StepParts → Step = λ effect. step_by effect (λ p. record (with_client w r p.0) { rows = p.1; pairs = p.2 }) in
    let effect : Effect StepParts = step_on r fate c w.rows w.pairs in
    let is : stepped w (event.Step r) fate ≡ on effect = ap (λ (found : Option Client). at_client w found (λ y. on (step_on r fate y w.rows w.pairs))) at in
    let now : ClientAt (slice_set w.clients r effect.parts.0) r d = subst (λ (step : Step). ClientAt step.state.clients r d) is there in
    let all : SaysOf r c effect = refused_kind r fate c w.rows w.pairs (step_refusal c.entry.state (is_reading c)) refl (λ may none. fits_by w h r c c.entry.state stands at refl may none) in
    let told : Says r c effect.parts.0 x = each_in (Says r c effect.parts.0) effect.items x all (subst (λ (step : Step). x ∈ step.items) is m) in
    subst (λ (y : Client). Says r c y x) (sym (set_is w.clients r effect.parts.0 d now)) told

-- ---- for any session
-- the same of one session, where the item is of it
abbrev pub SaysTo : ℕ → Client → Client → Item → Type 0
SaysTo s c d (item.Fault (Session session) store) = session ≡ s → rests d.entry.state ≡ true
SaysTo s c d (item.Refused (Session session) cause.Idle) = session ≡ s → rests d.entry.state ≡ true
SaysTo s c d (item.Step (Session session) (step.Remove txn)) = session ≡ s → rests d.entry.state ≡ true
SaysTo s c d (item.Step (Session session) (step.Erase key txn)) = session ≡ s → (c.entry.state ≡ phase.Completing true) × (c.entry.start ≡ Some txn)
SaysTo s c d _ = Unit {0}

to_session : (r s : ℕ) (c d p q : Client) (x : Item) → Says r p q x → (r ≡ s → Says s c d x) → SaysTo s c d x
to_session r s c d p q (item.Fault (Session session) store) said own = λ is. (own (sym said.0 ∙ is)).1
to_session r s c d p q (item.Refused (Session session) cause.Idle) said own = λ is. (own (sym said.0 ∙ is)).1
to_session r s c d p q (item.Step (Session session) (step.Remove txn)) said own = λ is. (own (sym said.0 ∙ is)).1
to_session r s c d p q (item.Step (Session session) (step.Erase key txn)) said own = λ is. let k = own (sym said.0 ∙ is) in (k.1, k.2)
to_session r s c d p q _ said own = tt

says_by : (w : State) (h : List Item) (r s : ℕ) (fate : Fate) (c d : Client) (x : Item) (found : Option Client) → ReachedInvariant w h → ClientAt w.clients s c → ClientAt (stepped w (event.Step r) fate).state.clients s d → x ∈ (stepped w (event.Step r) fate).items → slice_get w.clients r ≡ found → SaysTo s c d x
unfolding ◌∈◌
says_by w h r s fate c d x None stands at there m is =
    let none : x ∈ [] = subst (λ (found : Option Client). x ∈ (at_client w found (λ y. step_by (step_on r fate y w.rows w.pairs) (λ p. record (with_client w r p.0) { rows = p.1; pairs = p.2 }))).items) is m in
    absurd none
says_by w h r s fate c d x (Some p) stands at there m is =
    let on : Effect StepParts → Step = λ effect. step_by effect (λ z. record (with_client w r z.0) { rows = z.1; pairs = z.2 }) in
    let q : Client = (step_on r fate p w.rows w.pairs).parts.0 in
    let now : ClientAt (stepped w (event.Step r) fate).state.clients r q = subst (λ (step : Step). ClientAt step.state.clients r q) (sym (ap (λ (found : Option Client). at_client w found (λ y. on (step_on r fate y w.rows w.pairs))) is)) (set_found w.clients r q p is) in
    to_session r s c d p q x (own_step_says w h r fate p q x stands is now m) (λ same.
    own_step_says w h s fate c d x stands at
    (subst (λ (t : ℕ). ClientAt (stepped w (event.Step t) fate).state.clients s d) same there)
    (subst (λ (t : ℕ). x ∈ (stepped w (event.Step t) fate).items) same m))

pub steps_say : (w : State) (h : List Item) (r s : ℕ) (fate : Fate) (c d : Client) (x : Item) → ReachedInvariant w h → ClientAt w.clients s c → ClientAt (stepped w (event.Step r) fate).state.clients s d → x ∈ (stepped w (event.Step r) fate).items → SaysTo s c d x
steps_say w h r s fate c d x stands at there m = says_by w h r s fate c d x (slice_get w.clients r) stands at there m refl
