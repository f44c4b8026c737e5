-- For isolation_laws too.
-- What the next step of a session comes to: of a read, of the resolve of its own commit, of a completion.
use Rattle.machine.proofs.Names.{AreDue, All-append, All-cons, step_recall, StepParts, read_step, settle_items}
use Rattle.machine.proofs.Names.{client_settled, settle_step, complete_step, after_asks, client_put_fresh}
use Rattle.machine.proofs.Names.{client_recalled, ◌≡◌, ℕ, ◌≤◌, Bool, true, false, cond, if◌then◌else◌, List, [], ◌∷◌}
use Rattle.machine.proofs.Names.{◌++◌, Option, Some, None, ◌⊎◌, inl, inr, refl, ap, arith, Store, Fate, Works}
use Rattle.machine.proofs.Names.{FailsUnchanged, FailsApplied, Actor, Session, DeadEnd, Item, Row, Pairs, Ask, Told}
use Rattle.machine.proofs.Names.{Settling, settle_ask, SettleTurn, Goes, Decides, settle_turn, Reading, read_ask}
use Rattle.machine.proofs.Names.{Nothing, Reads, Client, State, Effect, client_freed, met, store_of, told_by, step_item}
use Rattle.machine.proofs.Names.{rows_after, pairs_after, effect_items, Step, step_by, with_client, ClientAt, Quiet}
use Rattle.machine.proofs.Names.{AllQuiet, Plain, AllPlain, CompletedOne, MayHaveMarked, OfReadStepped, OfReadDropped}
use Rattle.machine.proofs.Names.{OfOutcome, OfOutcomeFailed, OfCompleted, IsResolve, IsCompletion, MarksTold}
use Rattle.machine.proofs.Dues.DueItems.{DueAnyway, all_due}
use Rattle.machine.proofs.Dues.StepsDue.{worked_free, failed_due, settle_free, read_free}
use Rattle.std.proofs.lemmas.List.Sums.{sum_by-append}
use Rattle.history_book.specs.declared.item.Item.TheVariants as item
use Rattle.system_parts.specs.declared.resolve.Outcome.TheVariants as outcome
use Rattle.system_parts.specs.declared.session.State.TheVariants as phase
use Rattle.machine.specs.Faults.{is_fault, faults_in}
use Rattle.machine.proofs.Outcome.PlainItems.{all_quiet, all_silent, none_plain}
use Rattle.machine.proofs.Inversions.InversionParts.{ComesTo, ComesBy}
use Rattle.machine.proofs.Inversions.InversionOfCalls.{step_plain, failed_plain, resolve_no_list, resolve_rows, resolve_marks}
use Rattle.machine.proofs.Outcome.QuietItems.{one_quiet, none_quiet}
use Rattle.machine.proofs.MarksTold.{marks_behind, met_marks}

-- the effect on a client and the stores
abbrev pub for_stores : State → ℕ → Effect StepParts → Step
for_stores w session effect = step_by effect (λ (p : StepParts). record (with_client w session p.0) { rows = p.1; pairs = p.2 })

-- the cells are as they were
same_rows : (w : State) (session : ℕ) (c : Client) (rows : List Row) (pairs : Pairs) → rows ≡ w.rows → record (with_client w session c) { rows = rows; pairs = pairs } ≡ record (with_client w session c) { pairs = pairs }
same_rows w session c rows pairs same = ap (λ (r : List Row). record (with_client w session c) { rows = r; pairs = pairs }) same

-- ---- a read
read_failed : (w : State) (session : ℕ) (c : Client) (r : Reading) (fate : Fate) (rows : List Row) (pairs : Pairs) → ClientAt w.clients session c → c.under_way ≡ Reads r → rows ≡ w.rows → MayHaveMarked w.pairs pairs → let items : List Item = effect_items (Session session) (read_ask r) (told_by (read_ask r) w.rows w.pairs) fate ++ item.Fault (Session session) (store_of (read_ask r)) ∷ [] in MarksTold w.pairs pairs items → ComesTo w (record (with_client w session (record (client_put_fresh c) { under_way = Nothing })) { rows = rows; pairs = pairs }) items
read_failed w session c r fate rows pairs at under_way same marked told = (
  OfReadDropped (record {
    session = session;
    c = c;
    under_way = Nothing;
    client_at = at;
    under_way_is = inr ((r, under_way), refl);
    heal = c.heal;
    heal_is = inl refl;
    pairs = pairs;
    pairs_are = marked;
    items = _;
    marks = told;
    quiet = all_quiet _ (failed_plain (Session session) (read_ask r) (told_by (read_ask r) w.rows w.pairs) fate (store_of (read_ask r)));
    silent = all_silent _ (failed_plain (Session session) (read_ask r) (told_by (read_ask r) w.rows w.pairs) fate (store_of (read_ask r)));
  }),
  same_rows w session (record (client_put_fresh c) { under_way = Nothing }) rows pairs same,
  refl,
  tt,
  failed_due w (Session session) (read_ask r) (told_by (read_ask r) w.rows w.pairs) fate (store_of (read_ask r)),
)

pub read_comes : (w : State) (session : ℕ) (fate : Fate) (c : Client) (r : Reading) → ClientAt w.clients session c → c.under_way ≡ Reads r → ComesBy w (for_stores w session (read_step session c r (met (Session session) (read_ask r) fate w.rows w.pairs)))
read_comes w session Works c r at under_way = (
  OfReadStepped (record {
    session = session;
    c = c;
    r = r;
    client_at = at;
    under_way = under_way;
    first = step_item (Session session) (read_ask r) (told_by (read_ask r) w.rows w.pairs);
    marks = met_marks (Session session) (read_ask r) Works w.rows w.pairs;
    quiet = (step_plain (Session session) (read_ask r) (told_by (read_ask r) w.rows w.pairs) (resolve_no_list r.key r.cell.version r.point)).0;
    silent = (step_plain (Session session) (read_ask r) (told_by (read_ask r) w.rows w.pairs) (resolve_no_list r.key r.cell.version r.point)).1;
  }),
  same_rows w session (client_recalled c (step_recall (client_put_fresh c) r (told_by (read_ask r) w.rows w.pairs))) (rows_after (read_ask r) w.rows) (pairs_after (read_ask r) w.pairs) (resolve_rows r.key r.cell.version r.point w.rows),
  refl,
  tt,
  all_due w _ (All-append (DueAnyway w) (step_item (Session session) (read_ask r) (told_by (read_ask r) w.rows w.pairs) ∷ []) _ (worked_free w (Session session) (read_ask r) (told_by (read_ask r) w.rows w.pairs)) (read_free w session r.start r.key (step_recall (client_put_fresh c) r (told_by (read_ask r) w.rows w.pairs)).0)),
)
read_comes w session FailsUnchanged c r at under_way = read_failed w session c r FailsUnchanged w.rows w.pairs at under_way refl (inl refl) (met_marks (Session session) (read_ask r) FailsUnchanged w.rows w.pairs)
read_comes w session FailsApplied c r at under_way = read_failed w session c r FailsApplied (rows_after (read_ask r) w.rows) (pairs_after (read_ask r) w.pairs) at under_way (resolve_rows r.key r.cell.version r.point w.rows) (resolve_marks r.key r.cell.version r.point w.pairs) (met_marks (Session session) (read_ask r) FailsApplied w.rows w.pairs)

-- ---- the resolve of an own commit
settle_quiet : (session : ℕ) (start : Option ℕ) (turn : SettleTurn) → AllQuiet (settle_items session start turn)
settle_quiet session (Some start) (Decides (outcome.Committed commit by_table)) = one_quiet (item.Committed session start commit) refl
settle_quiet session (Some start) (Decides outcome.Dead) = one_quiet (item.End session start DeadEnd) refl
settle_quiet session (Some start) (Goes point) = none_quiet
settle_quiet session None turn = none_quiet

settle_failed : (w : State) (session : ℕ) (c : Client) (x : Settling) (fate : Fate) (rows : List Row) (pairs : Pairs) → ClientAt w.clients session c → c.entry.state ≡ phase.OpenOutcome → rows ≡ w.rows → MayHaveMarked w.pairs pairs → let items : List Item = effect_items (Session session) (settle_ask x) (told_by (settle_ask x) w.rows w.pairs) fate ++ item.Fault (Session session) (store_of (settle_ask x)) ∷ [] in MarksTold w.pairs pairs items → ComesTo w (record (with_client w session (record c { under_way = Nothing })) { rows = rows; pairs = pairs }) items
settle_failed w session c x fate rows pairs at is_open same marked told = (
  OfOutcomeFailed (record {
    it = record { session = session; c = c; client_at = at; is_open = is_open };
    pairs = pairs;
    pairs_are = marked;
    items = _;
    marks = told;
    quiet = all_quiet _ (failed_plain (Session session) (settle_ask x) (told_by (settle_ask x) w.rows w.pairs) fate (store_of (settle_ask x)));
    silent = all_silent _ (failed_plain (Session session) (settle_ask x) (told_by (settle_ask x) w.rows w.pairs) fate (store_of (settle_ask x)));
  }),
  same_rows w session (record c { under_way = Nothing }) rows pairs same,
  refl,
  tt,
  failed_due w (Session session) (settle_ask x) (told_by (settle_ask x) w.rows w.pairs) fate (store_of (settle_ask x)),
)

pub settle_comes : (w : State) (session : ℕ) (fate : Fate) (c : Client) (x : Settling) → ClientAt w.clients session c → c.entry.state ≡ phase.OpenOutcome → IsResolve c x → ComesBy w (for_stores w session (settle_step session c x (met (Session session) (settle_ask x) fate w.rows w.pairs)))
settle_comes w session Works c x at is_open work =
    let answer : Told = told_by (settle_ask x) w.rows w.pairs in
    let first : Item = step_item (Session session) (settle_ask x) answer in
    let rest : List Item = settle_items session c.entry.start (settle_turn x answer) in
    let plain : Plain first = step_plain (Session session) (settle_ask x) answer (resolve_no_list x.key x.txn x.point) in (
      OfOutcome (record {
        it = record { session = session; c = c; client_at = at; is_open = is_open };
        x = x;
        work = work;
        first = first;
        silent = plain.1;
        items = first ∷ rest;
        tells = refl;
        marks = marks_behind w.pairs (pairs_after (settle_ask x) w.pairs) (first ∷ []) rest (met_marks (Session session) (settle_ask x) Works w.rows w.pairs);
        quiet = All-cons Quiet first rest plain.0 (settle_quiet session c.entry.start (settle_turn x answer));
      }),
      same_rows w session (client_settled c x (settle_turn x answer)) (rows_after (settle_ask x) w.rows) (pairs_after (settle_ask x) w.pairs) (resolve_rows x.key x.txn x.point w.rows),
      refl,
      tt,
      all_due w _ (All-append (DueAnyway w) (first ∷ []) rest (worked_free w (Session session) (settle_ask x) answer) (settle_free w session c.entry.start (settle_turn x answer))),
    )
settle_comes w session FailsUnchanged c x at is_open work = settle_failed w session c x FailsUnchanged w.rows w.pairs at is_open refl (inl refl) (met_marks (Session session) (settle_ask x) FailsUnchanged w.rows w.pairs)
settle_comes w session FailsApplied c x at is_open work = settle_failed w session c x FailsApplied (rows_after (settle_ask x) w.rows) (pairs_after (settle_ask x) w.pairs) at is_open (resolve_rows x.key x.txn x.point w.rows) (resolve_marks x.key x.txn x.point w.pairs) (met_marks (Session session) (settle_ask x) FailsApplied w.rows w.pairs)

-- ---- a completion
-- a failed step tells its fault
fault_told : (effects : List Item) (actor : Actor) (store : Store) → 1 ≤ faults_in (effects ++ item.Fault actor store ∷ [])
fault_told effects actor store = omega (arith, sum_by-append (λ (x : Item). cond (is_fault x) 1 0) effects (item.Fault actor store ∷ []))

-- the outcome of a step of a completion
abbrev completed : (w : State) (session : ℕ) (c : Client) (asked : Ask) (asks : List Ask) (applied : Bool) (left : Client) (items : List Item) → ClientAt w.clients session c → IsCompletion c asked asks → ((left ≡ after_asks c asks) × (applied ≡ true)) ⊎ ((left ≡ client_freed c) × (1 ≤ faults_in items)) → MarksTold w.pairs (if applied then pairs_after asked w.pairs else w.pairs) items → AllPlain items → CompletedOne w
completed w session c asked asks applied left items at is left_is told plain = record {
  session = session;
  undo = is.undo;
  c = c;
  asked = asked;
  asks = asks;
  client_at = at;
  completing = is.completing;
  under_way = is.under_way;
  applied = applied;
  left = left;
  left_is = left_is;
  items = items;
  marks = told;
  quiet = all_quiet items plain;
  silent = all_silent items plain;
}

complete_failed : (w : State) (session : ℕ) (c : Client) (asked : Ask) (asks : List Ask) (applied : Bool) (items : List Item) → ClientAt w.clients session c → IsCompletion c asked asks → 1 ≤ faults_in items → MarksTold w.pairs (if applied then pairs_after asked w.pairs else w.pairs) items → AllPlain items → AreDue w items → ComesTo w (record (with_client w session (client_freed c)) { rows = if applied then rows_after asked w.rows else w.rows; pairs = if applied then pairs_after asked w.pairs else w.pairs }) items
complete_failed w session c asked asks applied items at is fault told plain due = (
  OfCompleted (completed w session c asked asks applied (client_freed c) items at is (inr (refl, fault)) told plain),
  refl,
  refl,
  tt,
  due,
)

pub complete_comes : (w : State) (session : ℕ) (fate : Fate) (c : Client) (asked : Ask) (asks : List Ask) → ClientAt w.clients session c → IsCompletion c asked asks → ComesBy w (for_stores w session (complete_step c asked asks (met (Session session) asked fate w.rows w.pairs)))
complete_comes w session Works c asked asks at is = (
  OfCompleted (completed w session c asked asks true (after_asks c asks) (step_item (Session session) asked (told_by asked w.rows w.pairs) ∷ []) at is (inl (refl, refl)) (met_marks (Session session) asked Works w.rows w.pairs) (All-cons Plain (step_item (Session session) asked (told_by asked w.rows w.pairs)) [] (step_plain (Session session) asked (told_by asked w.rows w.pairs) is.no_list) none_plain)),
  refl,
  refl,
  tt,
  all_due w _ (worked_free w (Session session) asked (told_by asked w.rows w.pairs)),
)
complete_comes w session FailsUnchanged c asked asks at is = complete_failed w session c asked asks false _ at is (fault_told (effect_items (Session session) asked (told_by asked w.rows w.pairs) FailsUnchanged) (Session session) (store_of asked)) (met_marks (Session session) asked FailsUnchanged w.rows w.pairs) (failed_plain (Session session) asked (told_by asked w.rows w.pairs) FailsUnchanged (store_of asked)) (failed_due w (Session session) asked (told_by asked w.rows w.pairs) FailsUnchanged (store_of asked))
complete_comes w session FailsApplied c asked asks at is = complete_failed w session c asked asks true _ at is (fault_told (effect_items (Session session) asked (told_by asked w.rows w.pairs) FailsApplied) (Session session) (store_of asked)) (met_marks (Session session) asked FailsApplied w.rows w.pairs) (failed_plain (Session session) asked (told_by asked w.rows w.pairs) FailsApplied (store_of asked)) (failed_due w (Session session) asked (told_by asked w.rows w.pairs) FailsApplied (store_of asked))
