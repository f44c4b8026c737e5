-- The events that ask the commit table or the cells ask one of them once.
use Rattle.machine.proofs.Names.{[], ◌≡◌, ℕ, Bool, true, false, List, ◌∷◌, Option, Some, None, refl, sym, ap, Mark}
use Rattle.machine.proofs.Names.{Committed, Store, Cells, Table, SetupNumbers, Works, Cause, Node, Session, Janitor}
use Rattle.machine.proofs.Names.{Row, Pairs, mark_of, put_pair, Ask, Told, step_refusal, handed_commit, settle_ask}
use Rattle.machine.proofs.Names.{read_ask, Sweeping, sweep_ask, sweep_told, is_undecided, InstanceEntry, held_of}
use Rattle.machine.proofs.Names.{UnderWay, Nothing, Reads, Settles, Completes, Client, Stop, Faults, done, Met, met}
use Rattle.machine.proofs.Names.{store_of, told_by, is_reading, to_place, put_by, put_commit, put_on, commit_asks}
use Rattle.machine.proofs.Names.{put_asks, write_refused, write_open, write_on, open_asks, write_asks, fetch_refused}
use Rattle.machine.proofs.Names.{fetch_open, fetch_on, epoch_asks, fetch_asks, place_by, StepParts, work_of, next_of}
use Rattle.machine.proofs.Names.{step_at, placed_among, step_due, step_on, store_asked, asked_next, step_asks_by}
use Rattle.machine.proofs.Names.{step_asks, offer_of, no_offer_cause, heal_at, heal_on, offer_asks, heal_asks}
use Rattle.machine.proofs.Names.{SweepParts, undecided_stop, sweep_by, sweep_met, sweep_lists, sweep_at, sweep_step_on}
use Rattle.machine.proofs.Names.{sweep_step_asks}
use Rattle.history_book.specs.declared.cause.Cause.TheVariants as cause
use Rattle.system_parts.specs.declared.asks.Ask.TheVariants as ask
use Rattle.machine.specs.Events.Step.{step_by}
use Rattle.machine.proofs.Refusals.{LeavesAll, ending_leaves, going_leaves}
use Rattle.machine.proofs.StoreAsked.{AskedOnce, asked, refuses, goes}

-- ---- the commit table
put_worked : (node session start commit : ℕ) (found : Option Mark) (i : InstanceEntry) (pairs : Pairs) → (put_by node session start commit Works found i pairs).stop ≡ None
put_worked node session start commit None i pairs = refl
put_worked node session start commit (Some mark) i pairs = refl

never : (stop : Option Stop) (store : Store) → stop ≡ None → stop ≡ Some (Faults store) → ⊥
never stop store is fails = cc

asked_commit : (node session : ℕ) (i : InstanceEntry) (pairs : Pairs) (stamps : Option (ℕ × ℕ)) → AskedOnce (Some i, pairs) (commit_asks stamps) (λ fate. put_commit node session fate i pairs stamps)
asked_commit node session i pairs None = refuses (Some i, pairs) (Node node) (cause.NoRequest session)
asked_commit node session i pairs (Some stamps) =
    let goes_on = put_worked node session stamps.0 stamps.1 (mark_of pairs stamps.0) i (put_pair pairs stamps.0 (Committed stamps.1)) in
    asked (Some i, pairs) Table (λ fate. put_commit node session fate i pairs (Some stamps)) (going_leaves (Some i, pairs) (put_commit node session Works i pairs (Some stamps)) goes_on) refl refl (λ store stop. never (put_commit node session Works i pairs (Some stamps)).stop store goes_on stop)

pub asked_put : (node session : ℕ) (post : Option InstanceEntry) (pairs : Pairs) → AskedOnce (post, pairs) (put_asks session post) (λ fate. put_on node session fate post pairs)
asked_put node session None pairs = refuses (None, pairs) (Node node) (cause.NoOracle node)
asked_put node session (Some i) pairs = asked_commit node session i pairs (to_place (held_of i session))

-- ---- the cells
asked_write_by : (session key : ℕ) (value : List ℕ) (c : Client) (rows : List Row) (why : Option Cause) (start : Option ℕ) → AskedOnce (c, rows) (open_asks why start) (λ fate. write_open session key value fate c rows why start)
asked_write_by session key value c rows (Some why) start = refuses (c, rows) (Session session) why
asked_write_by session key value c rows None None = goes (c, rows) (done (c, rows) []) refl
asked_write_by session key value c rows None (Some start) =
    asked (c, rows) Cells (λ fate. write_open session key value fate c rows None (Some start)) (going_leaves (c, rows) (write_open session key value Works c rows None (Some start)) refl) refl refl (λ store stop. absurd (cc))

pub asked_write : (session key : ℕ) (value : List ℕ) (c : Client) (rows : List Row) → AskedOnce (c, rows) (write_asks key c) (λ fate. write_on session key value fate c rows)
asked_write session key value c rows = asked_write_by session key value c rows (write_refused c key) c.entry.start

asked_fetch_by : (setup : SetupNumbers) (session key : ℕ) (c : Client) (rows : List Row) (why : Option Cause) (start epoch : Option ℕ) → AskedOnce c (epoch_asks epoch (open_asks why start)) (λ fate. fetch_open setup session key fate c rows why start epoch)
asked_fetch_by setup session key c rows (Some why) start None = refuses c (Session session) why
asked_fetch_by setup session key c rows (Some why) start (Some epoch) = refuses c (Session session) why
asked_fetch_by setup session key c rows None None None = goes c (done c []) refl
asked_fetch_by setup session key c rows None None (Some epoch) = goes c (done c []) refl
asked_fetch_by setup session key c rows None (Some start) None = goes c (done c []) refl
asked_fetch_by setup session key c rows None (Some start) (Some epoch) =
    asked c Cells (λ fate. fetch_open setup session key fate c rows None (Some start) (Some epoch)) (going_leaves c (fetch_open setup session key Works c rows None (Some start) (Some epoch)) refl) refl refl (λ store stop. absurd (cc))

pub asked_fetch : (setup : SetupNumbers) (session key : ℕ) (c : Client) (rows : List Row) → AskedOnce c (fetch_asks setup key c) (λ fate. fetch_on setup session key fate c rows)
asked_fetch setup session key c rows = asked_fetch_by setup session key c rows (fetch_refused setup c key) c.entry.start c.entry.epoch

asked_offer : (session : ℕ) (c : Client) (rows : List Row) (pairs : Pairs) (offer : Option (ℕ × ℕ × ℕ)) → AskedOnce (c, rows) (offer_asks offer) (λ fate. heal_at session fate c rows pairs offer)
asked_offer session c rows pairs None = refuses (c, rows) (Session session) (no_offer_cause c.entry.state)
asked_offer session c rows pairs (Some offer) =
    asked (c, rows) Cells (λ fate. heal_at session fate c rows pairs (Some offer)) (going_leaves (c, rows) (heal_at session Works c rows pairs (Some offer)) refl) refl refl (λ store stop. absurd (cc))

pub asked_heal : (session : ℕ) (c : Client) (rows : List Row) (pairs : Pairs) → AskedOnce (c, rows) (heal_asks c) (λ fate. heal_on session fate c rows pairs)
asked_heal session c rows pairs = asked_offer session c rows pairs (offer_of c)

-- ---- steps
asked_work : (session : ℕ) (c : Client) (rows : List Row) (pairs : Pairs) (work : UnderWay) → AskedOnce {P = StepParts} (c, rows, pairs) (store_asked (next_of work)) (λ fate. step_at session fate c rows pairs work)
asked_work session c rows pairs Nothing = goes (c, rows, pairs) (done (c, rows, pairs) []) refl
asked_work session c rows pairs (Reads r) =
    asked (c, rows, pairs) (store_of (read_ask r)) (λ fate. step_at session fate c rows pairs (Reads r)) (going_leaves (c, rows, pairs) (step_at session Works c rows pairs (Reads r)) refl) refl refl (λ store stop. absurd (cc))
asked_work session c rows pairs (Settles x) =
    asked (c, rows, pairs) (store_of (settle_ask x)) (λ fate. step_at session fate c rows pairs (Settles x)) (going_leaves (c, rows, pairs) (step_at session Works c rows pairs (Settles x)) refl) refl refl (λ store stop. absurd (cc))
asked_work session c rows pairs (Completes []) = goes (c, rows, pairs) (done (c, rows, pairs) []) refl
asked_work session c rows pairs (Completes (asking ∷ asks)) =
    asked (c, rows, pairs) (store_of asking) (λ fate. step_at session fate c rows pairs (Completes (asking ∷ asks))) (going_leaves (c, rows, pairs) (step_at session Works c rows pairs (Completes (asking ∷ asks))) refl) refl refl (λ store stop. absurd (cc))

-- a placing that finds a mark changes its client, so that its refusal is none of those that leave all
placing_leaves : (session start commit : ℕ) (found : Option Mark) (c : Client) (rows : List Row) (pairs after : Pairs) → LeavesAll {P = StepParts} (c, rows, pairs) (placed_among rows (place_by session start commit Works found c after))
placing_leaves session start commit None c rows pairs after = going_leaves (c, rows, pairs) (placed_among rows (place_by session start commit Works None c after)) refl
placing_leaves session start commit (Some mark) c rows pairs after =
    ending_leaves (c, rows, pairs) (placed_among rows (place_by session start commit Works (Some mark) c after)) (cause.Invalid start) refl (λ is. cc)

placing_works : (session start commit : ℕ) (found : Option Mark) (c : Client) (after : Pairs) (store : Store) → (place_by session start commit Works found c after).stop ≡ Some (Faults store) → ⊥
placing_works session start commit None c after store stop = absurd (cc)
placing_works session start commit (Some mark) c after store stop = absurd (cc)

asked_due : (session : ℕ) (c : Client) (rows : List Row) (pairs : Pairs) (due : Option (ℕ × ℕ)) → AskedOnce {P = StepParts} (c, rows, pairs) (asked_next c due) (λ fate. step_due session fate c rows pairs due)
asked_due session c rows pairs None = asked_work session c rows pairs (work_of c)
asked_due session c rows pairs (Some stamps) =
    let after : Pairs = put_pair pairs stamps.0 (Committed stamps.1) in
    let found : Option Mark = mark_of pairs stamps.0 in
    asked (c, rows, pairs) Table (λ fate. step_due session fate c rows pairs (Some stamps)) (placing_leaves session stamps.0 stamps.1 found c rows pairs after) refl refl (placing_works session stamps.0 stamps.1 found c after)

asked_step_by : (session : ℕ) (c : Client) (rows : List Row) (pairs : Pairs) (why : Option Cause) → AskedOnce {P = StepParts} (c, rows, pairs) (step_asks_by c why) (λ fate. step_by session fate c rows pairs why)
asked_step_by session c rows pairs (Some why) = refuses (c, rows, pairs) (Session session) why
asked_step_by session c rows pairs None = asked_due session c rows pairs (handed_commit c.entry)

pub asked_step : (session : ℕ) (c : Client) (rows : List Row) (pairs : Pairs) → AskedOnce {P = StepParts} (c, rows, pairs) (step_asks c) (λ fate. step_on session fate c rows pairs)
asked_step session c rows pairs = asked_step_by session c rows pairs (step_refusal c.entry.state (is_reading c))

-- ---- sweeps
swept_leaves : (old : SweepParts) (s : Sweeping) (asking : Ask) (m : Met) (told : Told) (undecided : Bool) → undecided ≡ is_undecided (sweep_told s told) → LeavesAll old (sweep_by s asking m (Some told))
swept_leaves old s asking m told true is =
    ending_leaves old (sweep_by s asking m (Some told)) (cause.Undecided s.txn s.epoch) (ap (undecided_stop s) (sym is)) (λ all. cc)
swept_leaves old s asking m told false is = going_leaves old (sweep_by s asking m (Some told)) (ap (undecided_stop s) (sym is))

swept_works : (s : Sweeping) (undecided : Bool) (store : Store) → undecided_stop s undecided ≡ Some (Faults store) → ⊥
swept_works s true store stop = cc
swept_works s false store stop = cc

asked_sweep_met : (s : Sweeping) (rows : List Row) (pairs : Pairs) (asking : Ask) → AskedOnce {P = SweepParts} (Some s, rows, pairs) (Some (store_of asking)) (λ fate. sweep_met s asking (met Janitor asking fate rows pairs))
asked_sweep_met s rows pairs asking =
    let told : Told = told_by asking rows pairs in
    asked (Some s, rows, pairs) (store_of asking) (λ fate. sweep_met s asking (met Janitor asking fate rows pairs)) (swept_leaves (Some s, rows, pairs) s asking (met Janitor asking Works rows pairs) told (is_undecided (sweep_told s told)) refl) refl refl (λ store stop. swept_works s (is_undecided (sweep_told s told)) store stop)

asked_sweep_at : (s : Sweeping) (rows : List Row) (pairs : Pairs) (asking : Option Ask) → AskedOnce {P = SweepParts} (Some s, rows, pairs) (store_asked asking) (λ fate. sweep_at s fate rows pairs asking)
asked_sweep_at s rows pairs None = goes (Some s, rows, pairs) (done (None, rows, pairs) []) refl
asked_sweep_at s rows pairs (Some (ask.Keys txn)) =
    asked (Some s, rows, pairs) Cells (λ fate. sweep_lists s txn fate rows pairs) (going_leaves (Some s, rows, pairs) (sweep_lists s txn Works rows pairs) refl) refl refl (λ store stop. absurd (cc))
asked_sweep_at s rows pairs (Some asking) = asked_sweep_met s rows pairs asking

pub asked_sweep_step : (sweep : Option Sweeping) (rows : List Row) (pairs : Pairs) → AskedOnce {P = SweepParts} (sweep, rows, pairs) (sweep_step_asks sweep) (λ fate. sweep_step_on fate sweep rows pairs)
asked_sweep_step None rows pairs = refuses (None, rows, pairs) Janitor cause.Idle
asked_sweep_step (Some s) rows pairs = asked_sweep_at s rows pairs (sweep_ask s)
