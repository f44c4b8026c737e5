-- A read line whose premises hold has its answer: the fetch, and then the steps of the read.
use Rattle.grant_laws.proofs.Names.{◌≡◌, ℕ, ◌+◌, ◌*◌, ◌≤◌, List, [], ◌∷◌, ◌++◌, length, Option, Some, None, refl}
use Rattle.grant_laws.proofs.Names.{sym, ap, subst, arith, Cells, Works, Session, Item, Cell}
use Rattle.grant_laws.proofs.Names.{fetched, front_of, Answer, SessionState, Reading, ReadTurn, Asks}
use Rattle.grant_laws.proofs.Names.{Answers, Cache, put_fresh, Remembering, UnderRead, Client}
use Rattle.grant_laws.proofs.Names.{Event, Step, step_of_effect, with_client}
use Rattle.grant_laws.proofs.Names.{fetch_recall, marks_every, found_of, fetch_worked}
use Rattle.grant_laws.proofs.Names.{reads_refusal, fetch_refused, client_fetched}
use Rattle.grant_laws.proofs.Names.{Line, Verb, ScriptData, ClientAt, set_found, Opens, Reads, halt_of, follows}
use Rattle.grant_laws.proofs.Names.{EventsLowerWhatIsLeft, Calls, Played, one_more}
use Rattle.grant_laws.proofs.Names.{step_of, played, run_after, left_in, opened, OfRead, over_recalls, line_of}
use Rattle.grant_laws.proofs.Names.{next_fate, ReadsAreGranted, Fit, SetupNumbers, IsAtWork, cells_to_read}
use Rattle.grant_laws.proofs.Names.{length-filter, count_by-le-length, read_steps, ScriptsArePlanned}
use Rattle.history_book.specs.declared.item.StoreStep.TheVariants as store_step
use Rattle.history_book.specs.declared.item.Item.TheVariants as item
use Rattle.system_parts.specs.declared.session.State.TheVariants as phase
use Rattle.machine.specs.declared.event.Event.TheVariants as event
use Rattle.script_data.specs.declared.line.Verb.TheVariants as verb
use Rattle.grant_laws.proofs.LongerRuns.{in_one, in_last, appended_before, Leads, leads_on, leads_one, leads_to, run_appends, line_appends, run_at}
use Rattle.grant_laws.proofs.ReadLines.{IsReading, HasAnswer, read_answers}
use Rattle.grant_laws.proofs.Before.{Known, known_before, granted}
use Rattle.command_semantics.proofs.Fitting.{EpochFits, fit_at}
use Rattle.grant_laws.proofs.ReadTurns.{CallsWork, works_on, works_now}
use Rattle.grant_laws.proofs.BareReads.{BareReadsEnd}
use Rattle.grant_laws.proofs.ShortReads.{reads_are_short}

-- ---- the fetch
-- an open transaction has an epoch
epoch_by : (epoch : Option ℕ) → EpochFits phase.Open epoch → (e : ℕ) × (epoch ≡ Some e)
epoch_by epoch fits = grind arith

pub has_epoch : (p : Played) (s : ℕ) (c : Client) → Fit p.state → ClientAt p.state.clients s c → c.entry.state ≡ phase.Open → (e : ℕ) × (c.entry.epoch ≡ Some e)
has_epoch p s c fit at in_work = epoch_by c.entry.epoch (subst (λ (state : SessionState). EpochFits state c.entry.epoch) in_work (fit_at p.state.clients s c fit.epochs at))

-- what the session may do, and by which start and epoch
pub record MayFetch (setup : SetupNumbers) (c : Client) (key start epoch : ℕ) : Type 0 where
  pub is_free : fetch_refused setup c key ≡ None
  pub start_is : c.entry.start ≡ Some start
  pub epoch_is : c.entry.epoch ≡ Some epoch

pub may_fetch : (script : ScriptData) (p : Played) (s key epoch : ℕ) → p.state.setup ≡ script.setup → (work : IsAtWork p s) → reads_refusal script.setup work.client key ≡ None → work.client.entry.epoch ≡ Some epoch → MayFetch p.state.setup work.client key work.start epoch
may_fetch script p s key epoch same work room epoch_is = grind arith

-- the turn that the read begins with, and what the session remembers then
abbrev pub first_recall : Played → Client → ℕ → ℕ → ℕ → Remembering
first_recall p c key start epoch = fetch_recall p.state.setup key start epoch c (fetched p.state.rows key start)

abbrev pub fetch_turn : ℕ → Played → Client → ℕ → ℕ → Remembering → Step
fetch_turn s p c key start x = step_of_effect (fetch_worked s start key (client_fetched p.state.setup c key) (fetched p.state.rows key start) x) (λ (q : Client). with_client p.state s q)

pub record FetchesSo (script : ScriptData) (s key start : ℕ) (p : Played) (c : Client) (x : Remembering) : Type 0 where
  pub session_is : ClientAt p.state.clients s c
  pub in_work : c.entry.state ≡ phase.Open
  pub is : step_of script p (event.Fetch s key) ≡ fetch_turn s p c key start x
  pub calls : (played script p (event.Fetch s key)).calls ≡ one_more p.calls Cells

pub fetches_so : (script : ScriptData) (s key start epoch : ℕ) (p : Played) (c : Client) → ClientAt p.state.clients s c → c.entry.state ≡ phase.Open → MayFetch p.state.setup c key start epoch → next_fate script p Cells ≡ Works → FetchesSo script s key start p c (first_recall p c key start epoch)
fetches_so script s key start epoch p c at in_work may works = grind arith

answers_at_once : (script : ScriptData) (number s key start many : ℕ) (p : Played) (c : Client) (a : Answer) (cache : Cache) → FetchesSo script s key start p c (Answers a, cache) → HasAnswer script (line_of number (Session s) (verb.Read key)) s key start (many + 1) (opened p)
answers_at_once script number s key start many p c a cache so =
    let line : Line = line_of number (Session s) (verb.Read key) in
    let fetch : Item = item.Step (Session s) (store_step.Fetch key (length (fetched p.state.rows key start))) in
    let x : Item = item.Read s start key (found_of a.found) in
    record {
      steps = 1;
      few = omega arith;
      next = run_after script line (opened p) (event.Fetch s key);
      answer = found_of a.found;
      leads = leads_one script line (opened p) (event.Fetch s key) refl;
      appends = record { added = fetch ∷ x ∷ []; is = ap (λ (step : Step). p.items ++ step.items) so.is; has = in_last x (fetch ∷ []) (x ∷ []) (in_one x) };
    }

answers_later : BareReadsEnd → (script : ScriptData) (number s key start many : ℕ) (p : Played) (c : Client) (r : Reading) (cache : Cache) → r.key ≡ key → r.start ≡ start → read_steps r ≤ many → CallsWork script (many + 1) p.calls → FetchesSo script s key start p c (Asks r, cache) → HasAnswer script (line_of number (Session s) (verb.Read key)) s key start (many + 1) (opened p)
answers_later ends script number s key start many p c r cache key_is start_is few works so =
    let v : Verb = verb.Read key in
    let line : Line = line_of number (Session s) v in
    let e : Event = event.Fetch s key in
    let q : Played = played script p e in
    let now : Client = record (client_fetched p.state.setup c key) { under_way = UnderRead r; heal = None; cache = cache } in
    let there : IsReading s key start q r = record {
      client = now;
      session_is = subst (λ (step : Step). ClientAt step.state.clients s now) (sym so.is) (set_found p.state.clients s now c so.session_is);
      in_work = so.in_work;
      under_way = refl;
      key_is = key_is;
      start_is = start_is;
    } in
    let calls : CallsWork script many q.calls = subst (λ (made : Calls). CallsWork script many made) (sym so.calls) (works_on script many p.calls Cells works) in
    let on : HasAnswer script line s key start many (run_at Reads q) = read_answers ends many script number s key start q r there few calls in
    let first : Leads script line 1 (opened p) (run_at Reads q) = leads_to script line Opens Reads p e refl (ap (λ (step : Step). follows v Opens (halt_of step.stop)) so.is) in
    record {
      steps = 1 + on.steps;
      few = omega (arith, on.few);
      next = on.next;
      answer = on.answer;
      leads = leads_on script line 1 on.steps (1 + on.steps) (opened p) (run_at Reads q) on.next refl first on.leads;
      appends = appended_before p.items q.items on.next.played.items (item.Read s start key on.answer) (record { added = (step_of script p e).items; is = refl }) on.appends;
    }

by_first : BareReadsEnd → (script : ScriptData) (number s key start many : ℕ) (p : Played) (c : Client) (turn : ReadTurn) (cache : Cache) → OfRead key start turn → ((r : Reading) → turn ≡ Asks r → read_steps r ≤ many) → CallsWork script (many + 1) p.calls → FetchesSo script s key start p c (turn, cache) → HasAnswer script (line_of number (Session s) (verb.Read key)) s key start (many + 1) (opened p)
by_first ends script number s key start many p c (Answers a) cache same few works so = answers_at_once script number s key start many p c a cache so
by_first ends script number s key start many p c (Asks r) cache same few works so = answers_later ends script number s key start many p c r cache same.0 same.1 (few r refl) works so

-- ---- the line
-- the run of the line has room for all steps
room_left : (number s key start : ℕ) (p : Played) (c : Client) → ClientAt p.state.clients s c → c.entry.start ≡ Some start → 3 * cells_to_read p start key + 1 ≤ left_in (line_of number (Session s) (verb.Read key)) (opened p)
room_left number s key start p c at begun = grind (arith, length-filter, count_by-le-length)

pub reads_are_granted : EventsLowerWhatIsLeft → ScriptsArePlanned → BareReadsEnd → ReadsAreGranted
reads_are_granted lowers plan ends script p number s key before can =
    let line : Line = line_of number (Session s) (verb.Read key) in
    let c : Client = can.work.client in
    let start : ℕ = can.work.start in
    let many : ℕ = 3 * cells_to_read p start key in
    let known : Known script p = known_before lowers script line p before in
    let epoch : (e : ℕ) × (c.entry.epoch ≡ Some e) = has_epoch p s c known.fit can.work.session_is can.work.in_work in
    let works : CallsWork script (many + 1) p.calls = λ store n from less. can.reading store n from (omega (arith, less)) in
    let cells : List Cell = front_of start (fetched p.state.rows key start) in
    let x : Remembering = first_recall p c key start epoch.0 in
    let so : FetchesSo script s key start p c x = fetches_so script s key start epoch.0 p c can.work.session_is can.work.in_work (may_fetch script p s key epoch.0 known.reached.setup can.work can.room epoch.1) (works_now script many p.calls Cells tt works) in
    let all : HasAnswer script line s key start (many + 1) (opened p) = by_first ends script number s key start many p c x.0 x.1 (over_recalls (marks_every p.state.setup) key start epoch.0 cells (put_fresh c.cache)) (ends.begins (marks_every p.state.setup) key start epoch.0 cells (put_fresh c.cache)) works so in
    let read : Item = item.Read s start key all.answer in (
      all.answer,
      granted script line p read before (line_appends script line p all.steps all.next read (omega (arith, all.few, room_left number s key start p c can.work.session_is can.work.begun)) all.leads all.appends),
      λ few. run_appends script line p (1 + 144) all.steps all.next read (omega (arith, all.few, reads_are_short lowers plan script p line start key before few)) all.leads all.appends,
    )
