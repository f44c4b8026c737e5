-- Own turns of a read: its fetch, and its steps.
use Rattle.grant_laws.proofs.Names.{◌≡◌, ℕ, ◌+◌, ◌*◌, ◌<◌, ◌≤◌, List, [], ◌∷◌, ◌++◌, length, Some, None, refl, sym, ◌∙◌}
use Rattle.grant_laws.proofs.Names.{ap, subst, arith, inl, inr, Works, Session, Item, Cell, fetched, front_of, Reading}
use Rattle.grant_laws.proofs.Names.{ReadTurn, Asks, Answers, read_ask, Cache, put_fresh, Remembering, UnderRead, Client}
use Rattle.grant_laws.proofs.Names.{store_of, met, Step, marks_every, client_fetched, found_of, ScriptData, ClientAt}
use Rattle.grant_laws.proofs.Names.{set_found, IsPlayable, Played, step_of, played, OfRead, over_recalls, told_recalls}
use Rattle.grant_laws.proofs.Names.{next_fate, ReadsKey, AnswersOr, ReadsAreCarried, read_steps, AreInRange, Makes}
use Rattle.grant_laws.proofs.Names.{Turn, Carried, own_ahead, turned, carried, all_passed, at_first, Facts, facts_all}
use Rattle.grant_laws.proofs.Names.{facts_at_first, cells_to_read, CanFetch}
use Rattle.history_book.specs.declared.item.StoreStep.TheVariants as store_step
use Rattle.history_book.specs.declared.item.Item.TheVariants as item
use Rattle.machine.specs.declared.event.Event.TheVariants as event
use Rattle.grant_laws.proofs.LongerRuns.{in_one, in_last}
use Rattle.grant_laws.proofs.OwnCarried.{own_plays}
use Rattle.grant_laws.proofs.ReadLines.{IsReading, told_now, recall_now, StepsSo, steps_so}
use Rattle.turn_rules.specs.declared.turn.Turn.TheVariants as turn
use Rattle.grant_laws.proofs.FetchLines.{has_epoch, may_fetch, first_recall, FetchesSo, fetches_so}
use Rattle.grant_laws.proofs.BareReads.{BareReadsEnd}

-- ---- a step
abbrev pub as_reading : (p : Played) (s start key : ℕ) (r : Reading) → ReadsKey p s start key r → IsReading s key start p r
as_reading p s start key r k = record { client = k.client; session_is = k.session_is; in_work = k.in_work; under_way = k.under_way; key_is = k.key_is; start_is = k.start_is }

step_by_turn : (script : ScriptData) (s start key : ℕ) (p : Played) (r : Reading) (k : IsReading s key start p r) (turn : ReadTurn) (cache : Cache) → OfRead r.key r.start turn → ((later : Reading) → turn ≡ Asks later → read_steps later < read_steps r) → StepsSo script s p k.client r (turn, cache) → AnswersOr p (played script p (event.Step s)) s start key (read_steps r)
step_by_turn script s start key p r k (Answers a) cache is_of fewer so =
    let before : List Item = (met (Session s) (read_ask r) Works p.state.rows p.state.pairs).items in
    let x : Item = item.Read s start key (found_of a.found) in
    let same : item.Read s r.start r.key (found_of a.found) ≡ x = ap (λ (n : ℕ). item.Read s n r.key (found_of a.found)) k.start_is ∙ ap (λ (n : ℕ). item.Read s start n (found_of a.found)) k.key_is in
    let tells : (step_of script p (event.Step s)).items ≡ before ++ x ∷ [] = ap (λ (step : Step). step.items) so.is ∙ ap (λ (y : Item). before ++ y ∷ []) same in
    inl (found_of a.found, record { added = before ++ x ∷ []; is = ap (λ (xs : List Item). p.items ++ xs) tells; has = in_last x before (x ∷ []) (in_one x) })
step_by_turn script s start key p r k (Asks later) cache is_of fewer so =
    let now : Client = record k.client { under_way = UnderRead later; heal = None; cache = cache } in
    inr (record {
      later = later;
      reads = record {
        client = now;
        session_is = subst (λ (step : Step). ClientAt step.state.clients s now) (sym so.is) (set_found p.state.clients s now k.client k.session_is);
        in_work = k.in_work;
        under_way = refl;
        key_is = is_of.0 ∙ k.key_is;
        start_is = is_of.1 ∙ k.start_is;
      };
      fewer = fewer later refl;
    })

pub step_made : BareReadsEnd → (script : ScriptData) (s start key : ℕ) (p : Played) (r : Reading) (k : IsReading s key start p r) → StepsSo script s p k.client r (recall_now p k.client r) → AnswersOr p (played script p (event.Step s)) s start key (read_steps r)
step_made ends script s start key p r k so =
    let x : Remembering = recall_now p k.client r in
    step_by_turn script s start key p r k x.0 x.1 (told_recalls _ r (told_now p r)) (λ later. ends.falls _ r later (told_now p r)) so

step_carried : BareReadsEnd → (script : ScriptData) (turns : List Turn) (aim : ℕ) (s start key : ℕ) (r : Reading) → own_ahead script (carried script turns) (Session s) aim ≡ Makes (event.Step s) → ReadsKey (carried script turns).played s start key r → next_fate script (carried script turns).played (store_of (read_ask r)) ≡ Works → AnswersOr (carried script turns).played (turned script (carried script turns) (turn.Own (Session s) aim)).played s start key (read_steps r)
step_carried ends script turns aim s start key r ahead reads works =
    let c : Carried = carried script turns in
    let k : IsReading s key start c.played r = as_reading c.played s start key r reads in
    let so : StepsSo script s c.played k.client r (recall_now c.played k.client r) = steps_so script s key start c.played r k works in
    subst (λ (after : Played). AnswersOr c.played after s start key (read_steps r)) (sym (own_plays script c aim s (event.Step s) ahead)) (step_made ends script s start key c.played r k so)

-- ---- the fetch
fetch_by_turn : (script : ScriptData) (s start key most : ℕ) (p : Played) (c : Client) (turn : ReadTurn) (cache : Cache) → OfRead key start turn → ((r : Reading) → turn ≡ Asks r → read_steps r ≤ most) → FetchesSo script s key start p c (turn, cache) → AnswersOr p (played script p (event.Fetch s key)) s start key (most + 1)
fetch_by_turn script s start key most p c (Answers a) cache is_of few so =
    let fetch : Item = item.Step (Session s) (store_step.Fetch key (length (fetched p.state.rows key start))) in
    let x : Item = item.Read s start key (found_of a.found) in
    inl (found_of a.found, record { added = fetch ∷ x ∷ []; is = ap (λ (step : Step). p.items ++ step.items) so.is; has = in_last x (fetch ∷ []) (x ∷ []) (in_one x) })
fetch_by_turn script s start key most p c (Asks r) cache is_of few so =
    let now : Client = record (client_fetched p.state.setup c key) { under_way = UnderRead r; heal = None; cache = cache } in
    inr (record {
      later = r;
      reads = record {
        client = now;
        session_is = subst (λ (step : Step). ClientAt step.state.clients s now) (sym so.is) (set_found p.state.clients s now c so.session_is);
        in_work = so.in_work;
        under_way = refl;
        key_is = is_of.0;
        start_is = is_of.1;
      };
      fewer = omega (arith, few r refl);
    })

pub fetch_made : BareReadsEnd → (script : ScriptData) (s start key epoch : ℕ) (p : Played) (c : Client) → FetchesSo script s key start p c (first_recall p c key start epoch) → AnswersOr p (played script p (event.Fetch s key)) s start key (3 * cells_to_read p start key + 1)
fetch_made ends script s start key epoch p c so =
    let cells : List Cell = front_of start (fetched p.state.rows key start) in
    let x : Remembering = first_recall p c key start epoch in
    fetch_by_turn script s start key (3 * cells_to_read p start key) p c x.0 x.1 (over_recalls (marks_every p.state.setup) key start epoch cells (put_fresh c.cache)) (ends.begins (marks_every p.state.setup) key start epoch cells (put_fresh c.cache)) so

fetch_carried : BareReadsEnd → (script : ScriptData) (turns : List Turn) (aim : ℕ) (s key : ℕ) → AreInRange script.setup → IsPlayable script 0 script.lines → own_ahead script (carried script turns) (Session s) aim ≡ Makes (event.Fetch s key) → (can : CanFetch script (carried script turns).played s key) → AnswersOr (carried script turns).played (turned script (carried script turns) (turn.Own (Session s) aim)).played s can.work.start key (3 * cells_to_read (carried script turns).played can.work.start key + 1)
fetch_carried ends script turns aim s key in_range playable ahead can =
    let c : Carried = carried script turns in
    let facts : Facts script c = facts_all script playable turns (all_passed script (at_first script)) (facts_at_first script in_range) in
    let epoch : (e : ℕ) × (can.work.client.entry.epoch ≡ Some e) = has_epoch c.played s can.work.client facts.fit can.work.session_is can.work.in_work in
    let so : FetchesSo script s key can.work.start c.played can.work.client (first_recall c.played can.work.client key can.work.start epoch.0) = fetches_so script s key can.work.start epoch.0 c.played can.work.client can.work.session_is can.work.in_work (may_fetch script c.played s key epoch.0 facts.reached.setup can.work can.room epoch.1) can.fetching in
    subst (λ (after : Played). AnswersOr c.played after s can.work.start key (3 * cells_to_read c.played can.work.start key + 1)) (sym (own_plays script c aim s (event.Fetch s key) ahead)) (fetch_made ends script s can.work.start key epoch.0 c.played can.work.client so)

pub reads_are_carried : BareReadsEnd → ReadsAreCarried
reads_are_carried ends = record {
  steps = λ script turns aim s start key r ahead reads works. step_carried ends script turns aim s start key r ahead reads works;
  fetches = λ script turns aim s key in_range playable ahead can. fetch_carried ends script turns aim s key in_range playable ahead can;
}
