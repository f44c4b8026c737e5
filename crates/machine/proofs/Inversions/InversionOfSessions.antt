-- For isolation_laws and cause_laws too.
-- What the events of a session alone come to, but for a fetch: an abort, a vanish, a write, a heal.
use Rattle.machine.proofs.Dues.DueItems.{plain_due, all_due, two_free}
use Rattle.machine.proofs.Dues.OwnRefusals.{work_own, vanish_own, write_own, heal_own}
use Rattle.machine.proofs.Names.{[], ◌≡◌, ℕ, Bool, true, false, if◌then◌else◌, List, ◌∷◌, Option, Some, None, ◌⊎◌, inl}
use Rattle.machine.proofs.Names.{inr, refl, option_or, Cells, Fate, Works, FailsUnchanged, FailsApplied, fated, Cause}
use Rattle.machine.proofs.Names.{TooManyKeys, Session, Item, Row, put_row, with_shadow, SessionState, work_refusal}
use Rattle.machine.proofs.Names.{key_refusal, vanish_refusal, Client, State, Effect, is_reading, Step, step_by}
use Rattle.machine.proofs.Names.{with_client, abort_by, abort_on, vanish_by, vanish_on, write_refused, write_by}
use Rattle.machine.proofs.Names.{write_open, write_on, offer_by, offer_of, no_offer_cause, heal_at, heal_on, ClientAt}
use Rattle.machine.proofs.Names.{Mild, AtOpen, OfAborted, OfVanished, OfWrote, OfWriteFailed, OfHealed}
use Rattle.history_book.specs.declared.item.Ending.TheVariants as ending
use Rattle.history_book.specs.declared.item.StoreStep.TheVariants as step
use Rattle.history_book.specs.declared.item.Item.TheVariants as item
use Rattle.system_parts.specs.declared.session.State.TheVariants as phase
use Rattle.machine.proofs.Outcome.PlainItems.{all_quiet, all_silent, one_silent, two_silent, mild_is}
use Rattle.machine.proofs.Inversions.InversionParts.{PlainDue, nothing_told, one_told, state_told, ComesTo, ComesBy, still_client, at_open}
use Rattle.machine.proofs.Outcome.QuietItems.{one_quiet, two_quiet}

-- the effect on a client, and on the cells with it
abbrev pub for_client : State → ℕ → Effect Client → Step
for_client w session effect = step_by effect (λ (p : Client). with_client w session p)

abbrev pub for_cells : State → ℕ → Effect (Client × List Row) → Step
for_cells w session effect = step_by effect (λ (p : Client × List Row). record (with_client w session p.0) { rows = p.1 })

-- work is refused but of an open transaction without a read under way
pub work_open : (state : SessionState) (reading : Bool) → work_refusal state reading ≡ None → (state ≡ phase.Open) × (reading ≡ false)
work_open phase.Open false go = (refl, refl)
work_open phase.Open true go = absurd (cc)
work_open _ reading go = absurd (cc)

pub work_mild : (state : SessionState) (reading : Bool) → Mild (work_refusal state reading)
work_mild phase.Open false = tt
work_mild phase.Open true = refl
work_mild _ reading = refl

abbrev pub open_by_work : (w : State) (session : ℕ) (c : Client) → ClientAt w.clients session c → work_refusal c.entry.state (is_reading c) ≡ None → AtOpen w
open_by_work w session c at go = at_open w session c at (work_open c.entry.state (is_reading c) go).0 (work_open c.entry.state (is_reading c) go).1

-- ---- abort
abort_comes : (w : State) (session : ℕ) (c : Client) → ClientAt w.clients session c → (why : Option Cause) → work_refusal c.entry.state (is_reading c) ≡ why → (start : Option ℕ) → ComesBy w (for_client w session (abort_by session c why start))
abort_comes w session c at (Some why) go start = still_client w session c _ at (state_told w session c why at (mild_is (work_refusal c.entry.state (is_reading c)) why go (work_mild c.entry.state (is_reading c))) (work_own c.entry.state (is_reading c) why go))
abort_comes w session c at None go None = still_client w session c [] at (nothing_told w)
abort_comes w session c at None go (Some start) = (
  OfAborted (record {
    it = open_by_work w session c at go;
    items = item.End session start ending.Aborted ∷ [];
    quiet = one_quiet (item.End session start ending.Aborted) refl;
    silent = one_silent (item.End session start ending.Aborted) refl;
  }),
  refl,
  refl,
  tt,
  plain_due w _ (λ told. tt),
)

pub abort_at : (w : State) (session : ℕ) (c : Client) → ClientAt w.clients session c → ComesBy w (for_client w session (abort_on session c))
abort_at w session c at = abort_comes w session c at (work_refusal c.entry.state (is_reading c)) refl c.entry.start

-- ---- vanish
vanish_mild : (state : SessionState) → Mild (vanish_refusal state)
vanish_mild phase.Gone = refl
vanish_mild _ = tt

vanish_comes : (w : State) (session : ℕ) (c : Client) → ClientAt w.clients session c → (why : Option Cause) → vanish_refusal c.entry.state ≡ why → ComesBy w (for_client w session (vanish_by session c why))
vanish_comes w session c at (Some why) go = still_client w session c _ at (state_told w session c why at (mild_is (vanish_refusal c.entry.state) why go (vanish_mild c.entry.state)) (vanish_own c.entry.state why go))
vanish_comes w session c at None go = (
  OfVanished (record {
    session = session;
    c = c;
    client_at = at;
    items = item.Vanish session ∷ [];
    tells = refl;
    quiet = one_quiet (item.Vanish session) refl;
    silent = one_silent (item.Vanish session) refl;
  }),
  refl,
  refl,
  tt,
  plain_due w _ (λ told. tt),
)

pub vanish_at : (w : State) (session : ℕ) (c : Client) → ClientAt w.clients session c → ComesBy w (for_client w session (vanish_on session c))
vanish_at w session c at = vanish_comes w session c at (vanish_refusal c.entry.state) refl

-- ---- write
-- a list of keys that is full refuses no request
pub full_mild : (room : Bool) → Mild (if room then None else Some TooManyKeys)
full_mild true = tt
full_mild false = refl

pub either_mild : (first second : Option Cause) → Mild first → Mild second → Mild (option_or first second)
either_mild None second one two = two
either_mild (Some why) second one two = one

write_mild : (c : Client) (key : ℕ) → Mild (write_refused c key)
write_mild c key = either_mild (work_refusal c.entry.state (is_reading c)) (key_refusal c.entry.keys key) (work_mild c.entry.state (is_reading c)) (full_mild _)

pub write_may : (work key : Option Cause) → option_or work key ≡ None → work ≡ None
write_may None key go = refl
write_may (Some why) key go = absurd (cc)

write_failed : (w : State) (session start key : ℕ) (value : List ℕ) (c : Client) → ClientAt w.clients session c → work_refusal c.entry.state (is_reading c) ≡ None → c.entry.start ≡ Some start → (rows : List Row) → (rows ≡ w.rows) ⊎ (rows ≡ put_row w.rows key start value) → ComesBy w (for_cells w session (write_by session start key value FailsApplied c rows))
write_failed w session start key value c at go begun rows rows_are = (
  OfWriteFailed (record {
    it = open_by_work w session c at go;
    start = start;
    key = key;
    value = value;
    start_is = begun;
    rows = rows;
    rows_are = rows_are;
    items = item.Fault (Session session) Cells ∷ item.End session start ending.Aborted ∷ [];
    quiet = two_quiet (item.Fault (Session session) Cells) (item.End session start ending.Aborted) refl refl;
    silent = two_silent (item.Fault (Session session) Cells) (item.End session start ending.Aborted) refl refl;
  }),
  refl,
  refl,
  tt,
  all_due w _ (two_free w _ _ (λ told. tt) (λ told. tt)),
)

write_fated : (w : State) (session start key : ℕ) (value : List ℕ) (fate : Fate) (c : Client) → ClientAt w.clients session c → work_refusal c.entry.state (is_reading c) ≡ None → c.entry.start ≡ Some start → ComesBy w (for_cells w session (write_by session start key value fate c (fated fate w.rows (put_row w.rows key start value))))
write_fated w session start key value Works c at go begun = (OfWrote (record { it = open_by_work w session c at go; start = start; key = key; value = value; start_is = begun }), refl, refl, tt, plain_due w _ (λ told. tt))
write_fated w session start key value FailsUnchanged c at go begun = write_failed w session start key value c at go begun w.rows (inl refl)
write_fated w session start key value FailsApplied c at go begun = write_failed w session start key value c at go begun (put_row w.rows key start value) (inr refl)

write_comes : (w : State) (session key : ℕ) (value : List ℕ) (fate : Fate) (c : Client) → ClientAt w.clients session c → (why : Option Cause) → write_refused c key ≡ why → (start : Option ℕ) → c.entry.start ≡ start → ComesBy w (for_cells w session (write_open session key value fate c w.rows why start))
write_comes w session key value fate c at (Some why) go start begun = still_client w session c _ at (state_told w session c why at (mild_is (write_refused c key) why go (write_mild c key)) (write_own c key why (work_refusal c.entry.state (is_reading c)) refl go))
write_comes w session key value fate c at None go None begun = still_client w session c [] at (nothing_told w)
write_comes w session key value fate c at None go (Some start) begun = write_fated w session start key value fate c at (write_may (work_refusal c.entry.state (is_reading c)) (key_refusal c.entry.keys key) go) begun

pub write_at : (w : State) (session key : ℕ) (value : List ℕ) (fate : Fate) (c : Client) → ClientAt w.clients session c → ComesBy w (for_cells w session (write_on session key value fate c w.rows))
write_at w session key value fate c at = write_comes w session key value fate c at (write_refused c key) refl c.entry.start refl

-- ---- heal
-- an offer is taken of an open transaction without a read under way
offer_open : (state : SessionState) (reading : Bool) (heal : Option (ℕ × ℕ × ℕ)) (offer : ℕ × ℕ × ℕ) → offer_by state reading heal ≡ Some offer → (state ≡ phase.Open) × (reading ≡ false) × (heal ≡ Some offer)
offer_open phase.Open false heal offer has = (refl, refl, has)
offer_open phase.Open true heal offer has = absurd (cc)
offer_open _ reading heal offer has = absurd (cc)

no_offer_mild : (state : SessionState) → Mild (Some (no_offer_cause state))
no_offer_mild phase.Gone = refl
no_offer_mild _ = refl

heal_one : (w : State) (session : ℕ) (c : Client) (offer : ℕ × ℕ × ℕ) → ClientAt w.clients session c → offer_of c ≡ Some offer → (applied : Bool) (items : List Item) → PlainDue w items → ComesTo w (record (with_client w session (record c { heal = None })) { rows = if applied then with_shadow w.rows offer.0 offer.1 offer.2 else w.rows }) items
heal_one w session c offer at has applied items plain =
    let found = offer_open c.entry.state (is_reading c) c.heal offer has in (
      OfHealed (record {
        it = at_open w session c at found.0 found.1;
        key = offer.0;
        version = offer.1;
        commit = offer.2;
        offer = found.2;
        applied = applied;
        items = items;
        quiet = all_quiet items plain.0;
        silent = all_silent items plain.0;
      }),
      refl,
      refl,
      tt,
      plain.1,
    )

heal_comes : (w : State) (session : ℕ) (fate : Fate) (c : Client) → ClientAt w.clients session c → (offer : Option (ℕ × ℕ × ℕ)) → offer_of c ≡ offer → ComesBy w (for_cells w session (heal_at session fate c w.rows w.pairs offer))
heal_comes w session fate c at None has = still_client w session c _ at (state_told w session c (no_offer_cause c.entry.state) at (no_offer_mild c.entry.state) (heal_own c.entry.state))
heal_comes w session Works c at (Some offer) has = heal_one w session c offer at has true (item.Step (Session session) (step.Shadow offer.0 offer.1 offer.2) ∷ []) (one_told w (item.Step (Session session) (step.Shadow offer.0 offer.1 offer.2)) (refl, refl) (λ told. tt))
heal_comes w session FailsUnchanged c at (Some offer) has = heal_one w session c offer at has false (item.Fault (Session session) Cells ∷ []) (one_told w (item.Fault (Session session) Cells) (refl, refl) (λ told. tt))
heal_comes w session FailsApplied c at (Some offer) has = heal_one w session c offer at has true (item.Fault (Session session) Cells ∷ []) (one_told w (item.Fault (Session session) Cells) (refl, refl) (λ told. tt))

pub heal_at_client : (w : State) (session : ℕ) (fate : Fate) (c : Client) → ClientAt w.clients session c → ComesBy w (for_cells w session (heal_on session fate c w.rows w.pairs))
heal_at_client w session fate c at = heal_comes w session fate c at (offer_of c) refl
