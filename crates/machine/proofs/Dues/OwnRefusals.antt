-- A session is refused by its own state: it has vanished, or the cause needs nothing shown.
use Rattle.machine.proofs.Names.{◌≡◌, ℕ, ◌||◌, Bool, true, false, if◌then◌else◌, [], ◌∷◌, Option, Some, None, ◌⊎◌, inl}
use Rattle.machine.proofs.Names.{inr, refl, sym, subst, length, nat_lt, option_or, same_Some, SetupNumbers, Cause}
use Rattle.machine.proofs.Names.{Session, SessionState, step_refusal, begin_refusal, work_refusal, vanish_refusal}
use Rattle.machine.proofs.Names.{key_refusal, has_key, Client, State, is_reading, keeps_read, reads_refusal, ClientAt}
use Rattle.machine.proofs.Names.{NeedsNoRow, AreDue, no_offer_cause}
use Rattle.stamp_base.specs.declared.limits.TheConstants.{KEY_LIMIT}
use Rattle.history_book.specs.declared.cause.Cause.TheVariants as cause
use Rattle.history_book.specs.declared.item.Item.TheVariants as item
use Rattle.system_parts.specs.declared.session.State.TheVariants as phase
use Rattle.machine.proofs.Dues.DueItems.{refusal_due, no_row_due}

-- it has vanished, or the cause has no row
abbrev pub IsOwn : SessionState → Cause → Type 0
IsOwn state why = ((state ≡ phase.Gone) × (cause.Gone ≡ why)) ⊎ ((s : ℕ) → NeedsNoRow (Session s) why)

pub own_due : (w : State) (session : ℕ) (c : Client) (why : Cause) → ClientAt w.clients session c → IsOwn c.entry.state why → AreDue w (item.Refused (Session session) why ∷ [])
own_due w session c why at (inl gone) =
    subst (λ (x : Cause). AreDue w (item.Refused (Session session) x ∷ [])) gone.1 (refusal_due w (Session session) cause.Gone (record { client = c; at = at; gone = gone.0 }))
own_due w session c why at (inr row) = no_row_due w (Session session) why (row session)

pub told_gone : (why : Cause) → Some cause.Gone ≡ Some why → IsOwn phase.Gone why
told_gone why is = inl (refl, same_Some cause.Gone why is)

pub told_own : (state : SessionState) (first why : Cause) → ((s : ℕ) → NeedsNoRow (Session s) first) → Some first ≡ Some why → IsOwn state why
told_own state first why row is = inr (subst (λ (x : Cause). (s : ℕ) → NeedsNoRow (Session s) x) (same_Some first why is) row)

pub told_busy : (state : SessionState) (why : Cause) → Some cause.Busy ≡ Some why → IsOwn state why
told_busy state why is = told_own state cause.Busy why (λ s setup h. tt) is

pub begin_own : (state : SessionState) (why : Cause) → begin_refusal state ≡ Some why → IsOwn state why
begin_own phase.Gone why is = told_gone why is
begin_own phase.Free why is = absurd (cc)
begin_own phase.Asking why is = told_busy phase.Asking why is
begin_own phase.Open why is = told_busy phase.Open why is
begin_own phase.Committing why is = told_busy phase.Committing why is
begin_own phase.Placing why is = told_busy phase.Placing why is
begin_own phase.OpenOutcome why is = told_busy phase.OpenOutcome why is
begin_own (phase.Completing undo) why is = told_busy (phase.Completing undo) why is

pub work_own : (state : SessionState) (reading : Bool) (why : Cause) → work_refusal state reading ≡ Some why → IsOwn state why
work_own phase.Gone reading why is = told_gone why is
work_own phase.Free reading why is = told_own phase.Free cause.NoTransaction why (λ s setup h. tt) is
work_own phase.Open true why is = told_busy phase.Open why is
work_own phase.Open false why is = absurd (cc)
work_own phase.Asking reading why is = told_busy phase.Asking why is
work_own phase.Committing reading why is = told_busy phase.Committing why is
work_own phase.Placing reading why is = told_busy phase.Placing why is
work_own phase.OpenOutcome reading why is = told_busy phase.OpenOutcome why is
work_own (phase.Completing undo) reading why is = told_busy (phase.Completing undo) why is

pub vanish_own : (state : SessionState) (why : Cause) → vanish_refusal state ≡ Some why → IsOwn state why
vanish_own phase.Gone why is = told_gone why is
vanish_own _ why is = absurd (cc)

pub room_own : (state : SessionState) (room : Bool) (why : Cause) → (if room then None else Some cause.TooManyKeys) ≡ Some why → IsOwn state why
room_own state true why is = absurd (cc)
room_own state false why is = told_own state cause.TooManyKeys why (λ s setup h. tt) is

pub write_own : (c : Client) (key : ℕ) (why : Cause) (work : Option Cause) → work_refusal c.entry.state (is_reading c) ≡ work → option_or work (key_refusal c.entry.keys key) ≡ Some why → IsOwn c.entry.state why
write_own c key why (Some first) work is = work_own c.entry.state (is_reading c) why (subst (λ (x : Option Cause). x ≡ Some why) (sym work) is)
write_own c key why None work is = room_own c.entry.state (has_key c.entry.keys key || nat_lt (length c.entry.keys) KEY_LIMIT) why is

-- a fetch finds no room for a key that is to be kept
pub reads_own : (c : Client) (key : ℕ) (why : Cause) (kept : Bool) → (if kept then key_refusal c.reads key else None) ≡ Some why → IsOwn c.entry.state why
reads_own c key why true is = room_own c.entry.state (has_key c.reads key || nat_lt (length c.reads) KEY_LIMIT) why is
reads_own c key why false is = absurd (cc)

pub fetch_own : (setup : SetupNumbers) (c : Client) (key : ℕ) (why : Cause) (work : Option Cause) → work_refusal c.entry.state (is_reading c) ≡ work → option_or work (reads_refusal setup c key) ≡ Some why → IsOwn c.entry.state why
fetch_own setup c key why (Some first) work is = work_own c.entry.state (is_reading c) why (subst (λ (x : Option Cause). x ≡ Some why) (sym work) is)
fetch_own setup c key why None work is = reads_own c key why (keeps_read setup c key) is

pub heal_own : (state : SessionState) → IsOwn state (no_offer_cause state)
heal_own phase.Gone = inl (refl, refl)
heal_own _ = inr (λ s setup h. tt)

pub idle_own : (state : SessionState) (reading : Bool) (why : Cause) → (if reading then None else Some cause.Idle) ≡ Some why → IsOwn state why
idle_own state true why is = absurd (cc)
idle_own state false why is = told_own state cause.Idle why (λ s setup h. tt) is

pub step_own : (state : SessionState) (reading : Bool) (why : Cause) → step_refusal state reading ≡ Some why → IsOwn state why
step_own phase.Gone reading why is = told_gone why is
step_own phase.OpenOutcome reading why is = absurd (cc)
step_own (phase.Completing undo) reading why is = absurd (cc)
step_own phase.Free reading why is = idle_own phase.Free reading why is
step_own phase.Asking reading why is = idle_own phase.Asking reading why is
step_own phase.Open reading why is = idle_own phase.Open reading why is
step_own phase.Committing reading why is = idle_own phase.Committing reading why is
step_own phase.Placing reading why is = absurd (cc)
