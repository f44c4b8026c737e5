-- What a request is refused by: the lease or the epoch of its instance, the verdict on it, and the end of the stamps.
use Rattle.machine.proofs.Names.{◌∙◌, ap, ◌≡◌, ℕ, ◌≤◌, Bool, true, false, if◌then◌else◌, List, [], ◌∷◌, Some, None}
use Rattle.machine.proofs.Names.{refl, sym, subst, answered_item, nat_lt, nat_le, ltb-false, leb-true, same_Some, Cause}
use Rattle.machine.proofs.Names.{Session, Verdict, Free, Held, Progress, Request, Begin, Commit, InstanceEntry, held_of}
use Rattle.machine.proofs.Names.{least_unsettled, epoch_refusal, Client, State, both_verdict, draw_item, InstanceAt}
use Rattle.machine.proofs.Names.{ClientAt, Serves, DueOldEpoch, DueExpired, DueStop, DueNoStamp, DueVerdict, DueNotYet}
use Rattle.machine.proofs.Names.{DueSettled, AreDue, Settled}
use Rattle.history_book.specs.declared.cause.Cause.TheVariants as cause
use Rattle.system_parts.specs.declared.instance.Progress.TheVariants as progress
use Rattle.machine.proofs.Dues.DueItems.{plain_due, refusal_due}
use Rattle.system_parts.specs.declared.instance.Settled.TheVariants as how

-- the request that is held, as it was asked and as far as it has come
pub serves : (w : State) (node session : ℕ) (i : InstanceEntry) (held : Held) (request : Request) (p : Progress) → InstanceAt w.nodes node i → held_of i session ≡ Some held → held.request ≡ request → held.progress ≡ p → Serves w session i request p
serves w node session i held request p at has asks stands = record { node = node; at = at; holds = record { held = held; has = has; asks = asks; stands = stands } }

-- ---- accept
old_start : (start epoch : ℕ) (old : Bool) (why : Cause) → nat_le start epoch ≡ old → (if old then Some (cause.OldEpoch start epoch) else None) ≡ Some why → start ≤ epoch
old_start start epoch true why old is = leb-true start epoch old
old_start start epoch false why old is = absurd (cc)

same_epoch : (start told epoch : ℕ) → cause.OldEpoch start epoch ≡ cause.OldEpoch told epoch → start ≡ told
same_epoch start told epoch is = cc

old_told : (start told epoch : ℕ) (old : Bool) → (if old then Some (cause.OldEpoch start epoch) else None) ≡ Some (cause.OldEpoch told epoch) → start ≡ told
old_told start told epoch true is = same_epoch start told epoch (same_Some (cause.OldEpoch start epoch) (cause.OldEpoch told epoch) is)
old_told start told epoch false is = absurd (cc)

pub old_due : (w : State) (node session told : ℕ) (i : InstanceEntry) (held : Held) → InstanceAt w.nodes node i → held_of i session ≡ Some held → held.progress ≡ progress.Asked → (request : Request) → held.request ≡ request → epoch_refusal i request ≡ Some (cause.OldEpoch told i.epoch) → DueOldEpoch w session told i.epoch
old_due w node session told i held at has asked (Begin asker) asks is = absurd (cc)
old_due w node session told i held at has asked (Commit asker start keys) asks is =
    let same : start ≡ told = old_told start told i.epoch (nat_le start i.epoch) is in
    record {
      i = i;
      asker = asker;
      keys = keys;
      serves = serves w node session i held (Commit asker told keys) progress.Asked at has (asks ∙ ap (λ (t : ℕ). Commit asker t keys) same) asked;
      epoch_is = refl;
      old = subst (λ (t : ℕ). t ≤ i.epoch) same (old_start start i.epoch (nat_le start i.epoch) (cause.OldEpoch told i.epoch) refl is);
    }

pub late_due : (w : State) (node session reading : ℕ) (i : InstanceEntry) (held : Held) → InstanceAt w.nodes node i → held_of i session ≡ Some held → held.progress ≡ progress.Asked → nat_lt reading i.until ≡ false → DueExpired w session reading i.until
late_due w node session reading i held at has asked late = record {
  i = i;
  request = held.request;
  serves = serves w node session i held held.request progress.Asked at has refl asked;
  until_is = refl;
  over = ltb-false reading i.until late;
}

-- ---- decide
-- what the instance keeps of the master record's refusals
pub kept_due : (w : State) (node session : ℕ) (i : InstanceEntry) (held : Held) (why : Cause) → InstanceAt w.nodes node i → held_of i session ≡ Some held → held.progress ≡ progress.Accepted → i.stop ≡ Some why → DueStop w session why
kept_due w node session i held why at has accepted stop = record { i = i; request = held.request; serves = serves w node session i held held.request progress.Accepted at has refl accepted; stop_is = stop }

pub used_up_due : (w : State) (node session : ℕ) (i : InstanceEntry) (held : Held) → InstanceAt w.nodes node i → held_of i session ≡ Some held → held.progress ≡ progress.Accepted → i.last ≡ i.ceiling → DueNoStamp w session i.last
used_up_due w node session i held at has accepted full = record { i = i; request = held.request; serves = serves w node session i held held.request progress.Accepted at has refl accepted; last_is = refl; used_up = full }

-- a draw is no refusal
pub draw_due : (w : State) (node term stamp : ℕ) (request : Request) → AreDue w (draw_item node term request stamp ∷ [])
draw_due w node term stamp (Begin asker) = plain_due w _ (λ told. tt)
draw_due w node term stamp (Commit asker start keys) = plain_due w _ (λ told. tt)

-- the verdict on a commit; a begin has none
pub verdict_due : (w : State) (node session : ℕ) (i : InstanceEntry) (held : Held) (c : Client) (v : Verdict) → (v ≡ Free → ⊥) → InstanceAt w.nodes node i → held_of i session ≡ Some held → ClientAt w.clients session c → held.progress ≡ progress.Accepted → (request : Request) → held.request ≡ request → both_verdict i.buckets c.reads request ≡ v → DueVerdict w session v
verdict_due w node session i held c v stands at has client_at accepted (Begin asker) asks is = absurd (stands (sym is))
verdict_due w node session i held c v stands at has client_at accepted (Commit asker start keys) asks is = record {
  i = i;
  asker = asker;
  start = start;
  keys = keys;
  serves = serves w node session i held (Commit asker start keys) progress.Accepted at has asks accepted;
  client = c;
  client_at = client_at;
  judged = is;
}

-- ---- answer
pub waits_due : (w : State) (node session asker start commit : ℕ) (i : InstanceEntry) (held : Held) → InstanceAt w.nodes node i → held_of i session ≡ Some held → held.request ≡ Begin asker → held.progress ≡ progress.Drawn start → least_unsettled i.requests start ≡ Some commit → DueNotYet w session commit
waits_due w node session asker start commit i held at has asks drawn least = record { i = i; asker = asker; start = start; serves = serves w node session i held (Begin asker) (progress.Drawn start) at has asks drawn; least = least }

settled_so : (w : State) (node session asker start commit : ℕ) (keys : List ℕ) (by : Settled) (i : InstanceEntry) (held : Held) → InstanceAt w.nodes node i → held_of i session ≡ Some held → held.request ≡ Commit asker start keys → held.progress ≡ progress.Settled commit by → DueSettled w session start by
settled_so w node session asker start commit keys by i held at has asks settled = record { i = i; asker = asker; commit = commit; keys = keys; serves = serves w node session i held (Commit asker start keys) (progress.Settled commit by) at has asks settled }

pub settled_due : (w : State) (node session asker start commit : ℕ) (keys : List ℕ) (by : Settled) (i : InstanceEntry) (held : Held) → InstanceAt w.nodes node i → held_of i session ≡ Some held → held.request ≡ Commit asker start keys → held.progress ≡ progress.Settled commit by → AreDue w (answered_item by session start commit ∷ [])
settled_due w node session asker start commit keys how.Placed i held at has asks settled = plain_due w _ (λ told. tt)
settled_due w node session asker start commit keys how.Invalid i held at has asks settled = refusal_due w (Session session) (cause.Invalid start) (settled_so w node session asker start commit keys how.Invalid i held at has asks settled)
settled_due w node session asker start commit keys how.Faulted i held at has asks settled = refusal_due w (Session session) (cause.Open start) (settled_so w node session asker start commit keys how.Faulted i held at has asks settled)
