-- What a node's acceptance and decision of a request come to.
use Rattle.machine.proofs.Names.{AreDue, DueToSession, ◌∙◌, ap, ◌≡◌, ℕ, ◌+◌, ◌≤◌, ◌==◌, max, Bool, true, false}
use Rattle.machine.proofs.Names.{if◌then◌else◌, [], ◌∷◌, Option, Some, None, ◌⊎◌, inl, inr, refl, sym, subst, arith}
use Rattle.machine.proofs.Names.{eqb-true, ltb-true, eqb-false, slice_get, slice_set, nat_lt, nat_le, Cause, Node}
use Rattle.machine.proofs.Names.{Session, Item, Verdict, Free, Conflict, Hidden, Decided, Held, Progress, Request}
use Rattle.machine.proofs.Names.{Begin, Commit, InstanceEntry, held_of, InstanceStep, decided_by, IsStop, moved}
use Rattle.machine.proofs.Names.{without_request, no_stamp_told, epoch_refusal, accept_unless, accept_if_asked}
use Rattle.machine.proofs.Names.{accept_held, out_of_stamps, decide_drawn, verdict_by, stamp_of, Client, State, Effect}
use Rattle.machine.proofs.Names.{after_refusal, Step, step_by, with_post, with_client, with_reading, accept_by}
use Rattle.machine.proofs.Names.{accept_request, accept_on, draw_item, both_verdict, both_if_accepted, both_held}
use Rattle.machine.proofs.Names.{decide_by, decide_request, decide_on, InstanceAt, ClientAt, StopOf, AreStops}
use Rattle.machine.proofs.Names.{OfAccepted, OfEnded, OfDrew, ComesAt}
use Rattle.machine.proofs.Dues.DueItems.{plain_due, refusal_due, once_due}
use Rattle.machine.proofs.Dues.RequestRefusals.{old_due, late_due, kept_due, used_up_due, draw_due, verdict_due}
use Rattle.std.specs.Prelude.{IsTrue}
use Rattle.history_book.specs.declared.cause.Cause.TheVariants as cause
use Rattle.history_book.specs.declared.item.Item.TheVariants as item
use Rattle.system_parts.specs.declared.instance.Progress.TheVariants as progress
use Rattle.cause_rules.specs.OpenAsks.{ends_request}
use Rattle.machine.proofs.Outcome.PlainItems.{once_silent}
use Rattle.machine.specs.Outcome.OutcomesOfRecord.{Told}
use Rattle.machine.proofs.Inversions.InversionParts.{PlainDue, node_told, no_request_told, ComesTo, ComesBy, comes_at, tells, still_both, client_back}
use Rattle.machine.proofs.Inversions.FreeVerdicts.{writes_free, reads_free}
use Rattle.machine.proofs.Orders.{max_left}
use Rattle.machine.proofs.Outcome.QuietItems.{one_quiet, refusal_quiet, told_quiet}

abbrev pub for_request : State → ℕ → ℕ → Effect (Option InstanceEntry × Client) → Step
for_request w node session effect = step_by effect (λ (p : Option InstanceEntry × Client). with_client (with_post w node p.0) session p.1)

-- a node and a client
pub record Served (w : State) (node session : ℕ) (i : InstanceEntry) (held : Held) (c : Client) : Type 0 where
  pub at : InstanceAt w.nodes node i
  pub client_at : ClientAt w.clients session c
  pub has : held_of i session ≡ Some held

-- the request is over by a refusal
ended : (w : State) (node session seen : ℕ) (i : InstanceEntry) (held : Held) (c : Client) (why : Cause) → IsTrue (ends_request why) → DueToSession w session why → Served w node session i held c → (held.progress ≡ progress.Asked) ⊎ (held.progress ≡ progress.Accepted) → w.seen ≤ seen → ComesTo w (record (with_client (with_post w node (Some (without_request i session))) session (after_refusal held.request c)) { seen = seen }) (item.Refused (Session session) why ∷ [])
ended w node session seen i held c why ends due served undrawn up = (
  OfEnded (record {
    node = node;
    session = session;
    i = i;
    held = held;
    c = c;
    at = served.at;
    has = served.has;
    undrawn = undrawn;
    client_at = served.client_at;
    seen = seen;
    up = up;
    why = why;
    ends = ends;
    items = item.Refused (Session session) why ∷ [];
    tells = refl;
    quiet = refusal_quiet (Session session) why;
  }),
  refl,
  refl,
  tt,
  refusal_due w (Session session) why due,
)

-- ---- accept
abbrev accept_step : State → ℕ → ℕ → ℕ → Held → Client → InstanceStep (Unit {0}) → Step
accept_step w node session reading held c taken = for_request (with_reading w reading) node session (accept_by node session reading held.request taken.left c taken.answer)

-- a commit of an older epoch is refused, and nothing else by the epoch
old_if : (old : Bool) (why : Cause) → ((if old then Some why else None) ≡ None) ⊎ ((if old then Some why else None) ≡ Some why)
old_if true why = inr refl
old_if false why = inl refl

epoch_cases : (i : InstanceEntry) (request : Request) → (epoch_refusal i request ≡ None) ⊎ ((start : ℕ) × (epoch_refusal i request ≡ Some (cause.OldEpoch start i.epoch)))
epoch_cases i (Begin session) = inl refl
epoch_cases i (Commit session start keys) = elim (old_if (nat_le start i.epoch) (cause.OldEpoch start i.epoch)) [
  | inl new ↦ inl new
  | inr old ↦ inr (start, old)
]

abbrev pub AcceptsBy : (w : State) → ℕ → Step → Type 0
AcceptsBy w reading step = ComesAt w (Some reading) step.state step.items

accept_timely : (w : State) (node session reading : ℕ) (i : InstanceEntry) (held : Held) (c : Client) → Served w node session i held c → held.progress ≡ progress.Asked → (in_time : Bool) → nat_lt reading i.until ≡ in_time → AcceptsBy w reading (accept_step w node session reading held c (accept_unless i session held (if in_time then epoch_refusal i held.request else Some (cause.Expired reading i.until))))
accept_timely w node session reading i held c served asked false late = comes_at w (Some reading) _ _ (ended w node session (max w.seen reading) i held c (cause.Expired reading i.until) refl (late_due w node session reading i held served.at served.has asked late) served (inl asked) (max_left w.seen reading))
accept_timely w node session reading i held c served asked true before = elim (epoch_cases i held.request) [
  | inl new ↦ subst (λ (f : Option Cause). AcceptsBy w reading (accept_step w node session reading held c (accept_unless i session held f))) (sym new) (
    OfAccepted (record {
      node = node;
      session = session;
      reading = reading;
      i = i;
      held = held;
      at = served.at;
      has = served.has;
      asked = asked;
      in_time = ltb-true reading i.until before;
      in_epoch = new;
      items = item.Accept session node i.term reading ∷ [];
      tells = refl;
      quiet = one_quiet (item.Accept session node i.term reading) refl;
    }),
    client_back w session (max w.seen reading) c (slice_set w.nodes node (Some (moved i session held progress.Accepted))) served.client_at,
    refl,
    refl,
    plain_due w _ (λ told. tt),
  )
  | inr old ↦ subst (λ (f : Option Cause). AcceptsBy w reading (accept_step w node session reading held c (accept_unless i session held f))) (sym old.1) (comes_at w (Some reading) _ _ (ended w node session (max w.seen reading) i held c (cause.OldEpoch old.0 i.epoch) refl (old_due w node session old.0 i held served.at served.has asked held.request refl old.1) served (inl asked) (max_left w.seen reading)))
]

accept_still : (w : State) (node session reading : ℕ) (post : Option InstanceEntry) (c : Client) (why : Cause) → PlainDue w (item.Refused (Node node) why ∷ []) → slice_get w.nodes node ≡ Some post → ClientAt w.clients session c → ComesAt w (Some reading) (with_client (with_post (with_reading w reading) node post) session c) (item.Refused (Node node) why ∷ [])
accept_still w node session reading post c why plain at client_at = comes_at w (Some reading) _ _ (still_both w node session (max w.seen reading) post c _ at client_at (max_left w.seen reading) plain)

accept_progress : (w : State) (node session reading : ℕ) (i : InstanceEntry) (held : Held) (c : Client) → Served w node session i held c → (p : Progress) → held.progress ≡ p → AcceptsBy w reading (accept_step w node session reading held c (accept_if_asked i session reading held p))
accept_progress w node session reading i held c served progress.Asked is = accept_timely w node session reading i held c served is (nat_lt reading i.until) refl
accept_progress w node session reading i held c served _ is = accept_still w node session reading (Some i) c (cause.NoRequest session) (no_request_told w node session) served.at served.client_at

accept_found : (w : State) (node session reading : ℕ) (i : InstanceEntry) (c : Client) → InstanceAt w.nodes node i → ClientAt w.clients session c → (found : Option Held) → held_of i session ≡ found → AcceptsBy w reading (for_request (with_reading w reading) node session (accept_request node session reading i c found))
accept_found w node session reading i c at client_at None has = accept_still w node session reading (Some i) c (cause.NoRequest session) (no_request_told w node session) at client_at
accept_found w node session reading i c at client_at (Some held) has =
    subst (λ (f : Option Held). AcceptsBy w reading (accept_step w node session reading held c (accept_held i session reading f))) (sym has) (accept_progress w node session reading i held c (record { at = at; client_at = client_at; has = has }) held.progress refl)

pub accept_at : (w : State) (node session reading : ℕ) (post : Option InstanceEntry) (c : Client) → slice_get w.nodes node ≡ Some post → ClientAt w.clients session c → AcceptsBy w reading (for_request (with_reading w reading) node session (accept_on node session reading post c))
accept_at w node session reading None c at client_at = accept_still w node session reading None c (cause.NoOracle node) (node_told w node (cause.NoOracle node) (refl, at)) at client_at
accept_at w node session reading (Some i) c at client_at = accept_found w node session reading i c at client_at (held_of i session) refl

-- ---- decide
abbrev decide_step : State → ℕ → ℕ → Held → Client → InstanceStep Decided → Step
decide_step w node session held c taken = for_request w node session (decide_by node session held taken.left c taken.answer)

-- a refusal that is kept is one of two
stop_cases : (why : Cause) → IsStop why → ((found : ℕ) × (why ≡ cause.Replaced found)) ⊎ ((ceiling : ℕ) × (why ≡ cause.Spent ceiling))
stop_cases (cause.Replaced found) is = inl (found, refl)
stop_cases (cause.Spent ceiling) is = inr (ceiling, refl)
stop_cases _ is = absurd is

decide_ended : (w : State) (node session : ℕ) (i : InstanceEntry) (held : Held) (c : Client) (why : Cause) → IsTrue (ends_request why) → DueToSession w session why → Served w node session i held c → held.progress ≡ progress.Accepted → ComesTo w (with_client (with_post w node (Some (without_request i session))) session (after_refusal held.request c)) (item.Refused (Session session) why ∷ [])
decide_ended w node session i held c why ends due served accepted = ended w node session w.seen i held c why ends due served (inr accepted) (omega arith)

-- no stamp is left
decide_out : (w : State) (node session : ℕ) (i : InstanceEntry) (held : Held) (c : Client) → Served w node session i held c → held.progress ≡ progress.Accepted → i.last ≡ i.ceiling → (stop : Option Cause) → StopOf stop → i.stop ≡ stop → ComesBy w (decide_step w node session held c (out_of_stamps i session held stop))
decide_out w node session i held c served accepted full None is kept =
    let x : Item = item.Refused (Session session) (cause.NoStamp i.last) in
    let k : Told w = record {
      it = record { node = node; session = session; i = i; held = held; at = served.at; has = served.has };
      told = record held { told_no_stamp = true };
      same_request = refl;
      same_progress = refl;
      items = if held.told_no_stamp then [] else x ∷ [];
      silent = once_silent held.told_no_stamp x refl;
    } in
    tells w _ k (told_quiet held.told_no_stamp x refl) (once_due w held.told_no_stamp (Session session) (cause.NoStamp i.last) (used_up_due w node session i held served.at served.has accepted full)) (client_back w session w.seen c (slice_set w.nodes node (Some (no_stamp_told i session held))) served.client_at)
decide_out w node session i held c served accepted full (Some why) is kept = elim (stop_cases why is) [
  | inl replaced ↦ subst (λ (f : Cause). ComesBy w (decide_step w node session held c (out_of_stamps i session held (Some f)))) (sym replaced.1) (decide_ended w node session i held c (cause.Replaced replaced.0) refl (kept_due w node session i held (cause.Replaced replaced.0) served.at served.has accepted (kept ∙ ap (λ (f : Cause). Some f) replaced.1)) served accepted)
  | inr spent ↦ subst (λ (f : Cause). ComesBy w (decide_step w node session held c (out_of_stamps i session held (Some f)))) (sym spent.1) (decide_ended w node session i held c (cause.Spent spent.0) refl (kept_due w node session i held (cause.Spent spent.0) served.at served.has accepted (kept ∙ ap (λ (f : Cause). Some f) spent.1)) served accepted)
]

drawn_same : (node term stamp : ℕ) (request : Request) → draw_item node term request (stamp_of (decided_by request stamp)) ∷ [] ≡ draw_item node term request stamp ∷ []
drawn_same node term stamp (Begin session) = refl
drawn_same node term stamp (Commit session start keys) = refl

decide_room : (w : State) (node session : ℕ) (i : InstanceEntry) (held : Held) (c : Client) → Served w node session i held c → StopOf i.stop → held.progress ≡ progress.Accepted → both_verdict i.buckets c.reads held.request ≡ Free → (spent : Bool) → (i.last == i.ceiling) ≡ spent → ComesBy w (decide_step w node session held c (if spent then out_of_stamps i session held i.stop else decide_drawn i session held (i.last + 1)))
decide_room w node session i held c served stop accepted free true full = decide_out w node session i held c served accepted (eqb-true i.last i.ceiling full) i.stop stop refl
decide_room w node session i held c served stop accepted free false room = (
  OfDrew (record {
    node = node;
    session = session;
    i = i;
    held = held;
    at = served.at;
    has = served.has;
    accepted = accepted;
    room = λ same. eqb-false i.last i.ceiling room same;
    free = writes_free i.buckets c.reads held.request free;
    c = c;
    client_at = served.client_at;
    reads_free = reads_free i.buckets c.reads held.request free;
  }),
  client_back w session w.seen c (slice_set w.nodes node (Some (decide_drawn i session held (i.last + 1)).left)) served.client_at,
  drawn_same node i.term (i.last + 1) held.request,
  tt,
  subst (AreDue w) (sym (drawn_same node i.term (i.last + 1) held.request)) (draw_due w node i.term (i.last + 1) held.request),
)

decide_verdict : (w : State) (node session : ℕ) (i : InstanceEntry) (held : Held) (c : Client) → Served w node session i held c → StopOf i.stop → held.progress ≡ progress.Accepted → (v : Verdict) → both_verdict i.buckets c.reads held.request ≡ v → ComesBy w (decide_step w node session held c (verdict_by i session held v))
decide_verdict w node session i held c served stop accepted Free is = decide_room w node session i held c served stop accepted is (i.last == i.ceiling) refl
decide_verdict w node session i held c served stop accepted (Conflict key by) is = decide_ended w node session i held c (cause.Conflict key by) refl (verdict_due w node session i held c (Conflict key by) (λ free. cc) served.at served.has served.client_at accepted held.request refl is) served accepted
decide_verdict w node session i held c served stop accepted (Hidden key water) is = decide_ended w node session i held c (cause.Hidden key water) refl (verdict_due w node session i held c (Hidden key water) (λ free. cc) served.at served.has served.client_at accepted held.request refl is) served accepted

pub decide_still : (w : State) (node session : ℕ) (post : Option InstanceEntry) (c : Client) (why : Cause) → PlainDue w (item.Refused (Node node) why ∷ []) → slice_get w.nodes node ≡ Some post → ClientAt w.clients session c → ComesTo w (with_client (with_post w node post) session c) (item.Refused (Node node) why ∷ [])
decide_still w node session post c why plain at client_at = still_both w node session w.seen post c _ at client_at (omega arith) plain

decide_progress : (w : State) (node session : ℕ) (i : InstanceEntry) (held : Held) (c : Client) → Served w node session i held c → StopOf i.stop → (p : Progress) → held.progress ≡ p → ComesBy w (decide_step w node session held c (both_if_accepted i session c.reads held p))
decide_progress w node session i held c served stop progress.Accepted is = decide_verdict w node session i held c served stop is (both_verdict i.buckets c.reads held.request) refl
decide_progress w node session i held c served stop _ is = decide_still w node session (Some i) c (cause.NoRequest session) (no_request_told w node session) served.at served.client_at

decide_found : (w : State) (node session : ℕ) (i : InstanceEntry) (c : Client) → InstanceAt w.nodes node i → ClientAt w.clients session c → StopOf i.stop → (found : Option Held) → held_of i session ≡ found → ComesBy w (for_request w node session (decide_request node session i c found))
decide_found w node session i c at client_at stop None has = decide_still w node session (Some i) c (cause.NoRequest session) (no_request_told w node session) at client_at
decide_found w node session i c at client_at stop (Some held) has =
    subst (λ (f : Option Held). ComesBy w (decide_step w node session held c (both_held i session c.reads f))) (sym has) (decide_progress w node session i held c (record { at = at; client_at = client_at; has = has }) stop held.progress refl)

pub decide_at : (w : State) (node session : ℕ) (post : Option InstanceEntry) (c : Client) → AreStops w.nodes → slice_get w.nodes node ≡ Some post → ClientAt w.clients session c → ComesBy w (for_request w node session (decide_on node session post c))
decide_at w node session None c stops at client_at = decide_still w node session None c (cause.NoOracle node) (node_told w node (cause.NoOracle node) (refl, at)) at client_at
decide_at w node session (Some i) c stops at client_at = decide_found w node session i c at client_at (stops.stop node i at) (held_of i session) refl
