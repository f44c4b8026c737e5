-- For isolation_laws and cause_laws too.
-- What a node's put of a commit and its answer to a request come to.
use Rattle.machine.proofs.Names.{subst, ◌≡◌, ℕ, true, List, [], ◌∷◌, ◌++◌, if◌then◌else◌, Option, Some, None, ◌⊎◌, inl}
use Rattle.machine.proofs.Names.{inr, refl, sym, ◌∙◌, ap, arith, AreDue, slice_get, slice_set, Mark, CommittedMark}
use Rattle.machine.proofs.Names.{Table, Fate, Works, FailsUnchanged, FailsApplied, fated, Node, Session, PutFound}
use Rattle.machine.proofs.Names.{Handed, Item, Pairs, mark_of, put_over, Held, Progress, Reply, Request, Begin, Commit}
use Rattle.machine.proofs.Names.{Settled, InstanceEntry, held_of, was_told_not_yet, stamps_by, stamps_of_held}
use Rattle.machine.proofs.Names.{unsettled_by, least_unsettled, InstanceStep, without_request, moved, not_yet_told}
use Rattle.machine.proofs.Names.{settle_if_drawn, settle_held, instance_settle, answer_begin, answer_if_ready}
use Rattle.machine.proofs.Names.{answer_held, Client, State, Effect, refused, client_handed, unless_gone, Step, step_by}
use Rattle.machine.proofs.Names.{with_post, with_client, to_place_by, to_place, put_by, put_commit, put_on, answer_by}
use Rattle.machine.proofs.Names.{answer_on, InstanceAt, ClientAt, Quiet, AllQuiet, AtDrawn, fault_of, found_items}
use Rattle.machine.proofs.Names.{answered_client, answered_item, OfPlaced, OfNotPlaced, OfAnsweredBegin}
use Rattle.machine.proofs.Names.{OfAnsweredCommit, OfHanded}
use Rattle.machine.proofs.Dues.DueItems.{DueAnyway, none_due, plain_due, all_due, two_free, once_due}
use Rattle.machine.proofs.Dues.RequestRefusals.{waits_due, settled_due}
use Rattle.history_book.specs.declared.cause.Cause.TheVariants as cause
use Rattle.history_book.specs.declared.item.Item.TheVariants as item
use Rattle.system_parts.specs.declared.instance.Progress.TheVariants as progress
use Rattle.system_parts.specs.declared.instance.Settled.TheVariants as how
use Rattle.machine.proofs.Outcome.PlainItems.{once_silent}
use Rattle.machine.specs.Outcome.OutcomesOfRecord.{Told}
use Rattle.machine.proofs.Inversions.InversionParts.{node_told, no_request_told, ComesTo, ComesBy, tells, still_post, client_back}
use Rattle.machine.proofs.Inversions.InversionOfRequests.{for_request, Served, decide_still}
use Rattle.machine.proofs.Outcome.QuietItems.{one_quiet, none_quiet, told_quiet}

-- ---- put
abbrev pub for_table : State → ℕ → Effect (Option InstanceEntry × Pairs) → Step
for_table w node effect = step_by effect (λ (p : Option InstanceEntry × Pairs). record (with_post w node p.0) { pairs = p.1 })

-- it is settled
settled_left : (w : State) (it : AtDrawn w) (by : Settled) → (instance_settle it.i it.session by).left ≡ moved it.i it.session it.held (progress.Settled it.commit by)
settled_left w it by =
    ap (λ (f : Option Held). (settle_held it.i it.session by f).left) it.has
    ∙ (ap (λ (r : Request). (settle_if_drawn it.i it.session by it.held (unsettled_by r it.held.progress)).left) it.request_is
    ∙ ap (λ (p : Progress). (settle_if_drawn it.i it.session by it.held (unsettled_by (Commit it.asker it.start it.keys) p)).left) it.drawn)

pub put_settled : (w : State) (it : AtDrawn w) (by : Settled) (pairs : Pairs) → record (with_post w it.node (Some (instance_settle it.i it.session by).left)) { pairs = pairs } ≡ record (with_post w it.node (Some (moved it.i it.session it.held (progress.Settled it.commit by)))) { pairs = pairs }
put_settled w it by pairs = ap (λ (i : InstanceEntry). record (with_post w it.node (Some i)) { pairs = pairs }) (settled_left w it by)

-- a put refuses nothing
fault_behind : (w : State) (x : Item) → DueAnyway w x → (by : Settled) (node : ℕ) (items : List Item) → items ≡ fault_of by node → AreDue w (x ∷ items)
fault_behind w x free by node items same = subst (λ (rest : List Item). AreDue w (x ∷ rest)) (sym same) (behind by)
  where
    behind : (by : Settled) → AreDue w (x ∷ fault_of by node)
    behind how.Placed = plain_due w x free
    behind how.Invalid = plain_due w x free
    behind how.Faulted = all_due w _ (two_free w x (item.Fault (Node node) Table) free (λ told. tt))

found_due : (w : State) (by : Settled) (node start : ℕ) → AreDue w (found_items by node start ++ fault_of by node)
found_due w how.Placed node start = none_due w
found_due w how.Invalid node start = plain_due w _ (λ told. tt)
found_due w how.Faulted node start = plain_due w _ (λ told. tt)

put_due : (w : State) (by : Settled) (node start : ℕ) (items : List Item) → items ≡ found_items by node start ++ fault_of by node → AreDue w items
put_due w by node start items same = subst (AreDue w) (sym same) (found_due w by node start)

put_placed : (w : State) (it : AtDrawn w) (by : Settled) (items : List Item) → (by ≡ how.Placed) ⊎ (by ≡ how.Faulted) → items ≡ fault_of by it.node → mark_of w.pairs it.start ≡ None → AllQuiet items → ComesTo w (record (with_post w it.node (Some (instance_settle it.i it.session by).left)) { pairs = put_over w.pairs it.start (CommittedMark it.commit) None }) (item.Placed it.start it.commit ∷ items)
put_placed w it by items by_is tells free quiet = (
  OfPlaced (record { it = it; free = free; by = by; by_is = by_is; items = items; tells = tells; quiet = quiet }),
  put_settled w it by (put_over w.pairs it.start (CommittedMark it.commit) None) ∙ ap (λ (m : Option Mark). record (with_post w it.node (Some (moved it.i it.session it.held (progress.Settled it.commit by)))) { pairs = put_over w.pairs it.start (CommittedMark it.commit) m }) (sym free),
  refl,
  tt,
  fault_behind w (item.Placed it.start it.commit) (λ told. tt) by it.node items tells,
)

put_unplaced : (w : State) (it : AtDrawn w) (by : Settled) (items : List Item) → (by ≡ how.Invalid) ⊎ (by ≡ how.Faulted) → (by ≡ how.Invalid → (mark : Mark) × (mark_of w.pairs it.start ≡ Some mark)) → items ≡ found_items by it.node it.start ++ fault_of by it.node → AllQuiet items → ComesTo w (record (with_post w it.node (Some (instance_settle it.i it.session by).left)) { pairs = w.pairs }) items
put_unplaced w it by items by_is found tells quiet = (OfNotPlaced (record { it = it; by = by; by_is = by_is; found = found; items = items; tells = tells; quiet = quiet }), put_settled w it by w.pairs, refl, tt, put_due w by it.node it.start items tells)

pub not_invalid : how.Faulted ≡ how.Invalid → ⊥
not_invalid same = cc

put_fated : (w : State) (it : AtDrawn w) (fate : Fate) (mark : Option Mark) → mark_of w.pairs it.start ≡ mark → ComesBy w (for_table w it.node (put_by it.node it.session it.start it.commit fate mark it.i (fated fate w.pairs (put_over w.pairs it.start (CommittedMark it.commit) mark))))
put_fated w it Works None is = put_placed w it how.Placed [] (inl refl) refl is none_quiet
put_fated w it Works (Some found) is = put_unplaced w it how.Invalid _ (inl refl) (λ by. (found, is)) refl (one_quiet (item.Step (Node it.node) (PutFound it.start)) refl)
put_fated w it FailsUnchanged mark is = put_unplaced w it how.Faulted _ (inr refl) (λ by. absurd (not_invalid by)) refl (one_quiet (item.Fault (Node it.node) Table) refl)
put_fated w it FailsApplied None is = put_placed w it how.Faulted _ (inr refl) refl is (one_quiet (item.Fault (Node it.node) Table) refl)
put_fated w it FailsApplied (Some found) is = put_unplaced w it how.Faulted _ (inr refl) (λ by. absurd (not_invalid by)) refl (one_quiet (item.Fault (Node it.node) Table) refl)

put_none : (w : State) (node session : ℕ) (i : InstanceEntry) → InstanceAt w.nodes node i → ComesTo w (record (with_post w node (Some i)) { pairs = w.pairs }) (item.Refused (Node node) (cause.NoRequest session) ∷ [])
put_none w node session i at = still_post w node w.seen (Some i) _ at (omega arith) (no_request_told w node session)

put_request : (w : State) (node session : ℕ) (fate : Fate) (i : InstanceEntry) (held : Held) → InstanceAt w.nodes node i → held_of i session ≡ Some held → (request : Request) → held.request ≡ request → (p : Progress) → held.progress ≡ p → ComesBy w (for_table w node (put_commit node session fate i w.pairs (to_place_by request p)))
put_request w node session fate i held at has (Commit asker start keys) asks (progress.Drawn commit) stands =
    let it : AtDrawn w = record { node = node; session = session; asker = asker; start = start; commit = commit; keys = keys; i = i; held = held; at = at; has = has; request_is = asks; drawn = stands } in
    put_fated w it fate (mark_of w.pairs start) refl
put_request w node session fate i held at has (Commit asker start keys) asks progress.Asked stands = put_none w node session i at
put_request w node session fate i held at has (Commit asker start keys) asks progress.Accepted stands = put_none w node session i at
put_request w node session fate i held at has (Commit asker start keys) asks (progress.Handed commit) stands = put_none w node session i at
put_request w node session fate i held at has (Commit asker start keys) asks (progress.Settled commit by) stands = put_none w node session i at
put_request w node session fate i held at has (Begin asker) asks p stands = put_none w node session i at

put_found : (w : State) (node session : ℕ) (fate : Fate) (i : InstanceEntry) → InstanceAt w.nodes node i → (found : Option Held) → held_of i session ≡ found → ComesBy w (for_table w node (put_commit node session fate i w.pairs (to_place found)))
put_found w node session fate i at None has = put_none w node session i at
put_found w node session fate i at (Some held) has = put_request w node session fate i held at has held.request refl held.progress refl

pub put_at : (w : State) (node session : ℕ) (fate : Fate) (post : Option InstanceEntry) → slice_get w.nodes node ≡ Some post → ComesBy w (for_table w node (put_on node session fate post w.pairs))
put_at w node session fate None at = still_post w node w.seen None _ at (omega arith) (node_told w node (cause.NoOracle node) (refl, at))
put_at w node session fate (Some i) at = put_found w node session fate i at (held_of i session) refl

-- ---- answer
-- by the request's stamps, and what the instance makes of it
abbrev pub answered_on : ℕ → ℕ → InstanceEntry → Client → InstanceStep Reply → Option (ℕ × Option ℕ) → Effect (Option InstanceEntry × Client)
answered_on node session i c taken None = refused (Some i, c) (Node node) (cause.NoRequest session)
answered_on node session i c taken (Some stamps) = answer_by node session stamps.0 c i taken.left taken.answer

abbrev answer_step : State → ℕ → ℕ → InstanceEntry → Client → InstanceStep Reply → Option (ℕ × Option ℕ) → Step
answer_step w node session i c taken stamps = for_request w node session (answered_on node session i c taken stamps)

answer_none : (w : State) (node session : ℕ) (i : InstanceEntry) (c : Client) → InstanceAt w.nodes node i → ClientAt w.clients session c → ComesTo w (with_client (with_post w node (Some i)) session c) (item.Refused (Node node) (cause.NoRequest session) ∷ [])
answer_none w node session i c at client_at = decide_still w node session (Some i) c (cause.NoRequest session) (no_request_told w node session) at client_at

answer_waits : (w : State) (node session asker start : ℕ) (i : InstanceEntry) (held : Held) (c : Client) → Served w node session i held c → held.request ≡ Begin asker → held.progress ≡ progress.Drawn start → (least : Option ℕ) → least_unsettled i.requests start ≡ least → ComesBy w (answer_step w node session i c (answer_begin i session held start least) (Some (start, None)))
answer_waits w node session asker start i held c served asks drawn None settled = (
  OfAnsweredBegin (record {
    node = node;
    session = session;
    asker = asker;
    start = start;
    i = i;
    held = held;
    c = c;
    at = served.at;
    has = served.has;
    request_is = asks;
    drawn = drawn;
    settled = settled;
    client_at = served.client_at;
  }),
  refl,
  refl,
  tt,
  plain_due w _ (λ told. tt),
)
answer_waits w node session asker start i held c served asks drawn (Some commit) settled =
    let x : Item = item.Refused (Session session) (cause.NotYet commit) in
    let k : Told w = record {
      it = record { node = node; session = session; i = i; held = held; at = served.at; has = served.has };
      told = record held { told_not_yet = true };
      same_request = refl;
      same_progress = refl;
      items = if was_told_not_yet i session then [] else x ∷ [];
      silent = once_silent (was_told_not_yet i session) x refl;
    } in
    tells w _ k (told_quiet (was_told_not_yet i session) x refl) (once_due w (was_told_not_yet i session) (Session session) (cause.NotYet commit) (waits_due w node session asker start commit i held served.at served.has asks drawn settled)) (client_back w session w.seen c (slice_set w.nodes node (Some (not_yet_told i session held))) served.client_at)

answer_settled : (w : State) (node session asker start commit : ℕ) (keys : List ℕ) (by : Settled) (i : InstanceEntry) (held : Held) (c : Client) → Served w node session i held c → held.request ≡ Commit asker start keys → held.progress ≡ progress.Settled commit by → (x : Item) → x ≡ answered_item by session start commit → Quiet x → ComesTo w (with_client (with_post w node (Some (without_request i session))) session (unless_gone c (answered_client by c commit))) (x ∷ [])
answer_settled w node session asker start commit keys by i held c served asks settled x is quiet = (
  OfAnsweredCommit (record {
    node = node;
    session = session;
    asker = asker;
    start = start;
    commit = commit;
    keys = keys;
    by = by;
    i = i;
    held = held;
    c = c;
    at = served.at;
    has = served.has;
    request_is = asks;
    settled = settled;
    client_at = served.client_at;
    items = x ∷ [];
    tells = ap (λ y. y ∷ []) is;
    quiet = one_quiet x quiet;
  }),
  refl,
  refl,
  tt,
  subst (λ (y : Item). AreDue w (y ∷ [])) (sym is) (settled_due w node session asker start commit keys by i held served.at served.has asks settled),
)

answer_handed : (w : State) (node session asker start commit : ℕ) (keys : List ℕ) (i : InstanceEntry) (held : Held) (c : Client) → Served w node session i held c → held.request ≡ Commit asker start keys → held.progress ≡ progress.Handed commit → ComesTo w (with_client (with_post w node (Some (without_request i session))) session (unless_gone c (client_handed c commit))) (item.Step (Session session) (Handed start commit) ∷ [])
answer_handed w node session asker start commit keys i held c served asks drawn = (
  OfHanded (record {
    node = node;
    session = session;
    asker = asker;
    start = start;
    commit = commit;
    keys = keys;
    i = i;
    held = held;
    c = c;
    at = served.at;
    has = served.has;
    request_is = asks;
    drawn = drawn;
    client_at = served.client_at;
    items = item.Step (Session session) (Handed start commit) ∷ [];
    tells = refl;
    quiet = one_quiet (item.Step (Session session) (Handed start commit)) refl;
  }),
  refl,
  refl,
  tt,
  plain_due w _ (λ told. tt),
)

answer_held_request : (w : State) (node session : ℕ) (i : InstanceEntry) (held : Held) (c : Client) → Served w node session i held c → (request : Request) → held.request ≡ request → (p : Progress) → held.progress ≡ p → ComesBy w (answer_step w node session i c (answer_if_ready i session held request p) (stamps_by request p))
answer_held_request w node session i held c served (Begin asker) asks (progress.Drawn start) stands = answer_waits w node session asker start i held c served asks stands (least_unsettled i.requests start) refl
answer_held_request w node session i held c served (Commit asker start keys) asks progress.Asked stands = answer_none w node session i c served.at served.client_at
answer_held_request w node session i held c served (Commit asker start keys) asks progress.Accepted stands = answer_none w node session i c served.at served.client_at
answer_held_request w node session i held c served (Commit asker start keys) asks (progress.Drawn commit) stands = answer_none w node session i c served.at served.client_at
answer_held_request w node session i held c served (Commit asker start keys) asks (progress.Handed commit) stands = answer_handed w node session asker start commit keys i held c served asks stands
answer_held_request w node session i held c served (Commit asker start keys) asks (progress.Settled commit how.Placed) stands = answer_settled w node session asker start commit keys how.Placed i held c served asks stands (item.Committed session start commit) refl refl
answer_held_request w node session i held c served (Commit asker start keys) asks (progress.Settled commit how.Invalid) stands = answer_settled w node session asker start commit keys how.Invalid i held c served asks stands (item.Refused (Session session) (cause.Invalid start)) refl refl
answer_held_request w node session i held c served (Commit asker start keys) asks (progress.Settled commit how.Faulted) stands = answer_settled w node session asker start commit keys how.Faulted i held c served asks stands (item.Refused (Session session) (cause.Open start)) refl refl
answer_held_request w node session i held c served (Begin asker) asks _ stands = answer_none w node session i c served.at served.client_at

answer_found : (w : State) (node session : ℕ) (i : InstanceEntry) (c : Client) → InstanceAt w.nodes node i → ClientAt w.clients session c → (found : Option Held) → held_of i session ≡ found → ComesBy w (answer_step w node session i c (answer_held i session found) (stamps_of_held found))
answer_found w node session i c at client_at None has = answer_none w node session i c at client_at
answer_found w node session i c at client_at (Some held) has = answer_held_request w node session i held c (record { at = at; client_at = client_at; has = has }) held.request refl held.progress refl

pub answer_at : (w : State) (node session : ℕ) (post : Option InstanceEntry) (c : Client) → slice_get w.nodes node ≡ Some post → ClientAt w.clients session c → ComesBy w (for_request w node session (answer_on node session post c))
answer_at w node session None c at client_at = decide_still w node session None c (cause.NoOracle node) (node_told w node (cause.NoOracle node) (refl, at)) at client_at
answer_at w node session (Some i) c at client_at = answer_found w node session i c at client_at (held_of i session) refl
