-- What a session has asked stands at its node as far as its log shows it, where nobody else serves it and the node has not crashed.
use Rattle.log_refinement.proofs.Names.{◌≡◌, ℕ, ◌==◌, ◌&&◌, ◌||◌, Bool, true, false, cond, if◌then◌else◌, List, [], ◌∷◌}
use Rattle.log_refinement.proofs.Names.{Option, None, Some, Ok, ◌⊎◌, inl, inr, refl, sym, ◌∙◌, ap, subst, ◌<◌, length}
use Rattle.log_refinement.proofs.Names.{slice_get, slice_set, filter, list_any, cases_eq, eqb-true, same_Some}
use Rattle.log_refinement.proofs.Names.{none-some, SetupNumbers, Fate, ◌∈◌, Cause, Actor, Node, Session, Janitor, Item}
use Rattle.log_refinement.proofs.Names.{begin_refusal, work_refusal, Request, InstanceEntry, held_of, with_request}
use Rattle.log_refinement.proofs.Names.{in_flight, session_of, InstanceStep, stays, just_asked, Client, State}
use Rattle.log_refinement.proofs.Names.{is_reading, Step, stepped, set_found, held_of-with_request_same, of_both, Line}
use Rattle.log_refinement.proofs.Names.{Verb, ScriptData, node_for, Event, Entry, timed_at, touches, Due, Owed, Nothing}
use Rattle.log_refinement.proofs.Names.{Read, Answer, Denied, Removal, Erasure, Quiet, Standing, with_item, with_items}
use Rattle.log_refinement.proofs.Names.{after_due, repeats, after_repeat, is_step, gone_on, opened, opener, plain_event}
use Rattle.log_refinement.proofs.Names.{IsLater, Follows, is_stage_for, others_serve, HasCrashed}
use Rattle.history_book.specs.declared.cause.Cause.TheVariants as cause
use Rattle.history_book.specs.declared.item.Item.TheVariants as item
use Rattle.system_parts.specs.declared.instance.Request.TheVariants as request
use Rattle.machine.specs.declared.event.Event.TheVariants as made
use Rattle.machine.specs.Events.AskBegin.{asked_by, ask_begin_by}
use Rattle.machine.specs.Events.AskCommit.{commit_of, ask_commit_by}
use Rattle.script_data.specs.declared.line.Verb.TheVariants as verb
use Rattle.split_parts.specs.declared.event.Event.TheVariants as event
use Rattle.log_refinement.specs.declared.owed.Due.TheVariants as due
use Rattle.log_refinement.proofs.DueRequests.{HeldAt, NodeShows, CanDecide, IsRest, shows_rest, shows_past, owed_over, rest_over, due_rest, own_answer}
use Rattle.log_refinement.proofs.FirstEvents.{first_own}
use Rattle.log_refinement.proofs.OtherLogs.{IsOther}
use Rattle.log_refinement.proofs.Weaving.{Woven}

-- ---- the session's own log
standing_over : (s : ℕ) (steps : Bool) (st : Standing) (xs : List Item) → (with_items (Session s) steps st xs).owed ≡ owed_over s steps st.owed xs
unfolding with_items owed_over
standing_over s steps st [] = refl
standing_over s steps st (x ∷ xs) = standing_over s steps (with_item (Session s) steps st x) xs

repeat_shows : (nodes : List (Option InstanceEntry)) (s n : ℕ) (e : Event) (items : List Item) (owed : Owed) → NodeShows nodes n s owed → NodeShows nodes n s (after_repeat (Session s) e items owed)
repeat_shows nodes s n e items (Answer asked d) k = by_repeat (repeats (Session s) asked e items)
  where
    by_repeat : (b : Bool) → NodeShows nodes n s (if b then Nothing else Answer asked d)
    by_repeat true = tt
    by_repeat false = k
repeat_shows nodes s n e items Denied k = absurd k
repeat_shows nodes s n e items Nothing k = tt
repeat_shows nodes s n e items (Read key) k = tt
repeat_shows nodes s n e items (Removal start) k = tt
repeat_shows nodes s n e items Erasure k = tt
repeat_shows nodes s n e items Quiet k = tt

-- what is owed of the ask of this node
abbrev pub AsksNode : ℕ → Owed → Type 0
AsksNode n (Answer asked d) = asked ≡ n
AsksNode n owed = Unit {0}

own_rest : (nodes : List (Option InstanceEntry)) (s n : ℕ) (steps : Bool) (e : Event) (items : List Item) (owed : Owed) → IsRest owed → NodeShows nodes n s (after_due (Session s) e items (owed_over s steps owed items))
own_rest nodes s n steps e items owed rest =
    let over : IsRest (owed_over s steps owed items) = rest_over s steps owed items rest in
    subst (NodeShows nodes n s) (sym (due_rest s e items (owed_over s steps owed items) over)) (shows_rest nodes n s (owed_over s steps owed items) over)

own_over : (w : State) (base : ℕ) (leads : List ℕ) (master : ℕ) (e : Event) (fate : Fate) (s n : ℕ) (owed : Owed) → CanDecide w n → opener e ≡ None → AsksNode n owed → NodeShows w.nodes n s owed →
    let step : Step = stepped w (timed_at base leads master e) fate in NodeShows step.state.nodes n s (after_due (Session s) e step.items (owed_over s (is_step e) owed step.items))
own_over w base leads master e fate s n (Answer asked d) can opens asks k =
    let step : Step = stepped w (timed_at base leads master e) fate in
    subst (λ (m : ℕ). NodeShows step.state.nodes n s (after_due (Session s) e step.items (owed_over s (is_step e) (Answer m d) step.items))) (sym asks) (own_answer w base leads master e fate s n d can opens k)
own_over w base leads master e fate s n Denied can opens asks k = absurd k
own_over w base leads master e fate s n Nothing can opens asks k = own_rest _ s n (is_step e) e _ Nothing tt
own_over w base leads master e fate s n (Read key) can opens asks k = own_rest _ s n (is_step e) e _ (Read key) tt
own_over w base leads master e fate s n (Removal start) can opens asks k = own_rest _ s n (is_step e) e _ (Removal start) tt
own_over w base leads master e fate s n Erasure can opens asks k = own_rest _ s n (is_step e) e _ Erasure tt
own_over w base leads master e fate s n Quiet can opens asks k = own_rest _ s n (is_step e) e _ Quiet tt

pub own_shows : (w : State) (base : ℕ) (leads : List ℕ) (master : ℕ) (e : Event) (fate : Fate) (s n : ℕ) (st : Standing) → CanDecide w n → opener e ≡ None → AsksNode n st.owed → NodeShows w.nodes n s st.owed →
    let step : Step = stepped w (timed_at base leads master e) fate in NodeShows step.state.nodes n s (after_repeat (Session s) e step.items (after_due (Session s) e step.items (with_items (Session s) (is_step e) st step.items).owed))
own_shows w base leads master e fate s n st can opens asks k =
    let step : Step = stepped w (timed_at base leads master e) fate in
    repeat_shows step.state.nodes s n e step.items (after_due (Session s) e step.items (with_items (Session s) (is_step e) st step.items).owed)
    (subst (λ (o : Owed). NodeShows step.state.nodes n s (after_due (Session s) e step.items o)) (sym (standing_over s (is_step e) st step.items)) (own_over w base leads master e fate s n st.owed can opens asks k))

-- ---- crashes
crash_found : (w : State) (n : ℕ) (i : InstanceEntry) (fate : Fate) (found : Option (Option InstanceEntry)) → slice_get w.nodes n ≡ found → found ≡ Some (Some i) → HasCrashed n (stepped w (made.Crash n) fate).items
unfolding ◌∈◌
crash_found w n i fate None is there = absurd (none-some (Some i) there)
crash_found w n i fate (Some None) is there = absurd (none-some i (same_Some None (Some i) there))
crash_found w n i fate (Some (Some j)) is there = rw is (j.term, inl refl)

crash_tells : (w : State) (n s : ℕ) (d : Due) (fate : Fate) → HeldAt w.nodes n s d → HasCrashed n (stepped w (made.Crash n) fate).items
crash_tells w n s d fate k = crash_found w n k.there.i fate (slice_get w.nodes n) refl k.there.at

pub crashed_or_not : (n : ℕ) (xs : List Item) → HasCrashed n xs ⊎ (HasCrashed n xs → ⊥)
unfolding ◌∈◌
crashed_or_not n [] = inr (λ k. k.1)
crashed_or_not n (item.Crash m term ∷ xs) = elim (cases_eq m n) [
  | inl same ↦ inl (term, inl (ap (λ (q : ℕ). item.Crash q term) (sym same)))
  | inr other ↦ elim (crashed_or_not n xs) [
    | inl later ↦ inl (later.0, inr later.1)
    | inr none ↦ inr (λ k. elim k.1 [ inl is ↦ other (let same : item.Crash n k.0 ≡ item.Crash m term = is in cc) | inr m ↦ none (k.0, m) ])
  ]
]
crashed_or_not n (x ∷ xs) = elim (crashed_or_not n xs) [
  | inl later ↦ inl (later.0, inr later.1)
  | inr none ↦ inr (λ k. elim k.1 [ inl is ↦ absurd (cc) | inr m ↦ none (k.0, m) ])
]

-- ---- the logs of others
-- the event is a stage's, for the session
abbrev pub serves : ℕ → Event → Bool
serves s (event.Accept node session) = session == s
serves s (event.Decide node session) = session == s
serves s (event.Put node session) = session == s
serves s (event.Answer node session) = session == s
serves s e = false

-- none of another's log serves the session, where no line of the script does
abbrev pub Leaves : ScriptData → Actor → Event → Type 0
Leaves script actor e = (s : ℕ) → actor ≡ Session s → others_serve script s ≡ false → serves s e ≡ false

opener_serves : (s : ℕ) (actor : Actor) (e : Event) → opener e ≡ Some actor → serves s e ≡ false
opener_serves s actor (event.Accept node session) is = absurd (none-some actor is)
opener_serves s actor (event.Decide node session) is = absurd (none-some actor is)
opener_serves s actor (event.Put node session) is = absurd (none-some actor is)
opener_serves s actor (event.Answer node session) is = absurd (none-some actor is)
opener_serves s actor _ is = refl

other_session : (s t r : ℕ) → (Session t ≡ Session s → ⊥) → r ≡ t → (r == s) ≡ false
other_session s t r differs same = by_eq (r == s) refl
  where
    by_eq : (b : Bool) → (r == s) ≡ b → (r == s) ≡ false
    by_eq true is = absurd (differs (ap (λ (q : ℕ). Session q) (sym same ∙ eqb-true r s is)))
    by_eq false is = is

later_serves : (s : ℕ) (who : Actor) (e : Event) → (who ≡ Session s → ⊥) → IsLater who e → serves s e ≡ false
later_serves s (Session t) (event.Accept node session) differs later = other_session s t session differs later
later_serves s (Session t) (event.Decide node session) differs later = other_session s t session differs later
later_serves s (Session t) (event.Put node session) differs later = other_session s t session differs later
later_serves s (Session t) (event.Answer node session) differs later = other_session s t session differs later
later_serves s (Session t) (event.Extend node) differs later = refl
later_serves s (Session t) (event.Step session) differs later = refl
later_serves s Janitor event.SweepStep differs later = refl
later_serves s who e differs later = absurd later

abbrev IfServes : ℕ → Verb → Option Event → Type 0
IfServes s v None = Unit {0}
IfServes s v (Some e) = is_stage_for s v ≡ false → serves s e ≡ false

plain_serves : (s : ℕ) (who : Actor) (v : Verb) → IfServes s v (plain_event who v)
plain_serves s (Node n) (verb.Accept session) = λ none. none
plain_serves s (Node n) (verb.Decide session) = λ none. none
plain_serves s (Node n) (verb.Put session) = λ none. none
plain_serves s (Node n) (verb.Answer session) = λ none. none
plain_serves s (Node n) verb.Extend = λ none. refl
plain_serves s (Session t) verb.Abort = λ none. refl
plain_serves s (Session t) verb.Heal = λ none. refl
plain_serves s (Session t) verb.Step = λ none. refl
plain_serves s (Session t) verb.Finish = λ none. refl
plain_serves s Janitor (verb.Sweep node txn) = λ none. refl
plain_serves s Janitor (verb.OpenSweep node txn) = λ none. refl
plain_serves s Janitor verb.Step = λ none. refl
plain_serves s Janitor verb.Finish = λ none. refl
plain_serves s who v = tt

neither : (a b : Bool) → a || b ≡ false → (a ≡ false) × (b ≡ false)
neither true b none = absurd (cc)
neither false b none = (refl, none)

no_line : (s : ℕ) (line : Line) (lines : List Line) → list_any (λ l. is_stage_for s l.verb) (line ∷ lines) ≡ false → (is_stage_for s line.verb ≡ false) × (list_any (λ l. is_stage_for s l.verb) lines ≡ false)
no_line s line lines none = neither (is_stage_for s line.verb) (list_any (λ l. is_stage_for s l.verb) lines) none

pub log_serves : (s : ℕ) (who : Actor) (st : Standing) (lines : List Line) (es : List Entry) → (who ≡ Session s → ⊥) → list_any (λ l. is_stage_for s l.verb) lines ≡ false → Follows who st lines es → (x : Entry) → x ∈ es → serves s x.event ≡ false
unfolding Follows ◌∈◌
log_serves s who st lines [] differs none follows x m = absurd m
log_serves s who st [] (e ∷ es) differs none follows x (inl is) = ap (λ (y : Entry). serves s y.event) is ∙ later_serves s who e.event differs follows.0
log_serves s who st [] (e ∷ es) differs none follows x (inr m) = log_serves s who (gone_on who st e) [] es differs none follows.1 x m
log_serves s who st (line ∷ lines) (e ∷ es) differs none (inl on) x (inl is) = ap (λ (y : Entry). serves s y.event) is ∙ later_serves s who e.event differs on.0
log_serves s who st (line ∷ lines) (e ∷ es) differs none (inl on) x (inr m) = log_serves s who (gone_on who st e) (line ∷ lines) es differs none on.1 x m
log_serves s who st (line ∷ lines) (e ∷ es) differs none (inr (inl k)) x (inl is) = ap (λ (y : Entry). serves s y.event) is ∙ opener_serves s who e.event (first_own who line.verb e.event k.1)
log_serves s who st (line ∷ lines) (e ∷ es) differs none (inr (inl k)) x (inr m) = log_serves s who (opened who line.verb st e.kept.items) lines es differs (no_line s line lines none).1 k.2 x m
log_serves s who st (line ∷ lines) (e ∷ es) differs none (inr (inr (inl k))) x (inl is) =
    ap (λ (y : Entry). serves s y.event) is ∙ subst (IfServes s line.verb) k.1 (plain_serves s who line.verb) (no_line s line lines none).0
log_serves s who st (line ∷ lines) (e ∷ es) differs none (inr (inr (inl k))) x (inr m) = log_serves s who (gone_on who st e) lines es differs (no_line s line lines none).1 k.2 x m
log_serves s who st (line ∷ lines) (e ∷ es) differs none (inr (inr (inr k))) x m = log_serves s who st lines (e ∷ es) differs (no_line s line lines none).1 k.1 x m

pub plain_script : (script : ScriptData) (s : ℕ) → others_serve script s ≡ false → script.setup.direct ≡ false
plain_script script s none = (neither script.setup.direct (list_any (λ l. is_stage_for s l.verb) script.lines) none).0

pub no_stage_line : (script : ScriptData) (s : ℕ) → others_serve script s ≡ false → list_any (λ l. is_stage_for s l.verb) script.lines ≡ false
no_stage_line script s none = (neither script.setup.direct (list_any (λ l. is_stage_for s l.verb) script.lines) none).1

kept_line : (s : ℕ) (line : Line) (rest : List Line) (kept : Bool) → is_stage_for s line.verb ≡ false → list_any (λ l. is_stage_for s l.verb) rest ≡ false → list_any (λ l. is_stage_for s l.verb) (cond kept (line ∷ rest) rest) ≡ false
kept_line s line rest true own none = rw own none
kept_line s line rest false own none = none

pub no_own_line : (s : ℕ) (keep : Line → Bool) (lines : List Line) → list_any (λ l. is_stage_for s l.verb) lines ≡ false → list_any (λ l. is_stage_for s l.verb) (filter keep lines) ≡ false
no_own_line s keep [] none = refl
no_own_line s keep (line ∷ lines) none = kept_line s line (filter keep lines) (keep line) (no_line s line lines none).0 (no_own_line s keep lines (no_line s line lines none).1)

-- an entry of another's log opens no line of the actor, and serves none of its requests
abbrev pub IsApart : ScriptData → Actor → Event → Type 0
IsApart script actor e = IsOther script.setup actor e × Leaves script actor e

pub woven_others : (script : ScriptData) (actor : Actor) (own es : List Entry) → Woven (λ e. IsApart script actor e.event) own es → Woven (λ e. IsOther script.setup actor e.event) own es
unfolding Woven
woven_others script actor own [] woven = woven
woven_others script actor [] (e ∷ es) woven = (woven.0.0, woven_others script actor [] es woven.1)
woven_others script actor (o ∷ own) (e ∷ es) (inl mine) = inl (mine.0, woven_others script actor own es mine.1)
woven_others script actor (o ∷ own) (e ∷ es) (inr other) = inr (other.0.0, woven_others script actor (o ∷ own) es other.1)

-- ---- an event of another's log
and_none : (a b : Bool) → b ≡ false → a && b ≡ false
and_none true b none = none
and_none false b none = refl

serving_touch : (n s base : ℕ) (leads : List ℕ) (master : ℕ) (e : Event) → serves s e ≡ false → opener e ≡ None → touches n s (timed_at base leads master e) ≡ false
serving_touch n s base leads master (event.Accept m r) none opens = and_none (m == n) (r == s) none
serving_touch n s base leads master (event.Decide m r) none opens = and_none (m == n) (r == s) none
serving_touch n s base leads master (event.Put m r) none opens = and_none (m == n) (r == s) none
serving_touch n s base leads master (event.Answer m r) none opens = and_none (m == n) (r == s) none
serving_touch n s base leads master (event.Crash m) none opens = absurd (none-some (Node m) (sym opens))
serving_touch n s base leads master (event.AskBegin r to) none opens = absurd (none-some (Session r) (sym opens))
serving_touch n s base leads master (event.AskCommit r to) none opens = absurd (none-some (Session r) (sym opens))
serving_touch n s base leads master e none opens = refl

-- one that opens a line of another is no ask of the session
opening_touch : (n s base : ℕ) (leads : List ℕ) (master : ℕ) (e : Event) (who : Actor) → opener e ≡ Some who → (who ≡ Session s → ⊥) → (e ≡ event.Crash n → ⊥) → touches n s (timed_at base leads master e) ≡ false
opening_touch n s base leads master (event.AskBegin r to) who opens differs crash = and_none (node_for master to == n) (r == s) (other_session s r r (λ same. differs (sym (same_Some (Session r) who opens) ∙ same)) refl)
opening_touch n s base leads master (event.AskCommit r to) who opens differs crash = and_none (node_for master to == n) (r == s) (other_session s r r (λ same. differs (sym (same_Some (Session r) who opens) ∙ same)) refl)
opening_touch n s base leads master (event.Crash m) who opens differs crash = by_node (m == n) refl
  where
    by_node : (b : Bool) → (m == n) ≡ b → (m == n) ≡ false
    by_node true is = absurd (crash (ap (λ (q : ℕ). event.Crash q) (eqb-true m n is)))
    by_node false is = is
opening_touch n s base leads master (event.Accept m r) who opens differs crash = absurd (none-some who opens)
opening_touch n s base leads master (event.Decide m r) who opens differs crash = absurd (none-some who opens)
opening_touch n s base leads master (event.Put m r) who opens differs crash = absurd (none-some who opens)
opening_touch n s base leads master (event.Answer m r) who opens differs crash = absurd (none-some who opens)
opening_touch n s base leads master e who opens differs crash = refl

apart_touch : (setup : SetupNumbers) (n s base : ℕ) (leads : List ℕ) (master : ℕ) (e : Event) → IsOther setup (Session s) e → serves s e ≡ false → (e ≡ event.Crash n → ⊥) → touches n s (timed_at base leads master e) ≡ false
apart_touch setup n s base leads master e (inl none) idle crash = serving_touch n s base leads master e idle none
apart_touch setup n s base leads master e (inr k) idle crash = opening_touch n s base leads master e k.line.actor (first_own k.line.actor k.line.verb e k.first) k.differs crash

pub other_shows : (setup : SetupNumbers) (w : State) (base : ℕ) (leads : List ℕ) (master : ℕ) (e : Event) (fate : Fate) (n s : ℕ) (owed : Owed) → IsOther setup (Session s) e → serves s e ≡ false → (HasCrashed n (stepped w (timed_at base leads master e) fate).items → ⊥) → NodeShows w.nodes n s owed → NodeShows (stepped w (timed_at base leads master e) fate).state.nodes n s owed
other_shows setup w base leads master e fate n s (Answer asked d) other idle crashed k =
    shows_past w (timed_at base leads master e) fate n s (Answer asked d) (apart_touch setup n s base leads master e other idle (λ is. crashed (subst (λ (q : Event). HasCrashed n (stepped w (timed_at base leads master q) fate).items) (sym is) (crash_tells w n s d fate k)))) k
other_shows setup w base leads master e fate n s Denied other idle crashed k = absurd k
other_shows setup w base leads master e fate n s Nothing other idle crashed k = tt
other_shows setup w base leads master e fate n s (Read key) other idle crashed k = tt
other_shows setup w base leads master e fate n s (Removal start) other idle crashed k = tt
other_shows setup w base leads master e fate n s Erasure other idle crashed k = tt
other_shows setup w base leads master e fate n s Quiet other idle crashed k = tt

-- ---- an event that asks
abbrev BeginHeld : ℕ → ℕ → Step → Type 0
BeginHeld s n step = item.AskBegin s n ∈ step.items → HeldAt step.state.nodes n s due.Accept

abbrev CommitHeld : ℕ → ℕ → Step → Type 0
CommitHeld s n step = (t : ℕ) → item.AskCommit s n t ∈ step.items → HeldAt step.state.nodes n s due.Accept

-- the node's instance takes the request
new_at : (w : State) (s n : ℕ) (old : Option InstanceEntry) (i : InstanceEntry) (r : Request) → slice_get w.nodes n ≡ Some old → s < length i.requests → session_of r ≡ s → HeldAt (slice_set w.nodes n (Some (with_request i (session_of r) (Some (just_asked r))))) n s due.Accept
new_at w s n old i r at within same = record {
  held = just_asked r;
  there = record {
    i = with_request i (session_of r) (Some (just_asked r));
    at = set_found w.nodes n (Some (with_request i (session_of r) (Some (just_asked r)))) old at;
    has = subst (λ (q : ℕ). held_of (with_request i q (Some (just_asked r))) s ≡ Some (just_asked r)) (sym same) (held_of-with_request_same i s (Some (just_asked r)) within);
  };
  waits = refl;
  so_far = tt;
}

asked_at : (w : State) (s n : ℕ) (old : Option InstanceEntry) (c : Client) (x y : Item) (i : InstanceEntry) (r : Request) (full : Bool) → slice_get w.nodes n ≡ Some old → s < length i.requests → session_of r ≡ s → ((why : Cause) → y ≡ item.Refused (Session s) why → ⊥) →
    let step : InstanceStep (Unit {0}) = if full then stays i (cause.Full (in_flight i)) else record { left = with_request i (session_of r) (Some (just_asked r)); answer = Ok tt } in
    y ∈ (asked_by s c x step step.answer).items → HeldAt (slice_set w.nodes n (asked_by s c x step step.answer).parts.1) n s due.Accept
unfolding ◌∈◌
asked_at w s n old c x y i r true at within same never (inl is) = absurd (never (cause.Full (in_flight i)) is)
asked_at w s n old c x y i r true at within same never (inr none) = absurd none
asked_at w s n old c x y i r false at within same never m = new_at w s n old i r at within same

begin_at : (w : State) (s n : ℕ) (c : Client) (post : Option InstanceEntry) (why : Option Cause) → slice_get w.nodes n ≡ Some post → ((i : InstanceEntry) → post ≡ Some i → s < length i.requests) →
    item.AskBegin s n ∈ (ask_begin_by s n c post why).items → HeldAt (slice_set w.nodes n (ask_begin_by s n c post why).parts.1) n s due.Accept
unfolding ◌∈◌
begin_at w s n c post (Some why) at within (inl is) = absurd (cc)
begin_at w s n c post (Some why) at within (inr none) = absurd none
begin_at w s n c None None at within (inl is) = absurd (cc)
begin_at w s n c None None at within (inr none) = absurd none
begin_at w s n c (Some i) None at within m = asked_at w s n (Some i) c (item.AskBegin s n) (item.AskBegin s n) i (request.Begin s) (in_flight i == i.slots) at (within i refl) refl (λ why is. cc) m

commit_keys : (w : State) (s n t : ℕ) (c : Client) (start : ℕ) (keys : List ℕ) (post : Option InstanceEntry) → slice_get w.nodes n ≡ Some post → ((i : InstanceEntry) → post ≡ Some i → s < length i.requests) →
    item.AskCommit s n t ∈ (commit_of s n c start keys post).items → HeldAt (slice_set w.nodes n (commit_of s n c start keys post).parts.1) n s due.Accept
unfolding ◌∈◌
commit_keys w s n t c start [] post at within (inl is) = absurd (cc)
commit_keys w s n t c start [] post at within (inr none) = absurd none
commit_keys w s n t c start (key ∷ keys) None at within (inl is) = absurd (cc)
commit_keys w s n t c start (key ∷ keys) None at within (inr none) = absurd none
commit_keys w s n t c start (key ∷ keys) (Some i) at within m = asked_at w s n (Some i) c (item.AskCommit s n start) (item.AskCommit s n t) i (request.Commit s start c.entry.keys) (in_flight i == i.slots) at (within i refl) refl (λ why is. cc) m

commit_at : (w : State) (s n t : ℕ) (c : Client) (post : Option InstanceEntry) (why : Option Cause) (start : Option ℕ) → slice_get w.nodes n ≡ Some post → ((i : InstanceEntry) → post ≡ Some i → s < length i.requests) →
    item.AskCommit s n t ∈ (ask_commit_by s n c post why start).items → HeldAt (slice_set w.nodes n (ask_commit_by s n c post why start).parts.1) n s due.Accept
unfolding ◌∈◌
commit_at w s n t c post (Some why) start at within (inl is) = absurd (cc)
commit_at w s n t c post (Some why) start at within (inr none) = absurd none
commit_at w s n t c post None None at within m = absurd m
commit_at w s n t c post None (Some start) at within m = commit_keys w s n t c start c.entry.keys post at within m

-- the instance of the node has a place for each session
abbrev pub HasPlaces : State → ℕ → ℕ → Type 0
HasPlaces w n s = (i : InstanceEntry) → slice_get w.nodes n ≡ Some (Some i) → s < length i.requests

pub begin_held : (w : State) (s n : ℕ) (fate : Fate) → HasPlaces w n s → BeginHeld s n (stepped w (made.AskBegin s n) fate)
unfolding ◌∈◌
begin_held w s n fate places = of_both (BeginHeld s n) w _ (slice_get w.nodes n) (slice_get w.clients s) (λ m. absurd m) (λ post c at there m. begin_at w s n c post (begin_refusal c.entry.state) at (λ i is. places i (at ∙ ap (λ (p : Option InstanceEntry). Some p) is)) m)

pub commit_held : (w : State) (s n : ℕ) (fate : Fate) → HasPlaces w n s → CommitHeld s n (stepped w (made.AskCommit s n) fate)
unfolding ◌∈◌
commit_held w s n fate places = of_both (CommitHeld s n) w _ (slice_get w.nodes n) (slice_get w.clients s) (λ t m. absurd m) (λ post c at there t m. commit_at w s n t c post (work_refusal c.entry.state (is_reading c)) c.entry.start at (λ i is. places i (at ∙ ap (λ (p : Option InstanceEntry). Some p) is)) m)
