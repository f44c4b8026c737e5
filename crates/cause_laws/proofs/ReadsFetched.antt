-- Every event keeps that what clients keep as read was fetched since the begin of the transaction.
use Rattle.cause_laws.proofs.Names.{◌≡◌, ◌≢◌, ℕ, ◌+◌, ◌==◌, Bool, true, false, if◌then◌else◌, List, [], ◌∷◌, ◌++◌}
use Rattle.cause_laws.proofs.Names.{Option, None, Some, ◌⊎◌, inl, inr, refl, sym, ◌∙◌, ap, subst, arith, Contains}
use Rattle.cause_laws.proofs.Names.{slice_set, option_or, cases_Bool, eqb-true, eq-eqb, ne_eqb, same_Some, none-some}
use Rattle.cause_laws.proofs.Names.{All-nil, All-cons, All-weaker, Contains-push_cases, Fate, ◌∈◌, Session, Fetch, Item}
use Rattle.cause_laws.proofs.Names.{in_front, in_back, has_key, key_added, ReadTurn, Asks, Answers, Request, Begin}
use Rattle.cause_laws.proofs.Names.{Commit, session_of, Event, Client, State, client_begun, client_handed, unless_gone}
use Rattle.cause_laws.proofs.Names.{stepped, draw_item, client_read, keeps_read, AnsweredBegin, answered_begin_state}
use Rattle.cause_laws.proofs.Names.{answered_begin_items, Fetched, fetched_turn, fetched_client, fetched_items}
use Rattle.cause_laws.proofs.Names.{read_turn, read_client, Outcome, OfPlaced, OfOwnPlaced, OfAnsweredBegin, OfHanded}
use Rattle.cause_laws.proofs.Names.{OfWrote, OfVanished, OfFetched, OfReadDropped, OfReadStepped, left_by}
use Rattle.cause_laws.proofs.Names.{told_by_outcome, client_set, one_client, Ask, ask_by, its_ask, begin_by, begins_for}
use Rattle.cause_laws.proofs.Names.{last_begun, since_begin, ClientAt, HeldBy, IsolationInvariant, ReachedInvariant}
use Rattle.cause_laws.proofs.Names.{WorksNoMore, gone_cases, read_keeps_entry, ClientsMove, clients_move, each_outcome}
use Rattle.cause_laws.proofs.Names.{ask_for, AreFetched, AreReadsShown, ShownInvariant}
use Rattle.std.proofs.Common.{All}
use Rattle.history_book.specs.declared.item.Item.TheVariants as item
use Rattle.system_parts.specs.declared.session.State.TheVariants as phase
use Rattle.system_parts.specs.declared.instance.Progress.TheVariants as progress
use Rattle.machine.specs.Quiet.{AllQuiet}
use Rattle.isolation_laws.proofs.Holding.NoStamps.{NoStamp, quiet_no_stamps}
use Rattle.isolation_laws.proofs.Holding.Alone.{changes}
use Rattle.isolation_laws.proofs.Holding.LeftAlone.{alone}
use Rattle.cause_laws.proofs.SinceWords.{last_told-push, last_told-same, since-more}
use Rattle.cause_laws.proofs.AskWords.{its_ask-mute, its_ask-push, silent_mute, other_ask, none_unless}
use Rattle.cause_laws.proofs.NodeTransitionsMute.{one_mute, always_mute, took_mute, crashed_mute, settled_mute, ended_mute, learned_mute}
use Rattle.cause_laws.proofs.RequestsTold.{own_item}
use Rattle.cause_laws.proofs.NodeTransitions.{Asked, AsksFor, NodeTransition, OfRested, OfTook, OfRenewed, OfWidened, OfStopped, OfCrashed, OfAsked, OfAccepted, OfDrew, OfSettled, OfTold, OfEnded, OfLearned, NodeTransitionOf, ask_item, items_by}
use Rattle.cause_laws.proofs.NodeTransitionsDone.{outcome_deed}

-- ---- items without a begin of the session
record NoBegin (s : ℕ) (x : Item) : Type 0 where
  told : begin_by s x ≡ None
  begins : begins_for s x ≡ false

no_begin : (s : ℕ) (x : Item) → NoStamp x → NoBegin s x
no_begin s (item.Begin session start) none = absurd (cc)
no_begin s _ none = record { told = refl; begins = refl }

placed_begins : (s start commit : ℕ) (items : List Item) → AllQuiet items → All (NoBegin s) (item.Placed start commit ∷ items)
placed_begins s start commit items quiet =
    All-cons (NoBegin s) (item.Placed start commit) items (record { told = refl; begins = refl }) (All-weaker NoStamp (NoBegin s) (no_begin s) items (quiet_no_stamps items quiet))

-- only an answered begin opens a transaction
no_begins : (w : State) (h : List Item) (o : Outcome w) (s : ℕ) → IsolationInvariant w h → (changes o).opened ≡ false → All (NoBegin s) (told_by_outcome w o)
no_begins w h (OfPlaced k) s holds is = placed_begins s k.it.start k.it.commit k.items k.quiet
no_begins w h (OfOwnPlaced k) s holds is = placed_begins s k.it.start k.it.commit k.items k.quiet
no_begins w h (OfAnsweredBegin k) s holds is = absurd (cc)
no_begins w h o s holds is = All-weaker NoStamp (NoBegin s) (no_begin s) (told_by_outcome w o) ((alone w h o holds).items.stamps refl)

-- ---- what a client was before
abbrev Fetches : List Item → ℕ → ℕ → Type 0
Fetches items s key = (cells : ℕ) × (item.Step (Session s) (Fetch key cells) ∈ items)

-- it was there, with the same transaction if that is open, and keeps no key more but by a fetch that is told
record Came (clients : List Client) (s : ℕ) (c : Client) (items : List Item) : Type 0 where
  old : Client
  at : ClientAt clients s old
  opened : c.entry.state ≡ phase.Open → (old.entry.state ≡ phase.Open) × (old.entry.start ≡ c.entry.start)
  reads : (key : ℕ) → Contains c.reads key → Contains old.reads key ⊎ Fetches items s key

abbrev AllCame : List Client → List Client → List Item → Type 0
AllCame old new items = (s : ℕ) (c : Client) → ClientAt new s c → Came old s c items

abbrev came_as : (clients : List Client) (s : ℕ) (c : Client) (items : List Item) → ClientAt clients s c → Came clients s c items
came_as clients s c items at = record { old = c; at = at; opened = λ is. (is, refl); reads = λ key has. inl has }

was_open : (old c : Client) → WorksNoMore old c → c.entry.state ≡ phase.Open → (old.entry.state ≡ phase.Open) × (old.entry.start ≡ c.entry.start)
was_open old c (inl rests) is = absurd (rests.not_open is)
was_open old c (inr same) is = (ap (λ e. e.state) same ∙ is, ap (λ e. e.start) same)

moved_came : (old new : List Client) (items : List Item) → ClientsMove old new → AllCame old new items
moved_came old new items move s c at =
    let was = move s c at in
    record { old = was.0; at = was.1; opened = was_open was.0 c was.2.works; reads = λ key has. inl (subst (λ (keys : List ℕ). Contains keys key) was.2.read has) }

put_came : (clients : List Client) (session : ℕ) (new : Client) (items : List Item) → Came clients session new items → AllCame clients (slice_set clients session new) items
put_came clients session new items came s c at = elim (client_set clients session s new c at) [
  | inl here ↦ subst (λ (d : Client). Came clients s d items) (sym here.1) (subst (λ (r : ℕ). Came clients r new items) (sym here.0) came)
  | inr other ↦ came_as clients s c items other.1
]

-- a client with the entry that it had, and with the same keys
keeps_both : (clients : List Client) (s : ℕ) (old new : Client) (items : List Item) → ClientAt clients s old → new.entry ≡ old.entry → new.reads ≡ old.reads → Came clients s new items
keeps_both clients s old new items at entry reads = record {
  old = old;
  at = at;
  opened = was_open old new (inr (sym entry));
  reads = λ key has. inl (subst (λ (keys : List ℕ). Contains keys key) reads has);
}

-- a client that has no transaction open, with the same keys
opens_none : (clients : List Client) (s : ℕ) (old new : Client) (items : List Item) → ClientAt clients s old → (new.entry.state ≡ phase.Open → ⊥) → new.reads ≡ old.reads → Came clients s new items
opens_none clients s old new items at closed reads = record {
  old = old;
  at = at;
  opened = λ is. absurd (closed is);
  reads = λ key has. inl (subst (λ (keys : List ℕ). Contains keys key) reads has);
}

handed_came : (clients : List Client) (s commit : ℕ) (c : Client) (items : List Item) → ClientAt clients s c → Came clients s (unless_gone c (client_handed c commit)) items
handed_came clients s commit c items at = elim (gone_cases c (client_handed c commit)) [
  | inl stays ↦ subst (λ (d : Client). Came clients s d items) (sym stays.0) (came_as clients s c items at)
  | inr moves ↦ subst (λ (d : Client). Came clients s d items) (sym moves) (opens_none clients s c (client_handed c commit) items at (λ is. cc) refl)
]

-- ---- a fetch
added_if : (there : Bool) (keys : List ℕ) (key other : ℕ) → Contains (if there then keys else keys ++ key ∷ []) other → Contains keys other ⊎ (key ≡ other)
added_if true keys key other has = inl has
added_if false keys key other has = Contains-push_cases keys key other has

kept_if : (keeps : Bool) (keys : List ℕ) (key other : ℕ) → Contains (if keeps then key_added keys key else keys) other → Contains keys other ⊎ (key ≡ other)
kept_if true keys key other has = added_if (has_key keys key) keys key other has
kept_if false keys key other has = inl has

read_keeps : (c : Client) (turn : ReadTurn) → (client_read c turn).reads ≡ c.reads
read_keeps c (Asks r) = refl
read_keeps c (Answers a) = refl

fetch_told : (w : State) (k : Fetched w) → Fetches (fetched_items w k) k.it.session k.key
unfolding ◌∈◌
fetch_told w k = (k.cells, inl (sym k.tells))

fetched_came : (w : State) (k : Fetched w) → Came w.clients k.it.session (client_read (fetched_client w k) (fetched_turn w k)) (fetched_items w k)
fetched_came w k =
    let same = read_keeps (fetched_client w k) (fetched_turn w k) in
    record {
      old = k.it.c;
      at = k.it.client_at;
      opened = was_open k.it.c (client_read (fetched_client w k) (fetched_turn w k)) (inr (sym (read_keeps_entry (fetched_client w k) (fetched_turn w k))));
      reads = λ key has. elim (kept_if (keeps_read w.setup k.it.c k.key) k.it.c.reads k.key key (subst (λ (keys : List ℕ). Contains keys key) same has)) [
        | inl old ↦ inl old
        | inr new ↦ inr (subst (λ (read : ℕ). Fetches (fetched_items w k) k.it.session read) new (fetch_told w k))
      ];
    }

-- ---- every outcome but a begin
all_came : (w : State) (o : Outcome w) → (changes o).opened ≡ false → AllCame w.clients (left_by w o).clients (told_by_outcome w o)
all_came w (OfAnsweredBegin k) is = absurd (cc)
all_came w (OfHanded k) is = put_came w.clients k.session _ k.items (handed_came w.clients k.session k.commit k.c k.items k.client_at)
all_came w (OfWrote k) is = put_came w.clients k.it.session _ _ (record { old = k.it.c; at = k.it.client_at; opened = λ is. (is, refl); reads = λ key has. inl has })
all_came w (OfVanished k) is = put_came w.clients k.session _ k.items (opens_none w.clients k.session k.c _ k.items k.client_at (λ is. cc) refl)
all_came w (OfFetched k) is = put_came w.clients k.it.session _ (fetched_items w k) (fetched_came w k)
all_came w (OfReadDropped k) is = put_came w.clients k.session _ k.items (keeps_both w.clients k.session k.c _ k.items k.client_at refl refl)
all_came w (OfReadStepped k) is =
    put_came w.clients k.session _ _ (keeps_both w.clients k.session k.c _ _ k.client_at (read_keeps_entry (read_client w k) (read_turn w k)) (read_keeps (read_client w k) (read_turn w k)))
all_came w o is = moved_came w.clients (left_by w o).clients (told_by_outcome w o) (clients_move w o refl)

fetched_on : (clients : List Client) (h items : List Item) (s t : ℕ) (c : Client) → All (NoBegin s) items → (came : Came clients s c items) → AreFetched h s t came.old → AreFetched (h ++ items) s t c
fetched_on clients h items s t c none came was =
    let longer : since_begin (h ++ items) s ≡ since_begin h s ++ items = since-more (begins_for s) h items (All-weaker (NoBegin s) (λ x. begins_for s x ≡ false) (λ x no. no.begins) items none) in
    record {
      begun = last_told-same (begin_by s) h items (All-weaker (NoBegin s) (λ x. begin_by s x ≡ None) (λ x no. no.told) items none) ∙ was.begun;
      fetched = λ key has. subst (λ (part : List Item). Fetches part s key) (sym longer) (elim (came.reads key has) [
        | inl old ↦ let before = was.fetched key old in (before.0, in_front (item.Step (Session s) (Fetch key before.0)) (since_begin h s) items before.1)
        | inr now ↦ (now.0, in_back (item.Step (Session s) (Fetch key now.0)) (since_begin h s) items now.1)
      ]);
    }

-- ---- the session's last ask is the one before, or a new one
record NewAsk (w : State) (h items : List Item) (s : ℕ) : Type 0 where
  ask : Asked w
  own : session_of ask.request ≡ s
  told : its_ask (h ++ items) s ≡ Some (ask_for ask.node ask.request)

abbrev AskAfter : State → List Item → List Item → ℕ → Type 0
AskAfter w h items s = (its_ask (h ++ items) s ≡ its_ask h s) ⊎ NewAsk w h items s

own_ask : (h : List Item) (node : ℕ) (request : Request) → its_ask (h ++ ask_item node request ∷ []) (session_of request) ≡ Some (ask_for node request)
own_ask h node (Begin r) = its_ask-push h (item.AskBegin r node) r ∙ own_item r (ask_for node (Begin r)) (its_ask h r)
own_ask h node (Commit r start keys) = its_ask-push h (item.AskCommit r node start) r ∙ own_item r (ask_for node (Commit r start keys)) (its_ask h r)

new_ask : (w : State) (h : List Item) (k : Asked w) (s : ℕ) → AskAfter w h (ask_item k.node k.request ∷ []) s
new_ask w h k s = elim (cases_Bool (session_of k.request == s)) [
  | inl is ↦ let own : session_of k.request ≡ s = eqb-true (session_of k.request) s is in
      inr (record { ask = k; own = own; told = subst (λ (r : ℕ). its_ask (h ++ ask_item k.node k.request ∷ []) r ≡ Some (ask_for k.node k.request)) own (own_ask h k.node k.request) })
  | inr other ↦ inl (its_ask-mute h (ask_item k.node k.request ∷ []) s (one_mute s (ask_item k.node k.request)
      (other_ask s k.node k.request (λ same. let clash : true ≡ false = sym (eq-eqb (session_of k.request) s same) ∙ other in cc))))
]

draw_asks : (s node term stamp : ℕ) (request : Request) → ask_by s (draw_item node term request stamp) ≡ None
draw_asks s node term stamp (Begin r) = refl
draw_asks s node term stamp (Commit r start keys) = refl

ask_after : (w : State) (h : List Item) (d : NodeTransition w) (s : ℕ) → AskAfter w h (items_by w d) s
ask_after w h (OfRested k) s = inl (its_ask-mute h k.items s (silent_mute s k.items k.silent))
ask_after w h (OfTook k) s = inl (its_ask-mute h _ s (took_mute w k s))
ask_after w h (OfRenewed k) s = inl (its_ask-mute h _ s (always_mute s _ refl))
ask_after w h (OfWidened k) s = inl (its_ask-mute h _ s (always_mute s _ refl))
ask_after w h (OfStopped k) s = inl (its_ask-mute h _ s (always_mute s _ refl))
ask_after w h (OfCrashed k) s = inl (its_ask-mute h _ s (crashed_mute w k s))
ask_after w h (OfAsked k) s = new_ask w h k s
ask_after w h (OfAccepted k) s = inl (its_ask-push h (item.Accept k.it.session k.it.node k.it.i.term k.reading) s)
ask_after w h (OfDrew k) s =
    inl (its_ask-push h _ s ∙ ap (λ (told : Option Ask). option_or told (its_ask h s)) (draw_asks s k.it.node k.it.i.term (k.it.i.last + 1) k.it.held.request))
ask_after w h (OfSettled k) s = inl (its_ask-mute h _ s (settled_mute w k s))
ask_after w h (OfTold k) s = inl (its_ask-mute h k.items s (silent_mute s k.items k.silent))
ask_after w h (OfEnded k) s = inl (its_ask-mute h _ s (ended_mute w k s))
ask_after w h (OfLearned k) s = inl (its_ask-mute h _ s (learned_mute w k s))

-- a commit is asked for the transaction that its session has open
asked_start : (request : Request) (c : Client) (m n t : ℕ) → AsksFor request c → ask_for m request ≡ record { node = n; start = Some t } → (c.entry.state ≡ phase.Open) × (c.entry.start ≡ Some t)
asked_start (Begin r) c m n t for_it same = absurd (none-some t (ap (λ (a : Ask). a.start) same))
asked_start (Commit r start keys) c m n t for_it same = (for_it.0, for_it.1 ∙ ap (λ (a : Ask). a.start) same)

asked_now : (w : State) (h items : List Item) (s n t : ℕ) (c : Client) → ShownInvariant w h → ClientAt w.clients s c → NewAsk w h items s → its_ask (h ++ items) s ≡ Some (record { node = n; start = Some t }) → AreFetched h s t c
asked_now w h items s n t c shows at new told =
    let there : ClientAt w.clients s new.ask.c = subst (λ (r : ℕ). ClientAt w.clients r new.ask.c) new.own new.ask.client_at in
    let was = asked_start new.ask.request new.ask.c new.ask.node n t new.ask.for_it (same_Some _ _ (sym new.told ∙ told)) in
    subst (λ (d : Client). AreFetched h s t d) (one_client w.clients s new.ask.c c there at) (shows.reads.opened s t new.ask.c there was.0 was.1)

outcome_shown : (w : State) (h : List Item) (o : Outcome w) → ReachedInvariant w h → ShownInvariant w h → (changes o).opened ≡ false → AreReadsShown (left_by w o).clients (h ++ told_by_outcome w o)
outcome_shown w h o stands shows is =
    let items : List Item = told_by_outcome w o in
    let by : NodeTransitionOf w (left_by w o).nodes items = outcome_deed w h o stands.holds in
    record {
      opened = λ s t c at is_open start.
          let came = all_came w o is s c at in
          let was = came.opened is_open in
          fetched_on w.clients h items s t c (no_begins w h o s stands.holds is) came (shows.reads.opened s t came.old came.at was.0 (was.1 ∙ start));
      asked = λ s n t c at told.
          let came = all_came w o is s c at in
          let after : AskAfter w h items s = subst (λ (these : List Item). AskAfter w h these s) (sym by.tells) (ask_after w h by.deed s) in
          fetched_on w.clients h items s t c (no_begins w h o s stands.holds is) came (elim after [
            | inl same ↦ shows.reads.asked s n t came.old came.at (sym same ∙ told)
            | inr new ↦ asked_now w h items s n t came.old shows came.at new told
          ]);
    }

-- ---- a begin that is answered: of its own session, and of another one
begin_no_ask : (h : List Item) (session start s : ℕ) → its_ask (h ++ item.Begin session start ∷ []) s ≡ its_ask h s
begin_no_ask h session start s = its_ask-push h (item.Begin session start) s

begun_other : (s session start : ℕ) → s ≢ session → All (NoBegin s) (item.Begin session start ∷ [])
begun_other s session start other =
    let away : session ≢ s = λ same. other (sym same) in
    All-cons (NoBegin s) (item.Begin session start) [] (record { told = none_unless session s start away; begins = ne_eqb session s away }) (All-nil (NoBegin s))

nothing_read : (key : ℕ) → Contains [] key → ⊥
nothing_read key has = absurd (omega (arith, has.1))

begun_own : (h : List Item) (s start t : ℕ) (c : Client) → c.entry.start ≡ Some start → c.reads ≡ [] → c.entry.start ≡ Some t → AreFetched (h ++ item.Begin s start ∷ []) s t c
begun_own h s start t c start_is reads is = record {
  begun = last_told-push (begin_by s) h (item.Begin s start) ∙ own_item s start (last_begun h s) ∙ sym start_is ∙ is;
  fetched = λ key has. absurd (nothing_read key (subst (λ (keys : List ℕ). Contains keys key) reads has));
}

begun_opened : (h : List Item) (s start epoch t : ℕ) (old c : Client) → c ≡ unless_gone old (client_begun old start epoch) → c.entry.state ≡ phase.Open → c.entry.start ≡ Some t → AreFetched (h ++ item.Begin s start ∷ []) s t c
begun_opened h s start epoch t old c same is_open is = elim (gone_cases old (client_begun old start epoch)) [
  | inl stays ↦ absurd (let clash : phase.Gone ≡ phase.Open = sym stays.1 ∙ (ap (λ (d : Client). d.entry.state) (sym (same ∙ stays.0)) ∙ is_open) in cc)
  | inr moves ↦ begun_own h s start t c (ap (λ (d : Client). d.entry.start) (same ∙ moves)) (ap (λ (d : Client). d.reads) (same ∙ moves)) is
]

-- the request that was answered was a begin
begin_was_asked : (w : State) (h : List Item) (k : AnsweredBegin w) → ShownInvariant w h → its_ask h k.session ≡ Some (record { node = k.node; start = None })
begin_was_asked w h k shows =
    let held : HeldBy k.i k.session (Begin k.asker) (progress.Drawn k.start) = record { held = k.held; has = k.has; asks = k.request_is; stands = k.drawn } in
    shows.asked.asked k.node k.session k.i (Begin k.asker) (progress.Drawn k.start) k.at held

begun_asked : (w : State) (h : List Item) (k : AnsweredBegin w) (n t : ℕ) → ShownInvariant w h → its_ask h k.session ≡ Some (record { node = n; start = Some t }) → ⊥
begun_asked w h k n t shows told = none-some t (ap (λ (a : Ask). a.start) (same_Some _ _ (sym (begin_was_asked w h k shows) ∙ told)))

begin_shown : (w : State) (h : List Item) (k : AnsweredBegin w) → ShownInvariant w h → AreReadsShown (answered_begin_state w k).clients (h ++ answered_begin_items w k)
begin_shown w h k shows = record {
  opened = λ s t c at is_open start. elim (client_set w.clients k.session s _ c at) [
    | inl here ↦ subst (λ (r : ℕ). AreFetched (h ++ item.Begin k.session k.start ∷ []) r t c) (sym here.0) (begun_opened h k.session k.start k.i.epoch t k.c c here.1 is_open start)
    | inr other ↦ fetched_on w.clients h _ s t c (begun_other s k.session k.start other.0) (came_as w.clients s c _ other.1) (shows.reads.opened s t c other.1 is_open start)
  ];
  asked = λ s n t c at told.
      let before : its_ask h s ≡ Some (record { node = n; start = Some t }) = sym (begin_no_ask h k.session k.start s) ∙ told in
      elim (client_set w.clients k.session s _ c at) [
        | inl here ↦ absurd (begun_asked w h k n t shows (subst (λ (r : ℕ). its_ask h r ≡ Some (record { node = n; start = Some t })) here.0 before))
        | inr other ↦ fetched_on w.clients h _ s t c (begun_other s k.session k.start other.0) (came_as w.clients s c _ other.1) (shows.reads.asked s n t c other.1 before)
      ];
}

-- ---- each outcome, and each event
reads_on : (w : State) (h : List Item) (o : Outcome w) → ReachedInvariant w h → ShownInvariant w h → AreReadsShown (left_by w o).clients (h ++ told_by_outcome w o)
reads_on w h (OfAnsweredBegin k) stands shows = begin_shown w h k shows
reads_on w h o stands shows = outcome_shown w h o stands shows refl

pub reads_kept : (w : State) (h : List Item) (e : Event) (fate : Fate) → ReachedInvariant w h → ShownInvariant w h → AreReadsShown (stepped w e fate).state.clients (h ++ (stepped w e fate).items)
reads_kept w h e fate stands shows = each_outcome (λ v items. AreReadsShown v.clients (h ++ items)) w h e fate stands (λ o. reads_on w h o stands shows)
