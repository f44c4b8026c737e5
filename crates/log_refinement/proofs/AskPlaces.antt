-- An ask and what has come of it, from its item to the next line of its session.
use Rattle.log_refinement.proofs.Names.{◌≡◌, ℕ, ◌<◌, Bool, true, if◌then◌else◌, List, [], ◌∷◌, ◌++◌, Option, None, Some}
use Rattle.log_refinement.proofs.Names.{inl, inr, refl, sym, ◌∙◌, ap, subst, arith, length, slice_get, append-nil}
use Rattle.log_refinement.proofs.Names.{slice_get_within, ◌∈◌, Session, Item, in_front, InstanceEntry, Client, State}
use Rattle.log_refinement.proofs.Names.{stepped, Ask, ask_by, asks_for, its_ask, since_ask, last_told-push, since-push}
use Rattle.log_refinement.proofs.Names.{ExplainedInvariant, ClientAt, written_keys, one_client, Fit, found, AllNot}
use Rattle.log_refinement.proofs.Names.{Ends, WasTold, Owed, Nothing, Answer, Standing, with_items, is_paid}
use Rattle.std.specs.Option.{option_or}
use Rattle.history_book.specs.declared.cause.Cause.TheVariants as cause
use Rattle.history_book.specs.declared.item.Item.TheVariants as item
use Rattle.system_parts.specs.declared.session.State.TheVariants as phase
use Rattle.machine.specs.declared.event.Event.{Event}
use Rattle.machine.specs.declared.event.Event.TheVariants as event
use Rattle.log_refinement.specs.declared.owed.Due.TheVariants as due
use Rattle.log_refinement.proofs.AskFacts.{MachineLaws, Passed, same_self, EndsBy}
use Rattle.log_refinement.proofs.BeginAsks.{NoCommitted, begin_ask, tells_no_commit, BeginComes, begin_later, begin_items, begin_ended}
use Rattle.log_refinement.proofs.CommitAsks.{CommitAsk, Place, PlaceBefore, PlaceBehind, place_later, keys_same, CommitComes, commit_later}
use Rattle.log_refinement.proofs.CommitItems.{OwnEvent, Own, HasKeys, commit_items, commit_ended}
use Rattle.log_refinement.proofs.CommitTrails.{commit_ask, of_commit}
use Rattle.log_refinement.proofs.ItemLists.{none_append}
use Rattle.log_refinement.proofs.KeptKeys.{KeysKept}
use Rattle.log_refinement.proofs.Moves.{Move, items_of, state_after, history_after, AskMove}
use Rattle.log_refinement.proofs.SinceAsk.{IsSince, since_more, since_now}
use Rattle.log_refinement.proofs.StepItems.{SaysTo, steps_say}

-- ---- places
-- all that is known of a place of the history
pub record Known (w : State) (h : List Item) : Type 0 where
  pub tells : ExplainedInvariant w h
  pub ends : Ends w h
  pub fit : Fit w

-- the same behind a move
abbrev pub KnownBehind : Move → Type 0
KnownBehind v = Known (state_after v) (history_after v)

pub client_there : (w : State) (h : List Item) (s : ℕ) → Known w h → s < 16 → (c : Client) × ClientAt w.clients s c
client_there w h s k less = found w.clients s (let many : length w.clients ≡ 16 = k.fit.clients in omega (arith, many, less))

pub client_before : (v : Move) (s : ℕ) (d : Client) → Known v.state v.history → KnownBehind v → ClientAt (state_after v).clients s d → (c : Client) × ClientAt v.state.clients s c
client_before v s d k l there = client_there v.state v.history s k (let within = slice_get_within (state_after v).clients s d there in let many : length (state_after v).clients ≡ 16 = l.fit.clients in omega (arith, within, many))

-- ---- the ask
-- of a begin
pub record BeginStands (s n : ℕ) (h since : List Item) (owed : Owed) : Type 0 where
  pub upto : List Item
  pub is_since : IsSince s (begin_ask n) h upto since
  pub none : NoCommitted s since
  pub comes : BeginComes s n h since owed

-- of a commit
abbrev pub commit_at : ℕ → ℕ → List Item → CommitAsk
commit_at n t before = record { node = n; start = t; before = before }

pub record CommitStands (s n t : ℕ) (w : State) (h since : List Item) (st : Standing) : Type 0 where
  pub before : List Item
  pub c : Client
  pub place : Place s (commit_at n t before) w h since c
  pub has : HasKeys h t st.written
  pub comes : CommitComes s n t h since c st.unerased st.owed

abbrev pub AskStands : ℕ → ℕ → Option ℕ → State → List Item → List Item → Standing → Type 0
AskStands s n None w h since st = BeginStands s n h since st.owed
AskStands s n (Some t) w h since st = CommitStands s n t w h since st

-- ---- an event of another log
-- the clients before and behind an event
pub record Between (s : ℕ) (v : Move) : Type 0 where
  pub k : Known v.state v.history
  pub l : KnownBehind v
  pub none : AllNot (Session s) (items_of v)
  pub c : Client
  pub at : ClientAt v.state.clients s c
  pub d : Client
  pub there : ClientAt (state_after v).clients s d

pub between : (s : ℕ) (v : Move) → s < 16 → Known v.state v.history → KnownBehind v → AllNot (Session s) (items_of v) → Between s v
between s v less k l none =
    let before = client_there v.state v.history s k less in
    let after = client_there (state_after v) (history_after v) s l less in
    record { k = k; l = l; none = none; c = before.0; at = before.1; d = after.0; there = after.1 }

-- the event past the ask of the session, with these items since
abbrev past_ask : (s : ℕ) (v : Move) (since : List Item) → Between s v → AskMove
past_ask s v since b = record { session = s; move = v; since = since; client = b.c; next = b.d }

begin_passed : (s n : ℕ) (v : Move) (upto since : List Item) → (b : Between s v) → IsSince s (begin_ask n) v.history upto since → Passed (begin_ask n) upto (past_ask s v since b)
begin_passed s n v upto since b is = record { tells = b.k.tells; ends = b.k.ends; now = b.l.tells; ended = b.l.ends; is_since = is; at = b.at; there = b.there; none = b.none }

begin_stands : MachineLaws → (s n : ℕ) (v : Move) (since : List Item) (owed : Owed) → Between s v → BeginStands s n v.history since owed → BeginStands s n (history_after v) (since ++ items_of v) owed
begin_stands laws s n v since owed b stands =
    let items : List Item = items_of v in
    let a : AskMove = past_ask s v since b in
    let p = begin_passed s n v stands.upto since b stands.is_since in
    record {
      upto = stands.upto;
      is_since = since_more s (begin_ask n) v.history stands.upto since items stands.is_since b.none;
      none = λ start commit m. none_append (λ x. x ≡ item.Committed s start commit) since items (λ x there same. stands.none start commit (subst (λ (y : Item). y ∈ since) same there)) (λ x there same. tells_no_commit laws n stands.upto a p start commit (subst (λ (y : Item). y ∈ items) same there)) (item.Committed s start commit) m refl;
      comes = begin_later laws n stands.upto a owed p stands.comes;
    }

has_later : (ask : CommitAsk) (a : AskMove) (written : List ℕ) → PlaceBefore ask a → PlaceBehind ask a → HasKeys a.move.history ask.start written → HasKeys (history_after a.move) ask.start written
has_later ask a written k l has key m = has key (subst (λ (keys : List ℕ). key ∈ keys) (keys_same ask a k l) m)

commit_stands : MachineLaws → (s n t : ℕ) (v : Move) (since : List Item) (st : Standing) → Between s v → CommitStands s n t v.state v.history since st → CommitStands s n t (state_after v) (history_after v) (since ++ items_of v) st
commit_stands laws s n t v since st b stands =
    let ask : CommitAsk = commit_at n t stands.before in
    -- past the client that stands there
    let a : AskMove = record { session = s; move = v; since = since; client = stands.c; next = b.d } in
    let next : PlaceBehind ask a = place_later laws ask a stands.place b.l.tells b.there b.none in
    record {
      before = stands.before;
      c = b.d;
      place = next;
      has = has_later ask a st.written stands.place next stands.has;
      comes = commit_later laws ask a st.unerased st.owed stands.place next b.none stands.comes;
    }

pub stands_later : MachineLaws → (s n : ℕ) (start : Option ℕ) (v : Move) (since : List Item) (st : Standing) → Between s v → AskStands s n start v.state v.history since st → AskStands s n start (state_after v) (history_after v) (since ++ items_of v) st
stands_later laws s n None v since st b stands = begin_stands laws s n v since st.owed b stands
stands_later laws s n (Some t) v since st b stands = commit_stands laws s n t v since st b stands

-- ---- an event of its own
-- what its items say, where it is a step
abbrev pub OwnSays : (s : ℕ) (v : Move) → Between s v → Bool → Type 0
OwnSays s v b steps = steps ≡ true → (x : Item) → x ∈ items_of v → SaysTo s b.c b.d x

pub own_says : (s r : ℕ) (v : Move) → (b : Between s v) → v.event ≡ event.Step r → (x : Item) → x ∈ items_of v → SaysTo s b.c b.d x
own_says s r v b is x m =
    steps_say v.state v.history r s v.fate b.c b.d x b.k.tells.stands b.at
    (subst (λ (q : Event). ClientAt (stepped v.state q v.fate).state.clients s b.d) is b.there)
    (subst (λ (q : Event). x ∈ (stepped v.state q v.fate).items) is m)

begin_own : MachineLaws → (s n : ℕ) (v : Move) (since : List Item) (steps : Bool) (st : Standing) → Between s v → BeginStands s n v.history since st.owed → BeginStands s n (history_after v) (since ++ items_of v) (with_items (Session s) steps st (items_of v)).owed
begin_own laws s n v since steps st b stands =
    let next = begin_stands laws s n v since st.owed b stands in
    record {
      upto = next.upto;
      is_since = next.is_since;
      none = next.none;
      comes = begin_items laws n stands.upto (past_ask s v since b) steps st (items_of v) (begin_passed s n v stands.upto since b stands.is_since) (λ x m. m) next.comes;
    }

-- the same client
commit_own : MachineLaws → (s n t : ℕ) (v : Move) (since : List Item) (steps : Bool) (st : Standing) → (b : Between s v) → OwnSays s v b steps → CommitStands s n t v.state v.history since st →
    CommitStands s n t (state_after v) (history_after v) (since ++ items_of v) (with_items (Session s) steps st (items_of v))
unfolding commit_stands
commit_own laws s n t v since steps st b says stands =
    let next = commit_stands laws s n t v since st b stands in
    let here : stands.c ≡ b.c = one_client v.state.clients s stands.c b.c stands.place.at b.at in
    let e : OwnEvent = record { ask = commit_at n t stands.before; past = past_ask s v since b; steps = steps } in
    let own : Own e = record {
      k = subst (λ (x : Client). Place s e.ask v.state v.history since x) here stands.place;
      l = next.place;
      none = b.none;
      says = says;
    } in
    let k = commit_items laws e st (items_of v) own (λ x m. m) next.has next.comes in
    record { before = stands.before; c = b.d; place = next.place; has = k.0; comes = k.1 }

pub stands_own : MachineLaws → (s n : ℕ) (start : Option ℕ) (v : Move) (since : List Item) (steps : Bool) (st : Standing) → (b : Between s v) → OwnSays s v b steps → AskStands s n start v.state v.history since st →
    AskStands s n start (state_after v) (history_after v) (since ++ items_of v) (with_items (Session s) steps st (items_of v))
stands_own laws s n None v since steps st b says stands = begin_own laws s n v since steps st b stands
stands_own laws s n (Some t) v since steps st b says stands = commit_own laws s n t v since steps st b says stands

-- ---- an answer that says nothing: the session was told to wait
-- it is of a node that stands there
pub record IsSilent (s n : ℕ) (v : Move) : Type 0 where
  pub post : Option InstanceEntry
  pub here : slice_get v.state.nodes n ≡ Some post
  pub answer : v.event ≡ event.Answer n s
  pub none : items_of v ≡ []

told_to_wait : MachineLaws → (s n : ℕ) (v : Move) (upto since : List Item) (ask : Ask) → Between s v → IsSince s ask v.history upto since → IsSilent s n v → (commit : ℕ) × (item.Refused (Session s) (cause.NotYet commit) ∈ since)
told_to_wait laws s n v upto since ask b is k =
    let silent : (stepped v.state (event.Answer n s) v.fate).items ≡ [] = ap (λ (q : Event). (stepped v.state q v.fate).items) (sym k.answer) ∙ k.none in
    let told : WasTold k.post s = laws.silent v.state n s v.fate k.post b.c k.here b.at silent in
    let waits = b.k.ends.waits.told n s told.i (k.here ∙ ap (λ (p : Option InstanceEntry). Some p) told.here) told.told in
    (waits.0, subst (λ (xs : List Item). item.Refused (Session s) (cause.NotYet waits.0) ∈ xs) (since_now s ask v.history upto since is) waits.1)

-- then nothing is owed any more
pub stands_silent : MachineLaws → (s n : ℕ) (start : Option ℕ) (v : Move) (since : List Item) (st : Standing) → Between s v → IsSilent s n v → AskStands s n start v.state v.history since st →
    AskStands s n start (state_after v) (history_after v) (since ++ items_of v) (record st { owed = Nothing })
stands_silent laws s n None v since st b silent stands =
    let next = begin_stands laws s n v since st.owed b stands in
    let told = told_to_wait laws s n v stands.upto since (begin_ask n) b stands.is_since silent in
    record { upto = next.upto; is_since = next.is_since; none = next.none; comes = inr (inr (told.0, in_front _ since (items_of v) told.1)) }
stands_silent laws s n (Some t) v since st b silent stands =
    let told = told_to_wait laws s n v _ since (commit_ask n t) b stands.place.is_since silent in
    absurd (stands.place.unwaited told.0 told.1)

-- ---- the item of the ask
asked_first : (s : ℕ) (ask : Ask) (h : List Item) (x : Item) → ask_by s x ≡ Some ask → asks_for s x ≡ true → IsSince s ask (h ++ x ∷ []) (h ++ x ∷ []) []
unfolding AllNot
asked_first s ask h x asks is = record {
  is = sym (append-nil (h ++ x ∷ []));
  asked = last_told-push (ask_by s) h x ∙ ap (λ (found : Option Ask). option_or found (its_ask h s)) asks;
  begins = since-push (asks_for s) h x ∙ ap (λ (b : Bool). if b then [] else since_ask h s ++ x ∷ []) is;
  none = tt;
}

begin_asks : (s n : ℕ) → ask_by s (item.AskBegin s n) ≡ Some (begin_ask n)
begin_asks s n = ap (λ (b : Bool). if b then Some (begin_ask n) else None) (same_self s)

commit_asks : (s n t : ℕ) → ask_by s (item.AskCommit s n t) ≡ Some (commit_ask n t)
commit_asks s n t = ap (λ (b : Bool). if b then Some (commit_ask n t) else None) (same_self s)

pub begin_first : (s n : ℕ) (h : List Item) → BeginStands s n (h ++ item.AskBegin s n ∷ []) [] (Answer n due.Accept)
unfolding ◌∈◌
begin_first s n h = record {
  upto = h ++ item.AskBegin s n ∷ [];
  is_since = asked_first s (begin_ask n) h (item.AskBegin s n) (begin_asks s n) (same_self s);
  none = λ start commit m. absurd m;
  comes = refl;
}

-- what is known of an event that asks for a commit: the session had its transaction open, and waits
pub record CommitAsked (s n t : ℕ) (w v : State) (h : List Item) (c d : Client) : Type 0 where
  pub k : Known w h
  pub l : Known v (h ++ item.AskCommit s n t ∷ [])
  pub at : ClientAt w.clients s c
  pub there : ClientAt v.clients s d
  pub was : c.entry.state ≡ phase.Open
  pub now : d.entry.state ≡ phase.Committing
  pub old : c.entry.start ≡ Some t
  pub new : d.entry.start ≡ Some t

pub commit_first : (s n t : ℕ) (w v : State) (h : List Item) (c d : Client) (st : Standing) → CommitAsked s n t w v h c d → KeysKept (Session s) w st.written → st.owed ≡ Answer n due.Accept → CommitStands s n t v (h ++ item.AskCommit s n t ∷ []) [] st
unfolding ◌∈◌
commit_first s n t w v h c d st asks kept owed = record {
  before = h;
  c = d;
  place = record {
    tells = asks.l.tells;
    ends = asks.l.ends;
    is_since = asked_first s (commit_ask n t) h (item.AskCommit s n t) (commit_asks s n t) (same_self s);
    at = asks.there;
    trail = record { state_is = ap of_commit asks.now; start_is = λ not. asks.new; waits = λ still x none ends. absurd none };
    unwaited = λ commit none. absurd none;
  };
  has = λ key m.
      let before : key ∈ written_keys h t = subst (λ (keys : List ℕ). key ∈ keys) (asks.l.ends.closed.keys h [] s n t refl) m in
      kept c asks.at asks.was key (subst (λ (keys : List ℕ). key ∈ keys) (sym (asks.k.tells.stands.holds.requests.keys.written s t c asks.at (inl asks.was) asks.old)) before);
  comes = subst (λ (o : Owed). CommitComes s n t (h ++ item.AskCommit s n t ∷ []) [] d st.unerased o) (sym owed) refl;
}

-- ---- once nothing is owed
pub ask_ended : (s n : ℕ) (start : Option ℕ) (w : State) (h since : List Item) (st : Standing) → AskStands s n start w h since st → is_paid st ≡ true → EndsBy h s (record { node = n; start = start }) since st.owed
ask_ended s n None w h since st stands paid = begin_ended s n h since st.owed st.unerased stands.none stands.comes paid
ask_ended s n (Some t) w h since st stands paid = commit_ended s (commit_at n t stands.before) w h since stands.c st.unerased st.owed stands.place stands.comes paid
