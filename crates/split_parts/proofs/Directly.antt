-- An event that is made of the lent parts themselves.
use Rattle.std.specs.FinMap as map
use Rattle.split_parts.proofs.Names.{◌≡◌, ℕ, zero, suc, ◌<◌, ◌≤◌, nat_lt, Bool, true, false, List, [], ◌∷◌, ◌++◌}
use Rattle.split_parts.proofs.Names.{length, replicate, slice_set, Option, Some, None, Result, Ok, Err, refl, sym, ap}
use Rattle.split_parts.proofs.Names.{◌∙◌, subst, arith, if◌then◌else◌, slice_get, slice_index_or, IfSome, IsSome}
use Rattle.split_parts.proofs.Names.{IsSomeAnd, IsErr, get_or-set_same, Fate, CallsFit, HasNode, HasSession, Store}
use Rattle.split_parts.proofs.Names.{Item, HasOnly, IsBare, Row, Event, Client, State, opening, Effect, Stop, Refuses}
use Rattle.split_parts.proofs.Names.{Faults, write_asks, write_refused, SetupNumbers, fetch_asks, fetch_on, heal_asks}
use Rattle.split_parts.proofs.Names.{heal_at, heal_on, offer_of, put_asks, next_of, step_asks, step_on, work_of, Pairs}
use Rattle.split_parts.proofs.Names.{IsWaitedFor, MayBegin, MayCommit, MayHeal, MayMakeStep, MayWrite, begin_refusal}
use Rattle.split_parts.proofs.Names.{handed_commit, work_refusal, Cause, InstanceEntry, HoldsNone, KeepsShadowNext}
use Rattle.split_parts.proofs.Names.{MayStep, WaitsAt, is_reading, ClientAt, PostAt, Step, step_by, asks_at_client}
use Rattle.split_parts.proofs.Names.{asks_at_post, at_client, at_post, on_table, with_client, asks, stepped, at_both}
use Rattle.split_parts.proofs.Names.{with_post, on_ask, of_session, of_cells, of_stores, Makes, Leaves, fate_ahead}
use Rattle.split_parts.proofs.Names.{Stopped, Refused, StoreFault, NoMemory, Acts, asked_of, noted, stopped_of, HasAll}
use Rattle.split_parts.proofs.Names.{HasPost, lent_effect, on_cells, on_node, on_session, on_stores, MakesOfCells}
use Rattle.split_parts.proofs.Names.{MakesOfNode, MakesOfSession, MakesOfTable, StepsOfSession, on_marks, on_rows, Ends}
use Rattle.split_parts.proofs.Names.{called_after, client_lent, post_by, session_at, Parts, Session, Node, Marks}
use Rattle.split_parts.proofs.Names.{CellRows, called, client_or, fate_of, filled, given_client, lent_rows, given_from}
use Rattle.split_parts.proofs.Names.{given_pairs, given_rows, given_sessions, lent_clients, setup_of, Acted}
use Rattle.port_io.specs.declared.weather.Fate.TheVariants.{Works, FailsApplied, FailsUnchanged}
use Rattle.machine.specs.declared.event.Event.TheVariants as event
use Rattle.event_parts.specs.Served.{HasRoomIf}
use Rattle.split_parts.proofs.FoundParts.{client_there, own_there, post_there}
use Rattle.split_parts.proofs.Giving.{given_back, given_fit}
use Rattle.split_parts.proofs.Handing.{sessions_back}
use Rattle.split_parts.proofs.Filled.{came_stop, not_err}

-- ---- what an event's effect on some of the parts is to all of them
-- the parts with these values of those that it touches, their values before, and its effect
pub record Direct (V : Type 0) : Type 0 where
  pub set : V → Parts
  pub old : V
  pub effect : Effect V

pub record IsDirect {V : Type 0} (l : Parts) (e : Event) (fate : Fate) (d : Direct V) : Type 0 where
  pub same : d.set d.old ≡ l
  pub parts : given_from l (stepped (filled l) e fate).state ≡ d.set d.effect.parts
  pub items : (stepped (filled l) e fate).items ≡ d.effect.items
  pub stop : (stepped (filled l) e fate).stop ≡ d.effect.stop

-- from what the step is
pub direct_by : {V : Type 0} (l : Parts) (e : Event) (fate : Fate) (d : Direct V) (w : State) → d.set d.old ≡ l → stepped (filled l) e fate ≡ record { state = w; items = d.effect.items; stop = d.effect.stop } → given_from l w ≡ d.set d.effect.parts → IsDirect l e fate d
direct_by l e fate d w same step back = record {
  same = same;
  parts = ap (λ (y : Step). given_from l y.state) step ∙ back;
  items = ap (λ (y : Step). y.items) step;
  stop = ap (λ (y : Step). y.stop) step;
}

leaves : {V : Type 0} (l now : Parts) (e : Event) (fate : Fate) (d : Direct V) (v : V) (before after : List Item) (stop : Option Stop) → IsDirect l e fate d → now ≡ d.set v → Leaves d.effect v before after stop → Leaves (lent_effect l e fate) now before after stop
leaves l now e fate d v before after stop k is made = record {
  parts = is ∙ ap d.set made.parts ∙ sym k.parts;
  items = made.items ∙ ap (λ (xs : List Item). before ++ xs) (sym k.items);
  stop = k.stop ∙ made.stop;
}

pub makes_directly : {V : Type 0} (l now : Parts) (e : Event) (fate : Fate) (d : Direct V) (v : V) (before after : List Item) (result : Result Unit Stopped) → IsDirect l e fate d → now ≡ d.set v → Makes d.effect d.old v before after result → Makes (lent_effect l e fate) l now before after result
makes_directly l now e fate d v before after (Ok _) k is made = leaves l now e fate d v before after None k is made
makes_directly l now e fate d v before after (Err (Refused why)) k is made = leaves l now e fate d v before after (Some (Refuses why)) k is made
makes_directly l now e fate d v before after (Err (StoreFault s)) k is made = leaves l now e fate d v before after (Some (Faults s)) k is made
makes_directly l now e fate d v before after (Err NoMemory) k is made = (is ∙ ap d.set made.0 ∙ k.same, made.1)

-- ---- and so the event is made of them
record CameTo (l now : Parts) (e : Event) (fate : Fate) (items : List Item) (stopped : Option Stopped) (last : Parts) : Type 0 where
  parts : now ≡ (lent_effect l e fate).parts
  items_are : items ≡ (lent_effect l e fate).items
  stop : stopped ≡ stopped_of (lent_effect l e fate).stop
  counted : last ≡ called (asked_of l e) now

came : {E : Type 0} (l now last : Parts) (e : Event) (fate : Fate) (items : List Item) (result : Result Unit Stopped) (stopped : Option Stopped) (r : Result (Option Stopped) E) → Makes (lent_effect l e fate) l now [] items result → last ≡ called_after (asked_of l e) result now → Ends result r → r ≡ Ok stopped → CameTo l now e fate items stopped last
came l now last e fate items (Ok _) stopped r made counted ends is = record { parts = made.parts; items_are = made.items; stop = came_stop stopped None r is ends ∙ sym (ap stopped_of made.stop); counted = counted }
came l now last e fate items (Err (Refused why)) stopped r made counted ends is = record { parts = made.parts; items_are = made.items; stop = came_stop stopped (Some (Refused why)) r is ends ∙ sym (ap stopped_of made.stop); counted = counted }
came l now last e fate items (Err (StoreFault s)) stopped r made counted ends is = record { parts = made.parts; items_are = made.items; stop = came_stop stopped (Some (StoreFault s)) r is ends ∙ sym (ap stopped_of made.stop); counted = counted }
came l now last e fate items (Err NoMemory) stopped r made counted ends is = absurd (not_err r stopped is ends)

-- the call was made under the planned fate, and counted
pub record IsMadeOf (l now last : Parts) (e : Event) (asked : Option Store) (fate : Fate) (before items : List Item) (result : Result Unit Stopped) : Type 0 where
  pub all : HasAll l e
  pub asked_is : asked ≡ asked_of l e
  pub fate_is : fate ≡ fate_of l asked
  pub none : before ≡ []
  pub made : Makes (lent_effect l e fate) l now before items result
  pub counted : last ≡ called_after asked result now

-- such an event sets no clock and posts no name
untimed : (l p : Parts) (e : Event) → HasAll l e → p ≡ noted e p
untimed l p (event.Tick to) all = absurd all
untimed l p (event.Note actor said) all = absurd all
untimed l p (event.Write session key value) all = refl
untimed l p _ all = refl

made_now : {l now last : Parts} {e : Event} {asked : Option Store} {fate : Fate} {before items : List Item} {result : Result Unit Stopped} → IsMadeOf l now last e asked fate before items result → Makes (lent_effect l e (fate_of l (asked_of l e))) l now [] items result
made_now {l} {now} {last} {e} {asked} {fate} {before} {items} {result} k =
    subst (λ (h : List Item). Makes (lent_effect l e (fate_of l (asked_of l e))) l now h items result) k.none (subst (λ (f : Fate). Makes (lent_effect l e f) l now before items result) (k.fate_is ∙ ap (fate_of l) k.asked_is) k.made)

counted_now : {l now last : Parts} {e : Event} {asked : Option Store} {fate : Fate} {before items : List Item} {result : Result Unit Stopped} → IsMadeOf l now last e asked fate before items result → last ≡ called_after (asked_of l e) result now
counted_now {l} {now} {last} {e} {asked} {fate} {before} {items} {result} k = k.counted ∙ ap (λ (a : Option Store). called_after a result now) k.asked_is

pub acts_directly : {E : Type 0} {l now last : Parts} {e : Event} {asked : Option Store} {fate : Fate} {before items : List Item} {result : Result Unit Stopped} (acted : Acted) (r : Result (Option Stopped) E) → IsMadeOf l now last e asked fate before items result → Ends result r → r ≡ Ok acted.stopped → acted.items.items ≡ items → Acts l last e acted
acts_directly {E} {l} {now} {last} {e} {asked} {fate} {before} {items} {result} acted r k ends is told =
    let at : CameTo l now e (fate_of l (asked_of l e)) items acted.stopped last = came l now last e (fate_of l (asked_of l e)) items result acted.stopped r (made_now k) (counted_now k) ends is in
    record {
      items = told ∙ at.items_are;
      stopped = at.stop;
      parts = untimed l last e k.all ∙ ap (noted e) (at.counted ∙ ap (called (asked_of l e)) at.parts);
    }

as_before : {E : Type 0} (l now last : Parts) (e : Event) (fate : Fate) (items : List Item) (result : Result Unit Stopped) (r : Result (Option Stopped) E) → Makes (lent_effect l e fate) l now [] items result → last ≡ called_after (asked_of l e) result now → Ends result r → IsErr r → last ≡ l
as_before l now last e fate items (Ok _) r made counted ends err = absurd (not_err r None ends err)
as_before l now last e fate items (Err (Refused why)) r made counted ends err = absurd (not_err r (Some (Refused why)) ends err)
as_before l now last e fate items (Err (StoreFault s)) r made counted ends err = absurd (not_err r (Some (StoreFault s)) ends err)
as_before l now last e fate items (Err NoMemory) r made counted ends err = counted ∙ made.0

pub stays_as_before : {E : Type 0} {l now last : Parts} {e : Event} {asked : Option Store} {fate : Fate} {before items : List Item} {result : Result Unit Stopped} (r : Result (Option Stopped) E) → IsMadeOf l now last e asked fate before items result → Ends result r → IsErr r → last ≡ l
stays_as_before {E} {l} {now} {last} {e} {asked} {fate} {before} {items} {result} r k ends err = as_before l now last e (fate_of l (asked_of l e)) items result r (made_now k) (counted_now k) ends err

-- the count of calls is as far from its end as before
pub fits_still : (l now : Parts) (e : Event) (fate : Fate) (asked : Option Store) (before items : List Item) (result : Result Unit Stopped) → Makes (lent_effect l e fate) l now before items result → CallsFit l asked → CallsFit now asked
fits_still l now e fate asked before items (Ok _) made fit = subst (λ (p : Parts). CallsFit p asked) (sym made.parts) (given_fit asked l (stepped (filled l) e fate).state fit)
fits_still l now e fate asked before items (Err (Refused why)) made fit = subst (λ (p : Parts). CallsFit p asked) (sym made.parts) (given_fit asked l (stepped (filled l) e fate).state fit)
fits_still l now e fate asked before items (Err (StoreFault s)) made fit = subst (λ (p : Parts). CallsFit p asked) (sym made.parts) (given_fit asked l (stepped (filled l) e fate).state fit)
fits_still l now e fate asked before items (Err NoMemory) made fit = subst (λ (p : Parts). CallsFit p asked) (sym made.0) fit

-- ---- a session
set_clients : (n s : ℕ) (clients : List Client) (sessions : List (Option Session)) (own now : Session) → s < n → n ≤ length clients → slice_index_or sessions s None ≡ Some own → lent_clients n clients (slice_set sessions s (Some now)) ≡ slice_set (lent_clients n clients sessions) s now.client
unfolding lent_clients
set_clients zero s clients sessions own now less many at = absurd (omega (arith, less))
set_clients (suc n) s [] sessions own now less many at = absurd (omega (arith, many))
set_clients (suc n) s (d ∷ clients) [] own now less many at = absurd (cc)
set_clients (suc n) zero (d ∷ clients) (x ∷ sessions) own now less many at = refl
set_clients (suc n) (suc s) (d ∷ clients) (x ∷ sessions) own now less many at = ap (λ (cs : List Client). client_or x d ∷ cs) (set_clients n s clients sessions own now (omega (arith, less)) (omega (arith, many)) at)

abbrev pub with_own : Session → Client → Session
with_own own now = record own { client = now }

given_first : (x : Option Session) (own : Session) (now : Client) → x ≡ Some own → given_client x now ≡ Some (with_own own now)
given_first x own now is = ap (λ (o : Option Session). given_client o now) is

given_same : (x : Option Session) (d : Client) → given_client x (client_or x d) ≡ x
given_same None d = refl
given_same (Some own) d = refl

set_back : (n s : ℕ) (clients : List Client) (sessions : List (Option Session)) (own : Session) (now : Client) → s < n → n ≤ length clients → slice_index_or sessions s None ≡ Some own → given_sessions n sessions (lent_clients n clients (slice_set sessions s (Some (with_own own now)))) ≡ slice_set sessions s (Some (with_own own now))
unfolding lent_clients given_sessions
set_back zero s clients sessions own now less many at = absurd (omega (arith, less))
set_back (suc n) s [] sessions own now less many at = absurd (omega (arith, many))
set_back (suc n) s (d ∷ clients) [] own now less many at = absurd (cc)
set_back (suc n) zero (d ∷ clients) (x ∷ sessions) own now less many at = λ k. given_first x own now at k ∷ sessions_back n clients sessions k
set_back (suc n) (suc s) (d ∷ clients) (x ∷ sessions) own now less many at = λ k. given_same x d k ∷ set_back n s clients sessions own now (omega (arith, less)) (omega (arith, many)) at k

set_itself : (s : ℕ) (sessions : List (Option Session)) (own : Session) → slice_index_or sessions s None ≡ Some own → slice_set sessions s (Some own) ≡ sessions
set_itself s [] own at = refl
set_itself zero (x ∷ sessions) own at = ap (λ (o : Option Session). o ∷ sessions) (sym at)
set_itself (suc s) (x ∷ sessions) own at = ap (λ (os : List (Option Session)). x ∷ os) (set_itself s sessions own at)

-- ---- a session alone
abbrev pub session_set : Parts → ℕ → Option Session → Parts
session_set l s v = record l { sessions = slice_set l.sessions s v }

abbrev pub session_direct : Parts → ℕ → Session → Effect Client → Direct (Option Session)
session_direct l s c effect = record { set = session_set l s; old = Some c; effect = on_session c effect }

pub directs_session : (l : Parts) (e : Event) (fate : Fate) (s : ℕ) (c : Session) (g : Client → Effect Client) → s < 16 → session_at l s ≡ Some c → stepped (filled l) e fate ≡ of_session (filled l) s g → IsDirect l e fate (session_direct l s c (g c.client))
directs_session l e fate s c g less at is =
    let w : State = opening (setup_of l) in
    let now : Client = (g c.client).parts in
    let clients = set_clients 16 s w.clients l.sessions c (with_own c now) less (omega arith) at in
    direct_by l e fate (session_direct l s c (g c.client)) (filled (session_set l s (Some (with_own c now)))) (λ k. record l { sessions = set_itself s l.sessions c at k })
    (is ∙ ap (λ (found : Option Client). at_client (filled l) found (λ x. step_by (g x) (λ p. with_client (filled l) s p))) (own_there l s c less at)
    ∙ (λ k. record { state = record (filled l) { clients = sym clients k }; items = (g c.client).items; stop = (g c.client).stop }))
    (λ k. record l {
      sessions = set_back 16 s w.clients l.sessions c now less (omega arith) at k;
      janitor = ap (λ (p : Parts). p.janitor) (given_back w l) k;
      node = ap (λ (p : Parts). p.node) (given_back w l) k;
      cells = ap (λ (p : Parts). p.cells) (given_back w l) k;
      table = ap (λ (p : Parts). p.table) (given_back w l) k;
      master = ap (λ (p : Parts). p.master) (given_back w l) k;
    })

pub some_of : {T : Type 0} (o : Option T) → IsSome o → (x : T) × (o ≡ Some x)
some_of None is = absurd (cc)
some_of (Some x) is = (x, refl)

own_lent : (o : Option Session) (n : ℕ) → IsSomeAnd o (λ x. x.number ≡ n) → (x : Session) × (o ≡ Some x)
own_lent None n has = absurd has
own_lent (Some x) n has = (x, refl)

-- the call made the event of the session, and so of the lent parts
pub session_made : (l now : Parts) (e : Event) (fate : Fate) (s : ℕ) (g : Client → Effect Client) (before items : List Item) (result : Result Unit Stopped) → s < 16 → HasSession l s → stepped (filled l) e fate ≡ of_session (filled l) s g → now ≡ session_set l s (session_at now s) → MakesOfSession g (session_at l s) (session_at now s) before items result → Makes (lent_effect l e fate) l now before items result
session_made l now e fate s g before items result less own is others made =
    let c = own_lent (session_at l s) s own in
    makes_directly l now e fate (session_direct l s c.0 (g c.0.client)) (session_at now s) before items result (directs_session l e fate s c.0 g less c.1 is) others (subst (λ (x : Option Session). MakesOfSession g x (session_at now s) before items result) c.1 made)

-- ---- a session and the cells
abbrev pub cells_set : Parts → ℕ → Option Session × Option CellRows → Parts
cells_set l s v = record l { sessions = slice_set l.sessions s v.0; cells = v.1 }

abbrev pub cells_direct : Parts → ℕ → Session → CellRows → Effect (Client × List Row) → Direct (Option Session × Option CellRows)
cells_direct l s c part effect = record { set = cells_set l s; old = (Some c, Some part); effect = on_cells c part effect }

pub directs_cells : (l : Parts) (e : Event) (fate : Fate) (s : ℕ) (c : Session) (part : CellRows) (g : Client → Effect (Client × List Row)) → s < 16 → session_at l s ≡ Some c → l.cells ≡ Some part → stepped (filled l) e fate ≡ of_cells (filled l) s g → IsDirect l e fate (cells_direct l s c part (g c.client))
directs_cells l e fate s c part g less at lent is =
    let w : State = opening (setup_of l) in
    let now : Client = (g c.client).parts.0 in
    let clients = set_clients 16 s w.clients l.sessions c (with_own c now) less (omega arith) at in
    direct_by l e fate (cells_direct l s c part (g c.client)) (filled (cells_set l s (on_cells c part (g c.client)).parts)) (λ k. record l { sessions = set_itself s l.sessions c at k; cells = sym lent k })
    (is ∙ ap (λ (found : Option Client). at_client (filled l) found (λ x. step_by (g x) (λ p. record (with_client (filled l) s p.0) { rows = p.1 }))) (own_there l s c less at)
    ∙ (λ k. record { state = record (filled l) { clients = sym clients k; rows = (g c.client).parts.1 }; items = (g c.client).items; stop = (g c.client).stop }))
    (λ k. record l {
      sessions = set_back 16 s w.clients l.sessions c now less (omega arith) at k;
      janitor = ap (λ (p : Parts). p.janitor) (given_back w l) k;
      node = ap (λ (p : Parts). p.node) (given_back w l) k;
      cells = given_rows (g c.client).parts.1 (lent k);
      table = ap (λ (p : Parts). p.table) (given_back w l) k;
      master = ap (λ (p : Parts). p.master) (given_back w l) k;
    })

-- the call made the event of session and cells, and so of the lent parts
pub cells_made : (l now : Parts) (e : Event) (fate : Fate) (s : ℕ) (f : Client → List Row → Effect (Client × List Row)) (before items : List Item) (result : Result Unit Stopped) → s < 16 → HasSession l s → IsSome l.cells → stepped (filled l) e fate ≡ of_cells (filled l) s (λ x. f x (filled l).rows) → now ≡ cells_set l s (session_at now s, now.cells) → MakesOfCells f (session_at l s) l.cells (session_at now s) now.cells before items result → Makes (lent_effect l e fate) l now before items result
cells_made l now e fate s f before items result less own lent is others made =
    let c = own_lent (session_at l s) s own in
    let part = some_of l.cells lent in
    let rows : (filled l).rows ≡ part.0.rows = ap (λ (p : Option CellRows). lent_rows (opening (setup_of l)).rows p) part.1 in
    makes_directly l now e fate (cells_direct l s c.0 part.0 (f c.0.client part.0.rows)) (session_at now s, now.cells) before items result
    (directs_cells l e fate s c.0 part.0 (λ x. f x part.0.rows) less c.1 part.1 (is ∙ (λ i. of_cells (filled l) s (λ x. f x (rows i))))) others
    (subst (λ (x : Option CellRows). MakesOfCells f (Some c.0) x (session_at now s) now.cells before items result) part.1 (subst (λ (x : Option Session). MakesOfCells f x l.cells (session_at now s) now.cells before items result) c.1 made))

lt_by : (a b : ℕ) (is : Bool) → nat_lt a b ≡ is → a < b → nat_lt a b ≡ true
lt_by a b true is less = is
lt_by a b false is less = absurd (grind (arith, is, less))

lt_true : (a b : ℕ) → a < b → nat_lt a b ≡ true
lt_true a b less = lt_by a b (nat_lt a b) refl less

-- ---- a session and the node that it asks
abbrev pub node_set : Parts → ℕ → Option Session × Option Node → Parts
node_set l s v = record l { sessions = slice_set l.sessions s v.0; node = v.1 }

abbrev pub node_direct : Parts → ℕ → Session → Node → Effect (Client × Option InstanceEntry) → Direct (Option Session × Option Node)
node_direct l s c part effect = record { set = node_set l s; old = (Some c, Some part); effect = on_node c part effect }

pub posts_over : (xs : List (Option InstanceEntry)) (n : ℕ) (a b : Option InstanceEntry) → slice_set (slice_set xs n a) n b ≡ slice_set xs n b
posts_over [] n a b = refl
posts_over (x ∷ xs) zero a b = refl
posts_over (x ∷ xs) (suc n) a b = ap (λ (ys : List (Option InstanceEntry)). x ∷ ys) (posts_over xs n a b)

pub post_in : (k n : ℕ) (a d : Option InstanceEntry) → n < k → slice_index_or (slice_set (replicate k None) n a) n d ≡ a
post_in zero n a d less = absurd (omega (arith, less))
post_in (suc k) zero a d less = refl
post_in (suc k) (suc n) a d less = post_in k n a d (omega (arith, less))

pub post_is : (nodes : ℕ) (part : Node) → part.node < nodes → post_by nodes (Some part) ≡ Some part.instance
post_is nodes part less = ap (λ (within : Bool). if within then Some part.instance else None) (lt_true part.node nodes less)

-- where this is the lent node
abbrev with_node : Parts → Node → Parts
with_node l part = record l { node = Some part }

directs_there : (l : Parts) (e : Event) (fate : Fate) (s n q : ℕ) (c : Session) (part : Node) (g : Client → Option InstanceEntry → Effect (Client × Option InstanceEntry)) → s < 16 → session_at l s ≡ Some c → part.node ≡ n → part.node < l.plan.setup.nodes → stepped (filled (with_node l part)) e fate ≡ on_ask (record (filled (with_node l part)) { seen = q }) s n g → IsDirect (with_node l part) e fate (node_direct (with_node l part) s c part (g c.client part.instance))
directs_there l e fate s n q c part g less at node within is =
    let p : Parts = with_node l part in
    let w : State = opening (setup_of l) in
    let effect : Effect (Client × Option InstanceEntry) = g c.client part.instance in
    let clients = set_clients 16 s w.clients l.sessions c (with_own c effect.parts.0) less (omega arith) at in
    let found : slice_get (filled p).nodes n ≡ Some part.instance = post_there p n node ∙ post_is l.plan.setup.nodes part within in
    let posts : slice_set (filled p).nodes n effect.parts.1 ≡ slice_set w.nodes part.node effect.parts.1 = ap (λ (m : ℕ). slice_set (filled p).nodes m effect.parts.1) (sym node) ∙ posts_over w.nodes part.node part.instance effect.parts.1 in
    direct_by p e fate (node_direct p s c part effect) (record (filled (node_set p s (on_node c part effect).parts)) { seen = q }) (λ k. record p { sessions = set_itself s l.sessions c at k })
    (is ∙ (λ k. at_both (record (filled p) { seen = q }) (found k) (own_there p s c less at k) (λ post x. step_by (g x post) (λ y. with_client (with_post (record (filled p) { seen = q }) n y.1) s y.0)))
    ∙ (λ k. record { state = record (filled p) { seen = q; clients = sym clients k; nodes = posts k }; items = effect.items; stop = effect.stop }))
    (λ k. record p {
      sessions = set_back 16 s w.clients l.sessions c effect.parts.0 less (omega arith) at k;
      janitor = ap (λ (y : Parts). y.janitor) (given_back w p) k;
      node = Some (record part { instance = post_in l.plan.setup.nodes part.node effect.parts.1 part.instance within k });
      cells = ap (λ (y : Parts). y.cells) (given_back w p) k;
      table = ap (λ (y : Parts). y.table) (given_back w p) k;
      master = ap (λ (y : Parts). y.master) (given_back w p) k;
    })

node_by : (l now : Parts) (e : Event) (fate : Fate) (s n q : ℕ) (f : Client → Option InstanceEntry → Effect (Client × Option InstanceEntry)) (before items : List Item) (result : Result Unit Stopped) (part : Node) → s < 16 → HasSession l s → (part.node ≡ n) × (part.node < l.plan.setup.nodes) → stepped (filled (with_node l part)) e fate ≡ on_ask (record (filled (with_node l part)) { seen = q }) s n f → now ≡ node_set l s (session_at now s, now.node) → MakesOfNode f (session_at l s) (Some part) (session_at now s) now.node before items result → Makes (lent_effect (with_node l part) e fate) (with_node l part) now before items result
node_by l now e fate s n q f before items result part less own has is others made =
    let c = own_lent (session_at l s) s own in
    makes_directly (with_node l part) now e fate (node_direct (with_node l part) s c.0 part (f c.0.client part.instance)) (session_at now s, now.node) before items result
    (directs_there l e fate s n q c.0 part f less c.1 has.0 has.1 is) others
    (subst (λ (x : Option Session). MakesOfNode f x (Some part) (session_at now s) now.node before items result) c.1 made)

pub node_lent : (nodes : ℕ) (part : Option Node) (n : ℕ) → IsSomeAnd part (λ p. (p.node ≡ n) × (p.node < nodes)) → (p : Node) × (part ≡ Some p) × (p.node ≡ n) × (p.node < nodes)
node_lent nodes None n has = absurd has
node_lent nodes (Some p) n has = (p, refl, has.0, has.1)

-- the call made the event of session and node, and so of the lent parts
pub node_made : (l now : Parts) (e : Event) (fate : Fate) (s n q : ℕ) (f : Client → Option InstanceEntry → Effect (Client × Option InstanceEntry)) (before items : List Item) (result : Result Unit Stopped) → s < 16 → HasSession l s → HasPost l n → ((p : Parts) → stepped (filled p) e fate ≡ on_ask (record (filled p) { seen = q }) s n f) → now ≡ node_set l s (session_at now s, now.node) → MakesOfNode f (session_at l s) l.node (session_at now s) now.node before items result → Makes (lent_effect l e fate) l now before items result
node_made l now e fate s n q f before items result less own has is others made =
    let at = node_lent l.plan.setup.nodes l.node n has in
    let same : with_node l at.0 ≡ l = λ k. record l { node = sym at.1 k } in
    subst (λ (p : Parts). Makes (lent_effect p e fate) p now before items result) same
    (node_by l now e fate s n q f before items result at.0 less own (at.2, at.3) (is (with_node l at.0)) others (subst (λ (x : Option Node). MakesOfNode f (session_at l s) x (session_at now s) now.node before items result) at.1 made))

-- ---- a node and the commit table
abbrev pub marks_set : Parts → Option Node × Option Marks → Parts
marks_set l v = record l { node = v.0; table = v.1 }

abbrev with_marks : Parts → Node → Marks → Parts
with_marks l part marks = record l { node = Some part; table = Some marks }

abbrev marks_direct : Parts → Node → Marks → Effect (Option InstanceEntry × Pairs) → Direct (Option Node × Option Marks)
marks_direct l part marks effect = record { set = marks_set l; old = (Some part, Some marks); effect = on_marks part marks effect }

directs_marks : (l : Parts) (e : Event) (fate : Fate) (n : ℕ) (part : Node) (marks : Marks) (g : Option InstanceEntry → Effect (Option InstanceEntry × Pairs)) → part.node ≡ n → part.node < l.plan.setup.nodes → stepped (filled (with_marks l part marks)) e fate ≡ on_table (filled (with_marks l part marks)) n g → IsDirect (with_marks l part marks) e fate (marks_direct (with_marks l part marks) part marks (g part.instance))
directs_marks l e fate n part marks g node within is =
    let p : Parts = with_marks l part marks in
    let w : State = opening (setup_of l) in
    let effect : Effect (Option InstanceEntry × Pairs) = g part.instance in
    let found : slice_get (filled p).nodes n ≡ Some part.instance = post_there p n node ∙ post_is l.plan.setup.nodes part within in
    let posts : slice_set (filled p).nodes n effect.parts.0 ≡ slice_set w.nodes part.node effect.parts.0 = ap (λ (m : ℕ). slice_set (filled p).nodes m effect.parts.0) (sym node) ∙ posts_over w.nodes part.node part.instance effect.parts.0 in
    direct_by p e fate (marks_direct p part marks effect) (record (filled p) { nodes = slice_set w.nodes part.node effect.parts.0; pairs = effect.parts.1 }) refl
    (is ∙ (λ k. at_post (filled p) (found k) (λ post. step_by (g post) (λ y. record (with_post (filled p) n y.0) { pairs = y.1 })))
    ∙ (λ k. record { state = record (filled p) { nodes = posts k; pairs = effect.parts.1 }; items = effect.items; stop = effect.stop }))
    (λ k. record p {
      sessions = ap (λ (y : Parts). y.sessions) (given_back w p) k;
      janitor = ap (λ (y : Parts). y.janitor) (given_back w p) k;
      node = Some (record part { instance = post_in l.plan.setup.nodes part.node effect.parts.0 part.instance within k });
      cells = ap (λ (y : Parts). y.cells) (given_back w p) k;
      table = Some (record marks { pairs = effect.parts.1 });
      master = ap (λ (y : Parts). y.master) (given_back w p) k;
    })

pub marks_made : (l now : Parts) (e : Event) (fate : Fate) (n : ℕ) (f : Option InstanceEntry → Pairs → Effect (Option InstanceEntry × Pairs)) (before items : List Item) (result : Result Unit Stopped) → HasPost l n → IsSome l.table → ((p : Parts) → stepped (filled p) e fate ≡ on_table (filled p) n (λ i. f i (filled p).pairs)) → now ≡ marks_set l (now.node, now.table) → MakesOfTable f l.node l.table now.node now.table before items result → Makes (lent_effect l e fate) l now before items result
marks_made l now e fate n f before items result has table is others made =
    let at = node_lent l.plan.setup.nodes l.node n has in
    let marks = some_of l.table table in
    let same : with_marks l at.0 marks.0 ≡ l = λ k. record l { node = sym at.1 k; table = sym marks.1 k } in
    subst (λ (p : Parts). Makes (lent_effect p e fate) p now before items result) same
    (makes_directly (with_marks l at.0 marks.0) now e fate (marks_direct (with_marks l at.0 marks.0) at.0 marks.0 (f at.0.instance marks.0.pairs)) (now.node, now.table) before items result
    (directs_marks l e fate n at.0 marks.0 (λ i. f i marks.0.pairs) at.2 at.3 (is (with_marks l at.0 marks.0))) others
    (subst (λ (x : Option Marks). MakesOfTable f (Some at.0) x now.node now.table before items result) marks.1 (subst (λ (x : Option Node). MakesOfTable f x l.table now.node now.table before items result) at.1 made)))

pub has_node : (nodes : ℕ) (part : Option Node) (n : ℕ) → IsSomeAnd part (λ p. (p.node ≡ n) × (p.node < nodes)) → IsSomeAnd part (λ p. p.node ≡ n)
has_node nodes None n has = absurd has
has_node nodes (Some p) n has = has.0

pub put_asked : (l : Parts) (n s : ℕ) (asked : Option Store) (post : Option InstanceEntry) → HasPost l n → post_by l.plan.setup.nodes l.node ≡ Some post → asked ≡ put_asks s post → asked ≡ asks (filled l) (event.Put n s)
put_asked l n s asked post has at is = is ∙ sym (ap (λ (found : Option (Option InstanceEntry)). asks_at_post found (put_asks s)) (post_there l n (has_node l.plan.setup.nodes l.node n has) ∙ at))

-- ---- a session and both stores
abbrev pub stores_set : Parts → ℕ → Option Session × Option CellRows × Option Marks → Parts
stores_set l s v = record l { sessions = slice_set l.sessions s v.0; cells = v.1; table = v.2 }

abbrev stores_direct : Parts → ℕ → Session → Effect (Client × List Row × Pairs) → Direct (Option Session × Option CellRows × Option Marks)
stores_direct l s c effect = record { set = stores_set l s; old = (Some c, l.cells, l.table); effect = on_stores c l.cells l.table effect }

directs_stores : (l : Parts) (e : Event) (fate : Fate) (s : ℕ) (c : Session) (g : Client → Effect (Client × List Row × Pairs)) → s < 16 → session_at l s ≡ Some c → stepped (filled l) e fate ≡ of_stores (filled l) s g → IsDirect l e fate (stores_direct l s c (g c.client))
directs_stores l e fate s c g less at is =
    let w : State = opening (setup_of l) in
    let now : Client = (g c.client).parts.0 in
    let clients = set_clients 16 s w.clients l.sessions c (with_own c now) less (omega arith) at in
    direct_by l e fate (stores_direct l s c (g c.client)) (record (filled l) { clients = lent_clients 16 w.clients (slice_set l.sessions s (Some (with_own c now))); rows = (g c.client).parts.1; pairs = (g c.client).parts.2 })
    (λ k. record l { sessions = set_itself s l.sessions c at k })
    (is ∙ ap (λ (found : Option Client). at_client (filled l) found (λ x. step_by (g x) (λ p. record (with_client (filled l) s p.0) { rows = p.1; pairs = p.2 }))) (own_there l s c less at)
    ∙ (λ k. record { state = record (filled l) { clients = sym clients k; rows = (g c.client).parts.1; pairs = (g c.client).parts.2 }; items = (g c.client).items; stop = (g c.client).stop }))
    (λ k. record l {
      sessions = set_back 16 s w.clients l.sessions c now less (omega arith) at k;
      janitor = ap (λ (y : Parts). y.janitor) (given_back w l) k;
      node = ap (λ (y : Parts). y.node) (given_back w l) k;
      cells = given_rows (g c.client).parts.1 l.cells;
      table = given_pairs (g c.client).parts.2 l.table;
      master = ap (λ (y : Parts). y.master) (given_back w l) k;
    })

pub stores_made : (l now : Parts) (e : Event) (fate : Fate) (s : ℕ) (f : Client → List Row → Pairs → Effect (Client × List Row × Pairs)) (before items : List Item) (result : Result Unit Stopped) → s < 16 → HasSession l s → ((c : Session) → session_at l s ≡ Some c → stepped (filled l) e fate ≡ of_stores (filled l) s (λ x. f x (filled l).rows (filled l).pairs)) → now ≡ stores_set l s (session_at now s, now.cells, now.table) → StepsOfSession f (session_at l s) l.cells l.table (session_at now s) now.cells now.table before items result → Makes (lent_effect l e fate) l now before items result
stores_made l now e fate s f before items result less own is others made =
    let c = own_lent (session_at l s) s own in
    makes_directly l now e fate (stores_direct l s c.0 (f c.0.client (filled l).rows (filled l).pairs)) (session_at now s, now.cells, now.table) before items result
    (directs_stores l e fate s c.0 (λ x. f x (filled l).rows (filled l).pairs) less c.1 (is c.0 c.1)) others
    (subst (λ (x : Option Session). StepsOfSession f x l.cells l.table (session_at now s) now.cells now.table before items result) c.1 made)

-- the fate of a store that is not asked is that it works
pub ahead_is : (l : Parts) (asked : Option Store) (fate : Fate) → fate ≡ fate_of l asked → fate_ahead asked (λ store n. fate) ≡ fate
ahead_is l None fate is = sym is
ahead_is l (Some asked) fate is = refl

pub step_is : (l : Parts) (s : ℕ) (fate : Fate) (c : Session) → s < 16 → session_at l s ≡ Some c → fate ≡ fate_of l (asked_of l (event.Step s)) → stepped (filled l) (event.Step s) fate ≡ of_stores (filled l) s (λ x. step_on s (fate_ahead (step_asks x) (λ store n. fate)) x (filled l).rows (filled l).pairs)
step_is l s fate c less at is =
    let found = own_there l s c less at in
    let asks_is : asked_of l (event.Step s) ≡ step_asks c.client = ap (λ (o : Option Client). asks_at_client o step_asks) found in
    let same : fate ≡ fate_ahead (step_asks c.client) (λ store n. fate) = sym (ahead_is l (step_asks c.client) fate (is ∙ ap (fate_of l) asks_is)) in
    let step : Option Client → (Client → Fate) → Step = λ o at_fate. at_client (filled l) o (λ x. step_by (step_on s (at_fate x) x (filled l).rows (filled l).pairs) (λ p. record (with_client (filled l) s p.0) { rows = p.1; pairs = p.2 })) in
    ap (λ (o : Option Client). step o (λ x. fate)) found ∙ ap (λ (f : Fate). step (Some c.client) (λ x. f)) same ∙ sym (ap (λ (o : Option Client). step o (λ x. fate_ahead (step_asks x) (λ store n. fate))) found)

pub step_asked : (l : Parts) (s : ℕ) (asked : Option Store) (c : Client) → s < 16 → client_lent l s ≡ Some c → asked ≡ step_asks c → asked ≡ asks (filled l) (event.Step s)
step_asked l s asked c less at is = is ∙ sym (ap (λ (o : Option Client). asks_at_client o step_asks) (client_there l s c less at))

may_step_by : (l : Parts) (s : ℕ) (own : Option Session) → s < 16 → own ≡ session_at l s → MayMakeStep (filled l) s → IfSome own (λ c. MayStep c.client → handed_commit c.client.entry ≡ None → KeepsShadowNext (next_of (work_of c.client)) (lent_rows [] l.cells))
may_step_by l s None less at may = tt
may_step_by l s (Some c) less at may = may c.client (own_there l s c less (sym at))

pub may_step : (l : Parts) (s : ℕ) (own : Option Session) (cells : Option CellRows) → s < 16 → own ≡ session_at l s → cells ≡ l.cells → MayMakeStep (filled l) s → IfSome own (λ c. MayStep c.client → handed_commit c.client.entry ≡ None → KeepsShadowNext (next_of (work_of c.client)) (lent_rows [] cells))
may_step l s own cells less at lent may = subst (λ (p : Option CellRows). IfSome own (λ c. MayStep c.client → handed_commit c.client.entry ≡ None → KeepsShadowNext (next_of (work_of c.client)) (lent_rows [] p))) (sym lent) (may_step_by l s own less at may)

-- ---- a session is taken out of the lent parts, and put back
set_over : (xs : List (Option Session)) (n : ℕ) (a b : Option Session) → slice_set (slice_set xs n a) n b ≡ slice_set xs n b
set_over [] n a b = refl
set_over (x ∷ xs) zero a b = refl
set_over (x ∷ xs) (suc n) a b = ap (λ (ys : List (Option Session)). x ∷ ys) (set_over xs n a b)

pub record Among (l end : Parts) (s : ℕ) (own : Option Session) (cells : Option CellRows) : Type 0 where
  pub session : own ≡ session_at end s
  pub rows : cells ≡ end.cells
  pub others : end ≡ cells_set l s (session_at end s, end.cells)

pub among : (l took end : Parts) (own : Option Session) (cells : Option CellRows) (s n m : ℕ) → took ≡ record l { sessions = slice_set l.sessions n None } → end ≡ record took { cells = cells; sessions = slice_set took.sessions m own } → n ≡ s → m ≡ s → s < length l.sessions → Among l end s own cells
among l took end own cells s n m was is first second less =
    let sessions : end.sessions ≡ slice_set l.sessions s own = ap (λ (p : Parts). p.sessions) is ∙ (λ k. slice_set (was k).sessions (second k) own) ∙ ap (λ (q : ℕ). slice_set (slice_set l.sessions q None) s own) first ∙ set_over l.sessions s None own in
    let session : own ≡ session_at end s = sym (ap (λ (xs : List (Option Session)). slice_index_or xs s None) sessions ∙ get_or-set_same l.sessions s own None less) in
    let rows : cells ≡ end.cells = sym (ap (λ (p : Parts). p.cells) is) in
    record {
      session = session;
      rows = rows;
      others = is ∙ (λ k. record (was k) { cells = cells; sessions = slice_set (was k).sessions m own }) ∙ (λ k. record l { cells = rows k; sessions = (sym (ap (λ (p : Parts). slice_set p.sessions m own) was) ∙ sym (ap (λ (p : Parts). p.sessions) is) ∙ sessions ∙ ap (λ (o : Option Session). slice_set l.sessions s o) session) k });
    }

pub made_moved : (f : Client → List Row → Effect (Client × List Row)) (a a' : Option Session) (b b' : Option CellRows) (c c' : Option Session) (d d' : Option CellRows) (before after : List Item) (result : Result Unit Stopped) → a ≡ a' → b ≡ b' → c ≡ c' → d ≡ d' → MakesOfCells f a b c d before after result → MakesOfCells f a' b' c' d' before after result
made_moved f a a' b b' c c' d d' before after result p q r t made = subst (λ (v : Option Session × Option CellRows × Option Session × Option CellRows). MakesOfCells f v.0 v.1 v.2 v.3 before after result) (λ k. (p k, q k, r k, t k)) made

pub record AmongSessions (l end : Parts) (s : ℕ) (own : Option Session) : Type 0 where
  pub session : own ≡ session_at end s
  pub others : end ≡ session_set l s (session_at end s)

pub among_sessions : (l took end : Parts) (own : Option Session) (s n m : ℕ) → took ≡ record l { sessions = slice_set l.sessions n None } → end ≡ record took { sessions = slice_set took.sessions m own } → n ≡ s → m ≡ s → s < length l.sessions → AmongSessions l end s own
among_sessions l took end own s n m was is first second less =
    let all : end ≡ session_set l s own = is ∙ (λ k. record (was k) { sessions = slice_set (was k).sessions (second k) own }) ∙ ap (λ (q : ℕ). record l { sessions = slice_set (slice_set l.sessions q None) s own }) first ∙ ap (λ (xs : List (Option Session)). record l { sessions = xs }) (set_over l.sessions s None own) in
    let session : own ≡ session_at end s = sym (ap (λ (p : Parts). slice_index_or p.sessions s None) all ∙ get_or-set_same l.sessions s own None less) in
    record { session = session; others = all ∙ ap (session_set l s) session }

pub session_moved : (g : Client → Effect Client) (a b c d : Option Session) (before after : List Item) (result : Result Unit Stopped) → a ≡ b → c ≡ d → MakesOfSession g a c before after result → MakesOfSession g b d before after result
session_moved g a b c d before after result p r made = subst (λ (v : Option Session × Option Session). MakesOfSession g v.0 v.1 before after result) (λ k. (p k, r k)) made

pub record AmongNodes (l end : Parts) (s : ℕ) (own : Option Session) (node : Option Node) : Type 0 where
  pub session : own ≡ session_at end s
  pub post : node ≡ end.node
  pub others : end ≡ node_set l s (session_at end s, end.node)

pub among_nodes : (l took end : Parts) (own : Option Session) (node : Option Node) (s n m : ℕ) → took ≡ record l { sessions = slice_set l.sessions n None } → end ≡ record took { node = node; sessions = slice_set took.sessions m own } → n ≡ s → m ≡ s → s < length l.sessions → AmongNodes l end s own node
among_nodes l took end own node s n m was is first second less =
    let all : end ≡ node_set l s (own, node) = is ∙ (λ k. record (was k) { node = node; sessions = slice_set (was k).sessions (second k) own }) ∙ ap (λ (q : ℕ). record l { node = node; sessions = slice_set (slice_set l.sessions q None) s own }) first ∙ ap (λ (xs : List (Option Session)). record l { node = node; sessions = xs }) (set_over l.sessions s None own) in
    let session : own ≡ session_at end s = sym (ap (λ (p : Parts). slice_index_or p.sessions s None) all ∙ get_or-set_same l.sessions s own None less) in
    let post : node ≡ end.node = sym (ap (λ (p : Parts). p.node) all) in
    record { session = session; post = post; others = all ∙ (λ k. node_set l s (session k, post k)) }

pub node_moved : (f : Client → Option InstanceEntry → Effect (Client × Option InstanceEntry)) (a a' : Option Session) (b b' : Option Node) (c c' : Option Session) (d d' : Option Node) (before after : List Item) (result : Result Unit Stopped) → a ≡ a' → b ≡ b' → c ≡ c' → d ≡ d' → MakesOfNode f a b c d before after result → MakesOfNode f a' b' c' d' before after result
node_moved f a a' b b' c c' d d' before after result p q r t made = subst (λ (v : Option Session × Option Node × Option Session × Option Node). MakesOfNode f v.0 v.1 v.2 v.3 before after result) (λ k. (p k, q k, r k, t k)) made

pub record AmongStores (l end : Parts) (s : ℕ) (own : Option Session) (cells : Option CellRows) (table : Option Marks) : Type 0 where
  pub session : own ≡ session_at end s
  pub rows : cells ≡ end.cells
  pub marks : table ≡ end.table
  pub others : end ≡ stores_set l s (session_at end s, end.cells, end.table)

pub among_stores : (l took end : Parts) (own : Option Session) (cells : Option CellRows) (table : Option Marks) (s n m : ℕ) → took ≡ record l { sessions = slice_set l.sessions n None } → end ≡ record took { cells = cells; table = table; sessions = slice_set took.sessions m own } → n ≡ s → m ≡ s → s < length l.sessions → AmongStores l end s own cells table
among_stores l took end own cells table s n m was is first second less =
    let all : end ≡ stores_set l s (own, cells, table) = is ∙ (λ k. record (was k) { cells = cells; table = table; sessions = slice_set (was k).sessions (second k) own }) ∙ ap (λ (q : ℕ). record l { cells = cells; table = table; sessions = slice_set (slice_set l.sessions q None) s own }) first ∙ ap (λ (xs : List (Option Session)). record l { cells = cells; table = table; sessions = xs }) (set_over l.sessions s None own) in
    let session : own ≡ session_at end s = sym (ap (λ (p : Parts). slice_index_or p.sessions s None) all ∙ get_or-set_same l.sessions s own None less) in
    let rows : cells ≡ end.cells = sym (ap (λ (p : Parts). p.cells) all) in
    let marks : table ≡ end.table = sym (ap (λ (p : Parts). p.table) all) in
    record { session = session; rows = rows; marks = marks; others = all ∙ (λ k. stores_set l s (session k, rows k, marks k)) }

pub stores_moved : (f : Client → List Row → Pairs → Effect (Client × List Row × Pairs)) (a a' : Option Session) (b b' : Option CellRows) (c c' : Option Marks) (x x' : Option Session) (y y' : Option CellRows) (z z' : Option Marks) (before after : List Item) (result : Result Unit Stopped) → a ≡ a' → b ≡ b' → c ≡ c' → x ≡ x' → y ≡ y' → z ≡ z' → StepsOfSession f a b c x y z before after result → StepsOfSession f a' b' c' x' y' z' before after result
stores_moved f a a' b b' c c' x x' y y' z z' before after result p q r t u v made = subst (λ (w : Option Session × Option CellRows × Option Marks × Option Session × Option CellRows × Option Marks). StepsOfSession f w.0 w.1 w.2 w.3 w.4 w.5 before after result) (λ k. (p k, q k, r k, t k, u k, v k)) made

-- ---- an ask
ask_by : (l : Parts) (s n : ℕ) (refused : Client → Option Cause) (own : Option Session) (node : Option Node) → s < 16 → own ≡ session_at l s → node ≡ l.node → HasPost l n → ((c : Client) (post : Option InstanceEntry) → ClientAt (filled l).clients s c → PostAt (filled l) n post → refused c ≡ None → HoldsNone post s) → IfSome own (λ c. IfSome node (λ part. refused c.client ≡ None → HoldsNone part.instance s))
ask_by l s n refused None part less at lent has may = tt
ask_by l s n refused (Some c) None less at lent has may = tt
ask_by l s n refused (Some c) (Some part) less at lent has may =
    let ok : (part.node ≡ n) × (part.node < l.plan.setup.nodes) = subst (λ (x : Option Node). IsSomeAnd x (λ p. (p.node ≡ n) × (p.node < l.plan.setup.nodes))) (sym lent) has in
    let node : HasNode l n = subst (λ (x : Option Node). IsSomeAnd x (λ p. p.node ≡ n)) lent ok.0 in
    may c.client part.instance (own_there l s c less (sym at)) (post_there l n node ∙ ap (post_by l.plan.setup.nodes) (sym lent) ∙ post_is l.plan.setup.nodes part ok.1)

pub may_serve : (l : Parts) (s n : ℕ) (own : Option Session) (node : Option Node) → s < 16 → own ≡ session_at l s → node ≡ l.node → HasPost l n → IsWaitedFor (filled l) n s → IfSome own (λ c. IfSome node (λ part. WaitsAt part.instance s c.client.entry))
may_serve l s n None part less at lent has may = tt
may_serve l s n (Some c) None less at lent has may = tt
may_serve l s n (Some c) (Some part) less at lent has may =
    let ok : (part.node ≡ n) × (part.node < l.plan.setup.nodes) = subst (λ (x : Option Node). IsSomeAnd x (λ p. (p.node ≡ n) × (p.node < l.plan.setup.nodes))) (sym lent) has in
    let here : HasNode l n = subst (λ (x : Option Node). IsSomeAnd x (λ p. p.node ≡ n)) lent ok.0 in
    may part.instance c.client (post_there l n here ∙ ap (post_by l.plan.setup.nodes) (sym lent) ∙ post_is l.plan.setup.nodes part ok.1) (own_there l s c less (sym at))

pub has_room : (serves : Bool) (n spare : ℕ) → n ≤ spare → HasRoomIf serves n spare
has_room true n spare room = room
has_room false n spare room = tt

pub may_begin : (l : Parts) (s n : ℕ) (own : Option Session) (node : Option Node) → s < 16 → own ≡ session_at l s → node ≡ l.node → HasPost l n → MayBegin (filled l) s n → IfSome own (λ c. IfSome node (λ part. begin_refusal c.client.entry.state ≡ None → HoldsNone part.instance s))
may_begin l s n own node less at lent has may = ask_by l s n (λ c. begin_refusal c.entry.state) own node less at lent has may

pub may_commit : (l : Parts) (s n : ℕ) (own : Option Session) (node : Option Node) → s < 16 → own ≡ session_at l s → node ≡ l.node → HasPost l n → MayCommit (filled l) s n → IfSome own (λ c. IfSome node (λ part. work_refusal c.client.entry.state (is_reading c.client) ≡ None → HoldsNone part.instance s))
may_commit l s n own node less at lent has may = ask_by l s n (λ c. work_refusal c.entry.state (is_reading c)) own node less at lent has may

-- ---- a write
pub write_asked : (l : Parts) (s key : ℕ) (value : List ℕ) (asked : Option Store) (c : Client) → s < 16 → client_lent l s ≡ Some c → asked ≡ write_asks key c → asked ≡ asks (filled l) (event.Write s key value)
write_asked l s key value asked c less at is = is ∙ sym (ap (λ (found : Option Client). asks_at_client found (write_asks key)) (client_there l s c less at))

may_by : (l : Parts) (s key : ℕ) (own : Option Session) (cells : Option CellRows) → s < 16 → session_at l s ≡ own → l.cells ≡ cells → MayWrite (filled l) s key → IfSome own (λ c. IfSome cells (λ part. write_refused c.client key ≡ None → IfSome c.client.entry.start (λ start. IsBare part.rows key start)))
may_by l s key None cells less at lent may = tt
may_by l s key (Some c) None less at lent may = tt
may_by l s key (Some c) (Some part) less at lent may = λ free.
    subst (λ (rows : List Row). IfSome c.client.entry.start (λ start. IsBare rows key start)) (ap (λ (p : Option CellRows). lent_rows (opening (setup_of l)).rows p) lent) (may c.client (own_there l s c less at) free)

pub may_write : (l : Parts) (s key : ℕ) → s < 16 → MayWrite (filled l) s key → IfSome (session_at l s) (λ c. IfSome l.cells (λ part. write_refused c.client key ≡ None → IfSome c.client.entry.start (λ start. IsBare part.rows key start)))
may_write l s key less may = may_by l s key (session_at l s) l.cells less refl refl may

pub may_write_of : (l : Parts) (s key : ℕ) (own : Option Session) (cells : Option CellRows) → s < 16 → own ≡ session_at l s → cells ≡ l.cells → MayWrite (filled l) s key → IfSome own (λ c. IfSome cells (λ part. write_refused c.client key ≡ None → IfSome c.client.entry.start (λ start. IsBare part.rows key start)))
may_write_of l s key own cells less at lent may = may_by l s key own cells less (sym at) (sym lent) may

-- ---- the shadow that a read offers
pub heal_asked : (l : Parts) (s : ℕ) (asked : Option Store) (c : Client) → s < 16 → client_lent l s ≡ Some c → asked ≡ heal_asks c → asked ≡ asks (filled l) (event.Heal s)
heal_asked l s asked c less at is = is ∙ sym (ap (λ (found : Option Client). asks_at_client found heal_asks) (client_there l s c less at))

pub may_heal : (l : Parts) (s : ℕ) (own : Option Session) (cells : Option CellRows) → s < 16 → own ≡ session_at l s → cells ≡ l.cells → MayHeal (filled l) s → IfSome own (λ c. IfSome cells (λ part. IfSome (offer_of c.client) (λ offer. HasOnly part.rows offer.0 offer.1 offer.2)))
may_heal l s None cells less at lent may = tt
may_heal l s (Some c) None less at lent may = tt
may_heal l s (Some c) (Some part) less at lent may =
    subst (λ (rows : List Row). IfSome (offer_of c.client) (λ offer. HasOnly rows offer.0 offer.1 offer.2)) (ap (λ (p : Option CellRows). lent_rows (opening (setup_of l)).rows p) (sym lent)) (may c.client (own_there l s c less (sym at)))

-- it asks the cells alone
heal_same : (s : ℕ) (fate : Fate) (c : Client) (rows : List Row) (a b : Pairs) (offer : Option (ℕ × ℕ × ℕ)) → heal_at s fate c rows a offer ≡ heal_at s fate c rows b offer
heal_same s fate c rows a b None = refl
heal_same s Works c rows a b (Some offer) = refl
heal_same s FailsApplied c rows a b (Some offer) = refl
heal_same s FailsUnchanged c rows a b (Some offer) = refl

pub heal_is : (l : Parts) (s : ℕ) (fate : Fate) → stepped (filled l) (event.Heal s) fate ≡ of_cells (filled l) s (λ x. heal_on s fate x (filled l).rows map.empty)
heal_is l s fate = λ k. of_cells (filled l) s (λ x. heal_same s fate x (filled l).rows (filled l).pairs map.empty (offer_of x) k)

-- ---- a fetch
pub fetch_asked : (l : Parts) (s key : ℕ) (setup : SetupNumbers) (asked : Option Store) (c : Client) → s < 16 → client_lent l s ≡ Some c → setup ≡ setup_of l → asked ≡ fetch_asks setup key c → asked ≡ asks (filled l) (event.Fetch s key)
fetch_asked l s key setup asked c less at same is = is ∙ ap (λ (x : SetupNumbers). fetch_asks x key c) same ∙ sym (ap (λ (found : Option Client). asks_at_client found (fetch_asks (setup_of l) key)) (client_there l s c less at))

-- a fetch leaves the rows
rows_left : (w : State) (s : ℕ) (g : Client → Effect Client) (found : Option Client) → at_client w found (λ c. step_by (g c) (λ p. with_client w s p)) ≡ at_client w found (λ c. step_by (on_rows w.rows (g c)) (λ p. record (with_client w s p.0) { rows = p.1 }))
rows_left w s g None = refl
rows_left w s g (Some c) = refl

pub fetch_is : (l : Parts) (s key : ℕ) (setup : SetupNumbers) (fate : Fate) → setup ≡ setup_of l → stepped (filled l) (event.Fetch s key) fate ≡ of_cells (filled l) s (λ x. on_rows (filled l).rows (fetch_on setup s key fate x (filled l).rows))
fetch_is l s key setup fate same = rows_left (filled l) s (λ c. fetch_on (setup_of l) s key fate c (filled l).rows) (slice_get (filled l).clients s) ∙ (λ k. of_cells (filled l) s (λ x. on_rows (filled l).rows (fetch_on (sym same k) s key fate x (filled l).rows)))
