-- A turn that serves a request has its room among what is kept for requests in flight, and every other turn leaves that room.
use Rattle.run_board.proofs.Names.{◌≡◌, ◌≤◌, ◌<◌, ◌+◌, ℕ, Bool, true, false, List, [], ◌∷◌, length, length-drop, Option}
use Rattle.run_board.proofs.Names.{Some, Result, refl, sym, ◌∙◌, ap, subst, arith, is_ok, is_some, IsOk, true≢false}
use Rattle.run_board.proofs.Names.{same_Some, Item, Place, Progress, InstanceEntry, place_of_progress, Event}
use Rattle.run_board.proofs.Names.{to_place_by, is_commit, asks_commit, State, Stopped, ScriptData, ReachedInvariant}
use Rattle.run_board.proofs.Names.{Serving, ClusterModel, Turn, Carried, event_of, IsInPlace, answered_from, posts}
use Rattle.run_board.proofs.Names.{has_some, is_told, serves, Ran, reached_by}
use Rattle.system_parts.specs.declared.instance.Place.TheVariants as place
use Rattle.system_parts.specs.declared.instance.Progress.TheVariants.{Asked, Accepted, Drawn, Settled, Handed}
use Rattle.system_parts.specs.declared.instance.Request.{Request}
use Rattle.system_parts.specs.declared.instance.Request.TheVariants.{Begin, Commit}
use Rattle.machine.specs.declared.event.Event.TheVariants as event
use Rattle.event_parts.specs.Served.{decides_at, is_to_decide, is_to_put, answers_at, is_to_answer}
use Rattle.cluster_core.specs.Served.{held_found, held_in, is_served, LeavesRoom, NeverLacksIf, most_reserved}
use Rattle.cluster_core.proofs.RoomMoves.{room_rises, served_spends}
use Rattle.turn_rules.specs.declared.turn.Turn.TheVariants as turn
use Rattle.run_board.proofs.Kept.{Kept, Call, IsMade, CanTurn, since}
use Rattle.run_board.proofs.Silent.{serving}
use Rattle.run_board.proofs.Steady.{facts}

-- ---- such a turn's event serves a request that was accepted
held_here : (w : State) (h : List Item) (node s : ℕ) (at : Place) (k : Serving w h s (node, at)) → held_in w node s ≡ Some k.served.held
held_here w h node s at k = ap (λ (posts : Option (Option InstanceEntry)). held_found posts s) k.served.holder.at ∙ k.served.holder.has

decides_by : (p : Progress) → place_of_progress p ≡ place.Accepted → decides_at p ≡ true
decides_by Accepted is = refl
decides_by Asked is = absurd (cc)
decides_by (Drawn stamp) is = absurd (cc)
decides_by (Settled stamp how) is = absurd (cc)
decides_by (Handed stamp) is = absurd (cc)

puts_by : (request : Request) (p : Progress) → place_of_progress p ≡ place.Drawn → is_commit request ≡ true → is_some (to_place_by request p) ≡ true
puts_by (Commit s start keys) (Drawn stamp) is commit = refl
puts_by (Commit s start keys) Asked is commit = absurd (cc)
puts_by (Commit s start keys) Accepted is commit = absurd (cc)
puts_by (Commit s start keys) (Settled stamp how) is commit = absurd (cc)
puts_by (Commit s start keys) (Handed stamp) is commit = absurd (cc)
puts_by (Begin s) p is commit = absurd (cc)

answers_by : (request : Request) (p : Progress) → place_of_progress p ≡ answered_from (is_commit request) → answers_at request p ≡ true
answers_by (Begin s) (Drawn start) is = refl
answers_by (Begin s) Asked is = absurd (cc)
answers_by (Begin s) Accepted is = absurd (cc)
answers_by (Begin s) (Settled stamp how) is = absurd (cc)
answers_by (Begin s) (Handed stamp) is = absurd (cc)
answers_by (Commit s start keys) (Settled stamp how) is = refl
answers_by (Commit s start keys) (Handed stamp) is = refl
answers_by (Commit s start keys) Asked is = absurd (cc)
answers_by (Commit s start keys) Accepted is = absurd (cc)
answers_by (Commit s start keys) (Drawn stamp) is = absurd (cc)

decide_serves : (w : State) (h : List Item) (node s : ℕ) → ReachedInvariant w h → IsInPlace w (turn.Decide node s) → is_served w (event.Decide node s) ≡ true
decide_serves w h node s stands in_place =
    let k : Serving w h s (node, place.Accepted) = serving w h node s place.Accepted stands in_place in
    ap is_to_decide (held_here w h node s place.Accepted k) ∙ decides_by k.served.held.progress k.served.place_is

put_serves : (w : State) (h : List Item) (node s : ℕ) → ReachedInvariant w h → IsInPlace w (turn.Put node s) → is_served w (event.Put node s) ≡ true
put_serves w h node s stands in_place =
    let k : Serving w h s (node, place.Drawn) = serving w h node s place.Drawn stands in_place.0 in
    ap is_to_put (held_here w h node s place.Drawn k) ∙ puts_by k.served.held.request k.served.held.progress k.served.place_is (sym k.served.commit_is ∙ in_place.1)

answer_serves : (w : State) (h : List Item) (node s : ℕ) → ReachedInvariant w h → IsInPlace w (turn.Answer node s) → is_served w (event.Answer node s) ≡ true
answer_serves w h node s stands in_place =
    let at : Place = answered_from (asks_commit w s) in
    let k : Serving w h s (node, at) = serving w h node s at stands in_place in
    ap is_to_answer (held_here w h node s at k) ∙ answers_by k.served.held.request k.served.held.progress (k.served.place_is ∙ ap answered_from k.served.commit_is)

is_served_here : (script : ScriptData) (c : Carried) (t : Turn) (e : Event) → ReachedInvariant c.played.state c.played.items → IsInPlace c.played.state t → event_of script c t ≡ Some e → serves t ≡ true → is_served c.played.state e ≡ true
is_served_here script c (turn.Decide node s) e stands in_place is served = subst (λ (x : Event). is_served c.played.state x ≡ true) (same_Some (event.Decide node s) e is) (decide_serves c.played.state c.played.items node s stands in_place)
is_served_here script c (turn.Put node s) e stands in_place is served = subst (λ (x : Event). is_served c.played.state x ≡ true) (same_Some (event.Put node s) e is) (put_serves c.played.state c.played.items node s stands in_place)
is_served_here script c (turn.Answer node s) e stands in_place is served = subst (λ (x : Event). is_served c.played.state x ≡ true) (same_Some (event.Answer node s) e is) (answer_serves c.played.state c.played.items node s stands in_place)
is_served_here script c (turn.Own actor aim) e stands in_place is served = absurd (true≢false (sym served))
is_served_here script c (turn.Accept node s) e stands in_place is served = absurd (true≢false (sym served))
is_served_here script c (turn.Extend node) e stands in_place is served = absurd (true≢false (sym served))

-- ---- it reserves nothing, posts no name, and is told where it appends an item
pub record IsServing (e : Event) : Type 0 where
  pub reserves : most_reserved e ≡ 0
  pub posts_none : posts e ≡ false
  pub told : (items : List Item) → is_told e items ≡ true → 0 < length items

some_items : (items : List Item) → has_some items ≡ true → 0 < length items
some_items [] is = absurd (true≢false (sym is))
some_items (x ∷ xs) is = omega arith

pub is_serving : (script : ScriptData) (c : Carried) (t : Turn) (e : Event) → event_of script c t ≡ Some e → serves t ≡ true → IsServing e
is_serving script c (turn.Decide node s) e is served = subst IsServing (same_Some (event.Decide node s) e is) (record { reserves = refl; posts_none = refl; told = some_items })
is_serving script c (turn.Put node s) e is served = subst IsServing (same_Some (event.Put node s) e is) (record { reserves = refl; posts_none = refl; told = some_items })
is_serving script c (turn.Answer node s) e is served = subst IsServing (same_Some (event.Answer node s) e is) (record { reserves = refl; posts_none = refl; told = some_items })
is_serving script c (turn.Own actor aim) e is served = absurd (true≢false (sym served))
is_serving script c (turn.Accept node s) e is served = absurd (true≢false (sym served))
is_serving script c (turn.Extend node) e is served = absurd (true≢false (sym served))

-- ---- the room
-- what is kept for requests in flight is within the room, and a turn that serves none has more
pub record HasRoom (t : Turn) (e : Event) (spare len capacity : ℕ) : Type 0 where
  pub kept : len + spare ≤ capacity
  pub more : serves t ≡ false → len + spare + most_reserved e + 1 ≤ capacity

-- the room that is kept after the call has been there
pub record MovesRoom (t : Turn) (e : Event) (old now : ClusterModel) : Type 0 where
  pub rises : now.spare ≤ old.spare + most_reserved e
  pub spends : serves t ≡ true → now.spare + length now.history ≡ old.spare + length old.history
  pub serving : serves t ≡ true → IsServing e

still_by : (t : Turn) (e : Event) (spare now len capacity : ℕ) (served : Bool) → serves t ≡ served → HasRoom t e spare len capacity → now ≤ spare + most_reserved e → (serves t ≡ true → IsServing e) → len + now ≤ capacity
still_by t e spare now len capacity true served room rises serving = omega (arith, room.kept, rises, (serving served).reserves)
still_by t e spare now len capacity false served room rises serving = omega (arith, room.more served, rises)

-- where no turn was added
pub still_room : (t : Turn) (e : Event) (old now : ClusterModel) (len capacity : ℕ) → HasRoom t e old.spare len capacity → MovesRoom t e old now → len + now.spare ≤ capacity
still_room t e old now len capacity room moves = still_by t e old.spare now.spare len capacity (serves t) refl room moves.rises moves.serving

added_by : (old : ClusterModel) (call : Call) (len capacity : ℕ) (served : Bool) → serves call.turn ≡ served → HasRoom call.turn call.event old.spare len capacity → MovesRoom call.turn call.event old call.now → length call.now.history ≡ length old.history + length (since call) → is_told call.event (since call) ≡ true → len + 1 + call.now.spare ≤ capacity
added_by old call len capacity true served room moves grown told = omega (arith, room.kept, moves.spends served, grown, (moves.serving served).told (since call) told)
added_by old call len capacity false served room moves grown told = omega (arith, room.more served, moves.rises)

-- and where the turn was
pub added_room : (old : ClusterModel) (call : Call) (len capacity : ℕ) → HasRoom call.turn call.event old.spare len capacity → MovesRoom call.turn call.event old call.now → call.before ≡ length old.history → call.before ≤ length call.now.history → is_told call.event (since call) ≡ true → len + 1 + call.now.spare ≤ capacity
added_room old call len capacity room moves length_is least told =
    let grown : length call.now.history ≡ length old.history + length (since call) = omega (arith, length_is, least, length-drop call.before call.now.history) in
    added_by old call len capacity (serves call.turn) refl room moves grown told

-- ---- memory
never_by : (w : State) (e : Event) (served : Bool) (answer : Result Unit Stopped) → (served ≡ true → is_served w e ≡ true) → NeverLacksIf (is_served w e) answer → NeverLacksIf served answer
never_by w e true answer is never = subst (λ (b : Bool). NeverLacksIf b answer) (is refl) never
never_by w e false answer is never = tt

-- a turn that serves a request is not refused memory
pub never_lacks : (script : ScriptData) (c : Carried) (t : Turn) (e : Event) (w : State) (answer : Result Unit Stopped) → ReachedInvariant c.played.state c.played.items → IsInPlace c.played.state t → event_of script c t ≡ Some e → w ≡ c.played.state → NeverLacksIf (is_served w e) answer → NeverLacksIf (serves t) answer
never_lacks script c t e w answer stands in_place is same never = never_by w e (serves t) answer (λ served. ap (λ (x : State). is_served x e) same ∙ is_served_here script c t e stands in_place is served) never

-- ---- of a turn that can be made where the run stands
pub room_moved : (r : Ran) (kept : Kept) (t : Turn) (e : Event) (now : ClusterModel) (answer : Result Unit Stopped) → IsMade r kept → CanTurn r t e → length kept.whole.history ≤ length now.history → LeavesRoom e kept.whole now answer → MovesRoom t e kept.whole now
room_moved r kept t e now answer k can grown room =
    let stands : ReachedInvariant (reached_by r).played.state (reached_by r).played.items = (facts r.script r.turns k.out.sound k.out.few).reached.stands in
    record {
      rises = room_rises kept.whole now e answer grown room;
      spends = λ served. served_spends kept.whole now e answer (ap (λ (w : State). is_served w e) k.stands.state ∙ is_served_here r.script (reached_by r) t e stands can.in_place can.event served) room;
      serving = is_serving r.script (reached_by r) t e can.event;
    }

pub never_refused : (r : Ran) (kept : Kept) (t : Turn) (e : Event) (answer : Result Unit Stopped) → IsMade r kept → CanTurn r t e → NeverLacksIf (is_served kept.whole.state e) answer → NeverLacksIf (serves t) answer
never_refused r kept t e answer k can never = never_lacks r.script (reached_by r) t e kept.whole.state answer (facts r.script r.turns k.out.sound k.out.few).reached.stands can.in_place can.event k.stands.state never

-- nor does it lack the room for it
pub lacked_by : (served : Bool) {A B : Type 0} (room : Result A B) (answer : Result Unit Stopped) → (served ≡ true → IsOk room) → is_ok room ≡ false → NeverLacksIf served answer
lacked_by true room answer free lacks = absurd (true≢false (sym (free refl) ∙ lacks))
lacked_by false room answer free lacks = tt

-- ---- as the call finds it
pub has_room : (t : Turn) (e : Event) (spare found len capacity : ℕ) → found ≡ spare → len + found ≤ capacity → (serves t ≡ false → len + found + most_reserved e + 1 ≤ capacity) → HasRoom t e spare len capacity
has_room t e spare found len capacity is kept more = record { kept = omega (arith, is, kept); more = λ none. omega (arith, is, more none) }
