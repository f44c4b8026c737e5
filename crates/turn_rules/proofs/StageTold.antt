-- An acceptance, a put and an extension that a stage can make append an item each.
use Rattle.std.proofs.Common.{arith}
use Rattle.turn_rules.proofs.Names.{◌≡◌, ℕ, Option, Some, refl, sym, subst, slice_get}
use Rattle.turn_rules.proofs.Names.{same_Some, Fate, Pairs}
use Rattle.turn_rules.proofs.Names.{Place, InstanceEntry, Event}
use Rattle.turn_rules.proofs.Names.{Client, State, Step, at_post, at_both, place_of}
use Rattle.turn_rules.proofs.Names.{accept_on, ScriptData, ReachedInvariant, held_by, reading_at, Played, fate_of}
use Rattle.turn_rules.proofs.Names.{clocks_of, LacksStamps, IsTold, StageTurnsAreTold}
use Rattle.system_parts.specs.declared.instance.Place.TheVariants as place
use Rattle.machine.specs.declared.event.Event.TheVariants as event
use Rattle.machine.specs.Events.Put.{put_on}
use Rattle.command_semantics.proofs.Holders.{Served, is_served_at}
use Rattle.turn_rules.specs.declared.turn.Turn.TheVariants as turn
use Rattle.turn_rules.proofs.OwnTold.{told_by}
use Rattle.turn_rules.proofs.ToldEvents.{Appends, last_appends}

-- ---- by the parts
accepts_on : (node s reading : ℕ) (post : Option InstanceEntry) (c : Client) → Appends (accept_on node s reading post c).items
accepts_on node s reading post c = grind arith

puts_on : (node s : ℕ) (fate : Fate) (post : Option InstanceEntry) (pairs : Pairs) → Appends (put_on node s fate post pairs).items
puts_on node s fate post pairs = grind arith

-- ---- where the parts are there
by_both : (w : State) (posts : Option (Option InstanceEntry)) (found : Option Client) (f : Option InstanceEntry → Client → Step) (post : Option InstanceEntry) (c : Client) → posts ≡ Some post → found ≡ Some c → Appends (f post c).items → Appends (at_both w posts found f).items
by_both w posts found f post c posted there some = subst (λ (p : Option (Option InstanceEntry)). Appends (at_both w p found f).items) (sym posted) (subst (λ (x : Option Client). Appends (at_both w (Some post) x f).items) (sym there) some)

by_post : (w : State) (posts : Option (Option InstanceEntry)) (f : Option InstanceEntry → Step) (post : Option InstanceEntry) → posts ≡ Some post → Appends (f post).items → Appends (at_post w posts f).items
by_post w posts f post posted some = subst (λ (p : Option (Option InstanceEntry)). Appends (at_post w p f).items) (sym posted) some

-- a request that stands somewhere has its node, and its session
accept_told : (script : ScriptData) (p : Played) (node s : ℕ) (at : Place) → ReachedInvariant p.state p.items → place_of p.state s ≡ Some (node, at) → (reading : ℕ) → IsTold script p (event.Accept node s reading)
accept_told script p node s at stands is reading =
    let k : Served p.state s (node, at) = is_served_at p.state s (node, at) is in
    let waits = stands.holds.requests.requests.waits node s k.holder.i k.held.request k.held.progress k.holder.at (held_by k.holder.i s k.held k.holder.has) in
    told_by script p (event.Accept node s reading) (by_both _ (slice_get p.state.nodes node) (slice_get p.state.clients s) _ (Some k.holder.i) waits.0 k.holder.at waits.1 (accepts_on node s reading (Some k.holder.i) waits.0))

put_told : (script : ScriptData) (p : Played) (node s : ℕ) (at : Place) → place_of p.state s ≡ Some (node, at) → IsTold script p (event.Put node s)
put_told script p node s at is =
    let k : Served p.state s (node, at) = is_served_at p.state s (node, at) is in
    told_by script p (event.Put node s) (by_post p.state (slice_get p.state.nodes node) _ (Some k.holder.i) k.holder.at (puts_on node s (fate_of script p (event.Put node s)) (Some k.holder.i) p.state.pairs))

extend_by_post : (script : ScriptData) (p : Played) (node : ℕ) (posts : Option (Option InstanceEntry)) → slice_get p.state.nodes node ≡ posts → LacksStamps posts → IsTold script p (event.Extend node)
extend_by_post script p node posts is lacks = grind (arith, last_appends)

-- ---- a stage's turn
by_event : (script : ScriptData) (p : Played) (made e : Event) → Some made ≡ Some e → IsTold script p made → IsTold script p e
by_event script p made e is told = subst (λ (x : Event). IsTold script p x) (same_Some made e is) told

pub stage_turns_are_told : StageTurnsAreTold
stage_turns_are_told script c (turn.Accept node s) e stands tells is in_place = by_event script c.played (event.Accept node s (reading_at (clocks_of script c.played) node)) e is (accept_told script c.played node s place.Asked stands in_place (reading_at (clocks_of script c.played) node))
stage_turns_are_told script c (turn.Put node s) e stands tells is in_place = by_event script c.played (event.Put node s) e is (put_told script c.played node s place.Drawn in_place.0)
stage_turns_are_told script c (turn.Extend node) e stands tells is in_place = by_event script c.played (event.Extend node) e is (extend_by_post script c.played node (slice_get c.played.state.nodes node) refl in_place)
stage_turns_are_told script c (turn.Own actor aim) e stands tells is in_place = absurd tells
stage_turns_are_told script c (turn.Decide node s) e stands tells is in_place = absurd tells
stage_turns_are_told script c (turn.Answer node s) e stands tells is in_place = absurd tells
