use Rattle.run_board.proofs.Names.{◌≡◌, ℕ, Err, ◌+◌, ◌≤◌, Bool, List, [], ◌∷◌, ◌++◌, Option, Some, Result, drop, length}
use Rattle.run_board.proofs.Names.{sym, ◌∙◌, ap, subst, arith, map, is_ok, vec_len, Stopped, NoMemory, ahead-value}
use Rattle.run_board.proofs.Names.{Item, Event, data_of, Interruption, StandsAt, clocks_at, Turn, was_asked}
use Rattle.run_board.proofs.Names.{names_after, with_name, event_of, carried, IsFree, IsInPlace, stage_of, Seated}
use Rattle.run_board.proofs.Names.{is_told, lacking_after, cleared, serves, after_turn, after_passes, touched, SitOnce}
use Rattle.run_board.proofs.Names.{Ran, reached_by, with_turn, SitsAt, IsCarriedOut}
use Rattle.std.specs.Prelude.{option_map}
use Rattle.std.specs.Vec.{vec_capacity}
use Rattle.planned_cluster.specs.declared.planned.PlannedCluster.{PlannedCluster}
use Rattle.run_board.specs.declared.run.ScriptRun.TheInside.{Inside}
use Rattle.run_board.proofs.OneActor.{one_passes}
use Rattle.run_board.proofs.Called.{can_turn, is_steady, has_gone, same_made, may_pass, makes_turn, leaves_out}
use Rattle.run_board.proofs.Kept.{Kept, Call, IsMade, CanTurn, since, moved_by, kept_after, kept_still}
use Rattle.run_board.proofs.SeatedOnce.{sit_once, moved_once}
use Rattle.run_board.proofs.Stopping.{stood}
use Rattle.run_board.proofs.TurnMade.{turn_made, turn_silent}
use Rattle.run_board.proofs.TurnRoom.{room_moved, still_room, added_room, never_refused, lacked_by, is_serving, has_room}
use Rattle.run_board.proofs.run.ScriptRun.make.Goals as goal

abbrev ran_with : Inside → List Turn → Ran
ran_with s turns = record { script = data_of s.script; turns = turns }

abbrev ran : Inside → Ran
ran s = ran_with s s.turns.items

abbrev Holds : Inside → Type 0
Holds s = StandsAt (data_of s.script) (carried (data_of s.script) s.turns.items).played s.planned.cluster s.planned.clock (ahead-value.it s.planned.weather)
    × SitsAt (data_of s.script) (carried (data_of s.script) s.turns.items) s.names.names s.held.items s.seated.items
    × IsCarriedOut (data_of s.script) s.turns.items s.lacking.items
    × (vec_len s.turns + s.planned.cluster.spare ≤ vec_capacity s.turns)

-- what it keeps, with the cluster as it is there
abbrev kept_at : Inside → PlannedCluster → Kept
kept_at s planned = record {
  whole = planned.cluster;
  clock = planned.clock;
  ahead = ahead-value.it planned.weather;
  names = s.names.names;
  held = s.held.items;
  seated = s.seated.items;
  lacking = s.lacking.items;
}

abbrev kept_of : Inside → Kept
kept_of s = kept_at s s.planned

-- the call, of the history before it and the cluster after it
abbrev call_of : Turn → Event → Result Unit Stopped → Option Interruption → List Item → PlannedCluster → Call
call_of t e answer stop history planned = record {
  turn = t;
  event = e;
  answer = answer;
  stop = stop;
  before = length history;
  now = planned.cluster;
  after = planned.clock;
  later = ahead-value.it planned.weather;
}

-- what stands before the call, where the turn can be made
record Stands (s : Inside) (t : Turn) (e : Event) : Type 0 where
  made : IsMade (ran s) (kept_of s)
  can : CanTurn (ran s) t e

stands : (s : Inside) (self : Ran) (t : Turn) (e : Event) → Holds s → ran s ≡ self → event_of self.script (reached_by self) t ≡ Some e → IsFree (reached_by self).held (stage_of t) → IsInPlace (reached_by self).played.state t → Stands s t e
stands s self t e holds same is free in_place = record {
  made = record { stands = holds.0; sits = holds.1; out = holds.2 };
  can = can_turn (ran s) self t e same (record { event = is; free = free; in_place = in_place });
}

-- room for the turn and its name leaves turns and names as they are
with_room : (s : Inside) (kept : Kept) (turns : List Turn) (names : List (List ℕ)) → IsMade (ran s) kept → turns ≡ s.turns.items → names ≡ kept.names → IsMade (ran_with s turns) (record kept { names = names })
with_room s kept turns names made turns_are names_are = same_made (ran s) (ran_with s turns) kept (record kept { names = names }) made (λ k. ran_with s (turns_are k)) (λ k. record kept { names = names_are k })

-- the items that the code looks at are those since
seen : (call : Call) (items history : List Item) → items ≡ drop call.before history → history ≡ call.now.history → items ≡ since call
seen call items history is same = is ∙ ap (λ (h : List Item). drop call.before h) same

told_so : (call : Call) (items : List Item) (found told : Bool) → items ≡ since call → found ≡ is_told call.event items → found ≡ told → is_told call.event (since call) ≡ told
told_so call items found told is looked same = ap (λ (xs : List Item). is_told call.event xs) (sym is) ∙ sym looked ∙ same

moved_on : (s : Inside) (call : Call) (asked : Bool) (items : List Item) (moved : List Seated) → moved ≡ map (after_turn call.turn call.stop asked) s.seated.items → asked ≡ was_asked items → items ≡ since call → moved ≡ moved_by (kept_of s) call
moved_on s call asked items moved is was same = is ∙ ap (λ (b : Bool). map (after_turn call.turn call.stop b) s.seated.items) (was ∙ ap (λ (xs : List Item). was_asked xs) same)

pub invariant_of-self : goal.invariant_of-self
invariant_of-self c =
    let s = c.self.inside in
    let h = stands s c.args.self.now c.args.turn c.args.event.now c.self.invariant c.self.view_is c.requires.event c.requires.free c.requires.in_place in
    let kept = with_room s (kept_of s) c.make_room.new.turns.items c.make_room.new.names.names h.made c.make_room.ensures.turns c.make_room.ensures.names in
    (kept.stands, kept.sits, kept.out, omega (arith, c.make_room.ensures.kept, c.spare-spare.ensures))

-- memory was refused
pub invariant_of-self-in_default-halted : goal.invariant_of-self-in_default-halted
invariant_of-self-in_default-halted c =
    let s = c.self.inside in
    let h = stands s c.args.self.now c.args.turn c.args.event.now c.self.invariant c.self.view_is c.requires.event c.requires.free c.requires.in_place in
    let same = stood _ c.make-answer.result _ _ (c.make-answer.ensures.played (data_of s.script) (carried (data_of s.script) s.turns.items).played h.made.stands) (sym c.halted.ensures ∙ c.in_default-halted.is) in
    let whole : IsMade (ran s) (kept_at s c.make-answer.new.self) = record { stands = same; sits = h.made.sits; out = h.made.out } in
    let kept = with_room s (kept_at s c.make-answer.new.self) c.make_room.new.turns.items c.make_room.new.names.names whole c.make_room.ensures.turns c.make_room.ensures.names in
    let room = has_room c.args.turn c.args.event.now s.planned.cluster.spare c.spare-spare.result (vec_len c.make_room.new.turns) (vec_capacity c.make_room.new.turns) c.spare-spare.ensures c.make_room.ensures.kept c.in-Ok.ensures.room in
    let moves = room_moved (ran s) (kept_of s) c.args.turn c.args.event.now c.make-answer.new.self.cluster c.make-answer.result h.made h.can (omega (arith, ap (λ (h : List Item). length h) same.history, ap (λ (h : List Item). length h) h.made.stands.history)) c.make-answer.ensures.room in
    (kept.stands, kept.sits, kept.out, still_room c.args.turn c.args.event.now s.planned.cluster c.make-answer.new.self.cluster (vec_len c.make_room.new.turns) (vec_capacity c.make_room.new.turns) room moves)

pub make-answer-requires : goal.make-answer-requires
make-answer-requires c =
    let s = c.self.inside in
    let h = stands s c.args.self.now c.args.turn c.args.event.now c.self.invariant c.self.view_is c.requires.event c.requires.free c.requires.in_place in
    is_steady (ran s) c.args.turn c.args.event.now (kept_of s) h.made h.can

pub since-items-requires : goal.since-items-requires
since-items-requires c =
    let s = c.self.inside in
    let h = stands s c.args.self.now c.args.turn c.args.event.now c.self.invariant c.self.view_is c.requires.event c.requires.free c.requires.in_place in
    let call = call_of c.args.turn c.args.event.now c.make-answer.result c.in-Some.halt c.history-before.result.now c.make-answer.new.self in
    let gone = has_gone (ran s) (kept_of s) call h.made (record { length_is = λ k. length (c.history-before.ensures.value k); plays = c.make-answer.ensures.played; halts = sym c.halted.ensures ∙ c.in-Some.is }) in
    let same : length c.history.result.now ≡ length c.make-answer.new.self.cluster.history = ap (λ (h : List Item). length h) c.history.ensures.value in
    omega (arith, gone.least, same)

pub invariant_of-self-then-not-is_told : goal.invariant_of-self-then-not-is_told
invariant_of-self-then-not-is_told c =
    let s = c.self.inside in
    let h = stands s c.args.self.now c.args.turn c.args.event.now c.self.invariant c.self.view_is c.requires.event c.requires.free c.requires.in_place in
    let call = call_of c.args.turn c.args.event.now c.make-answer.result c.in-Some.halt c.history-before.result.now c.make-answer.new.self in
    let gone = has_gone (ran s) (kept_of s) call h.made (record { length_is = λ k. length (c.history-before.ensures.value k); plays = c.make-answer.ensures.played; halts = sym c.halted.ensures ∙ c.in-Some.is }) in
    let is = seen call _ _ c.since-items.ensures c.history.ensures.value in
    let quiet = told_so call _ _ _ is c.is_told.ensures c.if-not-is_told.true in
    let silent = turn_silent (record { own = c.own_turns_are_told.ensures; stage = c.stage_turns_are_told.ensures; quiet = c.quiet_turns_change_nothing.ensures }) (ran s) (kept_of s) call h.made h.can gone quiet in
    let on : Kept = record (kept_at s c.make-answer.new.self) { names = c.make_room.new.names.names; lacking = c.note_lack.new.lacking.items } in
    let kept = same_made (ran s) (ran_with s c.make_room.new.turns.items) (kept_still (kept_of s) call) on silent (λ k. ran_with s (c.make_room.ensures.turns k)) (λ k. record on { names = c.make_room.ensures.names k; lacking = c.note_lack.ensures k }) in
    let room = has_room c.args.turn c.args.event.now s.planned.cluster.spare c.spare-spare.result (vec_len c.make_room.new.turns) (vec_capacity c.make_room.new.turns) c.spare-spare.ensures c.make_room.ensures.kept c.in-Ok.ensures.room in
    let moves = room_moved (ran s) (kept_of s) c.args.turn c.args.event.now c.make-answer.new.self.cluster c.make-answer.result h.made h.can (omega (arith, gone.least, ap (λ (h : List Item). length h) c.history-before.ensures.value)) c.make-answer.ensures.room in
    (kept.stands, kept.sits, kept.out, still_room c.args.turn c.args.event.now s.planned.cluster c.make-answer.new.self.cluster (vec_len c.make_room.new.turns) (vec_capacity c.make_room.new.turns) room moves)

pub returns-then-not-is_told-clause-made : goal.returns-then-not-is_told-clause-made
returns-then-not-is_told-clause-made c =
    let s = c.self.inside in
    let h = stands s c.args.self.now c.args.turn c.args.event.now c.self.invariant c.self.view_is c.requires.event c.requires.free c.requires.in_place in
    let call = call_of c.args.turn c.args.event.now c.make-answer.result c.in-Some.halt c.history-before.result.now c.make-answer.new.self in
    let gone = has_gone (ran s) (kept_of s) call h.made (record { length_is = λ k. length (c.history-before.ensures.value k); plays = c.make-answer.ensures.played; halts = sym c.halted.ensures ∙ c.in-Some.is }) in
    let is = seen call _ _ c.since-items.ensures c.history.ensures.value in
    let quiet = told_so call _ _ _ is c.is_told.ensures c.if-not-is_told.true in
    leaves_out (ran s) c.args.self.now (ran_with s c.make_room.new.turns.items) call c.self.view_is gone quiet (λ k. ran_with s (c.make_room.ensures.turns k))

pub go_on-requires : goal.go_on-requires
go_on-requires c = let s = c.self.inside in sit_once (data_of s.script) s.turns.items s.names.names s.held.items s.seated.items c.self.invariant.1

pub pass_touched-requires-clause-once : goal.pass_touched-requires-clause-once
pass_touched-requires-clause-once c =
    let s = c.self.inside in
    let once = sit_once (data_of s.script) s.turns.items s.names.names s.held.items s.seated.items c.self.invariant.1 in
    subst (λ (all : List Seated). SitOnce all) (sym c.go_on.ensures) (moved_once c.args.turn c.in-Some.halt c.was_asked-asked.result s.seated.items once)

pub pass_touched-requires-clause-can_pass : goal.pass_touched-requires-clause-can_pass
pass_touched-requires-clause-can_pass c =
    let s = c.self.inside in
    let h = stands s c.args.self.now c.args.turn c.args.event.now c.self.invariant c.self.view_is c.requires.event c.requires.free c.requires.in_place in
    let call = call_of c.args.turn c.args.event.now c.make-answer.result c.in-Some.halt c.history-before.result.now c.make-answer.new.self in
    let gone = has_gone (ran s) (kept_of s) call h.made (record { length_is = λ k. length (c.history-before.ensures.value k); plays = c.make-answer.ensures.played; halts = sym c.halted.ensures ∙ c.in-Some.is }) in
    let is = seen call _ _ c.since-items.ensures c.history.ensures.value in
    may_pass (ran s) (kept_of s) call c.as_slice.result.now c.go_on.new.seated.items h.made h.can gone c.as_slice.ensures.value (moved_on s call _ _ _ c.go_on.ensures c.was_asked-asked.ensures is)

pub push_reserved-requires : goal.push_reserved-requires
push_reserved-requires c =
    let s = c.self.inside in
    let h = stands s c.args.self.now c.args.turn c.args.event.now c.self.invariant c.self.view_is c.requires.event c.requires.free c.requires.in_place in
    let call = call_of c.args.turn c.args.event.now c.make-answer.result c.in-Some.halt c.history-before.result.now c.make-answer.new.self in
    let gone = has_gone (ran s) (kept_of s) call h.made (record { length_is = λ k. length (c.history-before.ensures.value k); plays = c.make-answer.ensures.played; halts = sym c.halted.ensures ∙ c.in-Some.is }) in
    let is = seen call _ _ c.since-items.ensures c.history.ensures.value in
    let told = told_so call _ _ _ is c.is_told.ensures c.if-not-is_told.false in
    let room = has_room c.args.turn c.args.event.now s.planned.cluster.spare c.spare-spare.result (vec_len c.make_room.new.turns) (vec_capacity c.make_room.new.turns) c.spare-spare.ensures c.make_room.ensures.kept c.in-Ok.ensures.room in
    let moves = room_moved (ran s) (kept_of s) c.args.turn c.args.event.now c.make-answer.new.self.cluster c.make-answer.result h.made h.can (omega (arith, gone.least, ap (λ (h : List Item). length h) c.history-before.ensures.value)) c.make-answer.ensures.room in
    let added = added_room s.planned.cluster call (vec_len c.make_room.new.turns) (vec_capacity c.make_room.new.turns) room moves (λ k. length (c.history-before.ensures.value k)) gone.least told in
    omega (arith, added)

pub invariant_of-self-2 : goal.invariant_of-self-2
invariant_of-self-2 c =
    let s = c.self.inside in
    let h = stands s c.args.self.now c.args.turn c.args.event.now c.self.invariant c.self.view_is c.requires.event c.requires.free c.requires.in_place in
    let call = call_of c.args.turn c.args.event.now c.make-answer.result c.in-Some.halt c.history-before.result.now c.make-answer.new.self in
    let gone = has_gone (ran s) (kept_of s) call h.made (record { length_is = λ k. length (c.history-before.ensures.value k); plays = c.make-answer.ensures.played; halts = sym c.halted.ensures ∙ c.in-Some.is }) in
    let is = seen call _ _ c.since-items.ensures c.history.ensures.value in
    let told = told_so call _ _ _ is c.is_told.ensures c.if-not-is_told.false in
    let made = turn_made (ran s) (kept_of s) call h.made h.can gone told in
    let turns_are : c.push_reserved.new.self.items ≡ s.turns.items ++ c.args.turn ∷ [] = c.push_reserved.ensures.items ∙ ap (λ (ts : List Turn). ts ++ c.args.turn ∷ []) c.make_room.ensures.turns in
    let names_are : c.add.new.self.names ≡ names_after s.names.names c.args.event.now = c.add.ensures ∙ ap (λ (ns : List (List ℕ)). with_name ns (option_map (λ n. n.items) c.in-Ok.name)) c.make_room.ensures.names ∙ c.in-Ok.ensures.name in
    let moved = moved_on s call _ _ _ c.go_on.ensures c.was_asked-asked.ensures is in
    let seated_are : c.pass_touched.new.seated.items ≡ (kept_after (data_of s.script).leads (kept_of s) call).seated = c.pass_touched.ensures ∙ (λ k. after_passes (touched c.args.turn) (clocks_at call.now call.after (c.as_slice.ensures.value k)) call.now.state (moved k)) ∙ one_passes (ran s) (kept_of s) call h.made h.can gone in
    let lacking_are : c.note_lack-2.new.lacking.items ≡ lacking_after (cleared s.lacking.items) c.args.turn c.in-Some.halt = c.note_lack-2.ensures ∙ ap (λ (flags : List Bool). lacking_after flags c.args.turn c.in-Some.halt) c.clear_lacks.ensures in
    let on : Kept = record (kept_at s c.make-answer.new.self) { names = c.add.new.self.names; held = c.note_stage.new.held.items; seated = c.pass_touched.new.seated.items; lacking = c.note_lack-2.new.lacking.items } in
    let kept = same_made (with_turn (ran s) c.args.turn) (ran_with s c.push_reserved.new.self.items) (kept_after (data_of s.script).leads (kept_of s) call) on made (λ k. ran_with s (turns_are k)) (λ k. record on { names = names_are k; held = c.note_stage.ensures k; seated = seated_are k; lacking = lacking_are k }) in
    let room = has_room c.args.turn c.args.event.now s.planned.cluster.spare c.spare-spare.result (vec_len c.make_room.new.turns) (vec_capacity c.make_room.new.turns) c.spare-spare.ensures c.make_room.ensures.kept c.in-Ok.ensures.room in
    let moves = room_moved (ran s) (kept_of s) c.args.turn c.args.event.now c.make-answer.new.self.cluster c.make-answer.result h.made h.can (omega (arith, gone.least, ap (λ (h : List Item). length h) c.history-before.ensures.value)) c.make-answer.ensures.room in
    (kept.stands, kept.sits, kept.out, omega (arith, c.push_reserved.ensures.len, c.push_reserved.ensures.capacity, added_room s.planned.cluster call (vec_len c.make_room.new.turns) (vec_capacity c.make_room.new.turns) room moves (λ k. length (c.history-before.ensures.value k)) gone.least told))

pub returns-clause-made : goal.returns-clause-made
returns-clause-made c =
    let s = c.self.inside in
    let h = stands s c.args.self.now c.args.turn c.args.event.now c.self.invariant c.self.view_is c.requires.event c.requires.free c.requires.in_place in
    let call = call_of c.args.turn c.args.event.now c.make-answer.result c.in-Some.halt c.history-before.result.now c.make-answer.new.self in
    let gone = has_gone (ran s) (kept_of s) call h.made (record { length_is = λ k. length (c.history-before.ensures.value k); plays = c.make-answer.ensures.played; halts = sym c.halted.ensures ∙ c.in-Some.is }) in
    let is = seen call _ _ c.since-items.ensures c.history.ensures.value in
    let told = told_so call _ _ _ is c.is_told.ensures c.if-not-is_told.false in
    let turns_are : c.push_reserved.new.self.items ≡ s.turns.items ++ c.args.turn ∷ [] = c.push_reserved.ensures.items ∙ ap (λ (ts : List Turn). ts ++ c.args.turn ∷ []) c.make_room.ensures.turns in
    makes_turn (ran s) c.args.self.now (ran_with s c.push_reserved.new.self.items) call c.self.view_is h.can gone told (λ k. ran_with s (turns_are k))

-- a turn that serves a request is refused none
pub returns-in_default-clause-served : goal.returns-in_default-clause-served
returns-in_default-clause-served c =
    let s = c.self.inside in
    let h = stands s c.args.self.now c.args.turn c.args.event.now c.self.invariant c.self.view_is c.requires.event c.requires.free c.requires.in_place in
    lacked_by (serves c.args.turn) c.make_room.result (Err NoMemory) (λ served. c.make_room.ensures.free served (is_serving (data_of s.script) (carried (data_of s.script) s.turns.items) c.args.turn c.args.event.now h.can.event served).posts_none) (ap is_ok c.in_default.is)

pub returns-in_default-halted-clause-served : goal.returns-in_default-halted-clause-served
returns-in_default-halted-clause-served c =
    let s = c.self.inside in
    let h = stands s c.args.self.now c.args.turn c.args.event.now c.self.invariant c.self.view_is c.requires.event c.requires.free c.requires.in_place in
    never_refused (ran s) (kept_of s) c.args.turn c.args.event.now c.make-answer.result h.made h.can c.make-answer.ensures.served

pub returns-then-not-is_told-clause-served : goal.returns-then-not-is_told-clause-served
returns-then-not-is_told-clause-served c =
    let s = c.self.inside in
    let h = stands s c.args.self.now c.args.turn c.args.event.now c.self.invariant c.self.view_is c.requires.event c.requires.free c.requires.in_place in
    never_refused (ran s) (kept_of s) c.args.turn c.args.event.now c.make-answer.result h.made h.can c.make-answer.ensures.served

pub returns-clause-served : goal.returns-clause-served
returns-clause-served c =
    let s = c.self.inside in
    let h = stands s c.args.self.now c.args.turn c.args.event.now c.self.invariant c.self.view_is c.requires.event c.requires.free c.requires.in_place in
    never_refused (ran s) (kept_of s) c.args.turn c.args.event.now c.make-answer.result h.made h.can c.make-answer.ensures.served
