-- For this crate's own proofs.
-- A turn is told where its event appends an item or opens a sweep, and else all is as before.
use Rattle.run_board.proofs.Names.{◌≡◌, ℕ, ◌≢◌, Bool, true, false, List, [], ◌∷◌, Some, refl, sym, ◌∙◌, ap, subst}
use Rattle.run_board.proofs.Names.{true≢false, same_Some, Actor, Item, Event, ScriptData, ReachedInvariant, step_of}
use Rattle.run_board.proofs.Names.{played, playable_at_first, Turn, Carried, event_of, IsInPlace, IsTold}
use Rattle.run_board.proofs.Names.{OwnTurnsAreTold, StageTurnsAreTold, QuietTurnsChangeNothing, has_some, is_told, Ran}
use Rattle.run_board.proofs.Names.{reached_by, IsCarriedOut}
use Rattle.machine.specs.declared.event.Event.TheVariants as event
use Rattle.command_semantics.specs.Runs.{Played}
use Rattle.turn_rules.specs.declared.turn.Turn.TheVariants as turn
use Rattle.run_board.proofs.Silent.{not_empty}
use Rattle.run_board.proofs.Steady.{facts}

-- the laws of turns that are told and of others
pub record ToldLaws : Type 0 where
  pub own : OwnTurnsAreTold
  pub stage : StageTurnsAreTold
  pub quiet : QuietTurnsChangeNothing

some_there : (items : List Item) → has_some items ≡ true → items ≢ []
some_there [] some = λ none. true≢false (sym some)
some_there (x ∷ xs) some = not_empty x xs

none_there : (items : List Item) → has_some items ≡ false → items ≡ []
none_there [] none = refl
none_there (x ∷ xs) none = absurd (true≢false none)

pub told : (script : ScriptData) (p : Played) (e : Event) → is_told e (step_of script p e).items ≡ true → IsTold script p e
told script p (event.SweepOpen node txn) is = tt
told script p e is = some_there (step_of script p e).items is

pub untold : (script : ScriptData) (p : Played) (e : Event) → is_told e (step_of script p e).items ≡ false → IsTold script p e → ⊥
untold script p (event.SweepOpen node txn) quiet is = true≢false quiet
untold script p e quiet is = is (none_there (step_of script p e).items quiet)

pub appended_none : (script : ScriptData) (p : Played) (e : Event) → is_told e (step_of script p e).items ≡ false → (step_of script p e).items ≡ []
appended_none script p (event.SweepOpen node txn) quiet = absurd (true≢false quiet)
appended_none script p e quiet = none_there (step_of script p e).items quiet

-- a turn that is not told leaves what was played as it was
abbrev pub StaysPlayed : ScriptData → Carried → Event → Type 0
StaysPlayed script c e = is_told e (step_of script c.played e).items ≡ false → played script c.played e ≡ c.played

told_stays : (script : ScriptData) (c : Carried) (e : Event) → IsTold script c.played e → StaysPlayed script c e
told_stays script c (event.SweepOpen node txn) is quiet = absurd (true≢false quiet)
told_stays script c e is quiet = absurd (is (none_there (step_of script c.played e).items quiet))

quiet_stays : (script : ScriptData) (c : Carried) (made e : Event) → Some made ≡ Some e → StaysPlayed script c made → StaysPlayed script c e
quiet_stays script c made e is stays = subst (λ (x : Event). StaysPlayed script c x) (same_Some made e is) stays

stays_by : (laws : ToldLaws) (script : ScriptData) (c : Carried) (t : Turn) (e : Event) → ReachedInvariant c.played.state c.played.items → IsInPlace c.played.state t → event_of script c t ≡ Some e → ((actor : Actor) (aim : ℕ) → t ≡ turn.Own actor aim → IsTold script c.played e) → StaysPlayed script c e
stays_by laws script c (turn.Own actor aim) e stands in_place is own = told_stays script c e (own actor aim refl)
stays_by laws script c (turn.Accept node s) e stands in_place is own = told_stays script c e (laws.stage script c (turn.Accept node s) e stands tt is in_place)
stays_by laws script c (turn.Put node s) e stands in_place is own = told_stays script c e (laws.stage script c (turn.Put node s) e stands tt is in_place)
stays_by laws script c (turn.Extend node) e stands in_place is own = told_stays script c e (laws.stage script c (turn.Extend node) e stands tt is in_place)
stays_by laws script c (turn.Decide node s) e stands in_place is own = quiet_stays script c (event.Decide node s) e is (λ quiet. laws.quiet.decide script c.played node s stands (none_there (step_of script c.played (event.Decide node s)).items quiet))
stays_by laws script c (turn.Answer node s) e stands in_place is own = quiet_stays script c (event.Answer node s) e is (λ quiet. laws.quiet.answer script c.played node s stands (none_there (step_of script c.played (event.Answer node s)).items quiet))

own_told : (laws : ToldLaws) (r : Ran) (lacking : List Bool) (t : Turn) (e : Event) → IsCarriedOut r.script r.turns lacking → event_of r.script (reached_by r) t ≡ Some e → (actor : Actor) (aim : ℕ) → t ≡ turn.Own actor aim → IsTold r.script (reached_by r).played e
own_told laws r lacking t e out is actor aim own = laws.own r.script r.turns actor aim e out.sound.setup (playable_at_first r.script out.sound out.few) out.sessions out.for_threads (ap (λ (x : Turn). event_of r.script (reached_by r) x) (sym own) ∙ is)

pub stays : (laws : ToldLaws) (r : Ran) (lacking : List Bool) (t : Turn) (e : Event) → IsCarriedOut r.script r.turns lacking → IsInPlace (reached_by r).played.state t → event_of r.script (reached_by r) t ≡ Some e → StaysPlayed r.script (reached_by r) e
stays laws r lacking t e out in_place is = stays_by laws r.script (reached_by r) t e (facts r.script r.turns out.sound out.few).reached.stands in_place is (own_told laws r lacking t e out is)
