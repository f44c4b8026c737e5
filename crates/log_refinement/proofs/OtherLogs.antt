-- The entries of an actor's log open lines of that actor alone, and append no item that opens a line of another.
use Rattle.log_refinement.proofs.Names.{◌≡◌, ◌<◌, Bool, true, false, cond, List, [], ◌∷◌, Some, None, ◌⊎◌, inl, inr}
use Rattle.log_refinement.proofs.Names.{refl, sym, ◌∙◌, ap, subst, filter, same_Some, none-some, SetupNumbers, Fate}
use Rattle.log_refinement.proofs.Names.{◌∈◌, Actor, Clock, Item, State, stepped, Line, ReachedInvariant, same_actor}
use Rattle.log_refinement.proofs.Names.{has_opening, is_of, ActorFits, VerbFits, AreLinesOf, Clocks, view_of, Fit}
use Rattle.log_refinement.proofs.Names.{events_plain, actor_same, both_true, AllNot, plain_not, Event, Entry, timed_at}
use Rattle.log_refinement.proofs.Names.{rise_by, opener, first_event, Standing, gone_on, opened}
use Rattle.command_semantics.specs.declared.point.Point.TheVariants.{Opens}
use Rattle.command_semantics.proofs.LineWalks.{any_not}
use Rattle.log_refinement.proofs.FirstEvents.{first_is, first_own, none_opens, quiet_rise}
use Rattle.log_refinement.proofs.OpeningLogs.{FollowsOpened}

-- ---- the lines of an actor
pub record OwnLine (setup : SetupNumbers) (actor : Actor) (line : Line) : Type 0 where
  pub same : line.actor ≡ actor
  pub opening : has_opening line.actor line.verb ≡ true
  pub in_range : ActorFits setup line.actor
  pub asks : VerbFits setup line.verb

unfoldable pub AreOwn : SetupNumbers → Actor → List Line → Type 0
AreOwn setup actor [] = Unit {0}
AreOwn setup actor (line ∷ lines) = OwnLine setup actor line × AreOwn setup actor lines

own_by : (setup : SetupNumbers) (actor : Actor) (line : Line) (lines : List Line) → ActorFits setup line.actor → VerbFits setup line.verb → AreOwn setup actor lines → (own : Bool) → is_of actor line ≡ own → AreOwn setup actor (cond own (line ∷ lines) lines)
unfolding AreOwn
own_by setup actor line lines in_range asks rest false is = rest
own_by setup actor line lines in_range asks rest true is =
    let both : (same_actor line.actor actor ≡ true) × (has_opening line.actor line.verb ≡ true) = both_true (same_actor line.actor actor) (has_opening line.actor line.verb) is in
    (record { same = actor_same line.actor actor both.0; opening = both.1; in_range = in_range; asks = asks }, rest)

pub own_lines : (setup : SetupNumbers) (actor : Actor) (lines : List Line) → AreLinesOf setup lines → AreOwn setup actor (filter (is_of actor) lines)
unfolding AreLinesOf AreOwn
own_lines setup actor [] of_script = tt
own_lines setup actor (line ∷ lines) of_script = own_by setup actor line (filter (is_of actor) lines) of_script.0 of_script.1 (own_lines setup actor lines of_script.2) (is_of actor line) refl

-- ---- an event that is not of the actor
-- it is the first of a line of another actor
pub record OpensOther (setup : SetupNumbers) (actor : Actor) (e : Event) : Type 0 where
  pub line : Line
  pub own : OwnLine setup line.actor line
  pub differs : line.actor ≡ actor → ⊥
  pub first : first_event line.actor line.verb ≡ Some e

-- it opens no line, or it is
abbrev pub IsOther : SetupNumbers → Actor → Event → Type 0
IsOther setup actor e = (opener e ≡ None) ⊎ OpensOther setup actor e

-- it appends no item that opens a line of the actor
pub other_not : (actor : Actor) (clocks : Clocks) (w : State) (h : List Item) (e : Event) (fate : Fate) → ReachedInvariant w h → Fit w → clocks.master < w.setup.nodes → IsOther w.setup actor e → AllNot actor (stepped w (timed_at clocks.base clocks.leads clocks.master e) fate).items
other_not actor clocks w h e fate stands fit master (inl none) = plain_not actor _ (events_plain w (timed_at clocks.base clocks.leads clocks.master e) fate (none_opens clocks.base clocks.leads clocks.master e none))
other_not actor clocks w h e fate stands fit master (inr k) = any_not actor clocks w h k.line Opens (timed_at clocks.base clocks.leads clocks.master e) fate stands fit k.own.in_range k.own.asks master (λ has same. k.differs same) (first_is clocks k.line.actor k.line.verb (view_of w k.line.actor) e k.first).next_is

-- and only the clock's raise the clock
pub other_rise : (setup : SetupNumbers) (e : Event) → IsOther setup Clock e → rise_by e ≡ None
other_rise setup e (inl none) = quiet_rise e (λ is. none-some Clock (sym none ∙ is))
other_rise setup e (inr k) = quiet_rise e (λ is. k.differs (same_Some k.line.actor Clock (sym (first_own k.line.actor k.line.verb e k.first) ∙ is)))

-- ---- each entry of another's log
followed_by : (setup : SetupNumbers) (who actor : Actor) (line : Line) (e : Event) → (who ≡ actor → ⊥) → OwnLine setup who line → first_event who line.verb ≡ Some e → IsOther setup actor e
followed_by setup who actor line e differs own first = inr (record {
  line = line;
  own = subst (λ (a : Actor). OwnLine setup a line) (sym own.same) own;
  differs = λ same. differs (sym own.same ∙ same);
  first = subst (λ (a : Actor). first_event a line.verb ≡ Some e) (sym own.same) first;
})

pub others_log : (setup : SetupNumbers) (who actor : Actor) (st : Standing) (lines : List Line) (es : List Entry) → (who ≡ actor → ⊥) → AreOwn setup who lines → FollowsOpened who st lines es → (x : Entry) → x ∈ es → IsOther setup actor x.event
unfolding AreOwn FollowsOpened ◌∈◌
others_log setup who actor st lines [] differs own follows x m = absurd m
others_log setup who actor st [] (e ∷ es) differs own follows x (inl is) = inl (ap (λ (y : Entry). opener y.event) is ∙ follows.0)
others_log setup who actor st [] (e ∷ es) differs own follows x (inr m) = others_log setup who actor (gone_on who st e) [] es differs own follows.1 x m
others_log setup who actor st (line ∷ lines) (e ∷ es) differs own (inl on) x (inl is) = inl (ap (λ (y : Entry). opener y.event) is ∙ on.0)
others_log setup who actor st (line ∷ lines) (e ∷ es) differs own (inl on) x (inr m) = others_log setup who actor (gone_on who st e) (line ∷ lines) es differs own on.1 x m
others_log setup who actor st (line ∷ lines) (e ∷ es) differs own (inr k) x (inl is) = followed_by setup who actor line x.event differs own.0 (k.1 ∙ sym (ap (λ (y : Entry). Some y.event) is))
others_log setup who actor st (line ∷ lines) (e ∷ es) differs own (inr k) x (inr m) = others_log setup who actor (opened who line.verb st e.kept.items) lines es differs own.1 k.2 x m
