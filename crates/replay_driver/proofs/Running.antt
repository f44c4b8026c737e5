-- The run of a line, event by event, to its end.
use Rattle.std.proofs.Common.{◌≡◌, ◌≢◌, ℕ, zero, suc, ◌+◌, ◌<◌, ◌≤◌, ◌^◌, List, Option, None, Some, refl, sym, ap, ◌∙◌, arith, subst}
use Rattle.std.specs.List.{slice_index_or}
use Rattle.stamp_base.specs.declared.stores.Store.{Store}
use Rattle.port_io.specs.declared.weather.Fate.{Fate}
use Rattle.port_io.specs.contracts.planned.PlannedWeatherWeather.TheImpl.{ahead-value}
use Rattle.machine.specs.declared.event.Event.{Event}
use Rattle.machine.specs.State.{State}
use Rattle.machine.specs.Machine.{IsSteadyAt, reading_of}
use Rattle.history_book.specs.declared.item.Actor.{Actor}
use Rattle.history_book.specs.declared.item.Actor.TheVariants as actor
use Rattle.script_data.specs.declared.line.Line.{Line}
use Rattle.script_data.specs.declared.line.Verb.{Verb}
use Rattle.script_data.specs.Data.{ScriptData}
use Rattle.script_data.specs.Ticks.{tick_of}
use Rattle.command_semantics.specs.declared.point.Point.{Point}
use Rattle.command_semantics.specs.declared.point.Point.TheVariants.{Opens, Over}
use Rattle.command_semantics.specs.declared.point.View.{View}
use Rattle.command_semantics.specs.Clocks.{HaveRoom}
use Rattle.command_semantics.specs.Laws.{IsReached, EventsLowerWhatIsLeft}
use Rattle.command_semantics.specs.Left.{left}
use Rattle.command_semantics.specs.Next.{Clocks, next}
use Rattle.command_semantics.specs.Runs.{Played, Run, clocks_of, next_in, run_after, left_in, going_on, run_for, opened, line_run}
use Rattle.command_semantics.specs.Views.{view_of}
use Rattle.command_semantics.proofs.Ending.{Keeps, Going, Nothing, less_left, steady_next, goes_on as event_goes_on}
use Rattle.cluster_core.specs.ClusterModel.{ClusterModel}
use Rattle.planned_cluster.specs.Standing.{StandsAt}
use Rattle.planned_cluster.specs.declared.planned.PlannedCluster.{PlannedCluster}
use Rattle.planned_cluster.proofs.Clocks.{clocks_there}
use Rattle.replay_driver.specs.GoingOn.{CanGoOn, IsAt, MakesNext, next_at, run_by}

-- the run of a line from what was played before it is under way: where it stands, and that what it comes to is what the whole
-- run comes to
pub record IsUnderWay (script : ScriptData) (line : Line) (p : Played) (play : PlannedCluster) (point : Point) : Type 0 where
  pub run : Run
  pub most : ℕ
  pub leads : (run_for most script line run).played ≡ (line_run script line p).played
  pub enough : left_in line run ≤ most
  pub at : IsAt script run play point
  pub going : Going Nothing script line (p.clock + tick_of line.verb) run

pub begins : (script : ScriptData) (line : Line) (p : Played) (play : PlannedCluster) → StandsAt script p play.cluster play.clock (ahead-value.it play.weather) → IsReached script p → ((node : ℕ) → slice_index_or script.leads node 0 ≤ script.setup.skew) → p.clock + tick_of line.verb + script.setup.skew ≤ 2 ^ 61 → IsUnderWay script line p play Opens
begins script line p play stands reached leads room = record {
  run = opened p;
  most = left_in line (opened p);
  leads = refl;
  enough = omega arith;
  at = record { stands = stands; point_is = refl };
  going = record { reached = reached; has = tt; leads = leads; ahead = omega arith; room = room };
}

-- the next event by the cluster is that of the run
next_same : (script : ScriptData) (line : Line) (r : Run) (play : PlannedCluster) (point : Point) (leads : List ℕ) → leads ≡ script.leads → IsAt script r play point → next_at play leads line point ≡ next_in script line r
next_same script line r play point leads same at =
    ap (λ (xs : List ℕ). next_at play xs line point) same
    ∙ ap (λ (times : Clocks). next times line.actor line.verb point (view_of play.cluster.state line.actor)) (clocks_there script r.played play.cluster play.clock _ at.stands)
    ∙ ap (λ (w : State). next (clocks_of script r.played) line.actor line.verb point (view_of w line.actor)) at.stands.state
    ∙ ap (λ (x : Point). next (clocks_of script r.played) line.actor line.verb x (view_of r.played.state line.actor)) at.point_is

-- the reading of the next event is steady
pub can_go_on : (script : ScriptData) (line : Line) (p : Played) (play : PlannedCluster) (point : Point) (leads : List ℕ) → leads ≡ script.leads → IsUnderWay script line p play point → HaveRoom play.clock leads line.verb → CanGoOn play leads line point
can_go_on script line p play point leads same k room = record {
  room = room;
  steady = λ event is.
      subst (λ (w : State). IsSteadyAt w.setup.skew w.seen (reading_of event)) (sym k.at.stands.state)
      (steady_next Nothing script line (p.clock + tick_of line.verb) k.run event k.going (sym (next_same script line k.run play point leads same k.at) ∙ is));
}

-- ---- one event more
one_run : (script : ScriptData) (line : Line) (r : Run) (e : Event) (most : ℕ) → next_in script line r ≡ Some e → run_for (suc most) script line r ≡ run_for most script line (run_after script line r e)
unfolding run_for
one_run script line r e most is = ap (λ (o : Option Event). going_on r o (λ x. run_for most script line (run_after script line r x))) is

over : (script : ScriptData) (line : Line) (r : Run) (most : ℕ) → next_in script line r ≡ None → run_for most script line r ≡ r
unfolding run_for
over script line r zero is = refl
over script line r (suc most) is = ap (λ (o : Option Event). going_on r o (λ x. run_for most script line (run_after script line r x))) is

-- where the run is over no event is next
none_next : (clocks : Clocks) (who : Actor) (verb : Verb) (view : View) → next clocks who verb Over view ≡ None
none_next clocks actor.Clock verb view = refl
none_next clocks (actor.Node node) verb view = refl
none_next clocks (actor.Session session) verb view = refl
none_next clocks actor.Janitor verb view = refl

none_over : (script : ScriptData) (line : Line) (r : Run) → r.point ≡ Over → next_in script line r ≡ None
none_over script line r is = rw is (none_next _ line.actor line.verb _)

pub record HasOneMore (script : ScriptData) (line : Line) (r : Run) (e : Event) (all : Played) : Type 0 where
  pub most : ℕ
  pub leads : (run_for most script line (run_after script line r e)).played ≡ all
  pub enough : left_in line (run_after script line r e) ≤ most

one_more_of : (script : ScriptData) (line : Line) (r : Run) (e : Event) (all : Played) (most : ℕ) → next_in script line r ≡ Some e → left_in line (run_after script line r e) < left_in line r → left_in line r ≤ most → (run_for most script line r).played ≡ all → HasOneMore script line r e all
one_more_of script line r e all zero is lower enough leads = absurd (omega (arith, lower, enough))
one_more_of script line r e all (suc most) is lower enough leads = record {
  most = most;
  leads = sym (ap (λ (x : Run). x.played) (one_run script line r e most is)) ∙ leads;
  enough = omega (arith, lower, enough);
}

nothing_is_lost : Keeps Nothing
nothing_is_lost w h e fate has steady = tt

-- the measure of the code: how many turns are left at most, of which the last finds no event
abbrev pub turns_left : Point → ℕ → ℕ
turns_left Over events = 0
turns_left _ events = events + 1

turn_left : (point : Point) (events : ℕ) → point ≢ Over → turns_left point events ≡ events + 1
turn_left Over events goes = absurd (goes refl)
turn_left _ events goes = refl

turns_most : (point : Point) (events : ℕ) → turns_left point events ≤ events + 1
turns_most Over events = omega arith
turns_most _ events = omega arith

no_turn_left : (point : Point) (events : ℕ) → point ≡ Over → turns_left point events ≡ 0
no_turn_left point events is = rw is refl

no_event_left : (w : State) (who : Actor) (verb : Verb) → left w who verb Over ≡ 0
no_event_left w actor.Clock verb = refl
no_event_left w (actor.Node node) verb = refl
no_event_left w (actor.Session session) verb = refl
no_event_left w actor.Janitor verb = refl

-- a turn was made: the run goes on from where it leads, in fewer turns
pub record GoesOn (script : ScriptData) (line : Line) (p : Played) (old new : PlannedCluster) (point further : Point) : Type 0 where
  pub under_way : IsUnderWay script line p new further
  pub fewer : turns_left further (left new.cluster.state line.actor line.verb further) < turns_left point (left old.cluster.state line.actor line.verb point)

same_left : (line : Line) (w v : State) (at by : Point) → w ≡ v → at ≡ by → left w line.actor line.verb at ≡ left v line.actor line.verb by
same_left line w v at by state point = rw (state, point) refl

turn_made : (law : EventsLowerWhatIsLeft) (script : ScriptData) (line : Line) (p : Played) (old new : PlannedCluster) (point further : Point) (k : IsUnderWay script line p old point) → point ≢ Over → (event : Option Event) → next_in script line k.run ≡ event → IsAt script (run_by script line k.run event) new further → GoesOn script line p old new point further
turn_made law script line p old new point further k goes None is at = record {
  under_way = record {
    run = record k.run { point = Over };
    most = k.most;
    leads = ap (λ (x : Run). x.played) (over script line (record k.run { point = Over }) k.most (none_over script line (record k.run { point = Over }) refl)) ∙ sym (ap (λ (x : Run). x.played) (over script line k.run k.most is)) ∙ k.leads;
    enough = omega (arith, no_event_left k.run.played.state line.actor line.verb);
    at = at;
    going = record { reached = k.going.reached; has = tt; leads = k.going.leads; ahead = omega (arith, k.going.ahead); room = k.going.room };
  };
  fewer = omega (arith, turn_left point (left old.cluster.state line.actor line.verb point) goes, no_turn_left further (left new.cluster.state line.actor line.verb further) at.point_is);
}
turn_made law script line p old new point further k goes (Some e) is at =
    let one : HasOneMore script line k.run e (line_run script line p).played = one_more_of script line k.run e (line_run script line p).played k.most is (less_left law Nothing script line (p.clock + tick_of line.verb) k.run e k.going is) k.enough k.leads in
    let low : left_in line (run_after script line k.run e) < left_in line k.run = less_left law Nothing script line (p.clock + tick_of line.verb) k.run e k.going is in
    let here : left old.cluster.state line.actor line.verb point ≡ left_in line k.run = same_left line old.cluster.state k.run.played.state point k.run.point k.at.stands.state k.at.point_is in
    let there : left new.cluster.state line.actor line.verb further ≡ left_in line (run_after script line k.run e) = same_left line new.cluster.state (run_after script line k.run e).played.state further _ at.stands.state at.point_is in
    record {
      under_way = record {
        run = run_after script line k.run e;
        most = one.most;
        leads = one.leads;
        enough = one.enough;
        at = at;
        going = event_goes_on Nothing script line (p.clock + tick_of line.verb) k.run e nothing_is_lost k.going is;
      };
      fewer = omega (arith, low, here, there, turn_left point (left old.cluster.state line.actor line.verb point) goes, turns_most further (left new.cluster.state line.actor line.verb further));
    }

pub goes_on : (law : EventsLowerWhatIsLeft) (script : ScriptData) (line : Line) (p : Played) (old new : PlannedCluster) (point further : Point) (leads : List ℕ) → leads ≡ script.leads → (k : IsUnderWay script line p old point) → point ≢ Over → MakesNext old leads line point new further → GoesOn script line p old new point further
goes_on law script line p old new point further leads same k goes made =
    turn_made law script line p old new point further k goes (next_at old leads line point) (sym (next_same script line k.run old point leads same k.at)) (made script k.run k.at)

-- ---- the end
-- what was played once the run is over, by this clock at the latest
pub record HasEnded (script : ScriptData) (p : Played) (latest : ℕ) (whole : ClusterModel) (clock : ℕ) (ahead : Store → ℕ → Fate) : Type 0 where
  pub stands : StandsAt script p whole clock ahead
  pub reached : IsReached script p
  pub within : p.clock ≤ latest

pub ends : (script : ScriptData) (line : Line) (p : Played) (play : PlannedCluster) (point : Point) → IsUnderWay script line p play point → point ≡ Over → HasEnded script (line_run script line p).played (p.clock + tick_of line.verb) play.cluster play.clock (ahead-value.it play.weather)
ends script line p play point k is =
    let all : k.run.played ≡ (line_run script line p).played = sym (ap (λ (r : Run). r.played) (over script line k.run k.most (none_over script line k.run (sym k.at.point_is ∙ is)))) ∙ k.leads in
    subst (λ (q : Played). HasEnded script q (p.clock + tick_of line.verb) play.cluster play.clock (ahead-value.it play.weather)) all (record { stands = k.at.stands; reached = k.going.reached; within = omega (arith, k.going.ahead) })
