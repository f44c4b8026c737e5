-- Where every cursor is at its end the turns are whole, and the history answers the script and keeps to its plan.
use Rattle.run_board.proofs.Names.{◌≡◌, List, sym, subst, Item, ScriptData, AnswersOnThreads, Planned, Cursor}
use Rattle.run_board.proofs.Names.{playable_at_first, Turn, carried_items, AreWhole, AreLawful, TurnsAnswer}
use Rattle.run_board.proofs.Names.{TurnsArePlanned, KeepsService, AreAtTheirEnds, Ran, place_of, EndedRunsAreWhole}
use Rattle.run_board.proofs.Names.{Played, IsKept, IsResult}
use Rattle.script_service.specs.Service.{TurnsKeepService}
use Rattle.thread_scripts.proofs.AllEnded.{all_ended}

whole_at_end : (r : Ran) (cursors : List Cursor) → EndedRunsAreWhole → IsKept r cursors → AreAtTheirEnds r.script cursors → AreWhole r.script r.turns
whole_at_end r cursors law k ends = law r (all_ended r.script (place_of r) cursors k.behind k.covered ends)

-- these are the history and the turns of the run
pub record AreOf (r : Ran) (history : List Item) (turns : List Turn) : Type 0 where
  pub history_is : history ≡ carried_items r.script r.turns
  pub turns_are : turns ≡ r.turns
  pub lawful : AreLawful r.script r.turns

pub result_at_end : (r : Ran) (cursors : List Cursor) (history : List Item) (turns : List Turn) → EndedRunsAreWhole → IsKept r cursors → AreOf r history turns → AreAtTheirEnds r.script cursors → IsResult r.script history turns
result_at_end r cursors history turns law k of ends = subst (λ (ts : List Turn). IsResult r.script history ts) (sym of.turns_are) (record {
  history_is = of.history_is;
  lawful = of.lawful;
  whole = whole_at_end r cursors law k ends;
})

pub answered_at_end : (r : Ran) (cursors : List Cursor) (history : List Item) → EndedRunsAreWhole → TurnsAnswer → IsKept r cursors → history ≡ carried_items r.script r.turns → AreAtTheirEnds r.script cursors → AnswersOnThreads r.script history
answered_at_end r cursors history law answer k is ends = subst (λ (h : List Item). AnswersOnThreads r.script h) (sym is) (answer r.script r.turns k.sound.setup (playable_at_first r.script k.sound k.few) k.sessions (whole_at_end r cursors law k ends))

pub planned_at_end : (r : Ran) (cursors : List Cursor) (history : List Item) → EndedRunsAreWhole → TurnsArePlanned → IsKept r cursors → history ≡ carried_items r.script r.turns → AreAtTheirEnds r.script cursors → Planned r.script history
planned_at_end r cursors history law plan k is ends = subst (λ (h : List Item). Planned r.script h) (sym is) (plan r.script r.turns k.sound.setup (playable_at_first r.script k.sound k.few) (whole_at_end r cursors law k ends))

pub service_at_end : (r : Ran) (cursors : List Cursor) (history : List Item) → TurnsKeepService → IsKept r cursors → history ≡ carried_items r.script r.turns → KeepsService r.script.setup history
service_at_end r cursors history law k is = subst (KeepsService r.script.setup) (sym is) (law r.script r.turns k.sound.setup (playable_at_first r.script k.sound k.few))

-- what holds of the parts at their ends holds of the play that they are
pub of_parts : (r : Ran) (cursors : List Cursor) (p : Played) (P : ScriptData → Type 0) → record { ran = r; cursors = cursors } ≡ p → (AreAtTheirEnds r.script cursors → P r.script) → AreAtTheirEnds p.ran.script p.cursors → P p.ran.script
of_parts r cursors p P are made = subst (λ (q : Played). AreAtTheirEnds q.ran.script q.cursors → P q.ran.script) are made
