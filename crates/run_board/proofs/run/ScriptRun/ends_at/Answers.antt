use Rattle.run_board.proofs.Names.{arith, true, leb, List, subst, sym, ap, ◌∙◌, data_of, Seated, Ran, seated_of}
use Rattle.run_board.proofs.Names.{SitOnce}
use Rattle.run_board.proofs.Ended.{Ends, ends_seated, ends_unseated}
use Rattle.run_board.proofs.SeatedOnce.{sit_once}
use Rattle.run_board.proofs.run.ScriptRun.ends_at.Goals as goal

pub seated_of-requires : goal.seated_of-requires
seated_of-requires c =
    let s = c.self.inside in
    subst (λ (all : List Seated). SitOnce all) (sym c.as_slice.ensures.value) (sit_once (data_of s.script) s.turns.items s.names.names s.held.items s.seated.items c.self.invariant.1)

pub returns-in-Some : goal.returns-in-Some
returns-in-Some c =
    let s = c.self.inside in
    let is = ap (λ all. seated_of all c.args.actor.now) (sym c.as_slice.ensures.value) ∙ c.in-Some.ensures in
    subst (λ (r : Ran). Ends r.script c.args.actor.now c.args.done (leb c.len.result c.args.done)) c.self.view_is (ends_seated (data_of s.script) s.turns.items s.names.names s.held.items s.seated.items c.args.actor.now c.in-Some.seated.now c.args.done c.self.invariant.1 is c.len.result (omega (arith, c.len.ensures, c.in-Some.seated.now.lines.ok)))

pub returns-in-None : goal.returns-in-None
returns-in-None c =
    let s = c.self.inside in
    let is = ap (λ all. seated_of all c.args.actor.now) (sym c.as_slice.ensures.value) ∙ c.in-None.ensures in
    subst (λ (r : Ran). Ends r.script c.args.actor.now c.args.done true) c.self.view_is (ends_unseated (data_of s.script) s.turns.items s.names.names s.held.items s.seated.items c.args.actor.now c.args.done c.self.invariant.2.sessions c.self.invariant.1 is)
