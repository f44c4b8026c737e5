use Rattle.run_board.proofs.Names.{◌≡◌, List, subst, sym, ap, ◌∙◌, carried, data_of, Seated, Ran, seated_of, SitOnce}
use Rattle.run_board.proofs.Names.{place_of}
use Rattle.run_board.proofs.SeatedOnce.{sit_once}
use Rattle.run_board.proofs.Found.{place_found, place_missing}
use Rattle.run_board.proofs.run.ScriptRun.place.Goals as goal

pub seated_of-requires : goal.seated_of-requires
seated_of-requires c =
    let s = c.self.inside in
    subst (λ (all : List Seated). SitOnce all) (sym c.as_slice.ensures.value) (sit_once (data_of s.script) s.turns.items s.names.names s.held.items s.seated.items c.self.invariant.1)

pub returns-in-Some : goal.returns-in-Some
returns-in-Some c =
    let s = c.self.inside in
    let is = ap (λ all. seated_of all c.args.actor.now) (sym c.as_slice.ensures.value) ∙ c.in-Some.ensures in
    subst (λ (r : Ran). c.in-Some.seated.now.seat.place ≡ place_of r c.args.actor.now) c.self.view_is (place_found (data_of s.script) (carried (data_of s.script) s.turns.items) s.names.names s.held.items s.seated.items c.args.actor.now c.in-Some.seated.now c.self.invariant.1 is)

pub returns-in-None : goal.returns-in-None
returns-in-None c =
    let s = c.self.inside in
    let is = ap (λ all. seated_of all c.args.actor.now) (sym c.as_slice.ensures.value) ∙ c.in-None.ensures in
    subst (λ (r : Ran). 0 ≡ place_of r c.args.actor.now) c.self.view_is (place_missing (data_of s.script) (carried (data_of s.script) s.turns.items) s.names.names s.held.items s.seated.items c.args.actor.now c.self.invariant.1 is)
