use Rattle.run_board.proofs.Names.{◌≡◌, List, true, length, ◌∙◌, ap, subst, sym, map, slice_get_read, Turn, Seated}
use Rattle.run_board.proofs.Names.{after_turn, gone_on_with, seated_of, sits_at}
use Rattle.std.proofs.Common.{slice_set}
use Rattle.run_board.proofs.ByIndex.{changed_at, changed_nowhere, unmoved}
use Rattle.run_board.proofs.seated.go_on.Goals as goal

pub returns-in_default : goal.returns-in_default
returns-in_default c = unmoved c.args.turn.now c.args.halt c.args.asked c.args.seated.now.items c.in_default.not-Own

pub returns-in-Some : goal.returns-in-Some
returns-in-Some c =
    let seated = c.args.seated.now.items in
    let index = c.in-Some.index in
    let one = c.index_mut.result.now in
    let sits = subst (λ (all : List Seated). sits_at all index c.in-Own.actor ≡ true) c.as_slice.ensures.value c.in-Some.ensures.sits in
    let is = slice_get_read seated (length c.as_slice.result.now) index one (ap (λ (all : List Seated). length all) c.as_slice.ensures.value) c.in-Some.ensures.inside c.index_mut.ensures.value in
    ap (λ (s : Seated). slice_set seated index s) c.go_on.ensures
    ∙ changed_at (gone_on_with c.args.halt c.args.asked) seated index c.in-Own.actor one c.requires sits is
    ∙ ap (λ (t : Turn). map (after_turn t c.args.halt c.args.asked) seated) (sym c.in-Own.is)

pub returns-in_default-index_of : goal.returns-in_default-index_of
returns-in_default-index_of c =
    let seated = c.args.seated.now.items in
    changed_nowhere (gone_on_with c.args.halt c.args.asked) seated c.in-Own.actor (ap (λ (all : List Seated). seated_of all c.in-Own.actor) (sym c.as_slice.ensures.value) ∙ c.in_default-index_of.ensures.missing)
    ∙ ap (λ (t : Turn). map (after_turn t c.args.halt c.args.asked) seated) (sym c.in-Own.is)
