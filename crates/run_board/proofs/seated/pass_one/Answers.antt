use Rattle.run_board.proofs.Names.{◌≡◌, List, true, length, ◌∙◌, ap, subst, sym, slice_get_read, Session, clocks_at}
use Rattle.run_board.proofs.Names.{Seated, after_passing, seated_of, sits_at}
use Rattle.std.proofs.Common.{slice_set}
use Rattle.run_board.proofs.ByIndex.{changed_at, changed_nowhere}
use Rattle.run_board.proofs.seated.pass_one.Goals as goal

pub returns-in-Some : goal.returns-in-Some
returns-in-Some c =
    let seated = c.args.seated.now.items in
    let index = c.in-Some.index in
    let one = c.index_mut.result.now in
    let passes = after_passing (clocks_at c.args.planned.now.cluster c.args.planned.now.clock c.args.leads.now) c.args.planned.now.cluster.state in
    let sits = subst (λ (all : List Seated). sits_at all index (Session c.args.session) ≡ true) c.as_slice.ensures.value c.in-Some.ensures.sits in
    let is = slice_get_read seated (length c.as_slice.result.now) index one (ap (λ (all : List Seated). length all) c.as_slice.ensures.value) c.in-Some.ensures.inside c.index_mut.ensures.value in
    ap (λ (s : Seated). slice_set seated index s) c.pass.ensures ∙ changed_at passes seated index (Session c.args.session) one c.requires.once sits is

pub returns-in_default : goal.returns-in_default
returns-in_default c =
    let passes = after_passing (clocks_at c.args.planned.now.cluster c.args.planned.now.clock c.args.leads.now) c.args.planned.now.cluster.state in
    changed_nowhere passes c.args.seated.now.items (Session c.args.session) (ap (λ (all : List Seated). seated_of all (Session c.args.session)) (sym c.as_slice.ensures.value) ∙ c.in_default.ensures.missing)
