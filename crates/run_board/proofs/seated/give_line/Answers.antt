use Rattle.run_board.proofs.Names.{◌≡◌, List, [], ◌∷◌, ◌++◌, true, length, refl, ◌∙◌, ap, subst, sym, slice_get_read}
use Rattle.run_board.proofs.Names.{Seated, seated_of, sits_at}
use Rattle.run_board.proofs.Giving.{is_given, is_left}
use Rattle.run_board.proofs.seated.give_line.Goals as goal

pub returns-in_default : goal.returns-in_default
returns-in_default c =
    is_left c.args.line.now c.args.all.now.items (ap (λ (all : List Seated). seated_of all c.args.line.now.actor) (sym c.as_slice.ensures.value) ∙ c.in_default.ensures.missing)

pub returns-in_ok-extend_from_slice : goal.returns-in_ok-extend_from_slice
returns-in_ok-extend_from_slice c =
    let seated = c.args.all.now.items in
    let index = c.in-Some.index in
    let one = c.index_mut.result.now in
    let sits = subst (λ (all : List Seated). sits_at all index c.args.line.now.actor ≡ true) c.as_slice.ensures.value c.in-Some.ensures.sits in
    let is = slice_get_read seated (length c.as_slice.result.now) index one (ap (λ (all : List Seated). length all) c.as_slice.ensures.value) c.in-Some.ensures.inside c.index_mut.ensures.value in
    let more : c.extend_from_slice.new.self.items ≡ one.lines.items ++ c.args.line.now ∷ [] = c.in_ok-extend_from_slice.ensures.items in
    is_given c.args.line.now seated index one _ sits is refl more
