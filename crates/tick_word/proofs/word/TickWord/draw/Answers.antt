use Rattle.std.proofs.Common.{rules, ◌≡◌, ◌<◌, length, sym, subst}
use Rattle.tick_word.specs.Rule.{seat_limit}
use Rattle.tick_word.specs.Seats.{Seated}
use Rattle.tick_word.proofs.Steps.{draws}
use Rattle.tick_word.proofs.word.TickWord.draw.Goals as goal

pub fetch_add-requires : goal.fetch_add-requires
fetch_add-requires c =
    let one = subst (λ (s : Seated). s.parts ≡ 1) (sym c.seat.view_is) c.requires.parts in
    let room = subst (λ (s : Seated). length s.drawn < seat_limit) (sym c.seat.view_is) c.requires.room in
    (search rules, search rules, draws _ _ _ _ one room)
