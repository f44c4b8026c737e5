use Rattle.std.proofs.Common.{rules, ◌≡◌, ◌<◌, [], sym, subst}
use Rattle.tick_word.specs.Seats.{Seated}
use Rattle.tick_word.proofs.Steps.{splits}
use Rattle.tick_word.proofs.word.TickWord.split.Goals as goal

pub split_seat-requires : goal.split_seat-requires
split_seat-requires c =
    let some_part = subst (λ (s : Seated). 0 < s.parts) (sym c.seat.view_is) c.requires.parts.0 in
    let none = subst (λ (s : Seated). s.drawn ≡ []) (sym c.seat.view_is) c.requires.parts.1 in
    (search rules, search rules, splits _ _ _ some_part none)
