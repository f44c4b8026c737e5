use Rattle.std.proofs.Common.{◌≡◌, ◌∙◌, sym, ap}
use Rattle.std.specs.Prelude.{sum_by, slice_index}
use Rattle.tick_word.specs.Rule.{ticks_to}
use Rattle.tick_word.specs.Seats.{Seated, Ticks}
use Rattle.tick_word.proofs.Steps.{tells, first_is}
use Rattle.tick_word.proofs.word.TickWord.close.Goals as goal

pub returns : goal.returns
returns c weight =
    let final = c.close_with-closed.ensures.values.2 in
    let every = ap (λ (s : Seated). s.parts) c.seat.view_is ∙ c.requires.parts ∙ sym (ap (λ (t : Ticks). t.seats) c.self.view_is) in
    let told = tells _ _ c.seat.inside.seat.me.0 final.0 every final.1 weight in
    let last : slice_index final.0.words 0 ≡ c.word-last.result = ap (λ l. slice_index l 0) final.2 ∙ first_is _ _ c.word-last.ensures in
    ap (λ (s : Seated). sum_by weight s.drawn) (sym c.seat.view_is) ∙ told ∙ ap (λ n. sum_by weight (ticks_to n)) last
