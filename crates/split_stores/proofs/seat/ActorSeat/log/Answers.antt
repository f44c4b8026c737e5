use Rattle.std.proofs.Common.{◌≡◌, ◌+◌, ◌++◌, ◌∷◌, [], ◌∙◌, refl, sym, ap, subst, arith}
use Rattle.std.proofs.lemmas.List.Sums.{sum_by_push}
use Rattle.tick_word.specs.Seats.{Seated}
use Rattle.split_stores.specs.declared.seat.Entry.{Entry}
use Rattle.split_stores.specs.Logs.{CanRise, Logged, IsKept, risen_by, rise_of}
use Rattle.split_stores.proofs.LogLemmas.{can_rise, kept_more}
use Rattle.split_stores.proofs.seat.ActorSeat.log.Goals as goal

pub invariant_of-self : goal.invariant_of-self
invariant_of-self c =
    let e : Entry = record { tick = c.draw-tick.result; event = c.args.event; kept = c.args.kept } in
    let drew = c.draw-tick.ensures.drawn in
    let above = c.draw-tick.ensures.above in
    let old = c.self.inside.entries.items in
    let more : risen_by (old ++ e ∷ []) ≡ risen_by old + rise_of c.args.event = sum_by_push (λ (x : Entry). rise_of x.event) old e in
    let can : CanRise c.args.event old = subst (λ (l : Logged). CanRise c.args.event l.entries) (sym c.self.view_is) c.requires.rises in
    let before = can_rise c.args.event old can (omega (arith, c.self.invariant.1, c.self.invariant.2)) in
    let grown : c.self.inside.risen + c.rise_of.result ≡ risen_by old + rise_of c.args.event = omega (arith, c.self.invariant.1, c.rise_of.ensures) in (
      subst (λ l. IsKept l c.draw-tick.new.seat) (sym c.push_reserved.ensures.items)
          (kept_more old e c.self.inside.seat c.draw-tick.new.seat c.self.invariant.0 (ap (λ (s : Seated). s.parts) drew) (ap (λ (s : Seated). s.drawn) drew) above.0 above.1),
      grown ∙ sym more ∙ ap risen_by (sym c.push_reserved.ensures.items),
      omega (arith, grown, before),
    )

pub returns : goal.returns
returns c = record {
  added = record { tick = c.draw-tick.result; event = c.args.event; kept = c.args.kept };
  of = refl;
  kept = refl;
  word = ap (λ (s : Seated). s.word) c.draw-tick.ensures.drawn ∙ sym c.requires.word;
  entries = c.push_reserved.ensures.items ∙ ap (λ (l : Logged). l.entries ++ (record { tick = c.draw-tick.result; event = c.args.event; kept = c.args.kept }) ∷ []) c.self.view_is;
}
