use Rattle.std.proofs.Common.{◌≡◌, ◌∙◌, Some, refl, sym, arith}
use Rattle.std.specs.Prelude.{slice_get}
use Rattle.std.proofs.lemmas.Option.{slice_get_read}
use Rattle.split_stores.specs.declared.seat.Entry.{Entry}
use Rattle.split_stores.proofs.LogLemmas.{kept_struck, risen_struck, struck_of}
use Rattle.split_stores.proofs.seat.ActorSeat.strike.Goals as goal

pub invariant_of-self : goal.invariant_of-self
invariant_of-self c =
    let was = c.index_mut.result.now in
    let now : Entry = record { tick = was.tick; event = was.event; kept = c.clear.new.self } in (
      kept_struck c.self.inside.entries.items c.args.place was now c.self.inside.seat c.index_mut.ensures.value refl c.self.invariant.0,
      c.self.invariant.1 ∙ sym (risen_struck c.self.inside.entries.items c.args.place was now (grind arith) c.index_mut.ensures.value refl),
      c.self.invariant.2,
    )

pub returns : goal.returns
returns c =
    let was = c.index_mut.result.now in
    let now : Entry = record { tick = was.tick; event = was.event; kept = c.clear.new.self } in
    let at : slice_get c.self.inside.entries.items c.args.place ≡ Some was = slice_get_read c.self.inside.entries.items _ c.args.place was refl (grind arith) c.index_mut.ensures.value in
    struck_of _ c.args.self.now _ c.args.place was now c.self.view_is at refl refl c.clear.ensures.items refl refl
