use Rattle.std.proofs.Common.{◌≡◌, ◌+◌, ◌++◌, ◌∙◌, sym, ap, arith, Some, List}
use Rattle.std.proofs.lemmas.List.Elements.{All-pop}
use Rattle.split_stores.specs.declared.seat.Entry.{Entry}
use Rattle.split_stores.specs.Logs.{Logged, ticks_of, risen_by}
use Rattle.split_stores.proofs.OrderLemmas.{gathered_more, ticks_of-append, risen-append}
use Rattle.split_stores.proofs.merging.gather.Goals as goal

pub loop-next-preserved : goal.loop-next-preserved
loop-next-preserved c =
    let inv = c.loop-next.invariant in
    let more = c.in_ok-append.ensures.items in
    let split = c.in-Some.ensures.items in
    let so_far : List Entry = c.loop-next.entries.items in
    let log : List Entry = c.next.inside.entries.items in
    let risen : risen_by c.append.new.self.items ≡ risen_by so_far + risen_by log = ap risen_by more ∙ risen-append so_far log in
    record {
      all = gathered_more _ c.loop-next.seats.items c.pop.new.self.items c.in-Some.next so_far c.append.new.self.items split (more ∙ ap (λ (l : Logged). so_far ++ l.entries) c.next.view_is) inv.all;
      left = (All-pop (λ (s : Logged). s.word ≡ c.args.word.now.id) c.loop-next.seats.items c.pop.new.self.items (Some c.in-Some.next) split inv.left).0;
      whole = c.joined.ensures.word;
      parts = omega (arith, c.joined.ensures.parts, c.next.invariant.0.part, c.in-Some.ensures.len, inv.parts);
      drawn = c.joined.ensures.drawn ∙ (λ i. inv.drawn i ++ c.next.invariant.0.drawn i) ∙ sym (ticks_of-append so_far log) ∙ ap ticks_of (sym more);
      risen = omega (arith, risen, c.next.invariant.1, c.next.invariant.2, c.in-Some.ensures.len, inv.risen);
    }
