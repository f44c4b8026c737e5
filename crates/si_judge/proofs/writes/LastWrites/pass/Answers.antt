use Rattle.si_judge.proofs.Names.{ℕ, Some, ◌∷◌, ◌++◌, [], sym, subst, Item, Version, HasLastWrites, pair_eq}
use Rattle.std.specs.HashMap.{Updates}
use Rattle.si_judge.proofs.IndexLemmas.{writes_skip, no_write_skips, writes_entered}
use Rattle.si_judge.proofs.writes.LastWrites.pass.Goals as goal

pub returns-in_default : goal.returns-in_default
returns-in_default c = λ part at old. writes_skip part c.args.item.now c.args.self.now.versions (no_write_skips c.args.item.now (λ session u l w e. c.in_default.not-Write session u l w e)) old

pub returns : goal.returns
returns c = λ part at old.
    let entered : Version = record { place = c.args.place; found = record { from = c.in-Write.start; value = c.in-Write.value } } in
    let started = subst (λ (n : ℕ). Updates pair_eq c.args.self.now.versions c.insert.new.self (n, c.value-2.result) (Some entered)) c.value.ensures.value c.in_ok-insert.ensures.updates in
    let put = subst (λ (n : ℕ). Updates pair_eq c.args.self.now.versions c.insert.new.self (c.in-Write.start, n) (Some entered)) c.value-2.ensures.value started in
    subst (λ (x : Item). HasLastWrites (part ++ x ∷ []) c.insert.new.self) (sym c.in-Write.is)
    (writes_entered part c.in-Write.session c.in-Write.start c.in-Write.key c.args.place c.in-Write.value c.args.self.now.versions c.insert.new.self at put old)
