use Rattle.si_judge.proofs.Names.{Option, sym, ap, subst, ◌∙◌, Version, pair_eq, IsOwn}
use Rattle.std.specs.HashMap.{get}
use Rattle.si_judge.proofs.writes.LastWrites.last.Goals as goal

pub returns : goal.returns
returns c = λ part has.
    let started = ap (λ n. get pair_eq c.args.self.now.versions (n, c.value-2.result)) c.value.ensures.value in
    let asked = started ∙ ap (λ n. get pair_eq c.args.self.now.versions (c.args.start, n)) c.value-2.ensures.value in
    subst (λ (o : Option Version). IsOwn part c.args.start c.args.key o) (sym (c.copied.ensures ∙ c.get.ensures.value ∙ asked)) (has c.args.start c.args.key)
