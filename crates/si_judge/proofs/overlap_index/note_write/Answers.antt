use Rattle.si_judge.proofs.Names.{ap, ◌∙◌, commit_of}
use Rattle.si_judge.proofs.OverlapIndexLemmas.{write_noted, write_missing, writes_kept}
use Rattle.si_judge.proofs.overlap_index.note_write.Goals as goal

pub returns-in_ok-insert-in-Some-clause-noted : goal.returns-in_ok-insert-in-Some-clause-noted
returns-in_ok-insert-in-Some-clause-noted c = write_noted c.args.commits.now c.args.written.now c.insert.new.self c.args.item.now c.in-Write.session c.in-Write.start c.in-Write.key c.in-Write.value c.in-Some.commit.now c.in-Write.is (c.in-Some.ensures.value ∙ ap (λ n. commit_of c.args.commits.now n) c.value.ensures.value) c.in_ok-insert-in-Some.ensures.updates

pub returns-in_ok-insert-in-Some-clause-kept : goal.returns-in_ok-insert-in-Some-clause-kept
returns-in_ok-insert-in-Some-clause-kept c = writes_kept c.args.commits.now c.args.written.now c.insert.new.self c.in-Write.key c.in-Write.start c.in-Some.commit.now (c.in-Some.ensures.value ∙ ap (λ n. commit_of c.args.commits.now n) c.value.ensures.value) c.in_ok-insert-in-Some.ensures.updates

pub returns-in-None-clause-noted : goal.returns-in-None-clause-noted
returns-in-None-clause-noted c = write_missing c.args.commits.now c.args.written.now c.args.item.now c.in-Write.session c.in-Write.start c.in-Write.key c.in-Write.value c.in-Write.is (c.in-None.ensures.value ∙ ap (λ n. commit_of c.args.commits.now n) c.value.ensures.value)
