use Rattle.si_judge.proofs.Names.{◌∷◌, ◌++◌, [], ap, sym, subst, ◌∙◌, option_copied, Item, commit_of, HasVersions}
use Rattle.si_judge.proofs.IndexLemmas.{versions_skip, no_write_skips, open_write_skips, versions_entered}
use Rattle.si_judge.proofs.versions.enter_version.Goals as goal

pub returns-in_default : goal.returns-in_default
returns-in_default c = λ h part has at old. versions_skip h part c.args.item.now c.args.versions.now (λ t d k v committed some. no_write_skips c.args.item.now (λ session u l w e. c.in_default.not-Write session u l w e) t k v some) old

pub returns-in_default-get : goal.returns-in_default-get
returns-in_default-get c = λ h part has at old.
    subst (λ (x : Item). HasVersions h (part ++ x ∷ []) c.args.versions.now) (sym c.in-Write.is)
    (versions_skip h part _ c.args.versions.now (open_write_skips h c.args.commits.now c.in-Write.session c.in-Write.start c.in-Write.key c.in-Write.value has (sym (ap (λ n. commit_of c.args.commits.now n) c.value.ensures.value) ∙ sym c.get.ensures.value ∙ ap option_copied c.in_default-get.is)) old)

pub returns : goal.returns
returns c = λ h part has at old.
    subst (λ (x : Item). HasVersions h (part ++ x ∷ []) c.insert.new.self) (sym c.in-Write.is)
    (versions_entered h part c.args.commits.now c.in-Some.commit.now c.in-Write.session c.in-Write.start c.in-Write.key c.args.place c.in-Write.value c.args.versions.now c.insert.new.self has (sym (ap (λ n. commit_of c.args.commits.now n) c.value.ensures.value) ∙ sym c.get.ensures.value ∙ ap option_copied c.in-Some.is) at c.in_ok-insert.ensures.updates old)
