use Rattle.cluster_core.proofs.Names.{refl, sym, ◌∙◌, held_at}
use Rattle.cluster_core.proofs.RequestHolders.{holder_here, holder_later, holder_found, none_behind}
use Rattle.cluster_core.proofs.readers.holder_of.Goals as goal

pub returns-in-Some : goal.returns-in-Some
returns-in-Some c =
    let here = c.loop-i.invariant ∙ holder_here c.args.posts.now c.args.session c.loop-i.i c.index-posts-i.result c.loop-i-test.true c.index-posts-i.is in
    let has = sym c.in-Some.is ∙ c.standing_at.ensures in
    rw (here, c.in-Some-new.ensures.value) (holder_found c.loop-i.i (held_at c.index-posts-i.result c.args.session) _ c.in-Some.place c.in-Some.commit has)

pub loop-i-preserved : goal.loop-i-preserved
loop-i-preserved c =
    let here = c.loop-i.invariant ∙ holder_here c.args.posts.now c.args.session c.loop-i.i c.index-posts-i.result c.loop-i-test.true c.index-posts-i.is in
    here ∙ holder_later c.loop-i.i (held_at c.index-posts-i.result c.args.session) _ (sym c.in_default.is ∙ c.standing_at.ensures)

pub returns : goal.returns
returns c = rw (c.loop-i.invariant ∙ none_behind c.args.posts.now c.args.session c.loop-i.i c.loop-i-test.false) refl
