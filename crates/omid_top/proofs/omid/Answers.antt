use Rattle.std.proofs.Common.{ℕ, subst, ◌∙◌}
use Rattle.omid_top.specs.Commands.{Compacts, Storms}
use Rattle.omid_top.proofs.WordLemmas.{one_storm, one_water, names_storm, names_water}
use Rattle.omid_top.proofs.omid.Goals as goal

pub returns-in-Some-Storm-clause-storm : goal.returns-in-Some-Storm-clause-storm
returns-in-Some-Storm-clause-storm g c = λ transactions named.
    subst (λ (n : ℕ). Storms n c.storm.result.code (g.K.Sink.held c.args.sink.now) (g.K.Sink.held c.storm.new.sink))
    (one_storm _ transactions _ (names_storm _ _ _ c.in-Some-Storm.field-0-is c.in-Some-Storm.ensures) named) c.storm.ensures.storm

pub returns-in-Some-ReplayCompact-clause-compact : goal.returns-in-Some-ReplayCompact-clause-compact
returns-in-Some-ReplayCompact-clause-compact g c = λ water named.
    subst (λ (n : ℕ). Compacts n c.compact_source.result.code (g.S.Source.left c.args.source.now) (g.S.Source.left c.compact_source.new.source) (g.K.Sink.held c.args.sink.now) (g.K.Sink.held c.compact_source.new.sink))
    (c.stamp_of.ensures ∙ one_water _ water _ (names_water _ _ _ c.in-Some-ReplayCompact.field-0-is c.in-Some-ReplayCompact.ensures) named) c.compact_source.ensures.compact

pub stamp_of-requires : goal.stamp_of-requires
stamp_of-requires g c = (names_water _ _ _ c.in-Some-ReplayCompact.field-0-is c.in-Some-ReplayCompact.ensures).within
