use Rattle.std.proofs.Common.{ℕ, Some, None, sym, subst}
use Rattle.isolation_rules.specs.Best.{IsWrong}
use Rattle.isolation_rules.proofs.ReadLemmas.{seen_wrong}
use Rattle.isolation_rules.proofs.read.wrong_seen.Goals as goal

pub returns-else-is_seen : goal.returns-else-is_seen
returns-else-is_seen g c = λ h stamped less tells.
    subst (λ (n : ℕ). IsWrong h c.args.first c.args.start c.args.key c.args.answer None (Some n)) (sym c.place_seen.ensures)
    (seen_wrong h stamped c.args.first c.args.start c.args.key c.args.answer c.seen-seen.result less (c.seen-seen.ensures h c.args.first tells)
    (λ e. let seen = c.is_seen.ensures.1 e in let unseen = c.if-is_seen.false in absurd (cc)))
