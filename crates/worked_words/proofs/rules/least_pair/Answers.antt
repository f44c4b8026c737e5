use Rattle.std.proofs.Common.{List}
use Rattle.history_book.specs.Isolation.{Stamped}
use Rattle.history_book.specs.declared.item.Item.{Item}
use Rattle.isolation_rules.specs.declared.verdict.Rule.{Rule}
use Rattle.isolation_rules.specs.declared.verdict.Rule.TheVariants as rule
use Rattle.isolation_rules.specs.Judged.{Premise}
use Rattle.isolation_rules.proofs.StampedLaw.{kept_stamped}
use Rattle.isolation_rules.proofs.WalkLemmas.{all_kept}
use Rattle.worked_words.proofs.rules.least_pair.Goals as goal

premise_met : (r : Rule) (h : List Item) → Stamped h → Premise r h
premise_met rule.Stamped h stamped = tt
premise_met rule.Apart h stamped = stamped
premise_met rule.Read h stamped = stamped
premise_met rule.Fresh h stamped = tt

pub plain_pair-requires-in-None : goal.plain_pair-requires-in-None
plain_pair-requires-in-None c =
    let items = c.args.items.now in
    premise_met c.args.rule items (kept_stamped items (all_kept rule.Stamped items c.in-None.ensures.pair))
