use Rattle.std.proofs.Common.{◌≡◌, true, false}
use Rattle.stamp_base.specs.Ranges.{IsWithin}
use Rattle.omid_top.proofs.WordLemmas.{another_in_range, small_storm}
use Rattle.omid_top.proofs.words.transactions_of.Goals as goal

pub returns-else-is_storm_size : goal.returns-else-is_storm_size
returns-else-is_storm_size c =
    another_in_range (IsWithin 1 20000) c.args.word.now c.in_ok-number.number small_storm c.in_ok-number.ensures (λ within. let e : false ≡ true = c.if-is_storm_size.ensures.1 within in cc)
