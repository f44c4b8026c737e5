use Rattle.std.proofs.Common.{◌≡◌, true, false}
use Rattle.stamp_base.specs.Ranges.{IsStamp}
use Rattle.omid_top.proofs.WordLemmas.{another_in_range, small_stamp}
use Rattle.omid_top.proofs.words.water_of.Goals as goal

pub returns-else-is_stamp : goal.returns-else-is_stamp
returns-else-is_stamp c =
    another_in_range IsStamp c.args.word.now c.in_ok-number.number small_stamp c.in_ok-number.ensures (λ within. let e : false ≡ true = c.if-is_stamp.ensures.1 within in cc)
