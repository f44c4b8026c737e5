use Rattle.std.proofs.Common.{◌==◌, if◌then◌else◌, ◌∷◌, ◌++◌, ap, arith}
use Rattle.std.specs.Prelude.{sum_by, flat_map}
use Rattle.std.proofs.lemmas.List.Sums.{sum_by-append}
use Rattle.std.proofs.lemmas.List.Concat.{flat_map-append}
use Rattle.stage_queues.proofs.laws.settled_once.Goals as goal

pub returns-clause-together : goal.returns-clause-together
returns-clause-together x = λ b c s t h k weight.
    let first = h weight in
    let second = k weight in
    let put = sum_by-append weight s.put t.put in
    let all = sum_by-append weight b.taken (flat_map (λ row. row) (b.others ++ c.taken ∷ c.others)) in
    let rows = ap (sum_by weight) (flat_map-append (λ row. row) b.others (c.taken ∷ c.others)) in
    let apart = sum_by-append weight (flat_map (λ row. row) b.others) (c.taken ++ flat_map (λ row. row) c.others) in
    let mine = sum_by-append weight b.taken (flat_map (λ row. row) b.others) in
    omega arith

pub returns-clause-once : goal.returns-clause-once
returns-clause-once x = λ b s tells fair every puts number.
    let once = tells.once number in
    let taken = fair every (λ batch. if batch.number == number then 1 else 0) in
    let put = puts (λ batch. if batch.number == number then 1 else 0) in
    omega arith
