use Rattle.std.proofs.Common.{◌≡◌, ℕ, length, refl, ap, arith}
use Rattle.std.proofs.lemmas.Option.{same_Some}
use Rattle.master_beacon.proofs.worked.looks_go_on.Goals as goal

pub returns : goal.returns
returns c = record {
  empty = record { front = refl; rising = refl; last = refl };
  later = record { front = refl; rising = refl; last = refl };
  back = λ seen. let same : 2 ≡ 1 = ap length seen.front in absurd (omega (arith, same));
  older = λ seen. let same : 1 ≡ 2 = ap (λ (pair : ℕ × ℕ). pair.0) (same_Some _ _ seen.last) in absurd (omega (arith, same));
}
