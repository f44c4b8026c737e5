-- A cell that is decided and does not answer is passed over.
use Rattle.std.proofs.Common.{◌≡◌, ℕ, zero, suc, ◌+◌, ◌<◌, nat_lt, false, List, [], ◌∷◌, length, drop, refl, sym, ap, ◌∙◌, add-one, arith}
use Rattle.std.proofs.lemmas.Bool.{lt-leb}
use Rattle.system_parts.specs.declared.rows.Cell.{Cell}
use Rattle.system_parts.specs.declared.resolve.Outcome.{Outcome}
use Rattle.system_parts.specs.declared.resolve.Outcome.TheVariants.{Committed, Dead}
use Rattle.system_parts.specs.Resolve.{Decides}
use Rattle.system_parts.specs.KeyRead.{LetsPass, read_over}
use Rattle.reader_resolve.specs.declared.turn.Reader.{Reader}
use Rattle.reader_resolve.specs.Turns.{decided_of}

passed_head : (r : Reader) (c : Cell) (cs : List Cell) (outcome : Outcome) → LetsPass r.start (Decides outcome) → decided_of r (c ∷ cs) outcome ≡ read_over r.every r.key r.start r.epoch cs
passed_head r c cs Dead h = refl
passed_head r c cs (Committed commit by_table) h = let above : nat_lt commit r.start ≡ false = lt-leb (suc commit) r.start (omega arith) in rw above refl

passed_suc : (r : Reader) (cells : List Cell) (at : ℕ) (outcome : Outcome) → at < length cells → LetsPass r.start (Decides outcome) → decided_of r (drop at cells) outcome ≡ read_over r.every r.key r.start r.epoch (drop (suc at) cells)
passed_suc r [] at outcome l h = absurd (omega arith)
passed_suc r (c ∷ cs) zero outcome l h = passed_head r c cs outcome h
passed_suc r (c ∷ cs) (suc at) outcome l h = passed_suc r cs at outcome (omega arith) h

pub passed_on : (r : Reader) (cells : List Cell) (at : ℕ) (outcome : Outcome) → at < length cells → LetsPass r.start (Decides outcome) → decided_of r (drop at cells) outcome ≡ read_over r.every r.key r.start r.epoch (drop (at + 1) cells)
passed_on r cells at outcome l h = passed_suc r cells at outcome l h ∙ ap (λ n. read_over r.every r.key r.start r.epoch (drop n cells)) (sym (add-one at))
