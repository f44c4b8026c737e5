-- In which way a read is wrong, by where its answer came from.
use Rattle.std.specs.Prelude.{ℕ, leb, Bool, true, false, if◌then◌else◌, not, List, Option, None, Some, take, slice_get, nat_eq, codes}
use Rattle.std.specs.Cmp.Lexicographic.{pointwise}
use Rattle.history_book.specs.declared.item.Found.{Found}
use Rattle.history_book.specs.declared.item.Item.{Item}
use Rattle.history_book.specs.declared.item.Item.TheVariants.{Placed, Write}
use Rattle.refusal_reasons.specs.declared.clue.Clue.TheVariants as clue
use Rattle.refusal_reasons.specs.Sought.{seek}
use Rattle.breach_reasons.specs.declared.kind.ReadKind.{ReadKind}
use Rattle.breach_reasons.specs.declared.kind.ReadKind.TheVariants as kind

-- the last write of the transaction t at k
abbrev pub write_place : List Item → ℕ → ℕ → Option ℕ
write_place h t k = seek h 0 (clue.Wrote t k)

-- its commit
abbrev pub commit_place : List Item → ℕ → Option ℕ
commit_place h t = seek h 0 (clue.CommitOf t)

-- of a committed version, by its value and its commit: another value was its transaction's last, or it is not below the start s,
-- or a newer one is
abbrev pub value_kind : ℕ → Found → List ℕ → ℕ → ReadKind
value_kind s found value c = if not (pointwise nat_eq value found.value) then kind.Intermediate else if leb s c then kind.Later else kind.Stale

abbrev pub placed_kind : ℕ → Found → List ℕ → Option Item → ReadKind
placed_kind s found value (Some (Placed t c)) = value_kind s found value c
placed_kind s found value _ = kind.Stale

abbrev pub version_kind : ℕ → Found → Option Item → Option Item → ReadKind
version_kind s found (Some (Write session start key value)) placed = placed_kind s found value placed
version_kind s found _ placed = kind.Stale

abbrev pub committed_kind : List Item → ℕ → Found → ℕ → Option ℕ → ReadKind
committed_kind h s found write None = kind.Aborted
committed_kind h s found write (Some commit) = version_kind s found (slice_get h write) (slice_get h commit)

abbrev pub written_kind : List Item → ℕ → Found → Option ℕ → ReadKind
written_kind h s found None = kind.Unwritten
written_kind h s found (Some write) = committed_kind h s found write (commit_place h found.from)

abbrev pub answer_kind : List Item → ℕ → ℕ → Option Found → ReadKind
answer_kind h s k None = kind.Stale
answer_kind h s k (Some found) = written_kind h s found (write_place h found.from k)

abbrev pub own_or : Option ℕ → ReadKind → ReadKind
own_or None rest = rest
own_or (Some place) rest = kind.Own

-- of a read of k at the place i with the start s: its own write is passed over, or by where the answer came from
abbrev pub read_kind : List Item → ℕ → ℕ → ℕ → Option Found → ReadKind
read_kind h i s k answer = own_or (write_place (take i h) s k) (answer_kind h s k answer)

abbrev pub kind_text : ReadKind → List ℕ
kind_text kind.Own = codes "its own write is passed over: the transaction had written the key before"
kind_text kind.Unwritten = codes "a read of what was never written: no such write of the key stands in the history"
kind_text kind.Aborted = codes "an aborted read: the transaction that wrote it never commits"
kind_text kind.Intermediate = codes "an intermediate read: the transaction that wrote it wrote the key again"
kind_text kind.Later = codes "a later read: what it gives was not committed below its start"
kind_text kind.Stale = codes "a stale read: a newer version was committed below its start"
