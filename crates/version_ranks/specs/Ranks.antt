-- The order of a key's versions that is told, by numbers of versions or by lists that were read.
use Rattle.std.specs.Prelude.{ℕ, ◌==◌, nat_lt, Bool, false, ◌&&◌, if◌then◌else◌, List, [], ◌∷◌, Option, None, Some}
use Rattle.std.specs.List.{list_any}
use Rattle.trace_rules.specs.declared.wanted.Level.{Level}
use Rattle.trace_rules.specs.declared.wanted.Times.{Times}
use Rattle.trace_rules.specs.declared.wanted.Wanted.{Wanted}
use Rattle.trace_rules.specs.Trace.{Trace}
use Rattle.trace_rules.specs.Stamping.{Asked, Start, Commit}
use Rattle.trace_rules.specs.Wants.{asked_of, either}
use Rattle.version_ranks.specs.declared.rank.Rank.{Rank}

-- one key, and a lower version
abbrev pub is_lower : Rank → Rank → Bool
is_lower a b = (a.key == b.key) && nat_lt a.version b.version

-- of two transactions, the first has a version of a key that is lower than one of the second's
abbrev pub comes_first : List Rank → ℕ → ℕ → Bool
comes_first ranks t u = list_any (λ a. (a.txn == t) && list_any (λ b. (b.txn == u) && is_lower a b) ranks) ranks

-- the writer of a lower version is committed before that of a higher one starts
abbrev pub by_rank : List Rank → Asked
by_rank ranks (Commit t) (Start u) = comes_first ranks t u
by_rank ranks (Commit t) (Commit u) = false
by_rank ranks (Start t) y = false

-- what is asked for, with the order of versions that is told
abbrev pub asked_with : Wanted → Level → List Times → List Rank → Trace → Asked
asked_with wanted level times ranks trace = either (by_rank ranks) (asked_of wanted level times trace)

-- the version of a rank that follows on this one counts as the same where it is of the same key and writer
abbrev pub rank_behind : Option Rank → Rank → Rank
rank_behind None r = r
rank_behind (Some p) r = if (p.key == r.key) && (p.txn == r.txn) then record { key = r.key; version = p.version; txn = r.txn } else r

-- Where a transaction wrote several versions of a key, one behind another, they count as one.
abbrev pub runs_from : Option Rank → List Rank → List Rank
runs_from before [] = []
runs_from before (r ∷ rs) = rank_behind before r ∷ runs_from (Some (rank_behind before r)) rs

abbrev pub runs_of : List Rank → List Rank
runs_of ranks = runs_from None ranks
