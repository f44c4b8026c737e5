-- What is found where stamps are asked for.
use Rattle.std.specs.Prelude.{ℕ, List, IfSome}
use Rattle.trace_rules.specs.declared.wanted.Level.{Level}
use Rattle.trace_rules.specs.declared.wanted.Wanted.{Wanted}
use Rattle.version_ranks.specs.declared.rank.Rank.{Rank}
use Rattle.version_ranks.specs.Ranks.{asked_with}
use Rattle.list_ranks.specs.Told.{AreTold}
use Rattle.list_ranks.specs.Wrong.{IsWrong}
use Rattle.trace_judge.specs.Verdicts.{AreStamps, IsTried}
use Rattle.omid_check_top.specs.declared.finding.Finding.{Finding}
use Rattle.omid_check_top.specs.declared.finding.Finding.TheVariants.{Holds, WrongRead, WrongList, Refused, Undecided}
use Rattle.omid_check_top.specs.Subject.{AsAsked, Subject}

-- the numbers make stamps that keep what lists tell
pub record HasNumbers (level : Level) (wanted : Wanted) (s : Subject) (numbers : List ℕ) : Type 0 where
  pub ranks : List Rank
  pub told : AreTold s.trace s.listed s.lists s.ranks ranks
  pub stamps : AreStamps level (asked_with wanted level s.times ranks s.trace) s.trace numbers

abbrev pub NotAsAsked : Level → Wanted → Subject → Type 0
NotAsAsked level wanted s = AsAsked level wanted s → ⊥

abbrev pub IsFinding : Level → Wanted → Subject → Finding → Type 0
IsFinding level wanted s (Holds numbers) = HasNumbers level wanted s numbers.items
IsFinding level wanted s (WrongRead place) = NotAsAsked level wanted s
IsFinding level wanted s (WrongList wrong) = IsWrong s.trace s.listed s.lists wrong × NotAsAsked level wanted s
IsFinding level wanted s (Refused cycle) = NotAsAsked level wanted s
IsFinding level wanted s (Undecided key) = IfSome key (λ k. IsTried s.trace k)
