-- What lists tell decides whether stamps can be given.
use Rattle.std.proofs.Common.{◌≡◌, ℕ, List, Result, Ok, Err, length, subst}
use Rattle.std.specs.Prelude.{IfOk}
use Rattle.trace_rules.specs.declared.trace.Operation.{Operation}
use Rattle.trace_rules.specs.declared.trace.Transaction.{Transaction}
use Rattle.trace_rules.specs.declared.wanted.Level.{Level}
use Rattle.trace_rules.specs.declared.wanted.Times.{Times}
use Rattle.trace_rules.specs.declared.wanted.Wanted.{Wanted}
use Rattle.trace_rules.specs.Trace.{Trace}
use Rattle.outer_reads.specs.Sources.{trace_of}
use Rattle.version_ranks.specs.declared.rank.Rank.{Rank}
use Rattle.version_ranks.specs.Ranks.{asked_with}
use Rattle.asked_orders.specs.Keeps.{stamping_of}
use Rattle.list_orders.specs.declared.listing.Listing.{Listing}
use Rattle.list_ranks.specs.declared.wrong.WrongList.{WrongList}
use Rattle.list_ranks.specs.Told.{AreTold, IsDirtyList}
use Rattle.list_ranks.specs.Wrong.{IsWrong}
use Rattle.list_ranks.proofs.LawLemmas.{lists_keep, lists_see, wrong_has_none}
use Rattle.trace_judge.specs.Verdicts.{AreStamps, NoStamps}
use Rattle.omid_check_top.specs.Findings.{HasNumbers, NotAsAsked}
use Rattle.omid_check_top.specs.Subject.{AsAsked, Subject}

pub as_asked : (level : Level) (wanted : Wanted) (s : Subject) (numbers : List ℕ) → HasNumbers level wanted s numbers → AsAsked level wanted s
as_asked level wanted s numbers has = lists_see level wanted s.trace s.times s.listed s.lists s.ranks has.ranks has.told (record {
  stamps = stamping_of level (length s.trace.transactions) numbers;
  isolated = has.stamps.isolated;
  keeps = has.stamps.keeps;
})

pub numbers_found : (level : Level) (wanted : Wanted) (s : Subject) (ranks : List Rank) (numbers : List ℕ) → AreTold s.trace s.listed s.lists s.ranks ranks → AreStamps level (asked_with wanted level s.times ranks s.trace) s.trace numbers → HasNumbers level wanted s numbers
numbers_found level wanted s ranks numbers told stamps = record { ranks = ranks; told = told; stamps = stamps }

pub none_found : (level : Level) (wanted : Wanted) (s : Subject) (ranks : List Rank) → AreTold s.trace s.listed s.lists s.ranks ranks → NoStamps level (asked_with wanted level s.times ranks s.trace) s.trace → NotAsAsked level wanted s
none_found level wanted s ranks told none holds = none (lists_keep level wanted s.trace s.times s.listed s.lists s.ranks ranks told holds)

-- of transactions, moments and operations that are those of the trace
pub none_judged : (level : Level) (wanted : Wanted) (s : Subject) (ranks : List Rank) (transactions : List Transaction) (times : List Times) (operations : List Operation) → AreTold s.trace s.listed s.lists s.ranks ranks
    → transactions ≡ s.trace.transactions → times ≡ s.times → operations ≡ s.trace.operations → NoStamps level (asked_with wanted level times ranks (trace_of transactions operations)) (trace_of transactions operations)
    → NotAsAsked level wanted s
none_judged level wanted s ranks transactions times operations told one two three none =
    none_found level wanted s ranks told
    (subst (λ (xs : List Transaction). NoStamps level (asked_with wanted level s.times ranks (trace_of xs s.trace.operations)) (trace_of xs s.trace.operations)) one
    (subst (λ (xs : List Times). NoStamps level (asked_with wanted level xs ranks (trace_of transactions s.trace.operations)) (trace_of transactions s.trace.operations)) two
    (subst (λ (xs : List Operation). NoStamps level (asked_with wanted level times ranks (trace_of transactions xs)) (trace_of transactions xs)) three none)))

pub wrong_found : (level : Level) (wanted : Wanted) (s : Subject) (wrong : WrongList) → IsWrong s.trace s.listed s.lists wrong → IsWrong s.trace s.listed s.lists wrong × NotAsAsked level wanted s
wrong_found level wanted s wrong is = (is, wrong_has_none level (asked_with wanted level s.times s.ranks s.trace) s.trace s.listed s.lists wrong is)

-- what follows from two facts of an answer
pub both_ok : {T E : Type 0} (P Q R : T → Type 0) (answer : Result T E) → ((made : T) → P made → Q made → R made) → IfOk answer P → IfOk answer Q → IfOk answer R
both_ok P Q R (Ok made) more one two = more made one two
both_ok P Q R (Err stop) more one two = tt

-- of values and lists that are those of the trace
pub dirty_judged : (trace : Trace) (listed all : List ℕ) (lists these : List Listing) (l : Listing) → listed ≡ all → lists ≡ these → IsDirtyList trace listed lists l → IsDirtyList trace all these l
dirty_judged trace listed all lists these l one two dirty = subst (λ (xs : List Listing). IsDirtyList trace all xs l) two (subst (λ (xs : List ℕ). IsDirtyList trace xs lists l) one dirty)
