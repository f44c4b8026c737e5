-- What is right to say of a trace, by the bytes that it is.
use Rattle.std.specs.Prelude.{◌≡◌, ℕ, ◌<◌, List, ◌++◌, ◌⊎◌, Option, None, Some, IfSome, Ok, Err, codes, decimal, length, slice_get}
use Rattle.trace_rules.specs.declared.trace.Operation.{Operation}
use Rattle.trace_rules.specs.declared.trace.Operation.TheVariants.{Read, Write}
use Rattle.history_book.specs.declared.item.Item.{Item}
use Rattle.history_book.specs.Isolation.{Isolated}
use Rattle.history_book.specs.Serial.{Serial}
use Rattle.history_text.specs.Text.{printed}
use Rattle.trace_rules.specs.declared.wanted.Level.{Level}
use Rattle.trace_rules.specs.declared.wanted.Level.TheVariants.{Snapshot, Serializable}
use Rattle.trace_rules.specs.declared.wanted.Times.{Times}
use Rattle.trace_rules.specs.declared.wanted.Wanted.{Wanted}
use Rattle.trace_rules.specs.Trace.{Trace}
use Rattle.trace_rules.specs.Stamping.{IsolatedBy, Keeps, Point, Stamping}
use Rattle.version_ranks.specs.declared.rank.Rank.{Rank}
use Rattle.version_ranks.specs.Ranks.{asked_with}
use Rattle.list_orders.specs.declared.listing.Listing.{Listing}
use Rattle.list_orders.specs.Listings.{SeesAll}
use Rattle.list_ranks.specs.declared.wrong.WrongList.{WrongList}
use Rattle.list_ranks.specs.Told.{IsDirtyList}
use Rattle.list_ranks.specs.Wrong.{IsWrong}
use Rattle.trace_judge.specs.Verdicts.{IsTried}
use Rattle.trace_reading.specs.declared.want.Want.{Want}
use Rattle.trace_reading.specs.FaultText.{fault_text}
use Rattle.trace_reading.specs.Recording.{Recorded}
use Rattle.trace_reading.specs.Trace as reading
use Rattle.trace_index.specs.declared.attempts.Attempt.{Attempt}
use Rattle.trace_index.specs.Attempts.{attempts_of}
use Rattle.trace_index.specs.Index.{IsIndexOf, numbers_of}
use Rattle.trace_index.specs.Versions.{Blame}
use Rattle.trace_report.specs.declared.step.Step.{Step}
use Rattle.trace_report.specs.Names.{anomaly_name, name_of}
use Rattle.trace_report.specs.Parts.{name_at}
use Rattle.trace_report.specs.declared.wrong.Wrong.TheVariants.{Dirty}
use Rattle.trace_report.specs.Wrongs.{wrong_at, wrong_name}
use Rattle.trace_report.specs.Lists.{flaw_name, wrong_list_text}
use Rattle.trace_report.specs.Cycle.{cycle_text}
use Rattle.trace_report.specs.Verdict.{holds_text, refused_text, unclear_text, undecided_text, wrong_read_text}
use Rattle.trace_items.specs.Items.{InOrder, KeysDiffer, Ranked, Telling, history_of}
use Rattle.stamped_history.specs.Told.{IsHistory}
use Rattle.stamped_history.specs.declared.limits.Limit.{Limit}
use Rattle.stamped_history.specs.declared.limits.Limit.TheVariants as limit
use Rattle.stamped_history.specs.declared.limits.Limit.TheVariants.{Sessions, Keys, Values, Bytes}
use Rattle.omid_check_top.specs.Levels.{AreLevels}
use Rattle.omid_check_top.specs.Subject.{AsAsked, ReadsCommitted, Subject, subject_of}
use Rattle.omid_check_top.specs.declared.words.Question.{Question}
use Rattle.omid_check_top.specs.declared.words.Question.TheVariants as question
use Rattle.omid_check_top.specs.declared.limit.TheConstants.{TRACE_LIMIT}

-- ---- a verdict with its status and text
pub record IsHolding (level : Level) (wanted : Wanted) (s : Subject) (code : ℕ) (text : List ℕ) : Type 0 where
  pub holds : AsAsked level wanted s
  pub status : code ≡ 0
  pub told : text ≡ holds_text level wanted (length s.trace.transactions)

-- the text names the anomaly of some steps and lists them
pub record IsShown (level : Level) (wanted : Wanted) (s : Subject) (text : List ℕ) : Type 0 where
  pub steps : List Step
  pub told : text ≡ refused_text level wanted (anomaly_name (name_of steps)) ++ cycle_text s.names s.attempts steps

pub record IsRefusal (level : Level) (wanted : Wanted) (s : Subject) (code : ℕ) (text : List ℕ) : Type 0 where
  pub refused : AsAsked level wanted s → ⊥
  pub status : code ≡ 7
  pub told : IsShown level wanted s text

-- of the operation, where there is one
abbrev pub reader_of : Option Operation → ℕ × ℕ
reader_of None = (0, 0)
reader_of (Some (Read txn key answer)) = (txn, key)
reader_of (Some (Write txn key value)) = (txn, key)

abbrev pub wrong_text : Level → Wanted → Subject → ℕ → List ℕ
wrong_text level wanted s place =
    let reader = reader_of (slice_get s.trace.operations place) in
    refused_text level wanted (wrong_name (wrong_at s.trace place)) ++ wrong_read_text s.names s.attempts reader.0 reader.1

-- the read at this place is one that no stamps allow
pub record IsWrongRead (level : Level) (wanted : Wanted) (s : Subject) (code : ℕ) (text : List ℕ) : Type 0 where
  pub place : ℕ
  pub refused : AsAsked level wanted s → ⊥
  pub status : code ≡ 7
  pub told : text ≡ wrong_text level wanted s place

-- the order of some writers is not forced, and that which was tried led nowhere: of this key, where one is named
abbrev pub open_text : List (List ℕ) → Option ℕ → List ℕ
open_text names None = codes "not decided: nothing forces the order of some writers of a key\n"
open_text names (Some key) = undecided_text names key

-- nothing is said of the trace but that, where a key is named, several transactions wrote it
pub record IsOpen (s : Subject) (code : ℕ) (text : List ℕ) : Type 0 where
  pub key : Option ℕ
  pub tried : IfSome key (λ k. IsTried s.trace k)
  pub status : code ≡ 8
  pub told : text ≡ open_text s.names key

-- a list that no stamps give
pub record IsWrongList (level : Level) (wanted : Wanted) (s : Subject) (code : ℕ) (text : List ℕ) : Type 0 where
  pub list : WrongList
  pub wrong : IsWrong s.trace s.listed s.lists list
  pub refused : AsAsked level wanted s → ⊥
  pub status : code ≡ 7
  pub told : text ≡ refused_text level wanted (flaw_name list.flaw) ++ wrong_list_text s.names s.attempts list

abbrev pub IsIsolated : Level → Wanted → Subject → ℕ → List ℕ → Type 0
IsIsolated level wanted s code text = IsHolding level wanted s code text ⊎ IsRefusal level wanted s code text ⊎ IsWrongRead level wanted s code text ⊎ IsOpen s code text ⊎ IsWrongList level wanted s code text

-- ---- of committed reads
abbrev pub committed_text : ℕ → List ℕ
committed_text transactions = codes "committed reads transactions=" ++ decimal transactions ++ codes "\n"

abbrev pub not_committed_text : List ℕ → List ℕ
not_committed_text name = codes "not committed reads: " ++ name ++ codes "\n"

abbrev pub wrong_committed_text : Subject → ℕ → List ℕ
wrong_committed_text s place =
    let reader = reader_of (slice_get s.trace.operations place) in
    not_committed_text (wrong_name (wrong_at s.trace place)) ++ wrong_read_text s.names s.attempts reader.0 reader.1

pub record IsCommittedShown (s : Subject) (text : List ℕ) : Type 0 where
  pub steps : List Step
  pub told : text ≡ not_committed_text (anomaly_name (name_of steps)) ++ cycle_text s.names s.attempts steps

pub record AreReadsCommitted (s : Subject) (code : ℕ) (text : List ℕ) : Type 0 where
  pub holds : ReadsCommitted s
  pub status : code ≡ 0
  pub told : text ≡ committed_text (length s.trace.transactions)

-- reads go round
pub record AreReadsCyclic (s : Subject) (code : ℕ) (text : List ℕ) : Type 0 where
  pub refused : ReadsCommitted s → ⊥
  pub status : code ≡ 7
  pub told : IsCommittedShown s text

-- the read at this place is of no committed transaction's last write, or not of the own one
pub record IsReadWrong (s : Subject) (code : ℕ) (text : List ℕ) : Type 0 where
  pub place : ℕ
  pub refused : ReadsCommitted s → ⊥
  pub status : code ≡ 7
  pub told : text ≡ wrong_committed_text s place

-- a list has a member that no committed transaction wrote
pub record IsListDirty (s : Subject) (code : ℕ) (text : List ℕ) : Type 0 where
  pub list : Listing
  pub dirty : IsDirtyList s.trace s.listed s.lists list
  pub refused : ReadsCommitted s → ⊥
  pub status : code ≡ 7
  pub told : text ≡ not_committed_text (wrong_name Dirty) ++ wrong_read_text s.names s.attempts list.txn list.key

abbrev pub IsCommitted : Subject → ℕ → List ℕ → Type 0
IsCommitted s code text = AreReadsCommitted s code text ⊎ AreReadsCyclic s code text ⊎ IsReadWrong s code text ⊎ IsListDirty s code text

-- ---- the history with stamps
-- the text is that of a history of the trace
pub record IsPrinted (level : Level) (trace : Trace) (numbers : List ℕ) (names : List (List ℕ)) (text : List ℕ) : Type 0 where
  pub items : List Item
  pub is : IsHistory level trace numbers names items
  pub told : text ≡ printed items

-- serial too, where that is asked for
abbrev pub IsSerialAt : Level → List Item → Type 0
IsSerialAt Snapshot history = Unit {0}
IsSerialAt Serializable history = Serial history

-- the text is of a history: that of the trace, in the order of stamps which isolate it and keep what is asked for, and count its
-- points from 1 on, and with which the lists are read right; and its items are isolated
pub record HasStamps (level : Level) (wanted : Wanted) (s : Subject) (code : ℕ) (text : List ℕ) : Type 0 where
  pub st : Stamping
  pub points : List Point
  pub tell : Telling
  pub stamped : IsolatedBy level st s.trace
  pub keeps : Keeps (asked_with wanted level s.times s.ranks s.trace) st
  pub sees : SeesAll st s.trace s.listed s.lists
  pub order : InOrder st s.trace points
  pub counted : Ranked st points
  pub keys : KeysDiffer tell
  pub values : (value : ℕ) → tell.value value ≡ name_at s.names value
  pub isolated : Isolated (history_of st tell s.trace points)
  pub serial : IsSerialAt level (history_of st tell s.trace points)
  pub status : code ≡ 0
  pub told : text ≡ printed (history_of st tell s.trace points)

abbrev pub limit_text : Limit → List ℕ
limit_text Sessions = codes "no history: more than 16 transactions are open at once\n"
limit_text Keys = codes "no history: more than 4096 keys\n"
limit_text Values = codes "no history: a value is not of 1 to 64 visible bytes\n"
limit_text limit.Stamps = codes "no history: a stamp is above 2^62\n"
limit_text Bytes = codes "no history: more than 16 MiB of text\n"

-- there are stamps, and a history can't tell them
pub record IsUnfit (level : Level) (wanted : Wanted) (s : Subject) (code : ℕ) (text : List ℕ) : Type 0 where
  pub holds : AsAsked level wanted s
  pub limit : Limit
  pub status : code ≡ 9
  pub told : text ≡ limit_text limit

abbrev pub AreStamped : Level → Wanted → Subject → ℕ → List ℕ → Type 0
AreStamped level wanted s code text =
    HasStamps level wanted s code text ⊎ IsUnfit level wanted s code text ⊎ IsRefusal level wanted s code text ⊎ IsWrongRead level wanted s code text ⊎ IsOpen s code text ⊎ IsWrongList level wanted s code text

-- ---- what is found
abbrev pub IsFound : Question → Subject → ℕ → List ℕ → Type 0
IsFound (question.Isolated level wanted) s code text = IsIsolated level wanted s code text
IsFound question.Committed s code text = IsCommitted s code text
IsFound question.Levels s code text = AreLevels s code text
IsFound (question.Stamps level wanted) s code text = AreStamped level wanted s code text

-- the statuses of a verdict, and those of all that is said of a trace
abbrev pub IsEnd : ℕ → Type 0
IsEnd code = (code ≡ 0) ⊎ (code ≡ 7) ⊎ (code ≡ 8) ⊎ (code ≡ 9)

abbrev pub IsVerdict : ℕ → Type 0
IsVerdict code = IsEnd code ⊎ (code ≡ 3)

-- ---- what is said of what was recorded
pub record IsIndexed (question : Question) (recorded : Recorded) (code : ℕ) (text : List ℕ) : Type 0 where
  pub attempts : List Attempt
  pub trace : Trace
  pub times : List Times
  pub ranks : List Rank
  pub lists : List Listing
  pub is : IsIndexOf recorded attempts trace times ranks lists
  pub found : IsFound question (subject_of recorded attempts trace times ranks lists) code text

-- the first operation of which it is not clear who wrote what
pub record IsUnclear (recorded : Recorded) (code : ℕ) (text : List ℕ) : Type 0 where
  pub blame : Blame
  pub unclear : numbers_of recorded ≡ Err blame
  pub status : code ≡ 3
  pub told : text ≡ unclear_text recorded.names (attempts_of recorded.events) blame.txn blame.member blame.key blame.value blame.what

abbrev pub IsOfRecording : Question → Recorded → ℕ → List ℕ → Type 0
IsOfRecording question recorded code text = IsIndexed question recorded code text ⊎ IsUnclear recorded code text

-- ---- what is said of bytes
pub record IsJudged (question : Question) (bytes : List ℕ) (code : ℕ) (text : List ℕ) : Type 0 where
  pub recorded : Recorded
  pub read : reading.trace_of bytes ≡ Ok recorded
  pub said : IsOfRecording question recorded code text

-- the first line that can't be read, and what it wants
pub record IsNotRead (bytes : List ℕ) (code : ℕ) (text : List ℕ) : Type 0 where
  pub line : ℕ
  pub want : Want
  pub wants : reading.trace_of bytes ≡ Err (record { line = line; want = want })
  pub status : code ≡ 3
  pub told : text ≡ fault_text line want

abbrev pub too_long_text : List ℕ
too_long_text = codes "a trace of 1 GiB at most is wanted\n"

pub record IsTooLong (bytes : List ℕ) (code : ℕ) (text : List ℕ) : Type 0 where
  pub long : TRACE_LIMIT < length bytes
  pub status : code ≡ 3
  pub told : text ≡ too_long_text

abbrev pub IsRight : Question → List ℕ → ℕ → List ℕ → Type 0
IsRight question bytes code text = IsJudged question bytes code text ⊎ IsNotRead bytes code text ⊎ IsTooLong bytes code text
