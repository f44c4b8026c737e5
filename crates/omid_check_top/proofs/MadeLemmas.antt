-- What is right to say of a trace, from what was found.
use Rattle.std.proofs.Common.{◌≡◌, ℕ, List, ◌++◌, inl, inr, length}
use Rattle.std.specs.Prelude.{IfSome, Option, Ok, Err}
use Rattle.trace_rules.specs.declared.wanted.Level.{Level}
use Rattle.trace_rules.specs.declared.wanted.Times.{Times}
use Rattle.trace_rules.specs.declared.wanted.Wanted.{Wanted}
use Rattle.trace_rules.specs.Trace.{Trace}
use Rattle.version_ranks.specs.declared.rank.Rank.{Rank}
use Rattle.list_orders.specs.declared.listing.Listing.{Listing}
use Rattle.list_ranks.specs.declared.wrong.WrongList.{WrongList}
use Rattle.list_ranks.specs.Told.{AllDone, IsDirtyList}
use Rattle.list_ranks.specs.Wrong.{IsWrong}
use Rattle.trace_judge.specs.Verdicts.{IsTried}
use Rattle.committed_reads.specs.Committed.{CommittedReads}
use Rattle.trace_report.specs.declared.step.Step.{Step}
use Rattle.trace_report.specs.Names.{anomaly_name, name_of}
use Rattle.trace_report.specs.Cycle.{cycle_text}
use Rattle.trace_reading.specs.declared.want.Want.{Want}
use Rattle.trace_reading.specs.FaultText.{fault_text}
use Rattle.trace_reading.specs.Recording.{Recorded}
use Rattle.trace_reading.specs.Trace.{trace_of}
use Rattle.trace_index.specs.declared.attempts.Attempt.{Attempt}
use Rattle.trace_index.specs.declared.fault.Unclear.{Unclear}
use Rattle.trace_index.specs.Attempts.{attempts_of}
use Rattle.trace_index.specs.Index.{IsIndexOf, numbers_of}
use Rattle.trace_report.specs.declared.wrong.Wrong.TheVariants.{Dirty}
use Rattle.trace_report.specs.Wrongs.{wrong_name}
use Rattle.trace_report.specs.Lists.{flaw_name, wrong_list_text}
use Rattle.trace_report.specs.Verdict.{holds_text, refused_text, unclear_text, wrong_read_text}
use Rattle.omid_check_top.specs.declared.words.Question.{Question}
use Rattle.omid_check_top.proofs.FindingLemmas.{as_asked}
use Rattle.omid_check_top.specs.Findings.{HasNumbers, NotAsAsked}
use Rattle.omid_check_top.specs.Subject.{Subject, subject_of}
use Rattle.omid_check_top.specs.Verdicts.{IsCommitted, IsCommittedShown, IsFound, IsIndexed, IsIsolated, IsJudged, IsOfRecording, IsOpen, IsRight, IsShown, committed_text, not_committed_text, open_text, wrong_committed_text, wrong_text}

-- ---- of what was found
pub is_holding : (level : Level) (wanted : Wanted) (s : Subject) (numbers : List ℕ) (code : ℕ) (text : List ℕ) → HasNumbers level wanted s numbers → code ≡ 0 → text ≡ holds_text level wanted (length s.trace.transactions) → IsIsolated level wanted s code text
is_holding level wanted s numbers code text has zero told = inl (record { holds = as_asked level wanted s numbers has; status = zero; told = told })

pub shows : (level : Level) (wanted : Wanted) (s : Subject) (steps : List Step) (text : List ℕ) → text ≡ refused_text level wanted (anomaly_name (name_of steps)) ++ cycle_text s.names s.attempts steps → IsShown level wanted s text
shows level wanted s steps text told = record { steps = steps; told = told }

pub is_shown : (level : Level) (wanted : Wanted) (s : Subject) (code : ℕ) (text : List ℕ) → NotAsAsked level wanted s → code ≡ 7 → IsShown level wanted s text → IsIsolated level wanted s code text
is_shown level wanted s code text none seven told = inr (inl (record { refused = none; status = seven; told = told }))

pub is_wrong : (level : Level) (wanted : Wanted) (s : Subject) (place code : ℕ) (text : List ℕ) → NotAsAsked level wanted s → code ≡ 7 → text ≡ wrong_text level wanted s place → IsIsolated level wanted s code text
is_wrong level wanted s place code text none seven told = inr (inr (inl (record { place = place; refused = none; status = seven; told = told })))

pub is_open : (level : Level) (wanted : Wanted) (s : Subject) (key : Option ℕ) (code : ℕ) (text : List ℕ) → IfSome key (λ k. IsTried s.trace k) → code ≡ 8 → text ≡ open_text s.names key → IsIsolated level wanted s code text
is_open level wanted s key code text tried eight told = inr (inr (inr (inl (record { key = key; tried = tried; status = eight; told = told }))))

pub is_wrong_list : (level : Level) (wanted : Wanted) (s : Subject) (wrong : WrongList) (code : ℕ) (text : List ℕ) → IsWrong s.trace s.listed s.lists wrong × NotAsAsked level wanted s → code ≡ 7 → text ≡ refused_text level wanted (flaw_name wrong.flaw) ++ wrong_list_text s.names s.attempts wrong
    → IsIsolated level wanted s code text
is_wrong_list level wanted s wrong code text both seven told = inr (inr (inr (inr (record { list = wrong; wrong = both.0; refused = both.1; status = seven; told = told }))))

-- ---- of committed reads
pub is_committed : (s : Subject) (code : ℕ) (text : List ℕ) → CommittedReads s.trace → AllDone s.trace s.listed s.lists → code ≡ 0 → text ≡ committed_text (length s.trace.transactions) → IsCommitted s code text
is_committed s code text holds members zero told = inl (record { holds = record { reads = holds; members = members }; status = zero; told = told })

-- a list with a member of none is not as it is to be
pub not_all_done : (trace : Trace) (listed : List ℕ) (lists : List Listing) (l : Listing) → IsDirtyList trace listed lists l → AllDone trace listed lists → ⊥
not_all_done trace listed lists l dirty all = dirty.none (all.each dirty.i l dirty.stands dirty.done dirty.j dirty.value dirty.at)

pub is_list_dirty : (s : Subject) (l : Listing) (code : ℕ) (text : List ℕ) → IsDirtyList s.trace s.listed s.lists l → code ≡ 7 → text ≡ not_committed_text (wrong_name Dirty) ++ wrong_read_text s.names s.attempts l.txn l.key → IsCommitted s code text
is_list_dirty s l code text dirty seven told = inr (inr (inr (record { list = l; dirty = dirty; refused = λ r. not_all_done s.trace s.listed s.lists l dirty r.members; status = seven; told = told })))

pub shows_committed : (s : Subject) (steps : List Step) (text : List ℕ) → text ≡ not_committed_text (anomaly_name (name_of steps)) ++ cycle_text s.names s.attempts steps → IsCommittedShown s text
shows_committed s steps text told = record { steps = steps; told = told }

pub is_committed_shown : (s : Subject) (code : ℕ) (text : List ℕ) → (CommittedReads s.trace → ⊥) → code ≡ 7 → IsCommittedShown s text → IsCommitted s code text
is_committed_shown s code text none seven told = inr (inl (record { refused = λ r. none r.reads; status = seven; told = told }))

pub is_wrong_committed : (s : Subject) (place code : ℕ) (text : List ℕ) → (CommittedReads s.trace → ⊥) → code ≡ 7 → text ≡ wrong_committed_text s place → IsCommitted s code text
is_wrong_committed s place code text none seven told = inr (inr (inl (record { place = place; refused = λ r. none r.reads; status = seven; told = told })))

-- ---- of what was recorded
pub of_index : (question : Question) (recorded : Recorded) (attempts : List Attempt) (trace : Trace) (times : List Times) (ranks : List Rank) (lists : List Listing) (code : ℕ) (text : List ℕ)
    → IsIndexOf recorded attempts trace times ranks lists → IsFound question (subject_of recorded attempts trace times ranks lists) code text → IsOfRecording question recorded code text
of_index question recorded attempts trace times ranks lists code text is found = inl (record { attempts = attempts; trace = trace; times = times; ranks = ranks; lists = lists; is = is; found = found })

pub of_blame : (question : Question) (recorded : Recorded) (txn member key value : ℕ) (what : Unclear) (code : ℕ) (text : List ℕ)
    → numbers_of recorded ≡ Err (record { txn = txn; member = member; key = key; value = value; what = what }) → code ≡ 3 → text ≡ unclear_text recorded.names (attempts_of recorded.events) txn member key value what
    → IsOfRecording question recorded code text
of_blame question recorded txn member key value what code text is three told =
    inr (record { blame = record { txn = txn; member = member; key = key; value = value; what = what }; unclear = is; status = three; told = told })

-- ---- of bytes
pub of_bytes : (question : Question) (bytes : List ℕ) (recorded : Recorded) (code : ℕ) (text : List ℕ) → trace_of bytes ≡ Ok recorded → IsOfRecording question recorded code text → IsRight question bytes code text
of_bytes question bytes recorded code text read said = inl (record { recorded = recorded; read = read; said = said })

pub not_read : (question : Question) (bytes : List ℕ) (line : ℕ) (want : Want) (code : ℕ) (text : List ℕ) → trace_of bytes ≡ Err (record { line = line; want = want }) → code ≡ 3 → text ≡ fault_text line want
    → IsRight question bytes code text
not_read question bytes line want code text is three told = inr (inl (record { line = line; want = want; wants = is; status = three; told = told }))
