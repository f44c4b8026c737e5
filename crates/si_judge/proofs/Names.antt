-- The names of other crates and of the specs that this crate's proofs cite.
pub use Rattle.history_book.proofs.MemberLemmas.{in_at}
unfoldable pub use Rattle.history_book.specs.Isolation.{before_ask, has_ask, last_write}
pub use Rattle.history_book.specs.Isolation.{Apart, Committed, Isolated, Newest, RightRead, Stamped, Visible, Wrote, asks, written_by}
unfoldable pub use Rattle.history_book.specs.Members.{◌∈◌}
pub use Rattle.history_book.specs.Members.{AtEach}
pub use Rattle.history_book.specs.declared.item.Item.{Item}
pub use Rattle.history_book.specs.declared.item.Item.TheVariants.{AskBegin, Begin, Placed, Write}
pub use Rattle.isolation_rules.proofs.KeyLemmas.{and_parts, any_is_shared, any_writes, shared_any}
pub use Rattle.isolation_rules.proofs.PlaceLemmas.{and_some, both_at, in_take, length_take_within, one_at, place_of, some_and}
pub use Rattle.isolation_rules.proofs.StampedLaw.{kept_stamped, stamped_kept}
pub use Rattle.isolation_rules.proofs.WalkLemmas.{all_kept, passes_no}
pub use Rattle.isolation_rules.proofs.WriteLemmas.{any_listed, last_write_at, listed_any}
pub use Rattle.isolation_rules.specs.ApartPairs.{BreaksApart, Overlap, Overlapping, OverlapsPlaced, ShareKey, writes, writes_shared}
pub use Rattle.isolation_rules.specs.Best.{IsOwn, IsWritten, lists}
pub use Rattle.isolation_rules.specs.FreshPairs.{BreaksFresh, IsStale, IsStaleAt, ask_place}
pub use Rattle.isolation_rules.specs.Judged.{AllRight, IsEarlierKept, IsJudged, IsKept, IsSecond, Passes, turn}
pub use Rattle.isolation_rules.specs.ReadPairs.{AnswersAt, BreaksRead, IsLastWrite, written_at}
pub use Rattle.isolation_rules.specs.declared.verdict.Rule.{Rule}
pub use Rattle.isolation_rules.specs.declared.version.Version.{Version}
pub use Rattle.si_judge.specs.AskStarts.{AreLastAsks, HasStarts, HoldsStart, IsBelow, IsLastAsk, IsNotAbove}
pub use Rattle.si_judge.specs.Commits.{Commits, HasCommits, NotesCommit, commit_at, commit_of}
pub use Rattle.si_judge.specs.Indexed.{HasLastWrites, HasListed, HasVersions, LastWrites, Txns, pair_cmp, pair_eq}
pub use Rattle.si_judge.specs.Marks.{IsMarked, KeepsMarks}
pub use Rattle.si_judge.specs.OverlapIndex.{HasReached, HasWrite, HasWrites, KeepsWrites, MarksAll, MarksOverlaps, MarksOwn, Written}
pub use Rattle.si_judge.specs.Sharers.{HasKeys, HasSharers}
pub use Rattle.si_judge.specs.Turns.{AreApart, IsNext, IsTold, IsTurn, IsWriter, TakeTurns, writer_at}
pub use Rattle.si_judge.specs.declared.commits.Commit.{Commit}
pub use Rattle.std.proofs.Common.{Bool, IfSome, IsSome, IsSomeAnd, List, MatchOption, None, Option, Some, [], ap, arith, cond, drop, false, get_or, if◌then◌else◌, inl, inr, is_some, length, length-append, length-take, not, refl, replicate, slice_get, slice_index_or, subst, suc, sym, take, true, unwrap_or, zero, ℕ, ◌&&◌, ◌++◌, ◌+◌, ◌-◌, ◌<◌, ◌==◌, ◌||◌, ◌∙◌, ◌∷◌, ◌≡◌, ◌≢◌, ◌≤◌, ◌⊎◌}
pub use Rattle.std.proofs.Math.ListN.{set}
pub use Rattle.std.proofs.lemmas.Bool.{cases_eq, cases_lt, eq-eqb, eqb-true, false≢true, or_cases}
pub use Rattle.std.proofs.lemmas.Bool.Decides.{nat_tests}
pub use Rattle.std.proofs.lemmas.List.{get_or-replicate, get_or-set_other, get_or-set_same, get_or_read, length-replicate, length-set, length-take-le, take_at}
pub use Rattle.std.proofs.lemmas.Option.{same_Some, slice_get_read, slice_get_within}
pub use Rattle.std.specs.BTreeMap.{BTreeMap, get, is_at}
pub use Rattle.std.specs.BTreeMap.Range.{IsInRange, entries_between, range_contains}
pub use Rattle.std.specs.HashMap.{IsEmpty}
pub use Rattle.std.specs.HashSet.{Updates, contains}
pub use Rattle.std.specs.List.{filter, list_any}
pub use Rattle.std.specs.Option.{option_copied, option_or}
pub use Rattle.std.specs.Ordering.{is_lt, nat_cmp}
pub use Rattle.std.specs.Prelude.{nat_eq, vec_len}
pub use Rattle.std.specs.declared.ops.Bound.TheVariants.{Excluded, Included, Unbounded}
