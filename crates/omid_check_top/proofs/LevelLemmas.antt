-- What is said of all levels, line by line.
use Rattle.std.proofs.Common.{◌≡◌, ◌≢◌, ℕ, List, [], ◌∷◌, ◌++◌, sym, subst, ◌∙◌, inl, inr, append_assoc}
use Rattle.trace_rules.specs.declared.wanted.Level.{Level}
use Rattle.trace_rules.specs.declared.wanted.Wanted.{Wanted}
use Rattle.trace_rules.specs.declared.wanted.Wanted.TheVariants.{Nothing, Sessions, RealTime}
use Rattle.committed_reads.specs.Committed.{CommittedReads}
use Rattle.list_orders.specs.declared.listing.Listing.{Listing}
use Rattle.list_ranks.specs.declared.wrong.WrongList.{WrongList}
use Rattle.list_ranks.specs.Told.{AllDone, IsDirtyList}
use Rattle.list_ranks.specs.Wrong.{IsWrong}
use Rattle.omid_check_top.specs.declared.levels.Grade.{Grade}
use Rattle.omid_check_top.specs.declared.levels.Grade.TheVariants.{AtLevel, OfReads}
use Rattle.omid_check_top.specs.Levels.{AreLevels, AreSaid, Holding, IsStatus, NoneSaid, Other, line_of, ranked, with_orders}
use Rattle.omid_check_top.specs.Findings.{HasNumbers, NotAsAsked}
use Rattle.omid_check_top.specs.Subject.{Subject}
use Rattle.omid_check_top.specs.Verdicts.{IsVerdict}
use Rattle.omid_check_top.proofs.FindingLemmas.{as_asked}
use Rattle.omid_check_top.proofs.MadeLemmas.{not_all_done}

-- ---- the status of a level
module _ (level : Level) (wanted : Wanted) (s : Subject) (code : ℕ) where
  pub level_holds : (numbers : List ℕ) → HasNumbers level wanted s numbers → code ≡ 0 → IsStatus (AtLevel level wanted) s code
  level_holds numbers has zero = inl (zero, as_asked level wanted s numbers has)

  pub level_fails : NotAsAsked level wanted s → code ≡ 7 → IsStatus (AtLevel level wanted) s code
  level_fails none seven = inr (inl (seven, none))

  pub level_list_fails : (wrong : WrongList) → IsWrong s.trace s.listed s.lists wrong × NotAsAsked level wanted s → code ≡ 7 → IsStatus (AtLevel level wanted) s code
  level_list_fails wrong both seven = inr (inl (seven, both.1))

  pub level_is_open : code ≡ 8 → IsStatus (AtLevel level wanted) s code
  level_is_open eight = inr (inr eight)

module _ (s : Subject) (code : ℕ) where
  pub reads_hold : CommittedReads s.trace → AllDone s.trace s.listed s.lists → code ≡ 0 → IsStatus OfReads s code
  reads_hold holds members zero = inl (zero, record { reads = holds; members = members })

  pub reads_fail : (CommittedReads s.trace → ⊥) → code ≡ 7 → IsStatus OfReads s code
  reads_fail none seven = inr (seven, λ r. none r.reads)

  pub members_fail : (l : Listing) → IsDirtyList s.trace s.listed s.lists l → code ≡ 7 → IsStatus OfReads s code
  members_fail l dirty seven = inr (seven, λ r. not_all_done s.trace s.listed s.lists l dirty r.members)

  pub reads_end : IsStatus OfReads s code → IsVerdict code
  reads_end (inl (zero, holds)) = inl (inl zero)
  reads_end (inr (seven, none)) = inl (inr (inl seven))

-- ---- a line more
module _ (s : Subject) (grades : List Grade) (grade : Grade) (code : ℕ) where
  pub holding_more : (old new others : List ℕ) → code ≡ 0 → new ≡ old ++ line_of grade code → IsStatus grade s code → AreSaid s grades old others → AreSaid s (grades ++ grade ∷ []) new others
  holding_more old new others zero is status said =
      subst (λ (xs : List ℕ). AreSaid s (grades ++ grade ∷ []) xs others) (sym is)
      (subst (λ (n : ℕ). AreSaid s (grades ++ grade ∷ []) (old ++ line_of grade n) others) (sym zero)
      (Holding grade (subst (λ (n : ℕ). IsStatus grade s n) zero status) said))

  pub others_more : (holding old new : List ℕ) → code ≢ 0 → new ≡ old ++ line_of grade code → IsStatus grade s code → AreSaid s grades holding old → AreSaid s (grades ++ grade ∷ []) holding new
  others_more holding old new other is status said =
      subst (λ (xs : List ℕ). AreSaid s (grades ++ grade ∷ []) holding xs) (sym is) (Other grade code other status said)

-- ---- all lines
module _ (s : Subject) where
  pub none_said : (holding others : List ℕ) → holding ≡ [] → others ≡ [] → AreSaid s [] holding others
  none_said holding others none empty =
      subst (λ (xs : List ℕ). AreSaid s [] xs others) (sym none) (subst (λ (xs : List ℕ). AreSaid s [] [] xs) (sym empty) NoneSaid)

  pub orders_said : (level : Level) (grades : List Grade) (holding others : List ℕ)
      → AreSaid s (((grades ++ AtLevel level RealTime ∷ []) ++ AtLevel level Sessions ∷ []) ++ AtLevel level Nothing ∷ []) holding others → AreSaid s (grades ++ with_orders level) holding others
  orders_said level grades holding others said =
      let first : List Grade = AtLevel level RealTime ∷ [] in
      let second : List Grade = AtLevel level Sessions ∷ [] in
      let third : List Grade = AtLevel level Nothing ∷ [] in
      subst (λ (gs : List Grade). AreSaid s gs holding others) (append_assoc (grades ++ first) second third ∙ append_assoc grades first (second ++ third)) said

  pub all_said : (holding others text : List ℕ) (code : ℕ) → AreSaid s ranked holding others → text ≡ holding ++ others → IsStatus OfReads s code → AreLevels s code text
  all_said holding others text code said told status = record { holding = holding; others = others; said = said; told = told; status = status }
