-- Where a session stands since it asked for its commit.
use Rattle.log_refinement.proofs.Names.{◌≡◌, ℕ, Bool, true, false, List, [], ◌∷◌, ◌++◌, None, Some, ◌⊎◌, inl, inr, refl}
use Rattle.log_refinement.proofs.Names.{sym, ◌∙◌, ap, subst, same_Some, none-some, ◌∈◌, Cause, Session, Item, in_push}
use Rattle.log_refinement.proofs.Names.{SessionState, SessionEntry, aborted_by, Client, client_aborted, Ask, its_ask}
use Rattle.log_refinement.proofs.Names.{Opens, AllNot, Owes, ends_commit, EndsCommit, NoneEnds, EndsWith, IsAsked}
use Rattle.log_refinement.proofs.Names.{IsCommitting, TurnUndone, SessionTransition, Rests, AsksBegin, AsksCommit}
use Rattle.log_refinement.proofs.Names.{Begins, LosesBegin, Writes, Frees, Undoes, Hands, Commits, Refuses, LeavesOpen}
use Rattle.log_refinement.proofs.Names.{Vanishes, IsGone, leaves_cells}
use Rattle.history_book.specs.declared.cause.Cause.TheVariants as cause
use Rattle.history_book.specs.declared.item.Item.TheVariants as item
use Rattle.system_parts.specs.declared.session.State.TheVariants as phase
use Rattle.log_refinement.proofs.ItemLists.{none_append}

abbrev pub commit_ask : ℕ → ℕ → Ask
commit_ask n t = record { node = n; start = Some t }

-- ---- states
-- those since the ask: the commit is awaited, or over
abbrev pub of_commit : SessionState → Bool
of_commit phase.Asking = false
of_commit phase.Open = false
of_commit phase.Gone = false
of_commit _ = true

abbrev pub is_committing : SessionState → Bool
is_committing phase.Committing = true
is_committing phase.Placing = true
is_committing _ = false

-- those once the outcome was told to be open
abbrev pub after_open : SessionState → Bool
after_open phase.OpenOutcome = true
after_open (phase.Completing undo) = true
after_open phase.Free = true
after_open _ = false

-- those of a transaction that has ended without a commit
abbrev pub IsUndone : SessionState → Type 0
IsUndone state = (state ≡ phase.Completing true) ⊎ (state ≡ phase.Free)

undone_state : (old new : SessionEntry) → TurnUndone old new → IsUndone new.state
undone_state old new (inl undoes) = inl undoes.0
undone_state old new (inr free) = inr free

pub record Trail (s t : ℕ) (since : List Item) (c : Client) : Type 0 where
  pub state_is : of_commit c.entry.state ≡ true
  pub start_is : (c.entry.state ≡ phase.Free → ⊥) → c.entry.start ≡ Some t
  pub waits : is_committing c.entry.state ≡ true → NoneEnds s since

-- a state that the test refuses
pub clashes : (test : SessionState → Bool) (state other : SessionState) → test state ≡ true → state ≡ other → test other ≡ false → ⊥
clashes test state other holds is not = let clash : true ≡ false = sym holds ∙ (ap test is ∙ not) in absurd (cc)

pub not_begin : (h : List Item) (s n t : ℕ) → its_ask h s ≡ Some (commit_ask n t) → IsAsked h s None → ⊥
not_begin h s n t asked k =
    let same : commit_ask n t ≡ record { node = k.0; start = None } = same_Some _ _ (sym asked ∙ k.1) in
    let clash : Some t ≡ None = ap (λ (a : Ask). a.start) same in
    none-some t (sym clash)

opens_none : (s : ℕ) (x : Item) (items : List Item) → AllNot (Session s) items → items ≡ x ∷ [] → Opens (Session s) x → ⊥
unfolding AllNot
opens_none s x items none is opens = (subst (λ (xs : List Item). AllNot (Session s) xs) is none).0 opens

-- a transaction that ends without a commit is undone, or its session is free
pub record Undone (e d : SessionEntry) : Type 0 where
  pub state : IsUndone d.state
  pub start_is : (d.state ≡ phase.Free → ⊥) → d.start ≡ e.start

undone_by : (e : SessionEntry) (keys : List ℕ) → Undone e (aborted_by e keys)
undone_by e [] = record { state = inr refl; start_is = λ not. absurd (not refl) }
undone_by e (key ∷ keys) = record { state = inl refl; start_is = λ not. refl }

pub aborted_undone : (c d : Client) → d ≡ client_aborted c → Undone c.entry d.entry
aborted_undone c d is = subst (λ (e : SessionEntry). Undone c.entry e) (sym (ap (λ (x : Client). x.entry) is)) (undone_by c.entry c.entry.keys)

-- ---- one event later
trail_same : (s t : ℕ) (since items : List Item) (c d : Client) → Trail s t since c → d.entry ≡ c.entry → NoneEnds s items → Trail s t (since ++ items) d
trail_same s t since items c d k same none = record {
  state_is = ap (λ (e : SessionEntry). of_commit e.state) same ∙ k.state_is;
  start_is = λ not. ap (λ (e : SessionEntry). e.start) same ∙ k.start_is (λ free. not (ap (λ (e : SessionEntry). e.state) same ∙ free));
  waits = λ still. none_append (EndsCommit s) since items (k.waits (ap (λ (e : SessionEntry). is_committing e.state) (sym same) ∙ still)) none;
}

trail_over : (s t : ℕ) (since : List Item) (d : Client) (state : SessionState) → d.entry.state ≡ state → of_commit state ≡ true → is_committing state ≡ false → ((d.entry.state ≡ phase.Free → ⊥) → d.entry.start ≡ Some t) → Trail s t since d
trail_over s t since d state is of over start = record {
  state_is = ap of_commit is ∙ of;
  start_is = start;
  waits = λ still. let clash : true ≡ false = sym still ∙ (ap is_committing is ∙ over) in absurd (cc);
}

trail_free : (s t : ℕ) (since : List Item) (d : Client) → d.entry.state ≡ phase.Free → Trail s t since d
trail_free s t since d is = trail_over s t since d phase.Free is refl refl (λ not. absurd (not is))

trail_undone : (s t : ℕ) (since : List Item) (d : Client) → IsUndone d.entry.state → ((d.entry.state ≡ phase.Free → ⊥) → d.entry.start ≡ Some t) → Trail s t since d
trail_undone s t since d (inl undoes) start = trail_over s t since d (phase.Completing true) undoes refl refl start
trail_undone s t since d (inr free) start = trail_free s t since d free

-- a state that is not free
not_free : (c : Client) (state : SessionState) → c.entry.state ≡ state → (state ≡ phase.Free → ⊥) → c.entry.state ≡ phase.Free → ⊥
not_free c state is not free = not (sym is ∙ free)

committing_not_free : (h : List Item) (s t : ℕ) (c : Client) → IsCommitting h s t c → c.entry.state ≡ phase.Free → ⊥
committing_not_free h s t c k free = elim k.state [
  | inl committing ↦ let clash : phase.Committing ≡ phase.Free = sym committing ∙ free in absurd (cc)
  | inr placing ↦ let clash : phase.Placing ≡ phase.Free = sym placing ∙ free in absurd (cc)
]

pub trail_next : (s n t : ℕ) (h since items : List Item) (c d : Client) → its_ask h s ≡ Some (commit_ask n t) → AllNot (Session s) items → Trail s t since c → SessionTransition h s c items d → Trail s t (since ++ items) d
trail_next s n t h since items c d asked none k (Rests same quiet) = trail_same s t since items c d k same quiet
trail_next s n t h since items c d asked none k (AsksBegin node free now is) = absurd (opens_none s (item.AskBegin s node) items none is refl)
trail_next s n t h since items c d asked none k (AsksCommit node start was now old new is) = absurd (opens_none s (item.AskCommit s node start) items none is refl)
trail_next s n t h since items c d asked none k (Begins was now keys begun quiet) = absurd (not_begin h s n t asked begun)
trail_next s n t h since items c d asked none k (LosesBegin was now begun quiet) = absurd (not_begin h s n t asked begun)
trail_next s n t h since items c d asked none k (Writes start key value was wrote old is) = absurd (clashes of_commit c.entry.state phase.Open k.state_is was refl)
trail_next s n t h since items c d asked none k (Frees may free quiet) = trail_free s t (since ++ items) d free
trail_next s n t h since items c d asked none k (Undoes (inl was) undone quiet) = absurd (clashes of_commit c.entry.state phase.Open k.state_is was refl)
trail_next s n t h since items c d asked none k (Undoes (inr was) (inl undoes) quiet) =
    trail_over s t (since ++ items) d (phase.Completing true) undoes.0 refl refl (λ not. undoes.1 ∙ k.start_is (not_free c phase.OpenOutcome was (λ is. cc)))
trail_next s n t h since items c d asked none k (Undoes (inr was) (inr free) quiet) = trail_free s t (since ++ items) d free
trail_next s n t h since items c d asked none k (Hands was now start quiet) = record {
  state_is = ap of_commit now;
  start_is = λ not. start ∙ k.start_is (not_free c phase.Committing was (λ is. cc));
  waits = λ still. none_append (EndsCommit s) since items (k.waits (ap is_committing was)) quiet;
}
trail_next s n t h since items c d asked none k (Commits start commit (inl may) ends is) =
    trail_over s t (since ++ items) d (phase.Completing false) (ap (λ (x : Client). x.entry.state) is) refl refl (λ not. ap (λ (x : Client). x.entry.start) is ∙ k.start_is (committing_not_free h s start c may))
trail_next s n t h since items c d asked none k (Commits start commit (inr may) ends is) =
    trail_over s t (since ++ items) d (phase.Completing false) (ap (λ (x : Client). x.entry.state) is) refl refl (λ not. ap (λ (x : Client). x.entry.start) is ∙ k.start_is (not_free c phase.OpenOutcome may.0 (λ is. cc)))
trail_next s n t h since items c d asked none k (Refuses start why may leaves ends is) =
    let undone : Undone c.entry d.entry = aborted_undone c d is in
    trail_undone s t (since ++ items) d undone.state (λ not. undone.start_is not ∙ k.start_is (committing_not_free h s start c may))
trail_next s n t h since items c d asked none k (LeavesOpen start may m quiet is) =
    trail_over s t (since ++ items) d phase.OpenOutcome (ap (λ (x : Client). x.entry.state) is) refl refl (λ not. ap (λ (x : Client). x.entry.start) is ∙ k.start_is (committing_not_free h s start c may))
trail_next s n t h since items c d asked none k (Vanishes now is) = absurd (opens_none s (item.Vanish s) items none is refl)
trail_next s n t h since items c d asked none k (IsGone gone same) = absurd (clashes of_commit c.entry.state phase.Gone k.state_is gone refl)

-- ---- what a turn tells, by where it starts
pub leaves_ends : (why : Cause) → leaves_cells why ≡ true → ends_commit why ≡ true
leaves_ends (cause.Open start) is = refl
leaves_ends _ is = is

-- a refusal that leaves cells is told to one that waits for its commit, as the last item, and its transaction is undone
pub record IsRefused (s : ℕ) (c : Client) (items : List Item) (d : Client) : Type 0 where
  pub was : is_committing c.entry.state ≡ true
  pub why : Cause
  pub leaves : leaves_cells why ≡ true
  pub ends : EndsWith s (item.Refused (Session s) why) items
  pub undone : IsUndone d.entry.state

was_committing : (h : List Item) (s t : ℕ) (c : Client) → IsCommitting h s t c → is_committing c.entry.state ≡ true
was_committing h s t c k = elim k.state [ inl committing ↦ ap is_committing committing | inr placing ↦ ap is_committing placing ]

only_refused : (s : ℕ) (why : Cause) (x : Item) (items : List Item) → items ≡ x ∷ [] → item.Refused (Session s) why ∈ items → (item.Refused (Session s) why ≡ x → ⊥) → ⊥
unfolding ◌∈◌
only_refused s why x items is m not = elim (subst (λ (xs : List Item). item.Refused (Session s) why ∈ xs) is m) [ inl same ↦ not same | inr none ↦ none ]

pub refused_turn : (s n t : ℕ) (h since items : List Item) (c d : Client) (why : Cause) → its_ask h s ≡ Some (commit_ask n t) → Trail s t since c → SessionTransition h s c items d → item.Refused (Session s) why ∈ items → leaves_cells why ≡ true → IsRefused s c items d
refused_turn s n t h since items c d why asked k (Rests same quiet) m leaves = absurd (quiet (item.Refused (Session s) why) m (refl, leaves_ends why leaves))
refused_turn s n t h since items c d why asked k (AsksBegin node free now is) m leaves = absurd (only_refused s why (item.AskBegin s node) items is m (λ same. cc))
refused_turn s n t h since items c d why asked k (AsksCommit node start was now old new is) m leaves = absurd (only_refused s why (item.AskCommit s node start) items is m (λ same. cc))
refused_turn s n t h since items c d why asked k (Begins was now keys begun quiet) m leaves = absurd (not_begin h s n t asked begun)
refused_turn s n t h since items c d why asked k (LosesBegin was now begun quiet) m leaves = absurd (not_begin h s n t asked begun)
refused_turn s n t h since items c d why asked k (Writes start key value was wrote old is) m leaves = absurd (clashes of_commit c.entry.state phase.Open k.state_is was refl)
refused_turn s n t h since items c d why asked k (Frees may free quiet) m leaves = absurd (quiet (item.Refused (Session s) why) m (refl, leaves_ends why leaves))
refused_turn s n t h since items c d why asked k (Undoes was undone quiet) m leaves = absurd (quiet (item.Refused (Session s) why) m (refl, leaves_ends why leaves))
refused_turn s n t h since items c d why asked k (Hands was now start quiet) m leaves = absurd (quiet (item.Refused (Session s) why) m (refl, leaves_ends why leaves))
refused_turn s n t h since items c d why asked k (Commits start commit may ends is) m leaves = elim (in_push (item.Refused (Session s) why) (item.Committed s start commit) ends.front (subst (λ (xs : List Item). item.Refused (Session s) why ∈ xs) ends.is m)) [
  | inl front ↦ absurd (ends.none (item.Refused (Session s) why) front (refl, leaves_ends why leaves))
  | inr same ↦ absurd (let clash : item.Refused (Session s) why ≡ item.Committed s start commit = same in cc)
]
refused_turn s n t h since items c d why asked k (Refuses start other may leaves ends is) m mine = record { was = was_committing h s start c may; why = other; leaves = leaves; ends = ends; undone = (aborted_undone c d is).state }
refused_turn s n t h since items c d why asked k (LeavesOpen start may told quiet is) m leaves = absurd (quiet (item.Refused (Session s) why) m (refl, leaves))
refused_turn s n t h since items c d why asked k (Vanishes now is) m leaves = absurd (only_refused s why (item.Vanish s) items is m (λ same. cc))
refused_turn s n t h since items c d why asked k (IsGone gone same) m leaves = absurd (clashes of_commit c.entry.state phase.Gone k.state_is gone refl)

-- that the outcome is open is told to one that waits, who is told nothing else of it then
pub record IsOpened (s : ℕ) (c : Client) (items : List Item) (d : Client) : Type 0 where
  pub was : is_committing c.entry.state ≡ true
  pub none : (x : Item) → x ∈ items → Owes s x → ⊥
  pub opened : d.entry.state ≡ phase.OpenOutcome

pub opened_turn : (s n t u : ℕ) (h since items : List Item) (c d : Client) → its_ask h s ≡ Some (commit_ask n t) → Trail s t since c → SessionTransition h s c items d → item.Refused (Session s) (cause.Open u) ∈ items → IsOpened s c items d
opened_turn s n t u h since items c d asked k (Rests same quiet) m = absurd (quiet (item.Refused (Session s) (cause.Open u)) m (refl, refl))
opened_turn s n t u h since items c d asked k (AsksBegin node free now is) m = absurd (only_refused s (cause.Open u) (item.AskBegin s node) items is m (λ same. cc))
opened_turn s n t u h since items c d asked k (AsksCommit node start was now old new is) m = absurd (only_refused s (cause.Open u) (item.AskCommit s node start) items is m (λ same. cc))
opened_turn s n t u h since items c d asked k (Begins was now keys begun quiet) m = absurd (not_begin h s n t asked begun)
opened_turn s n t u h since items c d asked k (LosesBegin was now begun quiet) m = absurd (not_begin h s n t asked begun)
opened_turn s n t u h since items c d asked k (Writes start key value was wrote old is) m = absurd (clashes of_commit c.entry.state phase.Open k.state_is was refl)
opened_turn s n t u h since items c d asked k (Frees may free quiet) m = absurd (quiet (item.Refused (Session s) (cause.Open u)) m (refl, refl))
opened_turn s n t u h since items c d asked k (Undoes was undone quiet) m = absurd (quiet (item.Refused (Session s) (cause.Open u)) m (refl, refl))
opened_turn s n t u h since items c d asked k (Hands was now start quiet) m = absurd (quiet (item.Refused (Session s) (cause.Open u)) m (refl, refl))
opened_turn s n t u h since items c d asked k (Commits start commit may ends is) m = elim (in_push (item.Refused (Session s) (cause.Open u)) (item.Committed s start commit) ends.front (subst (λ (xs : List Item). item.Refused (Session s) (cause.Open u) ∈ xs) ends.is m)) [
  | inl front ↦ absurd (ends.none (item.Refused (Session s) (cause.Open u)) front (refl, refl))
  | inr same ↦ absurd (let clash : item.Refused (Session s) (cause.Open u) ≡ item.Committed s start commit = same in cc)
]
opened_turn s n t u h since items c d asked k (Refuses start why may leaves ends is) m = elim (in_push (item.Refused (Session s) (cause.Open u)) (item.Refused (Session s) why) ends.front (subst (λ (xs : List Item). item.Refused (Session s) (cause.Open u) ∈ xs) ends.is m)) [
  | inl front ↦ absurd (ends.none (item.Refused (Session s) (cause.Open u)) front (refl, refl))
  | inr same ↦ absurd (let which : cause.Open u ≡ why = cc in let clash : false ≡ true = ap leaves_cells which ∙ leaves in cc)
]
opened_turn s n t u h since items c d asked k (LeavesOpen start may told quiet is) m = record { was = was_committing h s start c may; none = quiet; opened = ap (λ (x : Client). x.entry.state) is }
opened_turn s n t u h since items c d asked k (Vanishes now is) m = absurd (only_refused s (cause.Open u) (item.Vanish s) items is m (λ same. cc))
opened_turn s n t u h since items c d asked k (IsGone gone same) m = absurd (clashes of_commit c.entry.state phase.Gone k.state_is gone refl)

-- ---- one whose transaction is undone or over is told nothing more
still_undone : (c d : Client) → d.entry ≡ c.entry → IsUndone c.entry.state → IsUndone d.entry.state
still_undone c d same (inl undoes) = inl (ap (λ (e : SessionEntry). e.state) same ∙ undoes)
still_undone c d same (inr free) = inr (ap (λ (e : SessionEntry). e.state) same ∙ free)

undone_not : (test : SessionState → Bool) (c : Client) → IsUndone c.entry.state → test (phase.Completing true) ≡ false → test phase.Free ≡ false → test c.entry.state ≡ true → ⊥
undone_not test c (inl undoes) first rest holds = clashes test c.entry.state (phase.Completing true) holds undoes first
undone_not test c (inr free) first rest holds = clashes test c.entry.state phase.Free holds free rest

abbrev is_open_outcome : SessionState → Bool
is_open_outcome phase.OpenOutcome = true
is_open_outcome _ = false

pub undone_turn : (s n t : ℕ) (h since items : List Item) (c d : Client) → its_ask h s ≡ Some (commit_ask n t) → AllNot (Session s) items → Trail s t since c → IsUndone c.entry.state → SessionTransition h s c items d → IsUndone d.entry.state × NoneEnds s items
undone_turn s n t h since items c d asked none k was (Rests same quiet) = (still_undone c d same was, quiet)
undone_turn s n t h since items c d asked none k was (AsksBegin node free now is) = absurd (opens_none s (item.AskBegin s node) items none is refl)
undone_turn s n t h since items c d asked none k was (AsksCommit node start opened now old new is) = absurd (opens_none s (item.AskCommit s node start) items none is refl)
undone_turn s n t h since items c d asked none k was (Begins asking now keys begun quiet) = absurd (not_begin h s n t asked begun)
undone_turn s n t h since items c d asked none k was (LosesBegin asking now begun quiet) = absurd (not_begin h s n t asked begun)
undone_turn s n t h since items c d asked none k was (Writes start key value opened wrote old is) = absurd (clashes of_commit c.entry.state phase.Open k.state_is opened refl)
undone_turn s n t h since items c d asked none k was (Frees may free quiet) = (inr free, quiet)
undone_turn s n t h since items c d asked none k was (Undoes opened undone quiet) = (undone_state c.entry d.entry undone, quiet)
undone_turn s n t h since items c d asked none k was (Hands committing now start quiet) = absurd (undone_not is_committing c was refl refl (ap is_committing committing))
undone_turn s n t h since items c d asked none k was (Commits start commit (inl may) ends is) = absurd (undone_not is_committing c was refl refl (was_committing h s start c may))
undone_turn s n t h since items c d asked none k was (Commits start commit (inr may) ends is) = absurd (undone_not is_open_outcome c was refl refl (ap is_open_outcome may.0))
undone_turn s n t h since items c d asked none k was (Refuses start why may leaves ends is) = absurd (undone_not is_committing c was refl refl (was_committing h s start c may))
undone_turn s n t h since items c d asked none k was (LeavesOpen start may m quiet is) = absurd (undone_not is_committing c was refl refl (was_committing h s start c may))
undone_turn s n t h since items c d asked none k was (Vanishes now is) = absurd (opens_none s (item.Vanish s) items none is refl)
undone_turn s n t h since items c d asked none k was (IsGone gone same) = absurd (clashes of_commit c.entry.state phase.Gone k.state_is gone refl)

-- ---- a free one stays free
pub free_turn : (s n t : ℕ) (h since items : List Item) (c d : Client) → its_ask h s ≡ Some (commit_ask n t) → AllNot (Session s) items → Trail s t since c → c.entry.state ≡ phase.Free → SessionTransition h s c items d → (d.entry.state ≡ phase.Free) × NoneEnds s items
free_turn s n t h since items c d asked none k was (Rests same quiet) = (ap (λ (e : SessionEntry). e.state) same ∙ was, quiet)
free_turn s n t h since items c d asked none k was (AsksBegin node free now is) = absurd (opens_none s (item.AskBegin s node) items none is refl)
free_turn s n t h since items c d asked none k was (AsksCommit node start opened now old new is) = absurd (opens_none s (item.AskCommit s node start) items none is refl)
free_turn s n t h since items c d asked none k was (Begins asking now keys begun quiet) = absurd (not_begin h s n t asked begun)
free_turn s n t h since items c d asked none k was (LosesBegin asking now begun quiet) = absurd (not_begin h s n t asked begun)
free_turn s n t h since items c d asked none k was (Writes start key value opened wrote old is) = absurd (clashes of_commit c.entry.state phase.Open k.state_is opened refl)
free_turn s n t h since items c d asked none k was (Frees may free quiet) = (free, quiet)
free_turn s n t h since items c d asked none k was (Undoes (inl opened) undone quiet) = absurd (clashes of_commit c.entry.state phase.Open k.state_is opened refl)
free_turn s n t h since items c d asked none k was (Undoes (inr opened) undone quiet) = absurd (undone_not is_open_outcome c (inr was) refl refl (ap is_open_outcome opened))
free_turn s n t h since items c d asked none k was (Hands committing now start quiet) = absurd (undone_not is_committing c (inr was) refl refl (ap is_committing committing))
free_turn s n t h since items c d asked none k was (Commits start commit (inl may) ends is) = absurd (undone_not is_committing c (inr was) refl refl (was_committing h s start c may))
free_turn s n t h since items c d asked none k was (Commits start commit (inr may) ends is) = absurd (undone_not is_open_outcome c (inr was) refl refl (ap is_open_outcome may.0))
free_turn s n t h since items c d asked none k was (Refuses start why may leaves ends is) = absurd (undone_not is_committing c (inr was) refl refl (was_committing h s start c may))
free_turn s n t h since items c d asked none k was (LeavesOpen start may m quiet is) = absurd (undone_not is_committing c (inr was) refl refl (was_committing h s start c may))
free_turn s n t h since items c d asked none k was (Vanishes now is) = absurd (opens_none s (item.Vanish s) items none is refl)
free_turn s n t h since items c d asked none k was (IsGone gone same) = absurd (clashes of_commit c.entry.state phase.Gone k.state_is gone refl)

-- ---- once the outcome was told to be open, no refusal is told that leaves cells
abbrev pub NoLeaving : ℕ → List Item → Type 0
NoLeaving s items = (why : Cause) → item.Refused (Session s) why ∈ items → leaves_cells why ≡ true → ⊥

undone_after : (state : SessionState) → IsUndone state → after_open state ≡ true
undone_after state (inl is) = ap after_open is
undone_after state (inr is) = ap after_open is

quiet_leaving : (s : ℕ) (items : List Item) → NoneEnds s items → NoLeaving s items
quiet_leaving s items quiet why m leaves = quiet (item.Refused (Session s) why) m (refl, leaves_ends why leaves)

committing_after : (state : SessionState) → after_open state ≡ true → is_committing state ≡ false
committing_after phase.OpenOutcome is = refl
committing_after (phase.Completing undo) is = refl
committing_after phase.Free is = refl
committing_after _ is = absurd (cc)

pub open_turn : (s n t : ℕ) (h since items : List Item) (c d : Client) → its_ask h s ≡ Some (commit_ask n t) → AllNot (Session s) items → Trail s t since c → after_open c.entry.state ≡ true → SessionTransition h s c items d → (after_open d.entry.state ≡ true) × NoLeaving s items
open_turn s n t h since items c d asked none k was (Rests same quiet) = (ap (λ (e : SessionEntry). after_open e.state) same ∙ was, quiet_leaving s items quiet)
open_turn s n t h since items c d asked none k was (Frees may free quiet) = (ap after_open free, quiet_leaving s items quiet)
open_turn s n t h since items c d asked none k was (Undoes opened undone quiet) = (undone_after d.entry.state (undone_state c.entry d.entry undone), quiet_leaving s items quiet)
open_turn s n t h since items c d asked none k was (Commits start commit may ends is) = (
  ap (λ (x : Client). after_open x.entry.state) is,
  λ why m leaves.
      let refused : IsRefused s c items d = refused_turn s n t h since items c d why asked k (Commits start commit may ends is) m leaves in
      let clash : true ≡ false = sym refused.was ∙ committing_after c.entry.state was in absurd (cc),
)
open_turn s n t h since items c d asked none k was (AsksBegin node free now is) = absurd (opens_none s (item.AskBegin s node) items none is refl)
open_turn s n t h since items c d asked none k was (AsksCommit node start opened now old new is) = absurd (opens_none s (item.AskCommit s node start) items none is refl)
open_turn s n t h since items c d asked none k was (Begins asking now keys begun quiet) = absurd (not_begin h s n t asked begun)
open_turn s n t h since items c d asked none k was (LosesBegin asking now begun quiet) = absurd (not_begin h s n t asked begun)
open_turn s n t h since items c d asked none k was (Writes start key value opened wrote old is) = absurd (clashes of_commit c.entry.state phase.Open k.state_is opened refl)
open_turn s n t h since items c d asked none k was (Hands committing now start quiet) = absurd (let clash : true ≡ false = sym (ap is_committing committing) ∙ committing_after c.entry.state was in cc)
open_turn s n t h since items c d asked none k was (Refuses start why may leaves ends is) = absurd (let clash : true ≡ false = sym (was_committing h s start c may) ∙ committing_after c.entry.state was in cc)
open_turn s n t h since items c d asked none k was (LeavesOpen start may m quiet is) = absurd (let clash : true ≡ false = sym (was_committing h s start c may) ∙ committing_after c.entry.state was in cc)
open_turn s n t h since items c d asked none k was (Vanishes now is) = absurd (opens_none s (item.Vanish s) items none is refl)
open_turn s n t h since items c d asked none k was (IsGone gone same) = absurd (clashes of_commit c.entry.state phase.Gone k.state_is gone refl)
