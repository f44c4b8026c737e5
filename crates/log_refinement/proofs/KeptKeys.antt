-- The log of a session has the keys that its open transaction wrote.
use Rattle.log_refinement.proofs.Names.{◌≡◌, ℕ, ◌==◌, Bool, true, false, ◌||◌, if◌then◌else◌, List, [], ◌∷◌, ◌++◌, ◌⊎◌}
use Rattle.log_refinement.proofs.Names.{inl, inr, refl, sym, ◌∙◌, ap, subst, list_any, eqb-true, ◌∈◌, Actor, Session}
use Rattle.log_refinement.proofs.Names.{Item, in_front, in_last, in_push, SessionState, SessionEntry, has_key, Client}
use Rattle.log_refinement.proofs.Names.{State, Verb, ClientAt, ExplainedInvariant, TurnUndone, SessionTransition, Rests}
use Rattle.log_refinement.proofs.Names.{AsksBegin, AsksCommit, Begins, LosesBegin, Writes, Frees, Undoes, Hands}
use Rattle.log_refinement.proofs.Names.{Commits, Refuses, LeavesOpen, Vanishes, IsGone, TakesAsks, with_key}
use Rattle.log_refinement.proofs.Names.{written_after, Standing, standing_with, with_item, with_items, owed_first}
use Rattle.log_refinement.proofs.Names.{opened}
use Rattle.history_book.specs.declared.item.Item.TheVariants as item
use Rattle.system_parts.specs.declared.session.State.TheVariants as phase
use Rattle.log_refinement.proofs.AskFacts.{MachineLaws, same_self}
use Rattle.log_refinement.proofs.CommitTrails.{aborted_undone, IsUndone}
use Rattle.log_refinement.proofs.Moves.{Move, items_of, state_after}

-- ---- the keys in the log
abbrev pub NoneBegins : ℕ → List Item → Type 0
NoneBegins s items = (node : ℕ) → item.AskBegin s node ∈ items → ⊥

with_there : (keys : List ℕ) (key k : ℕ) (there : Bool) → k ∈ keys → k ∈ (if there then keys else keys ++ key ∷ [])
with_there keys key k true m = m
with_there keys key k false m = in_front k keys (key ∷ []) m

-- it keeps the keys that it has, until the session asks for a begin
pub key_stays : (keys : List ℕ) (key k : ℕ) → k ∈ keys → k ∈ with_key keys key
key_stays keys key k m = with_there keys key k (list_any (λ q. q == key) keys) m

writes_stays : (written : List ℕ) (k key : ℕ) (mine : Bool) → key ∈ written → key ∈ (if mine then with_key written k else written)
writes_stays written k key true m = key_stays written k key m
writes_stays written k key false m = m

begins_other : (s session node : ℕ) (written : List ℕ) (key : ℕ) → (item.AskBegin session node ≡ item.AskBegin s node → ⊥) → (mine : Bool) → (session == s) ≡ mine → key ∈ written → key ∈ (if mine then [] else written)
begins_other s session node written key not true is m = absurd (not (ap (λ (q : ℕ). item.AskBegin q node) (eqb-true session s is)))
begins_other s session node written key not false is m = m

pub stays_written : (s : ℕ) (written : List ℕ) (x : Item) (key : ℕ) → ((node : ℕ) → x ≡ item.AskBegin s node → ⊥) → key ∈ written → key ∈ written_after (Session s) written x
stays_written s written (item.AskBegin session node) key not m = begins_other s session node written key (not node) (session == s) refl m
stays_written s written (item.Write session start k value) key not m = writes_stays written k key (session == s) m
stays_written s written _ key not m = m

-- and it takes what is written
any_by : (keys : List ℕ) (key q : ℕ) (here : Bool) → (q == key) ≡ here → (here || list_any (λ z. z == key) keys) ≡ true → (list_any (λ z. z == key) keys ≡ true → key ∈ keys) → (key ≡ q) ⊎ (key ∈ keys)
any_by keys key q true is some later = inl (sym (eqb-true q key is))
any_by keys key q false is some later = inr (later some)

any_has : (keys : List ℕ) (key : ℕ) → list_any (λ q. q == key) keys ≡ true → key ∈ keys
unfolding ◌∈◌
any_has [] key is = absurd (cc)
any_has (q ∷ keys) key is = any_by keys key q (q == key) refl is (any_has keys key)

with_new : (keys : List ℕ) (key : ℕ) (there : Bool) → list_any (λ q. q == key) keys ≡ there → key ∈ (if there then keys else keys ++ key ∷ [])
with_new keys key true is = any_has keys key is
with_new keys key false is = in_last key keys

key_taken : (keys : List ℕ) (key : ℕ) → key ∈ with_key keys key
key_taken keys key = with_new keys key (list_any (λ q. q == key) keys) refl

self_taken : (s : ℕ) (written : List ℕ) (start key : ℕ) (value : List ℕ) → key ∈ written_after (Session s) written (item.Write s start key value)
self_taken s written start key value = subst (λ (b : Bool). key ∈ (if b then with_key written key else written)) (sym (same_self s)) (key_taken written key)

-- ---- all items of an own event
pub items_keep : (s : ℕ) (steps : Bool) (st : Standing) (xs : List Item) (key : ℕ) → NoneBegins s xs → key ∈ st.written → key ∈ (with_items (Session s) steps st xs).written
unfolding with_items ◌∈◌
items_keep s steps st [] key none m = m
items_keep s steps st (x ∷ xs) key none m = items_keep s steps (with_item (Session s) steps st x) xs key (λ node there. none node (inr there)) (stays_written s st.written x key (λ node is. none node (inl (sym is))) m)

pub items_take : (s : ℕ) (steps : Bool) (st : Standing) (xs : List Item) (start key : ℕ) (value : List ℕ) → NoneBegins s xs → item.Write s start key value ∈ xs → key ∈ (with_items (Session s) steps st xs).written
unfolding with_items ◌∈◌
items_take s steps st [] start key value none m = absurd m
items_take s steps st (x ∷ xs) start key value none (inl same) =
    items_keep s steps (with_item (Session s) steps st x) xs key (λ node there. none node (inr there))
    (subst (λ (y : Item). key ∈ written_after (Session s) st.written y) same (self_taken s st.written start key value))
items_take s steps st (x ∷ xs) start key value none (inr m) = items_take s steps (with_item (Session s) steps st x) xs start key value (λ node there. none node (inr there)) m

-- ---- the keys of the session
abbrev pub KeysKept : Actor → State → List ℕ → Type 0
KeysKept (Session s) w written = (c : Client) → ClientAt w.clients s c → c.entry.state ≡ phase.Open → (key : ℕ) → key ∈ c.entry.keys → key ∈ written
KeysKept _ w written = Unit {0}

abbrev is_open : SessionState → Bool
is_open phase.Open = true
is_open _ = false

open_not : (d : Client) (state : SessionState) → d.entry.state ≡ phase.Open → d.entry.state ≡ state → is_open state ≡ false → ⊥
open_not d state opened is not = let clash : true ≡ false = sym (ap is_open opened) ∙ (ap is_open is ∙ not) in absurd (cc)

undone_not_open : (d : Client) → d.entry.state ≡ phase.Open → IsUndone d.entry.state → ⊥
undone_not_open d opened (inl undoes) = open_not d (phase.Completing true) opened undoes refl
undone_not_open d opened (inr free) = open_not d phase.Free opened free refl

turn_undone_not : (e : SessionEntry) (d : Client) → d.entry.state ≡ phase.Open → TurnUndone e d.entry → ⊥
turn_undone_not e d opened (inl undoes) = undone_not_open d opened (inl undoes.0)
turn_undone_not e d opened (inr free) = undone_not_open d opened (inr free)

added_cases : (keys : List ℕ) (key k : ℕ) (there : Bool) → k ∈ (if there then keys else keys ++ key ∷ []) → (k ∈ keys) ⊎ (k ≡ key)
added_cases keys key k true m = inl m
added_cases keys key k false m = in_push k key keys m

-- a key of the open transaction was one before, or is written now
pub record WritesKey (s : ℕ) (items : List Item) (key : ℕ) : Type 0 where
  pub start : ℕ
  pub value : List ℕ
  pub told : item.Write s start key value ∈ items

turn_keys : (h : List Item) (s : ℕ) (c d : Client) (items : List Item) (key : ℕ) → SessionTransition h s c items d → d.entry.state ≡ phase.Open → key ∈ d.entry.keys → NoneBegins s items → ((c.entry.state ≡ phase.Open) × (key ∈ c.entry.keys)) ⊎ WritesKey s items key
unfolding ◌∈◌
turn_keys h s c d items key (Rests same none) opened m not = inl (ap (λ (e : SessionEntry). e.state) (sym same) ∙ opened, subst (λ (e : SessionEntry). key ∈ e.keys) same m)
turn_keys h s c d items key (AsksBegin node free now is) opened m not = absurd (open_not d phase.Asking opened now refl)
turn_keys h s c d items key (AsksCommit node start was now old new is) opened m not = absurd (open_not d phase.Committing opened now refl)
turn_keys h s c d items key (Begins was now keys begun none) opened m not = absurd (let nothing : key ∈ [] = subst (λ (ks : List ℕ). key ∈ ks) keys m in nothing)
turn_keys h s c d items key (LosesBegin was now begun none) opened m not = absurd (open_not d phase.Free opened now refl)
turn_keys h s c d items key (Writes start k value was wrote old is) opened m not = elim (added_cases c.entry.keys k key (has_key c.entry.keys k) (subst (λ (e : SessionEntry). key ∈ e.keys) wrote m)) [
  | inl there ↦ inl (was, there)
  | inr same ↦ inr (record { start = start; value = value; told = subst (λ (xs : List Item). item.Write s start key value ∈ xs) (sym is) (inl (ap (λ (q : ℕ). item.Write s start q value) same)) })
]
turn_keys h s c d items key (Frees may free none) opened m not = absurd (open_not d phase.Free opened free refl)
turn_keys h s c d items key (Undoes was undone none) opened m not = absurd (turn_undone_not c.entry d opened undone)
turn_keys h s c d items key (Hands was now start none) opened m not = absurd (open_not d phase.Placing opened now refl)
turn_keys h s c d items key (Commits start commit may ends is) opened m not = absurd (open_not d (phase.Completing false) opened (ap (λ (x : Client). x.entry.state) is) refl)
turn_keys h s c d items key (Refuses start why may leaves ends is) opened m not = absurd (undone_not_open d opened (aborted_undone c d is).state)
turn_keys h s c d items key (LeavesOpen start may told none is) opened m not = absurd (open_not d phase.OpenOutcome opened (ap (λ (x : Client). x.entry.state) is) refl)
turn_keys h s c d items key (Vanishes now is) opened m not = absurd (open_not d phase.Gone opened now refl)
turn_keys h s c d items key (IsGone gone same) opened m not = absurd (open_not d phase.Gone opened (ap (λ (x : Client). x.entry.state) same ∙ gone) refl)

-- an event later the log has them, if it keeps what it has and takes what is written
pub keys_later : MachineLaws → (s : ℕ) (v : Move) (old new : List ℕ) → ExplainedInvariant v.state v.history → ((d : Client) → ClientAt (state_after v).clients s d → (c : Client) × ClientAt v.state.clients s c) → KeysKept (Session s) v.state old →
    ((key : ℕ) → NoneBegins s (items_of v) → key ∈ old → key ∈ new) → ((key : ℕ) → NoneBegins s (items_of v) → WritesKey s (items_of v) key → key ∈ new) → KeysKept (Session s) (state_after v) new
keys_later laws s v old new tells there kept keeps takes d at opened key m =
    let before : (c : Client) × ClientAt v.state.clients s c = there d at in
    let asks : TakesAsks s before.0 (items_of v) d = laws.asks v.state v.history v.event v.fate s before.0 d tells before.1 at in
    let none : NoneBegins s (items_of v) = λ node told. open_not d phase.Asking opened (asks.begins node told).1 refl in
    elim (turn_keys v.history s before.0 d (items_of v) key (laws.turns v.state v.history v.event v.fate s before.0 d tells before.1 at) opened m none) [
      | inl was ↦ keeps key none (kept before.0 before.1 was.0 key was.1)
      | inr writes ↦ takes key none writes
    ]

-- the items of an event that opens a line
pub opened_keep : (s : ℕ) (verb : Verb) (st : Standing) (xs : List Item) (key : ℕ) → NoneBegins s xs → key ∈ st.written → key ∈ (opened (Session s) verb st xs).written
unfolding ◌∈◌
opened_keep s verb st [] key none m = m
opened_keep s verb st (x ∷ xs) key none m = items_keep s false (standing_with (Session s) false st x (owed_first verb x)) xs key (λ node there. none node (inr there)) (stays_written s st.written x key (λ node is. none node (inl (sym is))) m)

pub opened_take : (s : ℕ) (verb : Verb) (st : Standing) (xs : List Item) (start key : ℕ) (value : List ℕ) → NoneBegins s xs → item.Write s start key value ∈ xs → key ∈ (opened (Session s) verb st xs).written
unfolding ◌∈◌
opened_take s verb st [] start key value none m = absurd m
opened_take s verb st (x ∷ xs) start key value none (inl same) =
    items_keep s false (standing_with (Session s) false st x (owed_first verb x)) xs key (λ node there. none node (inr there))
    (subst (λ (y : Item). key ∈ written_after (Session s) st.written y) same (self_taken s st.written start key value))
opened_take s verb st (x ∷ xs) start key value none (inr m) = items_take s false (standing_with (Session s) false st x (owed_first verb x)) xs start key value (λ node there. none node (inr there)) m
