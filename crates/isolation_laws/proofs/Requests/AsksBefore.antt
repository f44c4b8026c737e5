-- An ask for a start that stands keeps the part before it, where its session does not ask again.
use Rattle.isolation_laws.proofs.Names.{◌≡◌, ◌≢◌, ℕ, ◌==◌, Bool, true, false, ◌||◌, List, [], ◌∷◌, ◌++◌, inl, inr, refl}
use Rattle.isolation_laws.proofs.Names.{sym, ◌∙◌, ap, cases_Bool, ne_eqb, eq-eqb, All-head, All-tail, before_ask}
use Rattle.isolation_laws.proofs.Names.{has_ask, asks, Item, AskBegin, ReadTurn, Asks, Answers, Request, BeginRequest}
use Rattle.isolation_laws.proofs.Names.{Commit, draw_item, read_items, Quiet, AllQuiet}
use Rattle.isolation_laws.proofs.Pushed.{not_true}

-- the items are no asks of the session
abbrev pub AsksNothing : ℕ → List Item → Type 0
AsksNothing s items = has_ask s items ≡ false

quiet_asks : (s : ℕ) (x : Item) → Quiet x → asks s x ≡ false
quiet_asks s (AskBegin session node) quiet = absurd (not_true quiet)
quiet_asks s _ quiet = refl

pub quiet_no_ask : (s : ℕ) (items : List Item) → AllQuiet items → AsksNothing s items
unfolding has_ask
quiet_no_ask s [] quiet = refl
quiet_no_ask s (x ∷ items) quiet = rw (quiet_asks s x (All-head Quiet x items quiet), quiet_no_ask s items (All-tail Quiet x items quiet)) refl

pub then_no_ask : (s : ℕ) (x : Item) (items : List Item) → asks s x ≡ false → AllQuiet items → AsksNothing s (x ∷ items)
unfolding has_ask
then_no_ask s x items none quiet = rw (none, quiet_no_ask s items quiet) refl

pub one_no_ask : (s : ℕ) (x : Item) → asks s x ≡ false → AsksNothing s (x ∷ [])
unfolding has_ask
one_no_ask s x none = rw none refl

draw_asks : (s node term stamp : ℕ) (request : Request) → asks s (draw_item node term request stamp) ≡ false
draw_asks s node term stamp (BeginRequest session) = refl
draw_asks s node term stamp (Commit session start keys) = refl

pub draw_no_ask : (s node term stamp : ℕ) (request : Request) → AsksNothing s (draw_item node term request stamp ∷ [])
draw_no_ask s node term stamp request = one_no_ask s (draw_item node term request stamp) (draw_asks s node term stamp request)

pub turn_no_ask : (r : ℕ) (x : Item) (s b k : ℕ) (turn : ReadTurn) → Quiet x → AsksNothing r (x ∷ read_items s b k turn)
unfolding has_ask
turn_no_ask r x s b k (Asks reading) quiet = rw (quiet_asks r x quiet) refl
turn_no_ask r x s b k (Answers a) quiet = rw (quiet_asks r x quiet) refl

-- another session's ask
pub other_no_ask : (s r n : ℕ) → r ≢ s → AsksNothing s (AskBegin r n ∷ [])
other_no_ask s r n other = one_no_ask s (AskBegin r n) (ne_eqb r s other)

-- ---- what stands before
or_true : (a b : Bool) → a ≡ true → (a || b) ≡ true
or_true a b is = rw is refl

or_later : (a b : Bool) → b ≡ true → (a || b) ≡ true
or_later true b is = refl
or_later false b is = is

or_both : (a b : Bool) → (a || b) ≡ true → b ≡ false → a ≡ true
or_both true b is none = refl
or_both false b is none = sym none ∙ is ∙ refl

has_more : (s : ℕ) (h items : List Item) → AsksNothing s items → has_ask s (h ++ items) ≡ has_ask s h
unfolding has_ask
has_more s [] items none = none
has_more s (x ∷ h) items none = ap (λ b. asks s x || b) (has_more s h items none)

pub ask_stays : (s : ℕ) (h items : List Item) → has_ask s h ≡ true → has_ask s (h ++ items) ≡ true
unfolding has_ask
ask_stays s [] items has = absurd (not_true has)
ask_stays s (x ∷ h) items has = elim (cases_Bool (asks s x)) [
  | inl is ↦ or_true (asks s x) (has_ask s (h ++ items)) is
  | inr is ↦ or_later (asks s x) (has_ask s (h ++ items)) (ask_stays s h items (ap (λ b. b || has_ask s h) (sym is) ∙ has))
]

pub ask_last : (s n : ℕ) (h : List Item) → has_ask s (h ++ AskBegin s n ∷ []) ≡ true
unfolding has_ask
ask_last s n [] = or_true (s == s) false (eq-eqb s s refl)
ask_last s n (x ∷ h) = or_later (asks s x) (has_ask s (h ++ AskBegin s n ∷ [])) (ask_last s n h)

pub before_stays : (s : ℕ) (h items : List Item) → has_ask s h ≡ true → AsksNothing s items → before_ask s (h ++ items) ≡ before_ask s h
unfolding has_ask before_ask
before_stays s [] items has none = absurd (not_true has)
before_stays s (x ∷ h) items has none = elim (cases_Bool (has_ask s h)) [
  | inl deeper ↦ rw (has_more s h items none, deeper, before_stays s h items deeper none) refl
  | inr here ↦ rw (has_more s h items none, here, or_both (asks s x) (has_ask s h) has here) refl
]
