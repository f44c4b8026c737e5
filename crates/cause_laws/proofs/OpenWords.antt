-- How many asks are open after more items: items that are no ask and close nothing leave the count as it is.
use Rattle.cause_laws.proofs.Names.{◌≡◌, ◌≢◌, ℕ, suc, ◌==◌, Bool, true, false, ◌&&◌, if◌then◌else◌, List, [], ◌∷◌, ◌++◌}
use Rattle.cause_laws.proofs.Names.{refl, sym, ◌∙◌, ap, All, fold, eq-eqb, ne_eqb, All-head, All-tail, All-weaker}
use Rattle.cause_laws.proofs.Names.{fold-append, Cause, Node, Session, Janitor, Clock, Handed, Item, Request, Begin}
use Rattle.cause_laws.proofs.Names.{Commit, session_of, draw_item, ends_request, closes, asks_at, open_then}
use Rattle.cause_laws.proofs.Names.{open_asks_of}
use Rattle.history_book.specs.declared.item.Item.TheVariants as item
use Rattle.cause_laws.proofs.NodeTransitions.{Silent, AllSilent, EndsFor, ask_item}

-- ---- the count after items
pub open_more : (h items : List Item) (n s : ℕ) → open_asks_of (h ++ items) n s ≡ fold (open_then n s) (open_asks_of h n s) items
open_more h items n s = fold-append (open_then n s) 0 h items

abbrev pub Keeps : ℕ → ℕ → ℕ → Item → Type 0
Keeps n s count x = open_then n s count x ≡ count

pub open_kept : (n s count : ℕ) (items : List Item) → All (Keeps n s count) items → fold (open_then n s) count items ≡ count
open_kept n s count [] keep = refl
open_kept n s count (x ∷ items) keep =
    ap (λ c. fold (open_then n s) c items) (All-head (Keeps n s count) x items keep) ∙ open_kept n s count items (All-tail (Keeps n s count) x items keep)

-- ---- items that are no ask of the session at the node, and close nothing of it
pub record Calm (n s : ℕ) (x : Item) : Type 0 where
  pub asks : asks_at n s x ≡ false
  pub closes_none : closes n s x ≡ false

pub calm_keeps : (n s count : ℕ) (x : Item) → Calm n s x → Keeps n s count x
calm_keeps n s count x calm =
    ap (λ (b : Bool). if b then suc count else if closes n s x then 0 else count) calm.asks
    ∙ ap (λ (b : Bool). if b then 0 else count) calm.closes_none

pub all_calm_keep : (n s count : ℕ) (items : List Item) → All (Calm n s) items → All (Keeps n s count) items
all_calm_keep n s count items calm = All-weaker (Calm n s) (Keeps n s count) (λ x is. calm_keeps n s count x is) items calm

-- where nothing is open, nothing can be closed
either_way : (b : Bool) (count : ℕ) → (if b then count else count) ≡ count
either_way true count = refl
either_way false count = refl

pub none_keeps : (n s : ℕ) (x : Item) → asks_at n s x ≡ false → Keeps n s 0 x
none_keeps n s x none = ap (λ (b : Bool). if b then suc 0 else if closes n s x then 0 else 0) none ∙ either_way (closes n s x) 0

pub closed : (n s count : ℕ) (x : Item) → asks_at n s x ≡ false → closes n s x ≡ true → open_then n s count x ≡ 0
closed n s count x none over =
    ap (λ (b : Bool). if b then suc count else if closes n s x then 0 else count) none
    ∙ ap (λ (b : Bool). if b then 0 else count) over

-- ---- silent items
and_false : (b : Bool) → (b && false) ≡ false
and_false true = refl
and_false false = refl

refusal_calm : (n s r : ℕ) (why : Cause) (b : Bool) → ends_request why ≡ b → (if b then false else true) ≡ true → Calm n s (item.Refused (Session r) why)
refusal_calm n s r why true is silent = absurd (cc)
refusal_calm n s r why false is silent = record { asks = refl; closes_none = ap (λ b. (r == s) && b) is ∙ and_false (r == s) }

pub silent_calm : (n s : ℕ) (x : Item) → Silent x → Calm n s x
silent_calm n s (item.AskBegin session node) silent = absurd (cc)
silent_calm n s (item.AskCommit session node start) silent = absurd (cc)
silent_calm n s (item.Begin session start) silent = absurd (cc)
silent_calm n s (item.Committed session start commit) silent = absurd (cc)
silent_calm n s (item.Crash node term) silent = absurd (cc)
silent_calm n s (item.Step actor (Handed start commit)) silent = absurd (cc)
silent_calm n s (item.Refused (Session r) why) silent = refusal_calm n s r why (ends_request why) refl silent
silent_calm n s (item.Refused (Node node) why) silent = record { asks = refl; closes_none = refl }
silent_calm n s (item.Refused Janitor why) silent = record { asks = refl; closes_none = refl }
silent_calm n s (item.Refused Clock why) silent = record { asks = refl; closes_none = refl }
silent_calm n s _ silent = record { asks = refl; closes_none = refl }

pub all_silent_calm : (n s : ℕ) (items : List Item) → AllSilent items → All (Calm n s) items
all_silent_calm n s items silent = All-weaker Silent (Calm n s) (silent_calm n s) items silent

-- ---- draws, asks and crashes
pub draw_calm : (n s node term stamp : ℕ) (request : Request) → Calm n s (draw_item node term request stamp)
draw_calm n s node term stamp (Begin r) = record { asks = refl; closes_none = refl }
draw_calm n s node term stamp (Commit r start keys) = record { asks = refl; closes_none = refl }

pub ask_of_other : (n s m : ℕ) (request : Request) → session_of request ≢ s → Calm n s (ask_item m request)
ask_of_other n s m (Begin r) other = record { asks = ap (λ b. b && (m == n)) (ne_eqb r s other); closes_none = refl }
ask_of_other n s m (Commit r start keys) other = record { asks = ap (λ b. b && (m == n)) (ne_eqb r s other); closes_none = refl }

pub ask_elsewhere : (n s m : ℕ) (request : Request) → m ≢ n → Calm n s (ask_item m request)
ask_elsewhere n s m (Begin r) other = record { asks = ap (λ b. (r == s) && b) (ne_eqb m n other) ∙ and_false (r == s); closes_none = refl }
ask_elsewhere n s m (Commit r start keys) other = record { asks = ap (λ b. (r == s) && b) (ne_eqb m n other) ∙ and_false (r == s); closes_none = refl }

-- an ask opens one more
both_same : (r n : ℕ) → ((r == r) && (n == n)) ≡ true
both_same r n = ap (λ b. b && (n == n)) (eq-eqb r r refl) ∙ eq-eqb n n refl

pub ask_opens : (n count : ℕ) (request : Request) → open_then n (session_of request) count (ask_item n request) ≡ suc count
ask_opens n count (Begin r) = ap (λ (b : Bool). if b then suc count else count) (both_same r n)
ask_opens n count (Commit r start keys) = ap (λ (b : Bool). if b then suc count else count) (both_same r n)

pub crash_elsewhere : (n s m term : ℕ) → m ≢ n → Calm n s (item.Crash m term)
crash_elsewhere n s m term other = record { asks = refl; closes_none = ne_eqb m n other }

pub crash_closes : (n s count term : ℕ) → open_then n s count (item.Crash n term) ≡ 0
crash_closes n s count term = closed n s count (item.Crash n term) refl (eq-eqb n n refl)

-- ---- the last that a request is told
pub ends_no_ask : (n s r : ℕ) (x : Item) → EndsFor s x → asks_at n r x ≡ false
ends_no_ask n s r (item.AskBegin session node) ends = absurd ends
ends_no_ask n s r (item.AskCommit session node start) ends = absurd ends
ends_no_ask n s r _ ends = refl

pub ends_closes : (n s : ℕ) (x : Item) → EndsFor s x → closes n s x ≡ true
ends_closes n s (item.Begin session start) ends = eq-eqb session s ends
ends_closes n s (item.Committed session start commit) ends = eq-eqb session s ends
ends_closes n s (item.Step (Session session) (Handed start commit)) ends = eq-eqb session s ends
ends_closes n s (item.Refused (Session session) why) ends = ap (λ b. b && ends_request why) (eq-eqb session s ends.0) ∙ ends.1
ends_closes n s _ ends = absurd ends

not_session : (a s r : ℕ) → a ≡ s → r ≢ s → (a == r) ≡ false
not_session a s r same other = ne_eqb a r (λ is. other (sym is ∙ same))

pub ends_of_other : (n s r : ℕ) (x : Item) → EndsFor s x → r ≢ s → Calm n r x
ends_of_other n s r (item.Begin session start) ends other = record { asks = refl; closes_none = not_session session s r ends other }
ends_of_other n s r (item.Committed session start commit) ends other = record { asks = refl; closes_none = not_session session s r ends other }
ends_of_other n s r (item.Step (Session session) (Handed start commit)) ends other = record { asks = refl; closes_none = not_session session s r ends other }
ends_of_other n s r (item.Refused (Session session) why) ends other = record { asks = refl; closes_none = ap (λ b. b && ends_request why) (not_session session s r ends.0 other) }
ends_of_other n s r _ ends other = absurd ends
