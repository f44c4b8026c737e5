-- What a history tells of a session's request after more items: items that tell nothing of it leave its words as they are,
-- and make what stands since its ask and since its draw longer.
use Rattle.cause_laws.proofs.Names.{◌≡◌, ℕ, ◌==◌, Bool, true, false, if◌then◌else◌, IsTrue, List, [], ◌∷◌, ◌++◌, None}
use Rattle.cause_laws.proofs.Names.{Some, refl, ◌∙◌, ap, All, option_or, ne_eqb, All-cons, All-weaker, Item, Request}
use Rattle.cause_laws.proofs.Names.{Begin, Commit, session_of, draw_item, ask_by, asks_for, term_by, draw_by, draws_for}
use Rattle.cause_laws.proofs.Names.{its_ask, since_ask, its_term, its_draw, since_draw, its_start, its_node, node_asked}
use Rattle.cause_laws.proofs.Names.{last_told, since, IsRefusal}
use Rattle.history_book.specs.declared.item.Item.TheVariants as item
use Rattle.cause_laws.proofs.NodeTransitions.{Silent, AllSilent, ask_item}
use Rattle.cause_laws.proofs.SinceWords.{last_told-push, since-push, last_told-same, since-more}

-- ---- items that tell nothing of the session
pub record Mute (s : ℕ) (x : Item) : Type 0 where
  pub ask : ask_by s x ≡ None
  pub asks : asks_for s x ≡ false
  pub term : term_by s x ≡ None
  pub draw : draw_by s x ≡ None
  pub draws : draws_for s x ≡ false

abbrev pub AllMute : ℕ → List Item → Type 0
AllMute s items = All (Mute s) items

-- ---- the session's words, in a history h and in a longer one
pub its_ask-mute : (h items : List Item) (s : ℕ) → AllMute s items → its_ask (h ++ items) s ≡ its_ask h s
its_ask-mute h items s mute = last_told-same (ask_by s) h items (All-weaker (Mute s) (λ x. ask_by s x ≡ None) (λ x m. m.ask) items mute)

pub since_ask-mute : (h items : List Item) (s : ℕ) → AllMute s items → since_ask (h ++ items) s ≡ since_ask h s ++ items
since_ask-mute h items s mute = since-more (asks_for s) h items (All-weaker (Mute s) (λ x. asks_for s x ≡ false) (λ x m. m.asks) items mute)

pub its_term-mute : (h items : List Item) (s : ℕ) → AllMute s items → its_term (h ++ items) s ≡ its_term h s
its_term-mute h items s mute =
    ap (λ part. last_told (term_by s) part) (since_ask-mute h items s mute)
    ∙ last_told-same (term_by s) (since_ask h s) items (All-weaker (Mute s) (λ x. term_by s x ≡ None) (λ x m. m.term) items mute)

pub its_draw-mute : (h items : List Item) (s : ℕ) → AllMute s items → its_draw (h ++ items) s ≡ its_draw h s
its_draw-mute h items s mute =
    ap (λ part. last_told (draw_by s) part) (since_ask-mute h items s mute)
    ∙ last_told-same (draw_by s) (since_ask h s) items (All-weaker (Mute s) (λ x. draw_by s x ≡ None) (λ x m. m.draw) items mute)

pub since_draw-mute : (h items : List Item) (s : ℕ) → AllMute s items → since_draw (h ++ items) s ≡ since_draw h s ++ items
since_draw-mute h items s mute =
    ap (λ part. since (draws_for s) part) (since_ask-mute h items s mute)
    ∙ since-more (draws_for s) (since_ask h s) items (All-weaker (Mute s) (λ x. draws_for s x ≡ false) (λ x m. m.draws) items mute)

pub its_start-mute : (h items : List Item) (s : ℕ) → AllMute s items → its_start (h ++ items) s ≡ its_start h s
its_start-mute h items s mute = rw (its_ask-mute h items s mute, its_draw-mute h items s mute) refl

pub its_node-mute : (h items : List Item) (s : ℕ) → AllMute s items → its_node (h ++ items) s ≡ its_node h s
its_node-mute h items s mute = ap node_asked (its_ask-mute h items s mute)

-- ---- items that tell nothing of any session
abbrev pub tells_no_request : Item → Bool
tells_no_request (item.AskBegin session node) = false
tells_no_request (item.AskCommit session node start) = false
tells_no_request (item.Accept session node term reading) = false
tells_no_request (item.Draw session node term start commit) = false
tells_no_request _ = true

pub mute_always : (s : ℕ) (x : Item) → IsTrue (tells_no_request x) → Mute s x
mute_always s (item.AskBegin session node) none = absurd (cc)
mute_always s (item.AskCommit session node start) none = absurd (cc)
mute_always s (item.Accept session node term reading) none = absurd (cc)
mute_always s (item.Draw session node term start commit) none = absurd (cc)
mute_always s _ none = record { ask = refl; asks = refl; term = refl; draw = refl; draws = refl }

silent_tells_none : (x : Item) → Silent x → IsTrue (tells_no_request x)
silent_tells_none (item.AskBegin session node) silent = silent
silent_tells_none (item.AskCommit session node start) silent = silent
silent_tells_none (item.Accept session node term reading) silent = silent
silent_tells_none (item.Draw session node term start commit) silent = silent
silent_tells_none _ silent = refl

pub silent_mute : (s : ℕ) (items : List Item) → AllSilent items → AllMute s items
silent_mute s items silent = All-weaker Silent (Mute s) (λ x is. mute_always s x (silent_tells_none x is)) items silent

refusal_tells_none : (x : Item) → IsRefusal x → IsTrue (tells_no_request x)
refusal_tells_none (item.Refused actor why) is = refl
refusal_tells_none _ is = absurd is

-- a crash, and the refusals behind it
pub crash_mute : (s node term : ℕ) (told : List Item) → All IsRefusal told → AllMute s (item.Crash node term ∷ told)
crash_mute s node term told refusals =
    All-cons (Mute s) (item.Crash node term) told (mute_always s (item.Crash node term) refl)
    (All-weaker IsRefusal (Mute s) (λ x is. mute_always s x (refusal_tells_none x is)) told refusals)

-- ---- items that tell of another session
pub none_unless : {A : Type 0} (r s : ℕ) (a : A) → (r ≡ s → ⊥) → (if r == s then Some a else None) ≡ None
none_unless r s a other = ap (λ (b : Bool). if b then Some a else None) (ne_eqb r s other)

pub other_ask : (s n : ℕ) (request : Request) → (session_of request ≡ s → ⊥) → Mute s (ask_item n request)
other_ask s n (Begin r) other = record { ask = none_unless r s (record { node = n; start = None }) other; asks = ne_eqb r s other; term = refl; draw = refl; draws = refl }
other_ask s n (Commit r start keys) other = record { ask = none_unless r s (record { node = n; start = Some start }) other; asks = ne_eqb r s other; term = refl; draw = refl; draws = refl }

pub other_accept : (s r node term reading : ℕ) → (r ≡ s → ⊥) → Mute s (item.Accept r node term reading)
other_accept s r node term reading other = record { ask = refl; asks = refl; term = none_unless r s term other; draw = refl; draws = refl }

pub other_draw : (s n term : ℕ) (request : Request) (stamp : ℕ) → (session_of request ≡ s → ⊥) → Mute s (draw_item n term request stamp)
other_draw s n term (Begin r) stamp other = record { ask = refl; asks = refl; term = refl; draw = none_unless r s (stamp, None) other; draws = ne_eqb r s other }
other_draw s n term (Commit r start keys) stamp other = record { ask = refl; asks = refl; term = refl; draw = none_unless r s (start, Some stamp) other; draws = ne_eqb r s other }

-- ---- one more item, which is no ask of the session
since_ask-push : (h : List Item) (x : Item) (s : ℕ) → asks_for s x ≡ false → since_ask (h ++ x ∷ []) s ≡ since_ask h s ++ x ∷ []
since_ask-push h x s none = since-push (asks_for s) h x ∙ ap (λ (b : Bool). if b then [] else since_ask h s ++ x ∷ []) none

pub its_ask-push : (h : List Item) (x : Item) (s : ℕ) → its_ask (h ++ x ∷ []) s ≡ option_or (ask_by s x) (its_ask h s)
its_ask-push h x s = last_told-push (ask_by s) h x

pub its_term-push : (h : List Item) (x : Item) (s : ℕ) → asks_for s x ≡ false → its_term (h ++ x ∷ []) s ≡ option_or (term_by s x) (its_term h s)
its_term-push h x s none = ap (λ part. last_told (term_by s) part) (since_ask-push h x s none) ∙ last_told-push (term_by s) (since_ask h s) x

pub its_draw-push : (h : List Item) (x : Item) (s : ℕ) → asks_for s x ≡ false → its_draw (h ++ x ∷ []) s ≡ option_or (draw_by s x) (its_draw h s)
its_draw-push h x s none = ap (λ part. last_told (draw_by s) part) (since_ask-push h x s none) ∙ last_told-push (draw_by s) (since_ask h s) x
