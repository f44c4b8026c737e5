-- For turn_rules and log_refinement too.
-- The walk of a history along an actor's lines, over the items of one line after the other.
use Rattle.std.proofs.Common.{arith}
use Rattle.command_semantics.proofs.Names.{◌≡◌, ℕ, List, [], ◌∷◌, ◌++◌, append_assoc, Option, Some, None, ◌⊎◌, inl, inr}
use Rattle.command_semantics.proofs.Names.{refl, sym, ◌∙◌, subst, append-nil, none-some, Actor, Item, Line, Target}
use Rattle.command_semantics.proofs.Names.{Verb, IsAnswer, read_begun, EndsRead, Answered}
use Rattle.command_semantics.specs.Answers.{Opens}
use Rattle.command_semantics.proofs.Plain.{AllPlain}

-- none of the items opens a line of the actor
unfoldable pub AllNot : Actor → List Item → Type 0
AllNot actor [] = Unit {0}
AllNot actor (x ∷ xs) = (Opens actor x → ⊥) × AllNot actor xs

pub plain_not : (actor : Actor) (xs : List Item) → AllPlain xs → AllNot actor xs
unfolding AllPlain AllNot
plain_not actor [] plain = tt
plain_not actor (x ∷ xs) plain = (λ opens. none-some actor (sym plain.0 ∙ opens), plain_not actor xs plain.1)

pub not_append : (actor : Actor) (xs ys : List Item) → AllNot actor xs → AllNot actor ys → AllNot actor (xs ++ ys)
unfolding AllNot
not_append actor [] ys first rest = rest
not_append actor (x ∷ xs) ys first rest = (first.0, not_append actor xs ys first.1 rest)

-- the read that was begun ends among the items, and none of them opens a line of the actor
unfoldable pub Paid : Actor → ℕ → List Item → Type 0
Paid actor key [] = ⊥
Paid actor key (x ∷ xs) = (EndsRead actor key x × AllNot actor xs) ⊎ ((Opens actor x → ⊥) × Paid actor key xs)

pub paid_before : (actor : Actor) (key : ℕ) (xs ys : List Item) → AllNot actor xs → Paid actor key ys → Paid actor key (xs ++ ys)
unfolding AllNot Paid
paid_before actor key [] ys first rest = rest
paid_before actor key (x ∷ xs) ys first rest = inr (first.0, paid_before actor key xs ys first.1 rest)

pub paid_behind : (actor : Actor) (key : ℕ) (xs ys : List Item) → Paid actor key xs → AllNot actor ys → Paid actor key (xs ++ ys)
unfolding AllNot Paid
paid_behind actor key [] ys first rest = absurd first
paid_behind actor key (x ∷ xs) ys (inl ends) rest = inl (ends.0, not_append actor xs ys ends.1 rest)
paid_behind actor key (x ∷ xs) ys (inr later) rest = inr (later.0, paid_behind actor key xs ys later.1 rest)

-- ---- the walk
-- behind one item more
pub shifted : (asks : List Item → Target → ℕ → Type 0) (actor : Actor) (before : List Item) (begun : Option ℕ) (lines : List Line) (x : Item) (xs ys : List Item) → Answered asks actor (before ++ x ∷ xs) begun lines ys → Answered asks actor ((before ++ x ∷ []) ++ xs) begun lines ys
shifted asks actor before begun lines x xs ys walks = subst (λ (h : List Item). Answered asks actor h begun lines ys) (sym (append_assoc before (x ∷ []) xs)) walks

-- over items that open no line
pub walks_over : (asks : List Item → Target → ℕ → Type 0) (actor : Actor) (before : List Item) (lines : List Line) (xs ys : List Item) → AllNot actor xs → Answered asks actor (before ++ xs) None lines ys → Answered asks actor before None lines (xs ++ ys)
unfolding AllNot Answered
walks_over asks actor before lines [] ys none walks = subst (λ (h : List Item). Answered asks actor h None lines ys) (append-nil before) walks
walks_over asks actor before [] (x ∷ xs) ys none walks = (none.0, walks_over asks actor (before ++ x ∷ []) [] xs ys none.1 (shifted asks actor before None [] x xs ys walks))
walks_over asks actor before (line ∷ lines) (x ∷ xs) ys none walks = inr (none.0, walks_over asks actor (before ++ x ∷ []) (line ∷ lines) xs ys none.1 (shifted asks actor before None (line ∷ lines) x xs ys walks))

-- to the end of a read
pub walks_read : (asks : List Item → Target → ℕ → Type 0) (actor : Actor) (key : ℕ) (before : List Item) (lines : List Line) (xs ys : List Item) → Paid actor key xs → Answered asks actor (before ++ xs) None lines ys → Answered asks actor before (Some key) lines (xs ++ ys)
unfolding Paid Answered
walks_read asks actor key before lines [] ys paid walks = absurd paid
walks_read asks actor key before lines (x ∷ xs) ys (inl ends) walks = inl (ends.0, walks_over asks actor (before ++ x ∷ []) lines xs ys ends.1 (shifted asks actor before None lines x xs ys walks))
walks_read asks actor key before lines (x ∷ xs) ys (inr later) walks = inr (later.0, walks_read asks actor key (before ++ x ∷ []) lines xs ys later.1 (shifted asks actor before None lines x xs ys walks))

-- what stands behind the item that answers a line
abbrev pub Behind : Actor → Option ℕ → List Item → Type 0
Behind actor None rest = AllNot actor rest
Behind actor (Some key) rest = Paid actor key rest

-- the items of a line of the actor: the first is an answer
pub record LineItems (A : Item → Type 0) (actor : Actor) (verb : Verb) (xs : List Item) : Type 0 where
  pub first : Item
  pub rest : List Item
  pub is : xs ≡ first ∷ rest
  pub answers : A first
  pub behind : Behind actor (read_begun verb first) rest

pub walks_line : (asks : List Item → Target → ℕ → Type 0) (actor : Actor) (before : List Item) (line : Line) (lines : List Line) (xs ys : List Item) → LineItems (IsAnswer (asks before) line.actor line.verb) actor line.verb xs → Answered asks actor (before ++ xs) None lines ys → Answered asks actor before None (line ∷ lines) (xs ++ ys)
unfolding Answered
walks_line asks actor before line lines xs ys k walks = grind (arith, shifted, walks_over, walks_read)

-- at the end no line is left
pub walks_end : (asks : List Item → Target → ℕ → Type 0) (actor : Actor) (before : List Item) → Answered asks actor before None [] []
unfolding Answered
walks_end asks actor before = (refl, refl)
