-- For cause_laws and request_completion too.
-- Short lists of items that say nothing of requests and instances, and of those that no fact reads either.
use Rattle.machine.proofs.Names.{Bool, true, false, List, [], ◌∷◌, Option, Some, ◌≡◌, refl, subst, All-nil, All-cons}
use Rattle.machine.proofs.Names.{All-weaker, Cause, Node, Session, Item, Quiet, AllQuiet, Silent, AllSilent, Plain}
use Rattle.machine.proofs.Names.{AllPlain, Mild}
use Rattle.std.specs.Prelude.{ℕ, if◌then◌else◌}
use Rattle.history_book.specs.declared.item.Item.TheVariants as item

-- ---- silent items
pub none_silent : AllSilent []
none_silent = All-nil Silent

pub one_silent : (x : Item) → Silent x → AllSilent (x ∷ [])
one_silent x silent = All-cons Silent x [] silent none_silent

pub two_silent : (x y : Item) → Silent x → Silent y → AllSilent (x ∷ y ∷ [])
two_silent x y one two = All-cons Silent x (y ∷ []) one (one_silent y two)

-- what is told once
pub once_silent : (told : Bool) (x : Item) → Silent x → AllSilent (if told then [] else x ∷ [])
once_silent true x silent = none_silent
once_silent false x silent = one_silent x silent

-- ---- plain items
pub all_quiet : (items : List Item) → AllPlain items → AllQuiet items
all_quiet items plain = All-weaker Plain Quiet (λ x both. both.0) items plain

pub all_silent : (items : List Item) → AllPlain items → AllSilent items
all_silent items plain = All-weaker Plain Silent (λ x both. both.1) items plain

pub none_plain : AllPlain []
none_plain = All-nil Plain

pub one_plain : (x : Item) → Quiet x → Silent x → AllPlain (x ∷ [])
one_plain x quiet silent = All-cons Plain x [] (quiet, silent) none_plain

pub two_plain : (x y : Item) → Plain x → Plain y → AllPlain (x ∷ y ∷ [])
two_plain x y one two = All-cons Plain x (y ∷ []) one (one_plain y two.0 two.1)

-- what a node is told
pub node_plain : (node : ℕ) (why : Cause) → AllPlain (item.Refused (Node node) why ∷ [])
node_plain node why = one_plain (item.Refused (Node node) why) refl refl

-- what a session is told
pub session_plain : (session : ℕ) (why : Cause) → Mild (Some why) → AllPlain (item.Refused (Session session) why ∷ [])
session_plain session why mild = one_plain (item.Refused (Session session) why) refl mild

-- a cause that is what a mild refusal gives is mild
pub mild_is : (found : Option Cause) (why : Cause) → found ≡ Some why → Mild found → Mild (Some why)
mild_is found why is mild = subst Mild is mild
