-- A history that serves the lines of a script answers them, at the same places.
use Rattle.log_refinement.proofs.Names.{◌≡◌, ℕ, Bool, true, false, if◌then◌else◌, List, [], ◌∷◌, ◌++◌, Option, None}
use Rattle.log_refinement.proofs.Names.{Some, inl, inr, refl, subst, filter, Actor, Item, ScriptData, Line, Target}
use Rattle.log_refinement.proofs.Names.{Verb, Opens, read_begun, asks_last, Answered, is_of, ends_read, Begun, Reads}
use Rattle.log_refinement.proofs.Names.{Asks, begun_by, begun_after, HasEnded, AnsweredServed, ServedHistoriesAnswer}
use Rattle.history_book.specs.declared.item.StoreStep.TheVariants as step
use Rattle.history_book.specs.declared.item.Item.TheVariants as item
use Rattle.script_data.specs.declared.line.Verb.TheVariants as verb
use Rattle.log_refinement.specs.Served.{Nothing}
use Rattle.log_refinement.proofs.WalkedItems.{ends_is}

-- the read that a line has begun
abbrev read_of : Begun → Option ℕ
read_of Nothing = None
read_of (Reads key) = Some key
read_of (Asks session ask since) = None

-- ---- by the item that answers a line
read_first : (key : ℕ) (x : Item) → read_of (begun_by (verb.Read key) x) ≡ read_begun (verb.Read key) x
read_first key (item.Step actor (step.Fetch fetched cells)) = refl
read_first key (item.Step actor _) = refl
read_first key _ = refl

begin_first : (to : Target) (x : Item) → read_of (begun_by (verb.Begin to) x) ≡ None
begin_first to (item.AskBegin session node) = refl
begin_first to _ = refl

commit_first : (to : Target) (x : Item) → read_of (begun_by (verb.Commit to) x) ≡ None
commit_first to (item.AskCommit session node start) = refl
commit_first to _ = refl

first_read : (line : Verb) (x : Item) → read_of (begun_by line x) ≡ read_begun line x
first_read (verb.Read key) x = read_first key x
first_read (verb.Begin to) x = begin_first to x
first_read (verb.Commit to) x = commit_first to x
first_read _ x = refl

none_read : (script : ScriptData) (h : List Item) (begun : Begun) → HasEnded script h begun → read_of begun ≡ None
none_read script h Nothing ended = refl
none_read script h (Reads key) ended = absurd ended
none_read script h (Asks session ask since) ended = refl

-- ---- the walk
-- a read goes on, or ends
read_on : (actor : Actor) (key : ℕ) (h : List Item) (lines : List Line) (x : Item) (xs : List Item) (ends : Bool) → ends_read actor key x ≡ ends → (Opens actor x → ⊥) → Answered asks_last actor (h ++ x ∷ []) (read_of (if ends then Nothing else Reads key)) lines xs → Answered asks_last actor h (Some key) lines (x ∷ xs)
unfolding Answered
read_on actor key h lines x xs true is not walks = inl (ends_is actor key x is, walks)
read_on actor key h lines x xs false is not walks = inr (not, walks)

walk_answers : (script : ScriptData) (actor : Actor) (h : List Item) (begun : Begun) (lines : List Line) (xs : List Item) → AnsweredServed (HasEnded script) actor h begun lines xs → Answered asks_last actor h (read_of begun) lines xs
unfolding AnsweredServed Answered
walk_answers script actor h begun lines [] served = (none_read script h begun served.0, served.1)
walk_answers script actor h Nothing [] (x ∷ xs) served = (served.0, walk_answers script actor (h ++ x ∷ []) Nothing [] xs served.1)
walk_answers script actor h Nothing (line ∷ lines) (x ∷ xs) (inl k) =
    inl (k.1, subst (λ (read : Option ℕ). Answered asks_last actor (h ++ x ∷ []) read lines xs) (first_read line.verb x) (walk_answers script actor (h ++ x ∷ []) (begun_by line.verb x) lines xs k.2))
walk_answers script actor h Nothing (line ∷ lines) (x ∷ xs) (inr k) = inr (k.0, walk_answers script actor (h ++ x ∷ []) Nothing (line ∷ lines) xs k.1)
walk_answers script actor h (Asks session ask since) [] (x ∷ xs) served = (served.0, walk_answers script actor (h ++ x ∷ []) (Asks session ask (since ++ x ∷ [])) [] xs served.1)
walk_answers script actor h (Asks session ask since) (line ∷ lines) (x ∷ xs) (inl k) =
    inl (k.1, subst (λ (read : Option ℕ). Answered asks_last actor (h ++ x ∷ []) read lines xs) (first_read line.verb x) (walk_answers script actor (h ++ x ∷ []) (begun_by line.verb x) lines xs k.2))
walk_answers script actor h (Asks session ask since) (line ∷ lines) (x ∷ xs) (inr k) = inr (k.0, walk_answers script actor (h ++ x ∷ []) (Asks session ask (since ++ x ∷ [])) (line ∷ lines) xs k.1)
walk_answers script actor h (Reads key) [] (x ∷ xs) served = read_on actor key h [] x xs (ends_read actor key x) refl served.0 (walk_answers script actor (h ++ x ∷ []) (begun_after actor (Reads key) x) [] xs served.1)
walk_answers script actor h (Reads key) (line ∷ lines) (x ∷ xs) (inl k) = absurd k.0
walk_answers script actor h (Reads key) (line ∷ lines) (x ∷ xs) (inr k) = read_on actor key h (line ∷ lines) x xs (ends_read actor key x) refl k.0 (walk_answers script actor (h ++ x ∷ []) (begun_after actor (Reads key) x) (line ∷ lines) xs k.1)

pub served_histories_answer : ServedHistoriesAnswer
served_histories_answer script h served actor = walk_answers script actor [] Nothing (filter (is_of actor) script.lines) h (served actor)
