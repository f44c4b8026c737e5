-- The walk of a history along an actor's lines, over the items of one entry: a read that a line has begun is owed until it ends.
use Rattle.log_refinement.proofs.Names.{◌≡◌, ℕ, ◌==◌, Bool, true, false, cond, List, [], ◌∷◌, ◌++◌, Option, Some, None}
use Rattle.log_refinement.proofs.Names.{inl, inr, refl, sym, ◌∙◌, ap, subst, and_parts, cases_Bool, eqb-true}
use Rattle.log_refinement.proofs.Names.{append-nil, Actor, Session, Item, Line, Verb, same_actor, IsAnswer, read_begun}
use Rattle.log_refinement.proofs.Names.{EndsRead, asks_last, Answered, actor_same, AllNot, plain_not, shifted}
use Rattle.log_refinement.proofs.Names.{walks_over, Entry, Owed, Nothing, Read, ends_read, owed_after, Standing}
use Rattle.log_refinement.proofs.Names.{standing_with, with_item, with_items, is_settled, is_paid, after_due}
use Rattle.log_refinement.proofs.Names.{after_repeat, is_step, gone_on, owed_first, opened}
use Rattle.history_book.specs.declared.item.StoreStep.TheVariants as step
use Rattle.history_book.specs.declared.item.Item.TheVariants as item
use Rattle.script_data.specs.declared.line.Verb.TheVariants as verb
use Rattle.command_semantics.proofs.OpeningItems.{Begins}

-- ---- what is owed of a read
-- a read that the walk has begun is owed
abbrev pub IsOwed : Option ℕ → Owed → Type 0
IsOwed None owed = Unit {0}
IsOwed (Some key) owed = owed ≡ Read key

pub ends_is : (actor : Actor) (key : ℕ) (x : Item) → ends_read actor key x ≡ true → EndsRead actor key x
ends_is actor key (item.Read session start read found) is =
    let both : (same_actor (Session session) actor ≡ true) × ((read == key) ≡ true) = and_parts (same_actor (Session session) actor) (read == key) is in
    (actor_same (Session session) actor both.0, eqb-true read key both.1)
ends_is actor key (item.Fault who store) is = actor_same who actor is
ends_is actor key _ is = absurd (cc)

pub still_owed : (actor : Actor) (steps : Bool) (key : ℕ) (owed : Owed) (x : Item) → owed ≡ Read key → ends_read actor key x ≡ false → owed_after actor steps owed x ≡ Read key
still_owed actor steps key owed x is on = ap (λ (o : Owed). owed_after actor steps o x) is ∙ ap (λ (b : Bool). cond b Nothing (Read key)) on

read_first : (key : ℕ) (x : Item) → IsOwed (read_begun (verb.Read key) x) (owed_first (verb.Read key) x)
read_first key (item.Step actor (step.Fetch fetched cells)) = refl
read_first key (item.Step actor _) = tt
read_first key _ = tt

-- a read that a line's first item begins is owed
first_owes : (line : Verb) (x : Item) → IsOwed (read_begun line x) (owed_first line x)
first_owes (verb.Read key) x = read_first key x
first_owes _ x = tt

pub paid_read : (owed : Owed) (keys : List ℕ) (key : ℕ) → owed ≡ Read key → is_settled owed keys ≡ true → ⊥
paid_read owed keys key is paid = let clash : false ≡ true = sym (ap (λ (o : Owed). is_settled o keys) is) ∙ paid in absurd (cc)

-- once nothing is owed, no read is under way
pub none_begun : (begun : Option ℕ) (st : Standing) → IsOwed begun st.owed → is_paid st ≡ true → begun ≡ None
none_begun None st owed paid = refl
none_begun (Some key) st owed paid = absurd (paid_read st.owed st.unerased key owed paid)

-- an answer that repeats pays no read
after_dues : (actor : Actor) (e : Entry) (begun : Option ℕ) (owed : Owed) → IsOwed begun owed → IsOwed begun (after_due actor e.event e.kept.items owed)
after_dues actor e None owed is = tt
after_dues actor e (Some key) owed is = ap (after_due actor e.event e.kept.items) is

after_repeats : (actor : Actor) (e : Entry) (begun : Option ℕ) (owed : Owed) → IsOwed begun owed → IsOwed begun (after_repeat actor e.event e.kept.items owed)
after_repeats actor e None owed is = tt
after_repeats actor e (Some key) owed is = ap (after_repeat actor e.event e.kept.items) is

-- ---- the walk over the items
-- they take the walk from these lines to the rest, where this is owed
pub record Walked (actor : Actor) (h items : List Item) (begun : Option ℕ) (lines rest : List Line) (owed : Owed) : Type 0 where
  pub then : Option ℕ
  pub is_owed : IsOwed then owed
  pub walks : (later : List Item) → Answered asks_last actor (h ++ items) then rest later → Answered asks_last actor h begun lines (items ++ later)

-- items of others: what is begun stays begun
walks_owed : (actor : Actor) (key : ℕ) (h : List Item) (lines : List Line) (xs later : List Item) → AllNot actor xs → Answered asks_last actor (h ++ xs) (Some key) lines later → Answered asks_last actor h (Some key) lines (xs ++ later)
unfolding AllNot Answered
walks_owed actor key h lines [] later none walks = subst (λ (before : List Item). Answered asks_last actor before (Some key) lines later) (append-nil h) walks
walks_owed actor key h lines (x ∷ xs) later none walks = inr (none.0, walks_owed actor key (h ++ x ∷ []) lines xs later none.1 (shifted asks_last actor h (Some key) lines x xs later walks))

walks_past : (actor : Actor) (h : List Item) (begun : Option ℕ) (lines : List Line) (xs later : List Item) → AllNot actor xs → Answered asks_last actor (h ++ xs) begun lines later → Answered asks_last actor h begun lines (xs ++ later)
walks_past actor h None lines xs later none walks = walks_over asks_last actor h lines xs later none walks
walks_past actor h (Some key) lines xs later none walks = walks_owed actor key h lines xs later none walks

pub walked_past : (actor : Actor) (h items : List Item) (begun : Option ℕ) (lines : List Line) (owed : Owed) → AllNot actor items → IsOwed begun owed → Walked actor h items begun lines lines owed
walked_past actor h items begun lines owed none is = record { then = begun; is_owed = is; walks = λ later walks. walks_past actor h begun lines items later none walks }

-- items of its own that open no line
reading : (actor : Actor) (steps : Bool) (key : ℕ) (h : List Item) (st : Standing) (lines : List Line) (xs : List Item) → AllNot actor xs → st.owed ≡ Read key → Walked actor h xs (Some key) lines lines (with_items actor steps st xs).owed
unfolding AllNot Answered with_items
reading actor steps key h st lines [] none is = record { then = Some key; is_owed = is; walks = λ later walks. subst (λ (before : List Item). Answered asks_last actor before (Some key) lines later) (append-nil h) walks }
reading actor steps key h st lines (x ∷ xs) none is = elim (cases_Bool (ends_read actor key x)) [
  | inl ends ↦ record { then = None; is_owed = tt; walks = λ later walks. inl (ends_is actor key x ends, walks_over asks_last actor (h ++ x ∷ []) lines xs later none.1 (shifted asks_last actor h None lines x xs later walks)) }
  | inr on ↦
      let k : Walked actor (h ++ x ∷ []) xs (Some key) lines lines (with_items actor steps (with_item actor steps st x) xs).owed = reading actor steps key (h ++ x ∷ []) (with_item actor steps st x) lines xs none.1 (still_owed actor steps key st.owed x is on) in
      record { then = k.then; is_owed = k.is_owed; walks = λ later walks. inr (none.0, k.walks later (shifted asks_last actor h k.then lines x xs later walks)) }
]

walked_items : (actor : Actor) (steps : Bool) (h : List Item) (begun : Option ℕ) (st : Standing) (lines : List Line) (xs : List Item) → AllNot actor xs → IsOwed begun st.owed → Walked actor h xs begun lines lines (with_items actor steps st xs).owed
walked_items actor steps h None st lines xs none is = walked_past actor h xs None lines (with_items actor steps st xs).owed none tt
walked_items actor steps h (Some key) st lines xs none is = reading actor steps key h st lines xs none is

pub walked_on : (actor : Actor) (h : List Item) (begun : Option ℕ) (st : Standing) (lines : List Line) (e : Entry) → AllNot actor e.kept.items → IsOwed begun st.owed → Walked actor h e.kept.items begun lines lines (gone_on actor st e).owed
walked_on actor h begun st lines e none is =
    let steps : Bool = is_step e.event in
    let k : Walked actor h e.kept.items begun lines lines (with_items actor steps st e.kept.items).owed = walked_items actor steps h begun st lines e.kept.items none is in
    record { then = k.then; is_owed = after_repeats actor e k.then (after_due actor e.event e.kept.items (with_items actor steps st e.kept.items).owed) (after_dues actor e k.then (with_items actor steps st e.kept.items).owed k.is_owed); walks = k.walks }

-- items that open the next line
pub walked_open : (actor : Actor) (h : List Item) (st : Standing) (line : Line) (lines : List Line) (items : List Item) → Begins (IsAnswer (asks_last h) line.actor line.verb) items → Walked actor h items None (line ∷ lines) lines (opened actor line.verb st items).owed
unfolding Answered
walked_open actor h st line lines items k =
    let now : Standing = standing_with actor false st k.first (owed_first line.verb k.first) in
    let behind : List Item = h ++ k.first ∷ [] in
    let rest : Walked actor behind k.rest (read_begun line.verb k.first) lines lines (with_items actor false now k.rest).owed = walked_items actor false behind (read_begun line.verb k.first) now lines k.rest (plain_not actor k.rest k.plain) (first_owes line.verb k.first) in
    subst (λ (xs : List Item). Walked actor h xs None (line ∷ lines) lines (opened actor line.verb st xs).owed) (sym k.is) (record {
      then = rest.then;
      is_owed = rest.is_owed;
      walks = λ later walks. inl (k.answers, rest.walks later (shifted asks_last actor h rest.then lines k.first k.rest later walks));
    })
