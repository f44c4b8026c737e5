-- The transition of a session whose request ends at a node.
use Rattle.request_completion.proofs.Names.{◌≡◌, ℕ, true, List, [], ◌∷◌, refl, subst, Cause, Session, Item, Request}
use Rattle.request_completion.proofs.Names.{Begin, Commit, State, client_begun, client_handed, client_freed}
use Rattle.request_completion.proofs.Names.{client_aborted, unless_gone, after_refusal, none_silent, Ended}
use Rattle.request_completion.proofs.Names.{AnsweredBegin, AnsweredCommit, HandedOver, answered_client, OfAnsweredBegin}
use Rattle.request_completion.proofs.Names.{OfHanded, ExplainedInvariant, leaves_cells, NoneEnds, NoCommit}
use Rattle.request_completion.proofs.Names.{SessionTransition, Begins, LosesBegin, Hands, Refuses}
use Rattle.history_book.specs.declared.cause.Cause.TheVariants as cause
use Rattle.history_book.specs.declared.item.Item.TheVariants as item
use Rattle.request_completion.proofs.OwingItems.{only_is}
use Rattle.request_completion.proofs.OwingOutcomes.{among}
use Rattle.request_completion.proofs.EndingItems.{silent_ends, last_none, ends_none}
use Rattle.request_completion.proofs.SessionTurns.{heard_turn, asked_of, asking_of, waiting_of, committing_of, answered_turn}

-- ---- a request is refused
refused_no_commit : (s : ℕ) (why : Cause) (items : List Item) → items ≡ item.Refused (Session s) why ∷ [] → ((start : ℕ) → why ≡ cause.Open start → ⊥) → NoCommit s items
refused_no_commit s why items is not = record {
  none = λ start commit m. let same : item.Committed s start commit ≡ item.Refused (Session s) why = only_is _ _ (among _ items _ is m) in absurd (cc);
  open_none = λ start m. not start (cause_of s why start (only_is _ _ (among _ items _ is m)));
}
  where
    cause_of : (s : ℕ) (why : Cause) (start : ℕ) → item.Refused (Session s) (cause.Open start) ≡ item.Refused (Session s) why → why ≡ cause.Open start
    cause_of s why start same = cc

pub ended_by : (w : State) (h : List Item) (k : Ended w) (request : Request) → ExplainedInvariant w h → leaves_cells k.why ≡ true → k.held.request ≡ request → SessionTransition h k.session k.c k.items (after_refusal request k.c)
ended_by w h k (Begin asker) tells leaves is = heard_turn h k.session k.c (client_freed k.c) k.items (λ alive.
    LosesBegin (asking_of w h k.node k.session asker k.i k.held k.c tells k.at k.has k.client_at is alive) refl
    (asked_of w h k.node k.session k.i k.held (Begin asker) tells k.at k.has is) (refused_no_commit k.session k.why k.items k.tells (λ start same. open_leaves start (subst (λ (why : Cause). leaves_cells why ≡ true) same leaves))))
  where
    open_leaves : (start : ℕ) → leaves_cells (cause.Open start) ≡ true → ⊥
    open_leaves start is = cc
ended_by w h k (Commit asker start keys) tells leaves is = heard_turn h k.session k.c (client_aborted k.c) k.items (λ alive.
    Refuses start k.why (committing_of w h k.node k.session asker start keys k.i k.held k.c tells k.at k.has k.client_at is alive) leaves (record { front = []; is = k.tells; none = silent_ends k.session [] none_silent }) refl)

pub ended_other : (w : State) (k : Ended w) (s : ℕ) → (s ≡ k.session → ⊥) → NoneEnds s k.items
ended_other w k s other = last_none s k.session [] (item.Refused (Session k.session) k.why) k.items k.tells none_silent (λ ends. ends.0) other

-- ---- a begin is answered, a commit is answered or handed over
pub begun_turn : (w : State) (h : List Item) (k : AnsweredBegin w) → ExplainedInvariant w h → SessionTransition h k.session k.c (item.Begin k.session k.start ∷ []) (unless_gone k.c (client_begun k.c k.start k.i.epoch))
begun_turn w h k tells = heard_turn h k.session k.c (client_begun k.c k.start k.i.epoch) _ (λ alive.
    Begins (asking_of w h k.node k.session k.asker k.i k.held k.c tells k.at k.has k.client_at k.request_is alive) refl refl
    (asked_of w h k.node k.session k.i k.held (Begin k.asker) tells k.at k.has k.request_is) (ends_none w (OfAnsweredBegin k) k.session refl))

pub answer_turn : (w : State) (h : List Item) (k : AnsweredCommit w) → ExplainedInvariant w h → SessionTransition h k.session k.c k.items (unless_gone k.c (answered_client k.by k.c k.commit))
answer_turn w h k tells = heard_turn h k.session k.c (answered_client k.by k.c k.commit) k.items (λ alive.
    answered_turn h k.session k.start k.commit k.c [] k.items k.by (committing_of w h k.node k.session k.asker k.start k.keys k.i k.held k.c tells k.at k.has k.client_at k.request_is alive) none_silent k.tells)

pub handed_turn : (w : State) (h : List Item) (k : HandedOver w) → ExplainedInvariant w h → SessionTransition h k.session k.c k.items (unless_gone k.c (client_handed k.c k.commit))
handed_turn w h k tells = heard_turn h k.session k.c (client_handed k.c k.commit) k.items (λ alive.
    Hands (waiting_of w h k.node k.session k.asker k.start k.keys k.i k.held k.c tells k.at k.has k.client_at k.request_is alive).0 refl refl (ends_none w (OfHanded k) k.session refl))
