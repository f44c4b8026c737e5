-- One log among the entries of all is that of an actor, and the others are of other actors.
use Rattle.log_refinement.proofs.Names.{◌≡◌, ◌∙◌, ℕ, zero, suc, ◌<◌, true, false, List, [], ◌∷◌, ◌++◌, length, inl, inr}
use Rattle.log_refinement.proofs.Names.{refl, sym, subst, arith, filter, slice_index_or, Contains, cases_Bool, All-head}
use Rattle.log_refinement.proofs.Names.{All-tail, ◌∈◌, Actor, in_front, in_back, in_append, ScriptData, is_of}
use Rattle.log_refinement.proofs.Names.{AreLinesOf, has_lines, actors_of, Entry, Logged, ticks_of, rises_above, logs_of}
use Rattle.log_refinement.proofs.Names.{InTickOrder, AllRise, is_own, first_standing}
use Rattle.std.specs.List.Sorted.{IsPermutation}
use Rattle.std.proofs.lemmas.List.Sorted.{IsPermutation-sym, Contains-permutation}
use Rattle.log_refinement.proofs.ActorList.{Once, once_actors, there_with, gone_without, no_own_lines}
use Rattle.log_refinement.proofs.OpeningLogs.{FollowsOpened, OpenedLines, LogOf, AllOpened}
use Rattle.log_refinement.proofs.ShownRequests.{IsApart, log_serves, no_own_line, no_stage_line}
use Rattle.log_refinement.proofs.OtherLogs.{own_lines, others_log}
use Rattle.log_refinement.proofs.Weaving.{Woven, Rises, Among, counts_of, rises_of, woven}

-- ---- the entries of all logs in another order
contained : {X : Type 0} (xs : List X) (x : X) → x ∈ xs → Contains xs x
unfolding ◌∈◌
contained [] x m = absurd m
contained (y ∷ xs) x (inl is) = (zero, omega arith, sym is)
contained (y ∷ xs) x (inr m) = let k : Contains xs x = contained xs x m in let less : k.0 < length xs = k.1 in (suc k.0, omega (arith, less), k.2)

at_place : {X : Type 0} (xs : List X) (x : X) (place : ℕ) → place < length xs → slice_index_or xs place x ≡ x → x ∈ xs
unfolding ◌∈◌
at_place [] x place less is = absurd (omega (arith, less))
at_place (y ∷ xs) x zero less is = inl (sym is)
at_place (y ∷ xs) x (suc place) less is = inr (at_place xs x place (omega (arith, less)) is)

moved : {X : Type 0} (xs ys : List X) (x : X) → IsPermutation xs ys → x ∈ xs → x ∈ ys
moved xs ys x p m = let k : Contains ys x = Contains-permutation xs ys x p (contained xs x m) in at_place ys x k.0 k.1 k.2

-- ---- the log of an actor
-- it follows the actor's lines, its ticks rise, and all other entries are of others
pub record OwnLog (script : ScriptData) (actor : Actor) (es : List Entry) : Type 0 where
  pub entries : List Entry
  pub follows : OpenedLines script.lines actor entries
  pub rises : Rises 1 entries
  pub among : Among (λ e. IsApart script actor e.event) entries es

-- ---- logs of other actors
one_other : (script : ScriptData) (who actor : Actor) (log : Logged) → AreLinesOf script.setup script.lines → (who ≡ actor → ⊥) → LogOf script.lines who log.entries → (x : Entry) → x ∈ log.entries → IsApart script actor x.event
one_other script who actor log of_script differs follows x m = (
  others_log script.setup who actor first_standing (filter (is_of who) script.lines) log.entries differs (own_lines script.setup who script.lines of_script) follows.opened x m,
  λ s own none. log_serves s who first_standing (filter (is_own who) script.lines) log.entries (λ same. differs (same ∙ sym own)) (no_own_line s (is_own who) script.lines (no_stage_line script s none)) follows.whole x m,
)

all_other : (script : ScriptData) (actor : Actor) (actors : List Actor) (logs : List Logged) → AreLinesOf script.setup script.lines → AllOpened script actors logs → (actor ∈ actors → ⊥) → (x : Entry) → x ∈ logs_of logs → IsApart script actor x.event
unfolding ◌∈◌
all_other script actor [] [] of_script follow not x m = absurd m
all_other script actor [] (log ∷ logs) of_script follow not x m = absurd follow
all_other script actor (who ∷ actors) [] of_script follow not x m = absurd m
all_other script actor (who ∷ actors) (log ∷ logs) of_script follow not x m = elim (in_append x log.entries (logs_of logs) m) [
  | inl here ↦ one_other script who actor log of_script (λ same. not (inl (sym same))) follow.0 x here
  | inr there ↦ all_other script actor actors logs of_script follow.1 (λ n. not (inr n)) x there
]

-- ---- the log of an actor that is there
log_here : (script : ScriptData) (actor : Actor) (log : Logged) (actors : List Actor) (logs : List Logged) → AreLinesOf script.setup script.lines → LogOf script.lines actor log.entries → rises_above 0 (ticks_of log.entries) ≡ true → AllOpened script actors logs → (actor ∈ actors → ⊥) → OwnLog script actor (log.entries ++ logs_of logs)
log_here script actor log actors logs of_script follows rise follow not = record {
  entries = log.entries;
  follows = follows.opened;
  rises = rises_of 0 log.entries rise;
  among = record {
    inside = λ x m. in_front x log.entries (logs_of logs) m;
    others = λ x m. elim (in_append x log.entries (logs_of logs) m) [ inl here ↦ inl here | inr there ↦ inr (all_other script actor actors logs of_script follow not x there) ];
  };
}

log_later : (script : ScriptData) (who actor : Actor) (log : Logged) (logs : List Logged) → AreLinesOf script.setup script.lines → (who ≡ actor → ⊥) → LogOf script.lines who log.entries → OwnLog script actor (logs_of logs) → OwnLog script actor (log.entries ++ logs_of logs)
log_later script who actor log logs of_script differs follows k = record {
  entries = k.entries;
  follows = k.follows;
  rises = k.rises;
  among = record {
    inside = λ x m. in_back x log.entries (logs_of logs) (k.among.inside x m);
    others = λ x m. elim (in_append x log.entries (logs_of logs) m) [ inl here ↦ inr (one_other script who actor log of_script differs follows x here) | inr there ↦ k.among.others x there ];
  };
}

log_there : (script : ScriptData) (actor : Actor) (actors : List Actor) (logs : List Logged) → AreLinesOf script.setup script.lines → Once actors → AllOpened script actors logs → AllRise logs → actor ∈ actors → OwnLog script actor (logs_of logs)
unfolding ◌∈◌ Once
log_there script actor [] logs of_script once follow rise m = absurd m
log_there script actor (who ∷ actors) [] of_script once follow rise m = absurd follow
log_there script actor (who ∷ actors) (log ∷ logs) of_script once follow rise (inl same) =
    let follows : LogOf script.lines actor log.entries = subst (λ (a : Actor). LogOf script.lines a log.entries) (sym same) follow.0 in
    let up : rises_above 0 (ticks_of log.entries) ≡ true = All-head (λ (l : Logged). rises_above 0 (ticks_of l.entries) ≡ true) log logs rise in
    log_here script actor log actors logs of_script follows up follow.1 (λ n. once.0 (subst (λ (a : Actor). a ∈ actors) same n))
log_there script actor (who ∷ actors) (log ∷ logs) of_script once follow rise (inr m) =
    log_later script who actor log logs of_script (λ same. once.0 (subst (λ (a : Actor). a ∈ actors) (sym same) m)) follow.0
    (log_there script actor actors logs of_script once.1 follow.1 (All-tail (λ (l : Logged). rises_above 0 (ticks_of l.entries) ≡ true) log logs rise) m)

-- ---- any actor
-- one without lines has no log
no_log : (script : ScriptData) (actor : Actor) (logs : List Logged) → AreLinesOf script.setup script.lines → AllOpened script (actors_of script) logs → has_lines script actor ≡ false → OwnLog script actor (logs_of logs)
unfolding FollowsOpened Rises ◌∈◌
no_log script actor logs of_script follow none = record {
  entries = [];
  follows = (no_own_lines script actor none, refl);
  rises = tt;
  among = record { inside = λ x m. absurd m; others = λ x m. inr (all_other script actor (actors_of script) logs of_script follow (gone_without script actor none) x m) };
}

own_log : (script : ScriptData) (actor : Actor) (logs : List Logged) → AreLinesOf script.setup script.lines → AllOpened script (actors_of script) logs → AllRise logs → OwnLog script actor (logs_of logs)
own_log script actor logs of_script follow rise = elim (cases_Bool (has_lines script actor)) [
  | inl some ↦ log_there script actor (actors_of script) logs of_script (once_actors script) follow rise (there_with script actor of_script some)
  | inr none ↦ no_log script actor logs of_script follow none
]

-- in the order of ticks the log stands among the entries of others
pub record WovenLog (script : ScriptData) (actor : Actor) (merged : List Entry) : Type 0 where
  pub entries : List Entry
  pub follows : OpenedLines script.lines actor entries
  pub woven : Woven (λ e. IsApart script actor e.event) entries merged

pub woven_log : (script : ScriptData) (actor : Actor) (logs : List Logged) (merged : List Entry) → AreLinesOf script.setup script.lines → AllOpened script (actors_of script) logs → AllRise logs → InTickOrder (logs_of logs) merged → WovenLog script actor merged
woven_log script actor logs merged of_script follow rise order =
    let k : OwnLog script actor (logs_of logs) = own_log script actor logs of_script follow rise in
    let among : Among (λ e. IsApart script actor e.event) k.entries merged = record {
      inside = λ x m. moved (logs_of logs) merged x order.all (k.among.inside x m);
      others = λ x m. k.among.others x (moved merged (logs_of logs) x (IsPermutation-sym (logs_of logs) merged order.all) m);
    } in
    record { entries = k.entries; follows = k.follows; woven = woven (λ e. IsApart script actor e.event) 1 k.entries merged (counts_of 1 merged order.ticks) k.rises among }
