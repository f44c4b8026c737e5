-- The logs that actors hand back are of their lines.
use Rattle.std.proofs.Common.{◌≡◌, ℕ, zero, suc, true, List, [], ◌∷◌, ◌++◌, length, refl, sym, ap, subst, ◌∙◌, arith}
use Rattle.std.specs.Prelude.{All, map, option_map, slice_get, Some, Result, Ok, Err, IfErr, OnOk}
use Rattle.std.specs.List.{AllZip}
use Rattle.std.proofs.lemmas.List.Elements.{All-nil, All-cons, All-head, All-tail}
use Rattle.std.proofs.lemmas.Option.{none-some, same_Some, slice_get-map}
use Rattle.atomic_table.specs.Seated.{TableId}
use Rattle.history_book.specs.declared.item.Actor.{Actor}
use Rattle.script_data.specs.declared.line.Line.{Line}
use Rattle.script_data.specs.Data.{ScriptData}
use Rattle.thread_scripts.specs.Actors.{actors_of}
use Rattle.split_stores.specs.Logs.{Logged, IsNew, ticks_of, rises_above}
use Rattle.log_refinement.specs.Follows.{FollowsLines, FollowsSome}
use Rattle.log_refinement.specs.Laws.{AllRise}
use Rattle.split_driver.specs.declared.play_stop.PlayStop.{PlayStop}
use Rattle.split_driver.specs.declared.play_stop.PlayStop.TheVariants as play
use Rattle.split_driver.specs.Runs.{TellsDrawn}
use Rattle.split_driver.specs.declared.jobs.Job.{Job}
use Rattle.split_driver.specs.Splits.{AreLogs, IsSpentAt}
use Rattle.split_driver.specs.Actors.{GivesBack, HasTold, IsJobOf, IsPlayedBy, IsPlayedOf, IsThrough, task}

-- ---- two lists, place by place
-- one pair more
zip_more : {A B : Type 0} (R : A → B → Type 0) (xs : List A) (ys : List B) (x : A) (y : B) → AllZip R xs ys → R x y → AllZip R (xs ++ x ∷ []) (ys ++ y ∷ [])
zip_more R [] [] x y so r = (r, tt)
zip_more R [] (b ∷ ys) x y so r = absurd so
zip_more R (a ∷ xs) [] x y so r = absurd so
zip_more R (a ∷ xs) (b ∷ ys) x y so r = (so.0, zip_more R xs ys x y so.1 r)

-- ---- jobs
pub one_job_more : (word : TableId) (actors : List Actor) (jobs : List Job) (actor : Actor) (job : Job) → AllZip (IsJobOf word) actors jobs → IsJobOf word actor job → AllZip (IsJobOf word) (actors ++ actor ∷ []) (jobs ++ job ∷ [])
one_job_more word actors jobs actor job so is = zip_more (IsJobOf word) actors jobs actor job so is

-- the log of each job is empty
pub all_new : (word : TableId) (actors : List Actor) (jobs : List Job) → AllZip (IsJobOf word) actors jobs → All (λ (job : Job). IsNew word job.seat) jobs
all_new word [] [] at = All-nil (λ (job : Job). IsNew word job.seat)
all_new word [] (job ∷ jobs) at = absurd at
all_new word (actor ∷ actors) [] at = absurd at
all_new word (actor ∷ actors) (job ∷ jobs) at = All-cons (λ (x : Job). IsNew word x.seat) job jobs at.0.new (all_new word actors jobs at.1)

played_of : (word : TableId) (lines : List Line) (actor : Actor) (job : Job) (p : Job) → IsJobOf word actor job → IsPlayedBy lines job p → IsPlayedOf word lines actor p
played_of word lines actor job p is by = record {
  word_is = by.word_is ∙ is.new.0;
  rise = by.rise;
  front = subst (λ (who : Actor). FollowsSome lines who p.seat.entries) is.actor_is by.front;
  follows = subst (λ (who : Actor). OnOk p.answer (FollowsLines lines who p.seat.entries)) is.actor_is by.follows;
  spent = by.spent;
}

pub all_played : (word : TableId) (lines : List Line) (actors : List Actor) (jobs : List Job) (played : List Job) → AllZip (IsJobOf word) actors jobs → AllZip (IsPlayedBy lines) jobs played → AllZip (IsPlayedOf word lines) actors played
all_played word lines [] [] [] at ended = tt
all_played word lines [] [] (p ∷ played) at ended = absurd ended
all_played word lines [] (job ∷ jobs) played at ended = absurd at
all_played word lines (actor ∷ actors) [] played at ended = absurd at
all_played word lines (actor ∷ actors) (job ∷ jobs) [] at ended = absurd ended
all_played word lines (actor ∷ actors) (job ∷ jobs) (p ∷ played) at ended = (played_of word lines actor job p at.0 ended.0, all_played word lines actors jobs played at.1 ended.1)

-- what threads give back is of the jobs that they were given
pub given_back : (lines : List Line) (jobs : List Job) (played : List Job) → AllZip GivesBack (map (task lines) jobs) played → AllZip (IsPlayedBy lines) jobs played
given_back lines [] [] at = tt
given_back lines [] (p ∷ played) at = absurd at
given_back lines (job ∷ jobs) [] at = absurd at
given_back lines (job ∷ jobs) (p ∷ played) at = (at.0, given_back lines jobs played at.1)

-- ---- the logs of all
through : (answer : Result (Unit {0}) PlayStop) (P : Type 0) → IsThrough answer → OnOk answer P → P
through (Ok done) P is holds = holds
through (Err stop) P is holds = absurd is

module _ (word : TableId) (lines : List Line) where
  -- where all came to the end of their lines, the logs follow these
  all_follow : (actors : List Actor) (played : List Job) → AllZip (IsPlayedOf word lines) actors played → All (λ (p : Job). IsThrough p.answer) played → AllZip (λ (actor : Actor) (log : Logged). FollowsLines lines actor log.entries) actors (map (λ (p : Job). p.seat) played)
  all_follow [] [] at whole = tt
  all_follow [] (p ∷ played) at whole = absurd at
  all_follow (actor ∷ actors) [] at whole = absurd at
  all_follow (actor ∷ actors) (p ∷ played) at whole =
      let HasEnded : Job → Type 0 = λ x. IsThrough x.answer in
      (through p.answer (FollowsLines lines actor p.seat.entries) (All-head HasEnded p played whole) at.0.follows, all_follow actors played at.1 (All-tail HasEnded p played whole))

  -- their ticks rise
  all_rise : (actors : List Actor) (played : List Job) → AllZip (IsPlayedOf word lines) actors played → AllRise (map (λ (p : Job). p.seat) played)
  all_rise [] [] at = All-nil (λ (log : Logged). rises_above 0 (ticks_of log.entries) ≡ true)
  all_rise [] (p ∷ played) at = absurd at
  all_rise (actor ∷ actors) [] at = absurd at
  all_rise (actor ∷ actors) (p ∷ played) at =
      All-cons (λ (log : Logged). rises_above 0 (ticks_of log.entries) ≡ true) p.seat (map (λ (x : Job). x.seat) played) at.0.rise (all_rise actors played at.1)

  -- all logs draw from the word
  all_of_word : (actors : List Actor) (played : List Job) → AllZip (IsPlayedOf word lines) actors played → All (λ (log : Logged). log.word ≡ word) (map (λ (p : Job). p.seat) played)
  all_of_word [] [] at = All-nil (λ (log : Logged). log.word ≡ word)
  all_of_word [] (p ∷ played) at = absurd at
  all_of_word (actor ∷ actors) [] at = absurd at
  all_of_word (actor ∷ actors) (p ∷ played) at =
      All-cons (λ (log : Logged). log.word ≡ word) p.seat (map (λ (x : Job). x.seat) played) at.0.word_is (all_of_word actors played at.1)

  -- and there are as many as actors
  all_there : (actors : List Actor) (played : List Job) → AllZip (IsPlayedOf word lines) actors played → length (map (λ (p : Job). p.seat) played) ≡ length actors
  all_there [] [] at = refl
  all_there [] (p ∷ played) at = absurd at
  all_there (actor ∷ actors) [] at = absurd at
  all_there (actor ∷ actors) (p ∷ played) at = ap suc (all_there actors played at.1)

  -- each log is of a front of the lines
  all_fronts : (actors : List Actor) (played : List Job) → AllZip (IsPlayedOf word lines) actors played → AllZip (λ (actor : Actor) (log : Logged). FollowsSome lines actor log.entries) actors (map (λ (p : Job). p.seat) played)
  all_fronts [] [] at = tt
  all_fronts [] (p ∷ played) at = absurd at
  all_fronts (actor ∷ actors) [] at = absurd at
  all_fronts (actor ∷ actors) (p ∷ played) at = (at.0.front, all_fronts actors played at.1)

  -- one who has drawn all its ticks tells so
  pub drew_at : (actors : List Actor) (played : List Job) (place : ℕ) (p : Job) → AllZip (IsPlayedOf word lines) actors played → slice_get played place ≡ Some p → IfErr p.answer (TellsDrawn p.seat.entries)
  drew_at [] [] place p at there = absurd (none-some p there)
  drew_at [] (x ∷ played) place p at there = absurd at
  drew_at (actor ∷ actors) [] place p at there = absurd at
  drew_at (actor ∷ actors) (x ∷ played) zero p at there = subst (λ (o : Job). IfErr o.answer (TellsDrawn o.seat.entries)) (same_Some x p there) at.0.spent
  drew_at (actor ∷ actors) (x ∷ played) (suc place) p at there = drew_at actors played place p at.1 there

  module _ (actors : List Actor) (played : List Job) (logs : List Logged) (at : AllZip (IsPlayedOf word lines) actors played) (is : logs ≡ map (λ (p : Job). p.seat) played) where
    pub seats_of_word : All (λ (log : Logged). log.word ≡ word) logs
    seats_of_word = subst (λ (l : List Logged). All (λ (log : Logged). log.word ≡ word) l) (sym is) (all_of_word actors played at)

    pub seats_there : (seats : ℕ) → seats ≡ length actors → length logs ≡ seats
    seats_there seats all = ap length is ∙ all_there actors played at ∙ sym all

    seats_rise : AllRise logs
    seats_rise = subst (λ (l : List Logged). AllRise l) (sym is) (all_rise actors played at)

    seats_fronts : AllZip (λ (actor : Actor) (log : Logged). FollowsSome lines actor log.entries) actors logs
    seats_fronts = subst (AllZip (λ (actor : Actor) (log : Logged). FollowsSome lines actor log.entries) actors) (sym is) (all_fronts actors played at)

    pub seats_follow : All (λ (p : Job). IsThrough p.answer) played → AllZip (λ (actor : Actor) (log : Logged). FollowsLines lines actor log.entries) actors logs
    seats_follow whole = subst (AllZip (λ (actor : Actor) (log : Logged). FollowsLines lines actor log.entries) actors) (sym is) (all_follow actors played at whole)

-- they are logs of the script
pub seats_are : (word : TableId) (script : ScriptData) (played : List Job) (logs : List Logged) → AllZip (IsPlayedOf word script.lines) (actors_of script) played → logs ≡ map (λ (p : Job). p.seat) played → AreLogs script logs
seats_are word script played logs at is = record {
  fronts = seats_fronts word script.lines (actors_of script) played logs at is;
  rise = seats_rise word script.lines (actors_of script) played logs at is;
}

-- one of them has drawn all its ticks, as it told
pub seats_spent : (word : TableId) (script : ScriptData) (played : List Job) (drawn : ℕ) → AllZip (IsPlayedOf word script.lines) (actors_of script) played → HasTold played drawn → IsSpentAt script drawn
seats_spent word script played drawn at told =
    let tells : TellsDrawn told.one.seat.entries (play.Spent drawn) = subst (λ (answer : Result (Unit {0}) PlayStop). IfErr answer (TellsDrawn told.one.seat.entries)) told.told (drew_at word script.lines (actors_of script) played told.place told.one at told.there) in
    record {
      logs = map (λ (p : Job). p.seat) played;
      are = seats_are word script played (map (λ (p : Job). p.seat) played) at refl;
      place = told.place;
      log = told.one.seat;
      there = slice_get-map (λ (p : Job). p.seat) played told.place ∙ ap (option_map (λ (p : Job). p.seat)) told.there;
      entries = tells.0;
      all = tells.1;
    }
