-- Steps of a stage that follow each other.
use Rattle.run_board.proofs.Names.{◌≡◌, ℕ, ◌+◌, ◌<◌, false, List, [], ◌∷◌, ◌++◌, inl, inr, refl, sym, subst, arith}
use Rattle.run_board.proofs.Names.{eqb_tells, Stage, Request, Persist, Reply, StageStep, Ran, IsStageHeld, state_of}
use Rattle.run_board.proofs.Names.{has_turn, Played, Follow, MakesSteps, GoesThrough}
use Rattle.run_board.specs.Playing.{Serves}

-- ---- steps
no_steps : (node term : ℕ) (stage : Stage) (session : ℕ) (p : Played) → Follow node term stage session [] p p
unfolding Follow
no_steps node term stage session p = refl

pub none_made : (node term : ℕ) (stage : Stage) (session : ℕ) (p : Played) → MakesSteps node term stage session p p
none_made node term stage session p = record { answers = []; follow = no_steps node term stage session p }

one_follows : (node term : ℕ) (stage : Stage) (session : ℕ) (answers : List StageStep) (answer : StageStep) (old mid new : Played) → Follow node term stage session answers old mid → Serves mid node term stage session answer new → Follow node term stage session (answer ∷ answers) old new
unfolding Follow
one_follows node term stage session answers answer old mid new before serves = (mid, before, serves)

pub one_more : (node term : ℕ) (stage : Stage) (session : ℕ) (answer : StageStep) (old mid new : Played) → MakesSteps node term stage session old mid → Serves mid node term stage session answer new → MakesSteps node term stage session old new
one_more node term stage session answer old mid new made serves = record { answers = answer ∷ made.answers; follow = one_follows node term stage session made.answers answer old mid new made.follow serves }

pub one_made : (node term : ℕ) (stage : Stage) (session : ℕ) (answer : StageStep) (old new : Played) → Serves old node term stage session answer new → MakesSteps node term stage session old new
one_made node term stage session answer old new serves = one_more node term stage session answer old old new (none_made node term stage session old) serves

-- those of one stage behind others of it
all_follow : (node term : ℕ) (stage : Stage) (session : ℕ) (first later : List StageStep) (old mid new : Played) → Follow node term stage session first old mid → Follow node term stage session later mid new → Follow node term stage session (later ++ first) old new
unfolding Follow
all_follow node term stage session first [] old mid new before same = subst (λ (p : Played). Follow node term stage session first old p) (sym same) before
all_follow node term stage session first (answer ∷ later) old mid new before after = (after.0, all_follow node term stage session first later old mid after.0 before after.1, after.2)

pub more_made : (node term : ℕ) (stage : Stage) (session : ℕ) (old mid new : Played) → MakesSteps node term stage session old mid → MakesSteps node term stage session mid new → MakesSteps node term stage session old new
more_made node term stage session old mid new first later = record { answers = later.answers ++ first.answers; follow = all_follow node term stage session first.answers later.answers old mid new first.follow later.follow }

-- no stage was asked for one
pub none_through : (node term session : ℕ) (p : Played) → GoesThrough node term session p p
none_through node term session p = record {
  drawn = p;
  settled = p;
  request = none_made node term Request session p;
  persist = none_made node term Persist session p;
  reply = none_made node term Reply session p;
}

-- ---- what is looked at
pub all_free : (r : Ran) (node : ℕ) → IsStageHeld r node Request ≡ false → IsStageHeld r node Persist ≡ false → IsStageHeld r node Reply ≡ false → (stage : Stage) → IsStageHeld r node stage ≡ false
all_free r node request persist reply Request = request
all_free r node request persist reply Persist = persist
all_free r node request persist reply Reply = reply

-- the sessions up to this number
settled_at : (r : Ran) (node n session : ℕ) → has_turn (state_of r) node Persist n ≡ false → session ≡ n → has_turn (state_of r) node Persist session ≡ false
settled_at r node n session here same = subst (λ (k : ℕ). has_turn (state_of r) node Persist k ≡ false) (sym same) here

pub one_more_settled : (r : Ran) (node n : ℕ) → ((session : ℕ) → session < n → has_turn (state_of r) node Persist session ≡ false) → has_turn (state_of r) node Persist n ≡ false → (session : ℕ) → session < n + 1 → has_turn (state_of r) node Persist session ≡ false
one_more_settled r node n before here session less = elim (eqb_tells session n) [
  | inl same ↦ settled_at r node n session here same.1
  | inr other ↦ before session (omega (arith, less, other.1))
]
