-- Where nobody else serves what a session asks, a history that serves the script ends its asks by their outcomes.
use Rattle.log_refinement.proofs.Names.{◌≡◌, Bool, true, false, List, [], ◌∷◌, ◌++◌, inl, inr, filter, Actor, Item}
use Rattle.log_refinement.proofs.Names.{Line, ScriptData, is_of, Begun, Reads, Asks, begun_by, begun_after, HasEnded}
use Rattle.log_refinement.proofs.Names.{AnsweredServed, HasOutcome, ScriptsWithoutStageLinesAreServed}
use Rattle.log_refinement.specs.Served.{Nothing}

not_both : (b : Bool) → b ≡ true → b ≡ false → ⊥
not_both true is none = let clash : true ≡ false = none in cc
not_both false is none = let clash : false ≡ true = is in cc

ends_by_outcome : (script : ScriptData) (h : List Item) (begun : Begun) → HasEnded script h begun → HasOutcome script h begun
ends_by_outcome script h Nothing ended = tt
ends_by_outcome script h (Reads key) ended = absurd ended
ends_by_outcome script h (Asks session ask since) (inl (inl (denied, inl others))) = λ alone standing. absurd (not_both _ others alone)
ends_by_outcome script h (Asks session ask since) (inl (inl (denied, inr crashed))) = λ alone standing. absurd (standing crashed)
ends_by_outcome script h (Asks session ask since) (inl (inr failed)) = λ alone standing. inl failed
ends_by_outcome script h (Asks session ask since) (inr come) = λ alone standing. inr come

walk_so : (P Q : List Item → Begun → Type 0) → ((h : List Item) (begun : Begun) → P h begun → Q h begun) → (actor : Actor) (before : List Item) (begun : Begun) (lines : List Line) (xs : List Item) → AnsweredServed P actor before begun lines xs → AnsweredServed Q actor before begun lines xs
unfolding AnsweredServed
walk_so P Q so actor before begun lines [] walks = (so before begun walks.0, walks.1)
walk_so P Q so actor before begun [] (x ∷ xs) walks = (walks.0, walk_so P Q so actor (before ++ x ∷ []) (begun_after actor begun x) [] xs walks.1)
walk_so P Q so actor before begun (line ∷ lines) (x ∷ xs) (inl k) = inl (so before begun k.0, k.1, walk_so P Q so actor (before ++ x ∷ []) (begun_by line.verb x) lines xs k.2)
walk_so P Q so actor before begun (line ∷ lines) (x ∷ xs) (inr k) = inr (k.0, walk_so P Q so actor (before ++ x ∷ []) (begun_after actor begun x) (line ∷ lines) xs k.1)

pub served_by_outcomes : ScriptsWithoutStageLinesAreServed
served_by_outcomes script h served actor = walk_so (HasEnded script) (HasOutcome script) (λ g begun. ends_by_outcome script g begun) actor [] Nothing (filter (is_of actor) script.lines) h (served actor)
