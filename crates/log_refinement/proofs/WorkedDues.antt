-- The small examples of asks that were denied.
use Rattle.log_refinement.proofs.Names.{◌≡◌, true, false, [], ◌∷◌, inl, inr, refl, arith, ◌∈◌, Node, ScriptData}
use Rattle.log_refinement.proofs.Names.{others_serve, HasEnded}
use Rattle.history_book.specs.declared.item.Item.TheVariants.{Crash}
use Rattle.log_refinement.specs.Worked.{no_request, alone, with_stage, asked_and, asks_and}

pub stage_ends : HasEnded (with_stage 0) (asked_and (no_request 0 0 ∷ [])) (asks_and (no_request 0 0 ∷ []))
unfolding ◌∈◌
stage_ends = inl (inl ((Node 0, inl refl), inl refl))

pub crash_ends : HasEnded alone (asked_and (Crash 0 1 ∷ no_request 0 0 ∷ [])) (asks_and (Crash 0 1 ∷ no_request 0 0 ∷ []))
unfolding ◌∈◌
crash_ends = inl (inl ((Node 0, inr (inl refl)), inr (1, inl refl)))

-- nobody else serves the session
owes : (script : ScriptData) → others_serve script 0 ≡ false → HasEnded script (asked_and (no_request 0 0 ∷ [])) (asks_and (no_request 0 0 ∷ [])) → ⊥
unfolding ◌∈◌
owes script none (inl (inl (denied, inl others))) = let clash : others_serve script 0 ≡ true = others in cc
owes script none (inl (inl (denied, inr (term, inl is)))) = cc
owes script none (inl (inl (denied, inr (term, inr m)))) = m
owes script none (inl (inr (inl is))) = cc
owes script none (inl (inr (inr m))) = m
owes script none (inr come) = elim come.over [
  | inl over ↦ let one : 1 ≡ 0 = over in absurd (omega (arith, one))
  | inr waits ↦ elim waits.1 [ inl is ↦ cc | inr m ↦ m ]
]

pub alone_owes : HasEnded alone (asked_and (no_request 0 0 ∷ [])) (asks_and (no_request 0 0 ∷ [])) → ⊥
alone_owes ended = owes alone refl ended

pub other_owes : HasEnded (with_stage 1) (asked_and (no_request 0 0 ∷ [])) (asks_and (no_request 0 0 ∷ [])) → ⊥
other_owes ended = owes (with_stage 1) refl ended
