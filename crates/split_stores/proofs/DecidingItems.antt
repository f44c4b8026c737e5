-- `==` of items decides whether they are the same.
use Rattle.std.proofs.Common.{◌≡◌, ℕ, ◌-◌, Bool, true, false, ◌&&◌, List, ◌++◌, length, replicate, nat_eq, Decides, refl, sym, ap, ◌∙◌, rules}
use Rattle.std.specs.Prelude.{Option, None, Some}
use Rattle.std.specs.Option.{option_eq}
use Rattle.std.specs.Str.{bytes_eq}
use Rattle.std.proofs.lemmas.Slice.Eq.{bytes_eq-Decides}
use Rattle.std.proofs.lemmas.List.{append_cancel_right}
use Rattle.std.proofs.lemmas.Bool.Decides.{Decides-and, Decides-eqb, Decides-like}
use Rattle.stamp_base.specs.declared.stage.Stage.{Stage}
use Rattle.stamp_base.specs.contracts.stage.StagePartialEq.TheImpl as stage_eq
use Rattle.stamp_base.specs.declared.stores.Store.{Store}
use Rattle.stamp_base.specs.contracts.stores.StorePartialEq.TheImpl as store_eq
use Rattle.stamp_base.specs.declared.stores.Mark.{Mark}
use Rattle.stamp_base.specs.contracts.stores.MarkPartialEq.TheImpl as mark_eq
use Rattle.history_book.specs.declared.cause.Cause.{Cause}
use Rattle.history_book.specs.declared.cause.Cause.TheVariants as cause
use Rattle.history_book.specs.contracts.cause.CausePartialEq.TheImpl as cause_eq
use Rattle.history_book.specs.declared.item.Actor.{Actor}
use Rattle.history_book.specs.contracts.item.ActorPartialEq.TheImpl as actor_eq
use Rattle.history_book.specs.declared.item.Note.{Note}
use Rattle.history_book.specs.declared.item.Note.TheVariants as note
use Rattle.history_book.specs.contracts.item.NotePartialEq.TheImpl as note_eq
use Rattle.history_book.specs.declared.item.Found.{Found}
use Rattle.history_book.specs.contracts.item.FoundPartialEq.TheImpl as found_eq
use Rattle.history_book.specs.declared.item.Seen.{Seen}
use Rattle.history_book.specs.contracts.item.SeenPartialEq.TheImpl as seen_eq
use Rattle.history_book.specs.declared.item.StoreStep.{StoreStep}
use Rattle.history_book.specs.declared.item.StoreStep.TheVariants as step
use Rattle.history_book.specs.contracts.item.StoreStepPartialEq.TheImpl as step_eq
use Rattle.history_book.specs.declared.item.Ending.{Ending}
use Rattle.history_book.specs.contracts.item.EndingPartialEq.TheImpl as ending_eq
use Rattle.history_book.specs.declared.item.Item.{Item}
use Rattle.history_book.specs.declared.item.Item.TheVariants as item
use Rattle.history_book.specs.contracts.item.ItemPartialEq.TheImpl as item_eq

-- ---- two of one kind, and of two
alike : {A : Type 0} {a : A} → Decides true (a ≡ a)
alike = (λ _. refl, λ _. refl)

apart : {P : Type 0} → (P → ⊥) → Decides false P
apart not = (λ e. absurd (cc), λ h. absurd (not h))

-- ---- what items are made of
-- names and values: arrays of one size, with zeros behind the bytes that count
Decides-padded : (size : ℕ) (a b : List ℕ) → Decides (bytes_eq (a ++ replicate (size - length a) 0) (b ++ replicate (size - length b) 0) && nat_eq (length a) (length b)) (a ≡ b)
Decides-padded size a b =
    Decides-like _
    (λ h. append_cancel_right a b (replicate (size - length a) 0) (h.0 ∙ ap (λ n. b ++ replicate (size - n) 0) (sym h.1)))
    (λ e. (ap (λ (x : List ℕ). x ++ replicate (size - length x) 0) e, ap (λ (x : List ℕ). length x) e))
    (Decides-and _ _ (bytes_eq-Decides _ _) (Decides-eqb (length a) (length b)))

Decides-option : {X : Type 0} (same : X → X → Bool) → ((a b : X) → Decides (same a b) (a ≡ b)) → (a b : Option X) → Decides (option_eq same a b) (a ≡ b)
Decides-option same decides None None = alike
Decides-option same decides (Some a) (Some b) = Decides-like _ (λ e. cc) (λ e. cc) (decides a b)
Decides-option same decides _ _ = apart (λ e. cc)

Decides-stage : (a b : Stage) → Decides (stage_eq.ghosts.eq a b) (a ≡ b)
Decides-stage a b = search rules

Decides-store : (a b : Store) → Decides (store_eq.ghosts.eq a b) (a ≡ b)
Decides-store a b = search rules

Decides-mark : (a b : Mark) → Decides (mark_eq.ghosts.eq a b) (a ≡ b)
Decides-mark a b = search rules

Decides-actor : (a b : Actor) → Decides (actor_eq.ghosts.eq a b) (a ≡ b)
Decides-actor a b = search rules

Decides-ending : (a b : Ending) → Decides (ending_eq.ghosts.eq a b) (a ≡ b)
Decides-ending a b = search rules

Decides-seen : (a b : Seen) → Decides (seen_eq.ghosts.eq a b) (a ≡ b)
Decides-seen a b = search rules

Decides-found : (a b : Found) → Decides (found_eq.ghosts.eq a b) (a ≡ b)
Decides-found a b = Decides-like _ (λ e. search rules) (λ e. (cc, cc)) (Decides-and _ _ (Decides-eqb a.from b.from) (Decides-padded 64 a.value b.value))

Decides-note : (a b : Note) → Decides (note_eq.ghosts.eq a b) (a ≡ b)
Decides-note (note.Post a0) (note.Post b0) = Decides-like _ (λ e. cc) (λ e. cc) (Decides-padded 16 a0 b0)
Decides-note (note.Await a0) (note.Await b0) = Decides-like _ (λ e. cc) (λ e. cc) (Decides-padded 16 a0 b0)
Decides-note (note.Hold a0) (note.Hold b0) = Decides-like _ (λ e. cc) (λ e. cc) (Decides-stage a0 b0)
Decides-note (note.Free a0) (note.Free b0) = Decides-like _ (λ e. cc) (λ e. cc) (Decides-stage a0 b0)
Decides-note _ _ = apart (λ e. cc)

Decides-cause : (a b : Cause) → Decides (cause_eq.ghosts.eq a b) (a ≡ b)
Decides-cause (cause.Conflict a0 a1) (cause.Conflict b0 b1) = Decides-like _ (λ e. cc) (λ e. (cc, cc)) (Decides-and _ _ (Decides-eqb a0 b0) (Decides-eqb a1 b1))
Decides-cause (cause.Hidden a0 a1) (cause.Hidden b0 b1) = Decides-like _ (λ e. cc) (λ e. (cc, cc)) (Decides-and _ _ (Decides-eqb a0 b0) (Decides-eqb a1 b1))
Decides-cause (cause.OldEpoch a0 a1) (cause.OldEpoch b0 b1) = Decides-like _ (λ e. cc) (λ e. (cc, cc)) (Decides-and _ _ (Decides-eqb a0 b0) (Decides-eqb a1 b1))
Decides-cause (cause.Expired a0 a1) (cause.Expired b0 b1) = Decides-like _ (λ e. cc) (λ e. (cc, cc)) (Decides-and _ _ (Decides-eqb a0 b0) (Decides-eqb a1 b1))
Decides-cause (cause.Replaced a0) (cause.Replaced b0) = Decides-like _ (λ e. cc) (λ e. cc) (Decides-eqb a0 b0)
Decides-cause (cause.Spent a0) (cause.Spent b0) = Decides-like _ (λ e. cc) (λ e. cc) (Decides-eqb a0 b0)
Decides-cause (cause.NoStamp a0) (cause.NoStamp b0) = Decides-like _ (λ e. cc) (λ e. cc) (Decides-eqb a0 b0)
Decides-cause (cause.Invalid a0) (cause.Invalid b0) = Decides-like _ (λ e. cc) (λ e. cc) (Decides-eqb a0 b0)
Decides-cause (cause.Open a0) (cause.Open b0) = Decides-like _ (λ e. cc) (λ e. cc) (Decides-eqb a0 b0)
Decides-cause (cause.Crashed a0 a1) (cause.Crashed b0 b1) = Decides-like _ (λ e. cc) (λ e. (cc, cc)) (Decides-and _ _ (Decides-eqb a0 b0) (Decides-eqb a1 b1))
Decides-cause (cause.NotYet a0) (cause.NotYet b0) = Decides-like _ (λ e. cc) (λ e. cc) (Decides-eqb a0 b0)
Decides-cause (cause.NoRequest a0) (cause.NoRequest b0) = Decides-like _ (λ e. cc) (λ e. cc) (Decides-eqb a0 b0)
Decides-cause (cause.NoOracle a0) (cause.NoOracle b0) = Decides-like _ (λ e. cc) (λ e. cc) (Decides-eqb a0 b0)
Decides-cause (cause.Full a0) (cause.Full b0) = Decides-like _ (λ e. cc) (λ e. cc) (Decides-eqb a0 b0)
Decides-cause (cause.Early a0 a1) (cause.Early b0 b1) = Decides-like _ (λ e. cc) (λ e. (cc, cc)) (Decides-and _ _ (Decides-eqb a0 b0) (Decides-eqb a1 b1))
Decides-cause (cause.Holding a0) (cause.Holding b0) = Decides-like _ (λ e. cc) (λ e. cc) (Decides-eqb a0 b0)
Decides-cause cause.NoTransaction cause.NoTransaction = alike
Decides-cause cause.Busy cause.Busy = alike
Decides-cause cause.TooManyKeys cause.TooManyKeys = alike
Decides-cause cause.Gone cause.Gone = alike
Decides-cause cause.Idle cause.Idle = alike
Decides-cause (cause.Undecided a0 a1) (cause.Undecided b0 b1) = Decides-like _ (λ e. cc) (λ e. (cc, cc)) (Decides-and _ _ (Decides-eqb a0 b0) (Decides-eqb a1 b1))
Decides-cause _ _ = apart (λ e. cc)

Decides-step : (a b : StoreStep) → Decides (step_eq.ghosts.eq a b) (a ≡ b)
Decides-step (step.Fetch a0 a1) (step.Fetch b0 b1) = Decides-like _ (λ e. cc) (λ e. (cc, cc)) (Decides-and _ _ (Decides-eqb a0 b0) (Decides-eqb a1 b1))
Decides-step (step.Get a0 a1) (step.Get b0 b1) = Decides-like _ (λ e. cc) (λ e. (cc, cc)) (Decides-and _ _ (Decides-eqb a0 b0) (Decides-option mark_eq.ghosts.eq Decides-mark a1 b1))
Decides-step (step.MarkFound a0 a1) (step.MarkFound b0 b1) = Decides-like _ (λ e. cc) (λ e. (cc, cc)) (Decides-and _ _ (Decides-eqb a0 b0) (Decides-mark a1 b1))
Decides-step (step.Look a0 a1 a2) (step.Look b0 b1 b2) = Decides-like _ (λ e. cc) (λ e. (cc, (cc, cc))) (Decides-and _ _ (Decides-eqb a0 b0) (Decides-and _ _ (Decides-eqb a1 b1) (Decides-seen a2 b2)))
Decides-step (step.Shadow a0 a1 a2) (step.Shadow b0 b1 b2) = Decides-like _ (λ e. cc) (λ e. (cc, (cc, cc))) (Decides-and _ _ (Decides-eqb a0 b0) (Decides-and _ _ (Decides-eqb a1 b1) (Decides-eqb a2 b2)))
Decides-step (step.Remove a0) (step.Remove b0) = Decides-like _ (λ e. cc) (λ e. cc) (Decides-eqb a0 b0)
Decides-step (step.Erase a0 a1) (step.Erase b0 b1) = Decides-like _ (λ e. cc) (λ e. (cc, cc)) (Decides-and _ _ (Decides-eqb a0 b0) (Decides-eqb a1 b1))
Decides-step (step.Keys a0 a1) (step.Keys b0 b1) = Decides-like _ (λ e. cc) (λ e. (cc, cc)) (Decides-and _ _ (Decides-eqb a0 b0) (Decides-eqb a1 b1))
Decides-step (step.PutFound a0) (step.PutFound b0) = Decides-like _ (λ e. cc) (λ e. cc) (Decides-eqb a0 b0)
Decides-step (step.Handed a0 a1) (step.Handed b0 b1) = Decides-like _ (λ e. cc) (λ e. (cc, cc)) (Decides-and _ _ (Decides-eqb a0 b0) (Decides-eqb a1 b1))
Decides-step _ _ = apart (λ e. cc)

-- ---- items
pub Decides-item : (a b : Item) → Decides (item_eq.ghosts.eq a b) (a ≡ b)
Decides-item (item.Tick a0) (item.Tick b0) = Decides-like _ (λ e. cc) (λ e. cc) (Decides-eqb a0 b0)
Decides-item (item.Note a0 a1) (item.Note b0 b1) = Decides-like _ (λ e. cc) (λ e. (cc, cc)) (Decides-and _ _ (Decides-actor a0 b0) (Decides-note a1 b1))
Decides-item (item.Take a0 a1 a2 a3 a4 a5) (item.Take b0 b1 b2 b3 b4 b5) = Decides-like _ (λ e. cc) (λ e. (cc, (cc, (cc, (cc, (cc, cc)))))) (Decides-and _ _ (Decides-eqb a0 b0) (Decides-and _ _ (Decides-eqb a1 b1) (Decides-and _ _ (Decides-eqb a2 b2) (Decides-and _ _ (Decides-eqb a3 b3) (Decides-and _ _ (Decides-eqb a4 b4) (Decides-eqb a5 b5))))))
Decides-item (item.Renew a0 a1 a2 a3) (item.Renew b0 b1 b2 b3) = Decides-like _ (λ e. cc) (λ e. (cc, (cc, (cc, cc)))) (Decides-and _ _ (Decides-eqb a0 b0) (Decides-and _ _ (Decides-eqb a1 b1) (Decides-and _ _ (Decides-eqb a2 b2) (Decides-eqb a3 b3))))
Decides-item (item.Extend a0 a1 a2) (item.Extend b0 b1 b2) = Decides-like _ (λ e. cc) (λ e. (cc, (cc, cc))) (Decides-and _ _ (Decides-eqb a0 b0) (Decides-and _ _ (Decides-eqb a1 b1) (Decides-eqb a2 b2)))
Decides-item (item.AskBegin a0 a1) (item.AskBegin b0 b1) = Decides-like _ (λ e. cc) (λ e. (cc, cc)) (Decides-and _ _ (Decides-eqb a0 b0) (Decides-eqb a1 b1))
Decides-item (item.AskCommit a0 a1 a2) (item.AskCommit b0 b1 b2) = Decides-like _ (λ e. cc) (λ e. (cc, (cc, cc))) (Decides-and _ _ (Decides-eqb a0 b0) (Decides-and _ _ (Decides-eqb a1 b1) (Decides-eqb a2 b2)))
Decides-item (item.Accept a0 a1 a2 a3) (item.Accept b0 b1 b2 b3) = Decides-like _ (λ e. cc) (λ e. (cc, (cc, (cc, cc)))) (Decides-and _ _ (Decides-eqb a0 b0) (Decides-and _ _ (Decides-eqb a1 b1) (Decides-and _ _ (Decides-eqb a2 b2) (Decides-eqb a3 b3))))
Decides-item (item.Draw a0 a1 a2 a3 a4) (item.Draw b0 b1 b2 b3 b4) = Decides-like _ (λ e. cc) (λ e. (cc, (cc, (cc, (cc, cc))))) (Decides-and _ _ (Decides-eqb a0 b0) (Decides-and _ _ (Decides-eqb a1 b1) (Decides-and _ _ (Decides-eqb a2 b2) (Decides-and _ _ (Decides-eqb a3 b3) (Decides-option nat_eq Decides-eqb a4 b4)))))
Decides-item (item.Begin a0 a1) (item.Begin b0 b1) = Decides-like _ (λ e. cc) (λ e. (cc, cc)) (Decides-and _ _ (Decides-eqb a0 b0) (Decides-eqb a1 b1))
Decides-item (item.Write a0 a1 a2 a3) (item.Write b0 b1 b2 b3) = Decides-like _ (λ e. cc) (λ e. (cc, (cc, (cc, cc)))) (Decides-and _ _ (Decides-eqb a0 b0) (Decides-and _ _ (Decides-eqb a1 b1) (Decides-and _ _ (Decides-eqb a2 b2) (Decides-padded 64 a3 b3))))
Decides-item (item.Read a0 a1 a2 a3) (item.Read b0 b1 b2 b3) = Decides-like _ (λ e. cc) (λ e. (cc, (cc, (cc, cc)))) (Decides-and _ _ (Decides-eqb a0 b0) (Decides-and _ _ (Decides-eqb a1 b1) (Decides-and _ _ (Decides-eqb a2 b2) (Decides-option found_eq.ghosts.eq Decides-found a3 b3))))
Decides-item (item.Placed a0 a1) (item.Placed b0 b1) = Decides-like _ (λ e. cc) (λ e. (cc, cc)) (Decides-and _ _ (Decides-eqb a0 b0) (Decides-eqb a1 b1))
Decides-item (item.Committed a0 a1 a2) (item.Committed b0 b1 b2) = Decides-like _ (λ e. cc) (λ e. (cc, (cc, cc))) (Decides-and _ _ (Decides-eqb a0 b0) (Decides-and _ _ (Decides-eqb a1 b1) (Decides-eqb a2 b2)))
Decides-item (item.Mark a0 a1) (item.Mark b0 b1) = Decides-like _ (λ e. cc) (λ e. (cc, cc)) (Decides-and _ _ (Decides-actor a0 b0) (Decides-eqb a1 b1))
Decides-item (item.Step a0 a1) (item.Step b0 b1) = Decides-like _ (λ e. cc) (λ e. (cc, cc)) (Decides-and _ _ (Decides-actor a0 b0) (Decides-step a1 b1))
Decides-item (item.End a0 a1 a2) (item.End b0 b1 b2) = Decides-like _ (λ e. cc) (λ e. (cc, (cc, cc))) (Decides-and _ _ (Decides-eqb a0 b0) (Decides-and _ _ (Decides-eqb a1 b1) (Decides-ending a2 b2)))
Decides-item (item.Refused a0 a1) (item.Refused b0 b1) = Decides-like _ (λ e. cc) (λ e. (cc, cc)) (Decides-and _ _ (Decides-actor a0 b0) (Decides-cause a1 b1))
Decides-item (item.Fault a0 a1) (item.Fault b0 b1) = Decides-like _ (λ e. cc) (λ e. (cc, cc)) (Decides-and _ _ (Decides-actor a0 b0) (Decides-store a1 b1))
Decides-item (item.Crash a0 a1) (item.Crash b0 b1) = Decides-like _ (λ e. cc) (λ e. (cc, cc)) (Decides-and _ _ (Decides-eqb a0 b0) (Decides-eqb a1 b1))
Decides-item (item.Vanish a0) (item.Vanish b0) = Decides-like _ (λ e. cc) (λ e. cc) (Decides-eqb a0 b0)
Decides-item _ _ = apart (λ e. cc)
