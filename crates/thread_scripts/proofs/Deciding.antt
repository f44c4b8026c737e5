-- `==` of the parts of scripts decides whether they are the same.
use Rattle.std.proofs.Common.{◌≡◌, ℕ, ◌-◌, true, false, ◌&&◌, List, ◌++◌, length, replicate, nat_eq, Decides, refl, sym, ap, ◌∙◌, rules}
use Rattle.std.specs.Str.{bytes_eq}
use Rattle.std.proofs.lemmas.Slice.Eq.{bytes_eq-Decides}
use Rattle.std.proofs.lemmas.List.{append_cancel_right}
use Rattle.std.proofs.lemmas.Bool.Decides.{Decides-and, Decides-eqb, Decides-like}
use Rattle.stamp_base.specs.declared.stage.Stage.{Stage}
use Rattle.stamp_base.specs.contracts.stage.StagePartialEq.TheImpl as stage_eq
use Rattle.stamp_base.specs.declared.stores.Store.{Store}
use Rattle.stamp_base.specs.contracts.stores.StorePartialEq.TheImpl as store_eq
use Rattle.port_io.specs.Planned.{PlannedFault}
use Rattle.port_io.specs.declared.weather.Fate.{Fate}
use Rattle.port_io.specs.contracts.weather.FatePartialEq.TheImpl as fate_eq
use Rattle.history_book.specs.declared.item.Actor.{Actor}
use Rattle.history_book.specs.contracts.item.ActorPartialEq.TheImpl as actor_eq
use Rattle.script_data.specs.declared.line.Target.{Target}
use Rattle.script_data.specs.contracts.line.TargetPartialEq.TheImpl as target_eq
use Rattle.script_data.specs.declared.line.Verb.{Verb}
use Rattle.script_data.specs.declared.line.Verb.TheVariants as verb
use Rattle.script_data.specs.contracts.line.VerbPartialEq.TheImpl as verb_eq
use Rattle.script_data.specs.declared.line.Line.{Line}
use Rattle.script_data.specs.contracts.line.LinePartialEq.TheImpl as line_eq

-- names and values: arrays of one size, with zeros behind the bytes that count
Decides-padded : (size : ℕ) (a b : List ℕ) → Decides (bytes_eq (a ++ replicate (size - length a) 0) (b ++ replicate (size - length b) 0) && nat_eq (length a) (length b)) (a ≡ b)
Decides-padded size a b =
    Decides-like _
    (λ h. append_cancel_right a b (replicate (size - length a) 0) (h.0 ∙ ap (λ n. b ++ replicate (size - n) 0) (sym h.1)))
    (λ e. (ap (λ (x : List ℕ). x ++ replicate (size - length x) 0) e, ap (λ (x : List ℕ). length x) e))
    (Decides-and _ _ (bytes_eq-Decides _ _) (Decides-eqb (length a) (length b)))

Decides-stage : (a b : Stage) → Decides (stage_eq.ghosts.eq a b) (a ≡ b)
Decides-stage a b = search rules

Decides-store : (a b : Store) → Decides (store_eq.ghosts.eq a b) (a ≡ b)
Decides-store a b = search rules

Decides-fate : (a b : Fate) → Decides (fate_eq.ghosts.eq a b) (a ≡ b)
Decides-fate a b = search rules

Decides-actor : (a b : Actor) → Decides (actor_eq.ghosts.eq a b) (a ≡ b)
Decides-actor a b = search rules

Decides-target : (a b : Target) → Decides (target_eq.ghosts.eq a b) (a ≡ b)
Decides-target a b = search rules

-- ---- verbs
alike : {A : Type 0} {a : A} → Decides true (a ≡ a)
alike = (λ _. refl, λ _. refl)

apart : {P : Type 0} → (P → ⊥) → Decides false P
apart not = (λ e. absurd (cc), λ h. absurd (not h))

Decides-verb : (a b : Verb) → Decides (verb_eq.ghosts.eq a b) (a ≡ b)
Decides-verb (verb.Tick a) (verb.Tick b) = Decides-like _ (λ e. cc) (λ e. cc) (Decides-eqb a b)
Decides-verb verb.Take verb.Take = alike
Decides-verb verb.Renew verb.Renew = alike
Decides-verb verb.Crash verb.Crash = alike
Decides-verb verb.Extend verb.Extend = alike
Decides-verb (verb.Hold a) (verb.Hold b) = Decides-like _ (λ e. cc) (λ e. cc) (Decides-stage a b)
Decides-verb (verb.Free a) (verb.Free b) = Decides-like _ (λ e. cc) (λ e. cc) (Decides-stage a b)
Decides-verb (verb.Accept a) (verb.Accept b) = Decides-like _ (λ e. cc) (λ e. cc) (Decides-eqb a b)
Decides-verb (verb.Decide a) (verb.Decide b) = Decides-like _ (λ e. cc) (λ e. cc) (Decides-eqb a b)
Decides-verb (verb.Put a) (verb.Put b) = Decides-like _ (λ e. cc) (λ e. cc) (Decides-eqb a b)
Decides-verb (verb.Answer a) (verb.Answer b) = Decides-like _ (λ e. cc) (λ e. cc) (Decides-eqb a b)
Decides-verb (verb.Begin a) (verb.Begin b) = Decides-like _ (λ e. cc) (λ e. cc) (Decides-target a b)
Decides-verb (verb.Commit a) (verb.Commit b) = Decides-like _ (λ e. cc) (λ e. cc) (Decides-target a b)
Decides-verb (verb.Submit a) (verb.Submit b) = Decides-like _ (λ e. cc) (λ e. cc) (Decides-target a b)
Decides-verb (verb.AskBegin a) (verb.AskBegin b) = Decides-like _ (λ e. cc) (λ e. cc) (Decides-eqb a b)
Decides-verb (verb.AskCommit a) (verb.AskCommit b) = Decides-like _ (λ e. cc) (λ e. cc) (Decides-eqb a b)
Decides-verb (verb.Write a u) (verb.Write b v) = Decides-like _ (λ e. cc) (λ e. (cc, cc)) (Decides-and _ _ (Decides-eqb a b) (Decides-padded 64 u v))
Decides-verb (verb.Read a) (verb.Read b) = Decides-like _ (λ e. cc) (λ e. cc) (Decides-eqb a b)
Decides-verb (verb.Fetch a) (verb.Fetch b) = Decides-like _ (λ e. cc) (λ e. cc) (Decides-eqb a b)
Decides-verb verb.Collect verb.Collect = alike
Decides-verb verb.Abort verb.Abort = alike
Decides-verb verb.Heal verb.Heal = alike
Decides-verb verb.Vanish verb.Vanish = alike
Decides-verb verb.Step verb.Step = alike
Decides-verb verb.Finish verb.Finish = alike
Decides-verb (verb.Sweep a u) (verb.Sweep b v) = Decides-like _ (λ e. cc) (λ e. (cc, cc)) (Decides-and _ _ (Decides-eqb a b) (Decides-eqb u v))
Decides-verb (verb.OpenSweep a u) (verb.OpenSweep b v) = Decides-like _ (λ e. cc) (λ e. (cc, cc)) (Decides-and _ _ (Decides-eqb a b) (Decides-eqb u v))
Decides-verb (verb.Post a) (verb.Post b) = Decides-like _ (λ e. cc) (λ e. cc) (Decides-padded 16 a b)
Decides-verb (verb.Await a) (verb.Await b) = Decides-like _ (λ e. cc) (λ e. cc) (Decides-padded 16 a b)
Decides-verb _ _ = apart (λ e. cc)

-- ---- lines and planned faults
pub Decides-line : (a b : Line) → Decides (line_eq.ghosts.eq a b) (a ≡ b)
Decides-line a b =
    Decides-like _ (λ e. search rules) (λ e. (cc, (cc, cc)))
    (Decides-and _ _ (Decides-eqb a.number b.number) (Decides-and _ _ (Decides-actor a.actor b.actor) (Decides-verb a.verb b.verb)))

pub Decides-fault : (a b : PlannedFault) → Decides ((store_eq.ghosts.eq a.0 b.0 && nat_eq a.1 b.1) && fate_eq.ghosts.eq a.2 b.2) (a ≡ b)
Decides-fault (s, n, f) (t, m, g) =
    Decides-like _ (λ e. cc) (λ e. ((ap (λ (x : PlannedFault). x.0) e, ap (λ (x : PlannedFault). x.1) e), ap (λ (x : PlannedFault). x.2) e))
    (Decides-and _ _ (Decides-and _ _ (Decides-store s t) (Decides-eqb n m)) (Decides-fate f g))
