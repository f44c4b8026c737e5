-- What a history tells of a request that is held: its ask, the term in which it was accepted, its draw, and how its put
-- ended. Items that say nothing of its session keep that; the item of each of its steps tells the next.
use Rattle.cause_laws.proofs.Names.{◌≡◌, ◌≢◌, ℕ, ◌==◌, Bool, true, false, if◌then◌else◌, List, [], ◌∷◌, ◌++◌, Option}
use Rattle.cause_laws.proofs.Names.{None, Some, refl, sym, ◌∙◌, ap, subst, option_or, eq-eqb, SetupNumbers, Table, ◌∈◌}
use Rattle.cause_laws.proofs.Names.{Actor, Node, Item, in_front, in_back, in_last, Progress, Request, Begin, Commit}
use Rattle.cause_laws.proofs.Names.{Settled, InstanceEntry, session_of, stamps_by, drawn_as, draw_item, its_ask}
use Rattle.cause_laws.proofs.Names.{its_term, its_draw, since_draw, InstanceAt, HeldBy, ask_for, AreAsked, AreFaulted}
use Rattle.cause_laws.proofs.Names.{WhereNodesPut, ArePutByNodes}
use Rattle.history_book.specs.declared.item.Item.TheVariants as item
use Rattle.system_parts.specs.declared.instance.Progress.TheVariants as progress
use Rattle.system_parts.specs.declared.instance.Settled.TheVariants as how
use Rattle.cause_laws.proofs.NodeTransitions.{ask_item, fault_of}
use Rattle.cause_laws.proofs.AskWords.{AllMute, its_ask-mute, its_term-mute, its_draw-mute, since_draw-mute, its_ask-push, its_term-push, its_draw-push}

-- ---- what is told of a request
-- how its put ended
abbrev pub EndTold : List Item → ℕ → ℕ → Request → Progress → Type 0
EndTold h n s (Commit r t keys) (progress.Settled c how.Faulted) = item.Fault (Node n) Table ∈ since_draw h s
EndTold h n s (Commit r t keys) (progress.Settled c how.Invalid) = (actor : Actor) × (item.Mark actor t ∈ h)
EndTold h n s _ _ = Unit {0}

-- of the request of the session s at the node n, in a term
pub record Told (direct : Bool) (h : List Item) (n s term : ℕ) (request : Request) (p : Progress) : Type 0 where
  pub asked : its_ask h s ≡ Some (ask_for n request)
  pub accepted : p ≢ progress.Asked → its_term h s ≡ Some term
  pub drawn : (stamps : ℕ × Option ℕ) → stamps_by request p ≡ Some stamps → its_draw h s ≡ Some stamps
  pub end : EndTold h n s request p
  pub put : WhereNodesPut direct request p

abbrev pub AllTold : Bool → List (Option InstanceEntry) → List Item → Type 0
AllTold direct nodes h = (n s : ℕ) (i : InstanceEntry) (request : Request) (p : Progress) → InstanceAt nodes n i → HeldBy i s request p → Told direct h n s i.term request p

-- ---- the facts of the specification say that of all requests
end_told : (nodes : List (Option InstanceEntry)) (h : List Item) → AreFaulted nodes h → (n s : ℕ) (i : InstanceEntry) (request : Request) (p : Progress) → InstanceAt nodes n i → HeldBy i s request p → EndTold h n s request p
end_told nodes h faults n s i (Commit r t keys) (progress.Settled c how.Faulted) at holds = faults.faulted n s r t c i keys at holds
end_told nodes h faults n s i (Commit r t keys) (progress.Settled c how.Invalid) at holds = faults.marked n s r t c i keys at holds
end_told nodes h faults n s i _ _ at holds = tt

pub all_told : (setup : SetupNumbers) (nodes : List (Option InstanceEntry)) (h : List Item) → AreAsked nodes h → AreFaulted nodes h → ArePutByNodes setup nodes → AllTold setup.direct nodes h
all_told setup nodes h asks faults puts n s i request p at holds = record {
  asked = asks.asked n s i request p at holds;
  accepted = asks.accepted n s i request p at holds;
  drawn = λ stamps is. asks.drawn n s i request p stamps at holds is;
  end = end_told nodes h faults n s i request p at holds;
  put = puts.each n s i request p at holds;
}

pub asked_by_told : (direct : Bool) (nodes : List (Option InstanceEntry)) (h : List Item) → AllTold direct nodes h → AreAsked nodes h
asked_by_told direct nodes h all = record {
  asked = λ n s i request p at holds. (all n s i request p at holds).asked;
  accepted = λ n s i request p at holds. (all n s i request p at holds).accepted;
  drawn = λ n s i request p stamps at holds is. (all n s i request p at holds).drawn stamps is;
}

pub faulted_by_told : (direct : Bool) (nodes : List (Option InstanceEntry)) (h : List Item) → AllTold direct nodes h → AreFaulted nodes h
faulted_by_told direct nodes h all = record {
  faulted = λ n s r t c i keys at holds. (all n s i (Commit r t keys) (progress.Settled c how.Faulted) at holds).end;
  marked = λ n s r t c i keys at holds. (all n s i (Commit r t keys) (progress.Settled c how.Invalid) at holds).end;
}

pub put_by_told : (setup : SetupNumbers) (nodes : List (Option InstanceEntry)) (h : List Item) → AllTold setup.direct nodes h → ArePutByNodes setup nodes
put_by_told setup nodes h all = record { each = λ n s i request p at holds. (all n s i request p at holds).put }

-- ---- items that say nothing of the session
end_mute : (h items : List Item) (n s : ℕ) (request : Request) (p : Progress) → AllMute s items → EndTold h n s request p → EndTold (h ++ items) n s request p
end_mute h items n s (Commit r t keys) (progress.Settled c how.Faulted) mute told =
    subst (λ (part : List Item). item.Fault (Node n) Table ∈ part) (sym (since_draw-mute h items s mute)) (in_front (item.Fault (Node n) Table) (since_draw h s) items told)
end_mute h items n s (Commit r t keys) (progress.Settled c how.Invalid) mute told = (told.0, in_front (item.Mark told.0 t) h items told.1)
end_mute h items n s _ _ mute told = tt

pub told_mute : (direct : Bool) (h items : List Item) (n s term : ℕ) (request : Request) (p : Progress) → AllMute s items → Told direct h n s term request p → Told direct (h ++ items) n s term request p
told_mute direct h items n s term request p mute told = record {
  asked = its_ask-mute h items s mute ∙ told.asked;
  accepted = λ more. its_term-mute h items s mute ∙ told.accepted more;
  drawn = λ stamps is. its_draw-mute h items s mute ∙ told.drawn stamps is;
  end = end_mute h items n s request p mute told.end;
  put = told.put;
}

-- ---- the item of a step
pub own_item : {A : Type 0} (s : ℕ) (a : A) (last : Option A) → option_or (if s == s then Some a else None) last ≡ Some a
own_item s a last = ap (λ (b : Bool). option_or (if b then Some a else None) last) (eq-eqb s s refl)

no_stamps_yet : (request : Request) (stamps : ℕ × Option ℕ) → stamps_by request progress.Accepted ≡ Some stamps → ⊥
no_stamps_yet (Begin r) stamps is = cc
no_stamps_yet (Commit r t keys) stamps is = cc

no_end_yet : (h : List Item) (n s : ℕ) (request : Request) → EndTold h n s request progress.Accepted
no_end_yet h n s (Begin r) = tt
no_end_yet h n s (Commit r t keys) = tt

no_put_yet : (direct : Bool) (request : Request) → WhereNodesPut direct request progress.Accepted
no_put_yet direct (Begin r) = tt
no_put_yet direct (Commit r t keys) = tt

pub told_ask : (direct : Bool) (h : List Item) (n term : ℕ) (request : Request) → Told direct (h ++ ask_item n request ∷ []) n (session_of request) term request progress.Asked
told_ask direct h n term (Begin r) = record {
  asked = its_ask-push h (item.AskBegin r n) r ∙ own_item r (ask_for n (Begin r)) (its_ask h r);
  accepted = λ more. absurd (more refl);
  drawn = λ stamps is. absurd (cc);
  end = tt;
  put = tt;
}
told_ask direct h n term (Commit r t keys) = record {
  asked = its_ask-push h (item.AskCommit r n t) r ∙ own_item r (ask_for n (Commit r t keys)) (its_ask h r);
  accepted = λ more. absurd (more refl);
  drawn = λ stamps is. absurd (cc);
  end = tt;
  put = tt;
}

pub told_accept : (direct : Bool) (h : List Item) (n s term reading : ℕ) (request : Request) → Told direct h n s term request progress.Asked → Told direct (h ++ item.Accept s n term reading ∷ []) n s term request progress.Accepted
told_accept direct h n s term reading request told = record {
  asked = its_ask-push h (item.Accept s n term reading) s ∙ told.asked;
  accepted = λ more. its_term-push h (item.Accept s n term reading) s refl ∙ own_item s term (its_term h s);
  drawn = λ stamps is. absurd (no_stamps_yet request stamps is);
  end = no_end_yet (h ++ item.Accept s n term reading ∷ []) n s request;
  put = no_put_yet direct request;
}

-- a draw gives a request these stamps, whoever is to place the commit
abbrev stamps_drawn : Request → ℕ → ℕ × Option ℕ
stamps_drawn (Begin r) stamp = (stamp, None)
stamps_drawn (Commit r t keys) stamp = (t, Some stamp)

told_drawn : (direct : Bool) (h : List Item) (n term stamp : ℕ) (request : Request) (p : Progress) → stamps_by request p ≡ Some (stamps_drawn request stamp) → EndTold (h ++ draw_item n term request stamp ∷ []) n (session_of request) request p → WhereNodesPut direct request p
    → Told direct h n (session_of request) term request progress.Accepted → Told direct (h ++ draw_item n term request stamp ∷ []) n (session_of request) term request p
told_drawn direct h n term stamp (Begin r) p has end put told = record {
  asked = its_ask-push h (item.Draw r n term stamp None) r ∙ told.asked;
  accepted = λ more. its_term-push h (item.Draw r n term stamp None) r refl ∙ told.accepted (λ same. cc);
  drawn = λ stamps is. its_draw-push h (item.Draw r n term stamp None) r refl ∙ (own_item r (stamp, None) (its_draw h r) ∙ (sym has ∙ is));
  end = end;
  put = put;
}
told_drawn direct h n term stamp (Commit r t keys) p has end put told = record {
  asked = its_ask-push h (item.Draw r n term t (Some stamp)) r ∙ told.asked;
  accepted = λ more. its_term-push h (item.Draw r n term t (Some stamp)) r refl ∙ told.accepted (λ same. cc);
  drawn = λ stamps is. its_draw-push h (item.Draw r n term t (Some stamp)) r refl ∙ (own_item r (t, Some stamp) (its_draw h r) ∙ (sym has ∙ is));
  end = end;
  put = put;
}

pub told_draw : (direct own : Bool) (h : List Item) (n term stamp : ℕ) (request : Request) → own ≡ direct → Told direct h n (session_of request) term request progress.Accepted → Told direct (h ++ draw_item n term request stamp ∷ []) n (session_of request) term request (drawn_as own request stamp)
told_draw direct true h n term stamp (Begin r) form told = told_drawn direct h n term stamp (Begin r) (progress.Drawn stamp) refl tt tt told
told_draw direct false h n term stamp (Begin r) form told = told_drawn direct h n term stamp (Begin r) (progress.Drawn stamp) refl tt tt told
told_draw direct true h n term stamp (Commit r t keys) form told = told_drawn direct h n term stamp (Commit r t keys) (progress.Handed stamp) refl tt tt told
told_draw direct false h n term stamp (Commit r t keys) form told = told_drawn direct h n term stamp (Commit r t keys) (progress.Drawn stamp) refl tt (sym form) told

-- how a put ended: a fault is the last of its items, and a mark was placed before
end_settled : (h effects : List Item) (n s r t c : ℕ) (keys : List ℕ) (by : Settled) → AllMute s (effects ++ fault_of by n) → (by ≡ how.Invalid → (actor : Actor) × (item.Mark actor t ∈ h)) → EndTold (h ++ (effects ++ fault_of by n)) n s (Commit r t keys) (progress.Settled c by)
end_settled h effects n s r t c keys how.Placed mute found = tt
end_settled h effects n s r t c keys how.Invalid mute found = let mark : (actor : Actor) × (item.Mark actor t ∈ h) = found refl in (mark.0, in_front (item.Mark mark.0 t) h (effects ++ []) mark.1)
end_settled h effects n s r t c keys how.Faulted mute found =
    let fault : Item = item.Fault (Node n) Table in
    subst (λ (part : List Item). fault ∈ part) (sym (since_draw-mute h (effects ++ fault ∷ []) s mute)) (in_back fault (since_draw h s) (effects ++ fault ∷ []) (in_last fault effects))

pub told_settled : (direct : Bool) (h effects : List Item) (n s term r t c : ℕ) (keys : List ℕ) (by : Settled) → AllMute s (effects ++ fault_of by n) → (by ≡ how.Invalid → (actor : Actor) × (item.Mark actor t ∈ h)) → Told direct h n s term (Commit r t keys) (progress.Drawn c) → Told direct (h ++ (effects ++ fault_of by n)) n s term (Commit r t keys) (progress.Settled c by)
told_settled direct h effects n s term r t c keys by mute found told = record {
  asked = its_ask-mute h (effects ++ fault_of by n) s mute ∙ told.asked;
  accepted = λ more. its_term-mute h (effects ++ fault_of by n) s mute ∙ told.accepted (λ same. cc);
  drawn = λ stamps is. its_draw-mute h (effects ++ fault_of by n) s mute ∙ told.drawn stamps is;
  end = end_settled h effects n s r t c keys by mute found;
  put = told.put;
}
