-- A tick and a note, which touch no part of the state.
use Rattle.split_parts.proofs.Names.{◌≡◌, [], ◌∷◌, Option, Some, None, sym, ap, ◌∙◌, Item, Event, opening, Acts, noted}
use Rattle.split_parts.proofs.Names.{item_noted, Parts, setup_of, Acted}
use Rattle.machine.specs.declared.event.Event.TheVariants as event
use Rattle.split_parts.proofs.Giving.{given_back}

of_some : {T : Type 0} → Option T → T → T
of_some None d = d
of_some (Some x) d = x

same_item : (a b : Item) → Some a ≡ Some b → a ≡ b
unfolding of_some
same_item a b is = ap (λ (o : Option Item). of_some o a) is

pub acts_noted : (l last : Parts) (e : Event) (item : Item) (acted : Acted) → item_noted e ≡ Some item → last ≡ noted e l → acted.items.items ≡ item ∷ [] → acted.stopped ≡ None → Acts l last e acted
acts_noted l last (event.Tick to) item acted is noting items stopped = record {
  items = items ∙ ap (λ (x : Item). x ∷ []) (sym (same_item _ _ is));
  stopped = stopped;
  parts = noting ∙ ap (noted (event.Tick to)) (sym (given_back (opening (setup_of l)) l));
}
acts_noted l last (event.Note actor said) item acted is noting items stopped = record {
  items = items ∙ ap (λ (x : Item). x ∷ []) (sym (same_item _ _ is));
  stopped = stopped;
  parts = noting ∙ ap (noted (event.Note actor said)) (sym (given_back (opening (setup_of l)) l));
}
acts_noted l last (event.Take node reading) item acted is noting items stopped = absurd (cc)
acts_noted l last _ item acted is noting items stopped = absurd (cc)
