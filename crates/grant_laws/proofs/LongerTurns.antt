-- Turns only append: what the history has after some of them it has after all.
use Rattle.grant_laws.proofs.Names.{◌≡◌, List, [], ◌∷◌, ◌++◌, Option, Some, None, refl, sym, subst, fold, fold-append}
use Rattle.grant_laws.proofs.Names.{◌∈◌, Item, Event, ScriptData, step_of, Turn, Carried, event_of, turned_by, turned}
use Rattle.grant_laws.proofs.Names.{carried, carried_items, Appends, Adds}
use Rattle.grant_laws.proofs.LongerRuns.{Longer, same_long, longer_still, in_first, in_last, in_one}

longer_by : (script : ScriptData) (c : Carried) (t : Turn) (found : Option Event) → Longer c.played.items (turned_by script c t found).played.items
longer_by script c t None = same_long c.played.items
longer_by script c t (Some e) = record { added = (step_of script c.played e).items; is = refl }

turns_longer : (script : ScriptData) (turns : List Turn) (c : Carried) → Longer c.played.items (fold (turned script) c turns).played.items
turns_longer script [] c = same_long c.played.items
turns_longer script (t ∷ turns) c = longer_still c.played.items (turned script c t).played.items (fold (turned script) (turned script c t) turns).played.items (longer_by script c t (event_of script c t)) (turns_longer script turns (turned script c t))

pub still_has : (script : ScriptData) (turns : List Turn) (c : Carried) (x : Item) → x ∈ c.played.items → x ∈ (fold (turned script) c turns).played.items
still_has script turns c x has =
    let longer : Longer c.played.items (fold (turned script) c turns).played.items = turns_longer script turns c in
    subst (λ (h : List Item). x ∈ h) (sym longer.is) (in_first x c.played.items longer.added has)

-- what a turn adds
pub has_added : (script : ScriptData) (c : Carried) (t : Turn) (x : Item) → Adds script c t x → x ∈ (turned script c t).played.items
has_added script c t x adds = subst (λ (h : List Item). x ∈ h) (sym adds) (in_last x c.played.items (x ∷ []) (in_one x))

pub has_appended : (before after : List Item) (x : Item) → Appends before after x → x ∈ after
has_appended before after x k = subst (λ (h : List Item). x ∈ h) (sym k.is) (in_last x before k.added k.has)

-- ---- turns one after the other
pub turns_on : (script : ScriptData) (c : Carried) (first more : List Turn) → fold (turned script) c (first ++ more) ≡ fold (turned script) (fold (turned script) c first) more
turns_on script c first more = fold-append (turned script) c first more

-- what more turns come to, the history of all has
pub carries : (script : ScriptData) (turns : List Turn) (d : Carried) (x : Item) → carried script turns ≡ d → x ∈ d.played.items → x ∈ carried_items script turns
carries script turns d x is has = subst (λ (c : Carried). x ∈ c.played.items) (sym is) has
