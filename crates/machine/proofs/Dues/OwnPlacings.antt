-- What a session tells of the placing of its own commit is due.
use Rattle.machine.proofs.Names.{◌≡◌, ℕ, List, [], ◌∷◌, ◌++◌, Option, Some, None, inl, inr, refl, Mark, Table, Fate}
use Rattle.machine.proofs.Names.{Works, FailsUnchanged, FailsApplied, Cause, Session, PutFound, Item, AtEach-push}
use Rattle.machine.proofs.Names.{Pairs, mark_of, Client, State, place_by, Places, HowPlaced, Due, AreDue, StepsFit}
use Rattle.history_book.specs.declared.cause.Cause.TheVariants as cause
use Rattle.history_book.specs.declared.item.Item.TheVariants as item
use Rattle.machine.proofs.Dues.DueItems.{two_free, all_due, plain_due}

-- what the session tells last of a placing, behind items that are due
last_due : (w : State) (s start commit : ℕ) (told : List Item) (why : Cause) → Places w s start commit → AreDue w told → HowPlaced w s start commit told why → AreDue w (told ++ item.Refused (Session s) why ∷ [])
last_due w s start commit told why places due how =
    AtEach-push (Due w) told (item.Refused (Session s) why) due (inr (inr (inr (record { session = s; actor_is = refl; start = start; commit = commit; places = places; how = how }))))

pub placing_due : (w : State) (s start commit : ℕ) (fate : Fate) (c : Client) (pairs : Pairs) (found : Option Mark) → StepsFit w → Places w s start commit → mark_of w.pairs start ≡ found → AreDue w (place_by s start commit fate found c pairs).items
placing_due w s start commit Works c pairs None fits places is = all_due w _ (two_free w _ _ (λ told. tt) (λ told. tt))
placing_due w s start commit Works c pairs (Some mark) fits places is =
    let step : Item = item.Step (Session s) (PutFound start) in
    last_due w s start commit (step ∷ []) (cause.Invalid start) places (plain_due w step (λ told. tt)) (refl, record { marked = fits.marked s start commit mark places is; told_is = refl })
placing_due w s start commit FailsUnchanged c pairs found fits places is =
    let fault : Item = item.Fault (Session s) Table in
    last_due w s start commit (fault ∷ []) (cause.Open start) places (plain_due w fault (λ told. tt)) (refl, record { kept = []; kept_is = inl refl; told_is = refl })
placing_due w s start commit FailsApplied c pairs None fits places is =
    let placed : Item = item.Placed start commit in
    let fault : Item = item.Fault (Session s) Table in
    last_due w s start commit (placed ∷ fault ∷ []) (cause.Open start) places (all_due w _ (two_free w placed fault (λ told. tt) (λ told. tt))) (refl, record { kept = placed ∷ []; kept_is = inr refl; told_is = refl })
placing_due w s start commit FailsApplied c pairs (Some mark) fits places is =
    let fault : Item = item.Fault (Session s) Table in
    last_due w s start commit (fault ∷ []) (cause.Open start) places (plain_due w fault (λ told. tt)) (refl, record { kept = []; kept_is = inl refl; told_is = refl })
