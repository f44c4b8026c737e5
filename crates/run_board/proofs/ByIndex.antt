-- For this crate's own proofs.
-- The seat at an index, where it is the only one of its actor.
use Rattle.run_board.proofs.Names.{◌≡◌, ℕ, zero, suc, ◌+◌, ◌<◌, Bool, true, false, cond, List, [], ◌∷◌, Option, Some}
use Rattle.run_board.proofs.Names.{None, drop, length, refl, sym, ◌∙◌, ap, arith, find, map, slice_get, slice_set}
use Rattle.run_board.proofs.Names.{same_Some, none-some, Actor, Interruption, same_actor, actor_same, Turn, Seated}
use Rattle.run_board.proofs.Names.{after_turn, is_seat_of, seated_of, sits_at, SitOnce}
use Rattle.turn_rules.specs.declared.turn.Turn.TheVariants as turn

-- ---- one element alone may pass a test
abbrev pub IsAlone : {X : Type 0} → (X → Bool) → List X → ℕ → Type 0
IsAlone {X} test xs i = (j : ℕ) (x : X) → slice_get xs j ≡ Some x → test x ≡ true → j ≡ i

pub fails : (here : Bool) (j i : ℕ) → (here ≡ true → j ≡ i) → (j ≡ i → ⊥) → here ≡ false
fails true j i alone other = absurd (other (alone refl))
fails false j i alone other = refl

pub alone_left : {X : Type 0} (test : X → Bool) (y : X) (ys : List X) (i : ℕ) → IsAlone test (y ∷ ys) (suc i) → IsAlone test ys i
alone_left test y ys i alone j x is passes = let same : suc j ≡ suc i = alone (suc j) x is passes in omega (arith, same)

pub not_first : {X : Type 0} (test : X → Bool) (y : X) (ys : List X) (i : ℕ) → IsAlone test (y ∷ ys) (suc i) → test y ≡ false
not_first test y ys i alone = fails (test y) 0 (suc i) (alone 0 y refl) (λ (same : 0 ≡ suc i). omega (arith, same))

find_alone : {X : Type 0} (test : X → Bool) (xs : List X) (i : ℕ) (x : X) → slice_get xs i ≡ Some x → test x ≡ true → IsAlone test xs i → find test xs ≡ Some x
find_alone test [] i x is passes alone = absurd (none-some x is)
find_alone test (y ∷ ys) zero x is passes alone = ap (λ (b : Bool). cond b (Some y) (find test ys)) (ap test (same_Some y x is) ∙ passes) ∙ is
find_alone test (y ∷ ys) (suc i) x is passes alone = ap (λ (b : Bool). cond b (Some y) (find test ys)) (not_first test y ys i alone) ∙ find_alone test ys i x is passes (alone_left test y ys i alone)

-- ---- a change of the elements that pass it
map_unmet : {X : Type 0} (test : X → Bool) (f : X → X) → ((x : X) → test x ≡ false → f x ≡ x) → (xs : List X) → ((j : ℕ) (x : X) → slice_get xs j ≡ Some x → test x ≡ false) → map f xs ≡ xs
map_unmet test f stays [] none = refl
map_unmet test f stays (x ∷ xs) none = λ k. stays x (none 0 x refl) k ∷ map_unmet test f stays xs (λ j y is. none (suc j) y is) k

map_alone : {X : Type 0} (test : X → Bool) (f : X → X) → ((x : X) → test x ≡ false → f x ≡ x) → (xs : List X) (i : ℕ) (x : X) → slice_get xs i ≡ Some x → IsAlone test xs i → map f xs ≡ slice_set xs i (f x)
map_alone test f stays [] i x is alone = absurd (none-some x is)
map_alone test f stays (y ∷ ys) zero x is alone =
    let rest : map f ys ≡ ys = map_unmet test f stays ys (λ j z there. fails (test z) (suc j) 0 (alone (suc j) z there) (λ (same : suc j ≡ 0). omega (arith, same))) in
    λ k. f (same_Some y x is k) ∷ rest k
map_alone test f stays (y ∷ ys) (suc i) x is alone = λ k. stays y (not_first test y ys i alone) k ∷ map_alone test f stays ys i x is (alone_left test y ys i alone) k

pub missed_by : {X : Type 0} (x : X) (rest : Option X) (here : Bool) → cond here (Some x) rest ≡ None → (here ≡ false) × (rest ≡ None)
missed_by x rest true is = absurd (none-some x (sym is))
missed_by x rest false is = (refl, is)

map_missed : {X : Type 0} (test : X → Bool) (f : X → X) → ((x : X) → test x ≡ false → f x ≡ x) → (xs : List X) → find test xs ≡ None → map f xs ≡ xs
map_missed test f stays [] is = refl
map_missed test f stays (x ∷ xs) is = let none : (test x ≡ false) × (find test xs ≡ None) = missed_by x (find test xs) (test x) is in λ k. stays x none.0 k ∷ map_missed test f stays xs none.1 k

-- ---- the seat of an actor
abbrev if_of : Actor → (Seated → Seated) → Seated → Seated
if_of actor f s = cond (same_actor s.seat.actor actor) (f s) s

pub is_its : (seated : List Seated) (i : ℕ) (actor : Actor) (s : Seated) → sits_at seated i actor ≡ true → slice_get seated i ≡ Some s → same_actor s.seat.actor actor ≡ true
is_its seated i actor s sits is = ap (λ (found : Option Seated). is_seat_of found actor) (sym is) ∙ sits

-- who sits at an index sits nowhere else
pub only : (seated : List Seated) (i : ℕ) (actor : Actor) (s : Seated) → SitOnce seated → sits_at seated i actor ≡ true → slice_get seated i ≡ Some s → IsAlone (λ (x : Seated). same_actor x.seat.actor actor) seated i
only seated i actor s once sits is j x there passes = once j i x s there is (actor_same x.seat.actor actor passes ∙ sym (actor_same s.seat.actor actor (is_its seated i actor s sits is)))

pub found_at : (seated : List Seated) (i : ℕ) (actor : Actor) (s : Seated) → SitOnce seated → sits_at seated i actor ≡ true → slice_get seated i ≡ Some s → seated_of seated actor ≡ Some s
found_at seated i actor s once sits is = find_alone (λ (x : Seated). same_actor x.seat.actor actor) seated i s is (is_its seated i actor s sits is) (only seated i actor s once sits is)

pub changed_at : (f : Seated → Seated) (seated : List Seated) (i : ℕ) (actor : Actor) (s : Seated) → SitOnce seated → sits_at seated i actor ≡ true → slice_get seated i ≡ Some s → slice_set seated i (f s) ≡ map (if_of actor f) seated
changed_at f seated i actor s once sits is =
    ap (λ (b : Bool). slice_set seated i (cond b (f s) s)) (sym (is_its seated i actor s sits is))
    ∙ sym (map_alone (λ (x : Seated). same_actor x.seat.actor actor) (if_of actor f) (λ x other. ap (λ (b : Bool). cond b (f x) x) other) seated i s is (only seated i actor s once sits is))

pub changed_nowhere : (f : Seated → Seated) (seated : List Seated) (actor : Actor) → seated_of seated actor ≡ None → seated ≡ map (if_of actor f) seated
changed_nowhere f seated actor none = sym (map_missed (λ (x : Seated). same_actor x.seat.actor actor) (if_of actor f) (λ x other. ap (λ (b : Bool). cond b (f x) x) other) seated none)

unchanged : (seated : List Seated) → seated ≡ map (λ (s : Seated). s) seated
unchanged [] = refl
unchanged (s ∷ seated) = λ k. s ∷ unchanged seated k

-- no actor's own turn moves a seat
pub unmoved : (t : Turn) (halt : Option Interruption) (asked : Bool) (seated : List Seated) → ((actor : Actor) (aim : ℕ) → t ≡ turn.Own actor aim → ⊥) → seated ≡ map (after_turn t halt asked) seated
unmoved (turn.Own actor aim) halt asked seated other = absurd (other actor aim refl)
unmoved (turn.Accept node session) halt asked seated other = unchanged seated
unmoved (turn.Decide node session) halt asked seated other = unchanged seated
unmoved (turn.Put node session) halt asked seated other = unchanged seated
unmoved (turn.Answer node session) halt asked seated other = unchanged seated
unmoved (turn.Extend node) halt asked seated other = unchanged seated

-- ---- one index more was looked at
searched : (seated : List Seated) (i : ℕ) (actor : Actor) → i < length seated → sits_at seated i actor ≡ false → seated_of (drop (suc i) seated) actor ≡ seated_of (drop i seated) actor
searched [] i actor less misses = absurd (omega (arith, less))
searched (s ∷ seated) zero actor less misses = ap (λ (b : Bool). cond b (Some s) (seated_of seated actor)) (sym misses)
searched (s ∷ seated) (suc i) actor less misses = searched seated i actor (omega (arith, less)) misses

pub searched_more : (seated : List Seated) (i : ℕ) (actor : Actor) → i < length seated → sits_at seated i actor ≡ false → seated_of (drop i seated) actor ≡ seated_of seated actor → seated_of (drop (i + 1) seated) actor ≡ seated_of seated actor
searched_more seated i actor less misses so_far =
    let next : i + 1 ≡ suc i = omega arith in
    ap (λ (n : ℕ). seated_of (drop n seated) actor) next ∙ searched seated i actor less misses ∙ so_far
