-- The actors that have lines stand in their list once each.
use Rattle.log_refinement.proofs.Names.{◌≡◌, ℕ, zero, suc, ◌<◌, Bool, true, false, ◌&&◌, ◌||◌, cond, List, [], ◌∷◌}
use Rattle.log_refinement.proofs.Names.{◌++◌, ◌⊎◌, inl, inr, refl, sym, ◌∙◌, ap, subst, arith, map, filter, list_any}
use Rattle.log_refinement.proofs.Names.{map-append, SetupNumbers, ◌∈◌, Actor, Clock, Node, Session, Janitor, in_front}
use Rattle.log_refinement.proofs.Names.{in_back, in_last, in_push, in_append, Line, ScriptData, same_actor, has_opening}
use Rattle.log_refinement.proofs.Names.{is_of, ActorFits, AreLinesOf, actor_same, has_lines, actors_of}
use Rattle.turn_rules.specs.declared.seat.Seat.{Seat}
use Rattle.turn_rules.specs.Seats.{first_seat, first_seats, seats_of}

-- ---- lists without repetition
unfoldable pub Once : List Actor → Type 0
Once [] = Unit {0}
Once (x ∷ xs) = (x ∈ xs → ⊥) × Once xs

once_push : (xs : List Actor) (x : Actor) → Once xs → (x ∈ xs → ⊥) → Once (xs ++ x ∷ [])
unfolding Once ◌∈◌
once_push [] x once not = (λ m. m, tt)
once_push (y ∷ xs) x once not = (λ m. elim (in_push y x xs m) [ inl there ↦ once.0 there | inr is ↦ not (inl (sym is)) ], once_push xs x once.1 (λ m. not (inr m)))

once_append : (xs ys : List Actor) → Once xs → Once ys → ((x : Actor) → x ∈ xs → x ∈ ys → ⊥) → Once (xs ++ ys)
unfolding Once ◌∈◌
once_append [] ys first rest apart = rest
once_append (x ∷ xs) ys first rest apart = (λ m. elim (in_append x xs ys m) [ inl there ↦ first.0 there | inr behind ↦ apart x (inl refl) behind ], once_append xs ys first.1 rest (λ z m n. apart z (inr m) n))

-- ---- elements that pass a test
kept_by : (passes : Actor → Bool) (x y : Actor) (ys : List Actor) → (x ∈ filter passes ys → (x ∈ ys) × (passes x ≡ true)) → (here : Bool) → passes y ≡ here → x ∈ cond here (y ∷ filter passes ys) (filter passes ys) → (x ∈ (y ∷ ys)) × (passes x ≡ true)
unfolding ◌∈◌
kept_by passes x y ys later false is m = let k = later m in (inr k.0, k.1)
kept_by passes x y ys later true is (inl same) = (inl same, ap passes same ∙ is)
kept_by passes x y ys later true is (inr m) = let k = later m in (inr k.0, k.1)

of_filter : (passes : Actor → Bool) (x : Actor) (ys : List Actor) → x ∈ filter passes ys → (x ∈ ys) × (passes x ≡ true)
unfolding ◌∈◌
of_filter passes x [] m = absurd m
of_filter passes x (y ∷ ys) m = kept_by passes x y ys (of_filter passes x ys) (passes y) refl m

keeps_by : (passes : Actor → Bool) (x y : Actor) (ys : List Actor) → passes x ≡ true → (x ∈ ys → x ∈ filter passes ys) → (here : Bool) → passes y ≡ here → (x ≡ y) ⊎ (x ∈ ys) → x ∈ cond here (y ∷ filter passes ys) (filter passes ys)
unfolding ◌∈◌
keeps_by passes x y ys mine later true is (inl same) = inl same
keeps_by passes x y ys mine later true is (inr m) = inr (later m)
keeps_by passes x y ys mine later false is (inl same) = let clash : true ≡ false = sym mine ∙ ap passes same ∙ is in absurd (cc)
keeps_by passes x y ys mine later false is (inr m) = later m

in_filter : (passes : Actor → Bool) (x : Actor) (ys : List Actor) → passes x ≡ true → x ∈ ys → x ∈ filter passes ys
unfolding ◌∈◌
in_filter passes x [] mine m = absurd m
in_filter passes x (y ∷ ys) mine m = keeps_by passes x y ys mine (in_filter passes x ys mine) (passes y) refl m

once_by : (passes : Actor → Bool) (y : Actor) (ys : List Actor) → (y ∈ ys → ⊥) → Once (filter passes ys) → (here : Bool) → Once (cond here (y ∷ filter passes ys) (filter passes ys))
unfolding Once
once_by passes y ys not rest true = (λ m. not (of_filter passes y ys m).0, rest)
once_by passes y ys not rest false = rest

once_filter : (passes : Actor → Bool) (ys : List Actor) → Once ys → Once (filter passes ys)
unfolding Once
once_filter passes [] once = tt
once_filter passes (y ∷ ys) once = once_by passes y ys once.0 (once_filter passes ys once.1) (passes y)

-- ---- the actors of the first seats
abbrev of_seat : Seat → Actor
of_seat seat = seat.actor

-- those of one kind
kind_more : (kind : ℕ → Actor) (n : ℕ) → map of_seat (seats_of kind (suc n)) ≡ map of_seat (seats_of kind n) ++ kind n ∷ []
unfolding seats_of
kind_more kind n = map-append of_seat (seats_of kind n) (first_seat (kind n) ∷ [])

pub record OfKind (kind : ℕ → Actor) (n : ℕ) (x : Actor) : Type 0 where
  pub number : ℕ
  pub less : number < n
  pub is : x ≡ kind number

of_kind : (kind : ℕ → Actor) (n : ℕ) (x : Actor) → x ∈ map of_seat (seats_of kind n) → OfKind kind n x
unfolding seats_of ◌∈◌
of_kind kind zero x m = absurd m
of_kind kind (suc n) x m = elim (in_push x (kind n) (map of_seat (seats_of kind n)) (subst (λ (xs : List Actor). x ∈ xs) (kind_more kind n) m)) [
  | inl there ↦ let k : OfKind kind n x = of_kind kind n x there in let less : k.number < n = k.less in record { number = k.number; less = omega (arith, less); is = k.is }
  | inr is ↦ record { number = n; less = omega arith; is = is }
]

in_kind : (kind : ℕ → Actor) (n m : ℕ) → m < n → kind m ∈ map of_seat (seats_of kind n)
unfolding seats_of
in_kind kind zero m less = absurd (omega (arith, less))
in_kind kind (suc n) m less =
    let cases : (m < n) ⊎ (m ≡ n) = grind (arith, less) in
    subst (λ (xs : List Actor). kind m ∈ xs) (sym (kind_more kind n)) (elim cases [
      | inl before ↦ in_front (kind m) (map of_seat (seats_of kind n)) (kind n ∷ []) (in_kind kind n m before)
      | inr last ↦ subst (λ (k : ℕ). kind k ∈ (map of_seat (seats_of kind n) ++ kind n ∷ [])) (sym last) (in_last (kind n) (map of_seat (seats_of kind n)))
    ])

once_kind : (kind : ℕ → Actor) → ((a b : ℕ) → kind a ≡ kind b → a ≡ b) → (n : ℕ) → Once (map of_seat (seats_of kind n))
unfolding seats_of Once
once_kind kind apart zero = tt
once_kind kind apart (suc n) = subst Once (sym (kind_more kind n)) (once_push (map of_seat (seats_of kind n)) (kind n) (once_kind kind apart n) (λ m.
    let k : OfKind kind n (kind n) = of_kind kind n (kind n) m in
    let same : n ≡ k.number = apart n k.number k.is in
    let less : k.number < n = k.less in
    absurd (omega (arith, same, less))))

-- all of them
abbrev many_actors : SetupNumbers → List Actor
many_actors setup = map of_seat (seats_of (λ n. Node n) setup.nodes) ++ map of_seat (seats_of (λ s. Session s) 16)

first_actors : (setup : SetupNumbers) → map of_seat (first_seats setup) ≡ Clock ∷ Janitor ∷ many_actors setup
first_actors setup = ap (λ (xs : List Actor). Clock ∷ Janitor ∷ xs) (map-append of_seat (seats_of (λ n. Node n) setup.nodes) (seats_of (λ s. Session s) 16))

-- clock and janitor are neither nodes nor sessions
abbrev IsMany : Actor → Type 0
IsMany (Node n) = Unit {0}
IsMany (Session s) = Unit {0}
IsMany _ = ⊥

are_many : (setup : SetupNumbers) (x : Actor) → x ∈ many_actors setup → IsMany x
are_many setup x m = elim (in_append x (map of_seat (seats_of (λ n. Node n) setup.nodes)) (map of_seat (seats_of (λ s. Session s) 16)) m) [
  | inl node ↦ let k : OfKind (λ n. Node n) setup.nodes x = of_kind (λ n. Node n) setup.nodes x node in subst IsMany (sym k.is) tt
  | inr session ↦ let k : OfKind (λ s. Session s) 16 x = of_kind (λ s. Session s) 16 x session in subst IsMany (sym k.is) tt
]

node_apart : (a b : ℕ) → Node a ≡ Node b → a ≡ b
node_apart a b same = cc

session_apart : (a b : ℕ) → Session a ≡ Session b → a ≡ b
session_apart a b same = cc

kinds_apart : (a b : ℕ) → Node a ≡ Session b → ⊥
kinds_apart a b same = cc

once_many : (setup : SetupNumbers) → Once (many_actors setup)
once_many setup = once_append _ _ (once_kind (λ n. Node n) node_apart setup.nodes) (once_kind (λ s. Session s) session_apart 16) (λ x node session.
    let a : OfKind (λ n. Node n) setup.nodes x = of_kind (λ n. Node n) setup.nodes x node in
    let b : OfKind (λ s. Session s) 16 x = of_kind (λ s. Session s) 16 x session in
    kinds_apart a.number b.number (sym a.is ∙ b.is))

once_first : (setup : SetupNumbers) → Once (Clock ∷ Janitor ∷ many_actors setup)
unfolding Once ◌∈◌
once_first setup = (λ m. elim m [ inl same ↦ cc | inr many ↦ are_many setup Clock many ], (λ m. are_many setup Janitor m, once_many setup))

pub once_actors : (script : ScriptData) → Once (actors_of script)
once_actors script = once_filter (has_lines script) (map of_seat (first_seats script.setup)) (subst Once (sym (first_actors script.setup)) (once_first script.setup))

-- ---- the actors that have lines
there_first : (setup : SetupNumbers) (actor : Actor) → ActorFits setup actor → actor ∈ (Clock ∷ Janitor ∷ many_actors setup)
unfolding ◌∈◌
there_first setup Clock fits = inl refl
there_first setup Janitor fits = inr (inl refl)
there_first setup (Node n) fits = inr (inr (in_front (Node n) (map of_seat (seats_of (λ n. Node n) setup.nodes)) (map of_seat (seats_of (λ s. Session s) 16)) (in_kind (λ n. Node n) setup.nodes n fits)))
there_first setup (Session s) fits = inr (inr (in_back (Session s) (map of_seat (seats_of (λ n. Node n) setup.nodes)) (map of_seat (seats_of (λ s. Session s) 16)) (in_kind (λ s. Session s) 16 s fits)))

fits_by : (setup : SetupNumbers) (actor : Actor) (line : Line) (rest : Bool) → ActorFits setup line.actor → (rest ≡ true → ActorFits setup actor) → (here : Bool) → same_actor line.actor actor ≡ here → (here || rest) ≡ true → ActorFits setup actor
fits_by setup actor line rest mine later true is some = subst (λ (a : Actor). ActorFits setup a) (actor_same line.actor actor is) mine
fits_by setup actor line rest mine later false is some = later some

some_fits : (setup : SetupNumbers) (actor : Actor) (lines : List Line) → AreLinesOf setup lines → list_any (λ (line : Line). same_actor line.actor actor) lines ≡ true → ActorFits setup actor
unfolding AreLinesOf
some_fits setup actor [] of_script some = absurd (cc)
some_fits setup actor (line ∷ lines) of_script some = fits_by setup actor line (list_any (λ (l : Line). same_actor l.actor actor) lines) of_script.0 (some_fits setup actor lines of_script.2) (same_actor line.actor actor) refl some

pub there_with : (script : ScriptData) (actor : Actor) → AreLinesOf script.setup script.lines → has_lines script actor ≡ true → actor ∈ actors_of script
there_with script actor of_script some = in_filter (has_lines script) actor (map of_seat (first_seats script.setup)) some (subst (λ (xs : List Actor). actor ∈ xs) (sym (first_actors script.setup)) (there_first script.setup actor (some_fits script.setup actor script.lines of_script some)))

pub gone_without : (script : ScriptData) (actor : Actor) → has_lines script actor ≡ false → actor ∈ actors_of script → ⊥
gone_without script actor none m =
    let some : has_lines script actor ≡ true = (of_filter (has_lines script) actor (map of_seat (first_seats script.setup)) m).1 in
    let clash : true ≡ false = sym some ∙ none in cc

none_by : (actor : Actor) (line : Line) (lines : List Line) → (list_any (λ (l : Line). same_actor l.actor actor) lines ≡ false → filter (is_of actor) lines ≡ []) → (here : Bool) → same_actor line.actor actor ≡ here → (here || list_any (λ (l : Line). same_actor l.actor actor) lines) ≡ false → cond (here && has_opening line.actor line.verb) (line ∷ filter (is_of actor) lines) (filter (is_of actor) lines) ≡ []
none_by actor line lines later true is none = absurd (cc)
none_by actor line lines later false is none = later none

no_lines : (actor : Actor) (lines : List Line) → list_any (λ (l : Line). same_actor l.actor actor) lines ≡ false → filter (is_of actor) lines ≡ []
no_lines actor [] none = refl
no_lines actor (line ∷ lines) none = none_by actor line lines (no_lines actor lines) (same_actor line.actor actor) refl none

pub no_own_lines : (script : ScriptData) (actor : Actor) → has_lines script actor ≡ false → filter (is_of actor) script.lines ≡ []
no_own_lines script actor none = no_lines actor script.lines none
