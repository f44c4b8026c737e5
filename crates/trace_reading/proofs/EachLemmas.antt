-- A loop over steps is at the place where its steps so far have led.
use Rattle.std.proofs.Common.{◌≡◌, ℕ, ◌+◌, ◌<◌, List, [], ◌∷◌, length, map, drop, get_or, refl, sym, ap, ◌∙◌}
use Rattle.std.specs.Prelude.{Result, Ok, Err}
use Rattle.std.proofs.lemmas.List.{drop_more}
use Rattle.serde_json.specs.View.{view, items_view}
use Rattle.serde_json.specs.declared.value.Value.{Value}
use Rattle.trace_reading.specs.Recording.{Recorded}
use Rattle.trace_reading.specs.Steps.{◌>>=◌, each_from, in_order}

pub in_order_view : (vs : List Value) → in_order (items_view vs) ≡ map view vs
in_order_view [] = refl
in_order_view (v ∷ vs) = ap (λ ds. view v ∷ ds) (in_order_view vs)

module _ {A B W : Type 0} (f : B → A) (step : Recorded → ℕ → A → Result Recorded W) where
  pub each_here : (r : Recorded) (xs : List B) (i : ℕ) (x : B) → i < length xs → x ≡ get_or xs i x
      → each_from step r i (map f (drop i xs)) ≡ (step r i (f x) >>= λ after. each_from step after (i + 1) (map f (drop (i + 1) xs)))
  each_here r xs i x within is = rw (drop_more xs i x within, sym is) refl

  -- a step that was made
  pub each_next : (r new : Recorded) (xs : List B) (i : ℕ) (x : B) → i < length xs → x ≡ get_or xs i x → step r i (f x) ≡ Ok new
      → each_from step r i (map f (drop i xs)) ≡ each_from step new (i + 1) (map f (drop (i + 1) xs))
  each_next r new xs i x within is made = each_here r xs i x within is ∙ rw made refl

  -- a step that wants something
  pub each_stops : (r : Recorded) (w : W) (xs : List B) (i : ℕ) (x : B) → i < length xs → x ≡ get_or xs i x → step r i (f x) ≡ Err w
      → each_from step r i (map f (drop i xs)) ≡ Err w
  each_stops r w xs i x within is wants = each_here r xs i x within is ∙ rw wants refl
