-- A list more, of which one is kept or not, and a front of what is kept.
use Rattle.std.proofs.Common.{◌≡◌, suc, Bool, true, false, cond, List, [], ◌∷◌, ◌++◌, length, length-append, append-nil, refl, sym, ap, ◌∙◌, arith}
use Rattle.reply_pipeline.specs.Picks.{kept, IsPickOf}

module _ {A : Type 0} where
  kept_push : (marks : List Bool) (all : List A) (mark : Bool) (x : A) → length marks ≡ length all → kept (marks ++ mark ∷ []) (all ++ x ∷ []) ≡ kept marks all ++ cond mark (x ∷ []) []
  kept_push [] [] true x e = refl
  kept_push [] [] false x e = refl
  kept_push [] (y ∷ all) mark x e = absurd (omega arith)
  kept_push (m ∷ marks) [] mark x e = absurd (omega arith)
  kept_push (true ∷ marks) (y ∷ all) mark x e = ap (λ l. y ∷ l) (kept_push marks all mark x (omega arith))
  kept_push (false ∷ marks) (y ∷ all) mark x e = kept_push marks all mark x (omega arith)

  pub pick_one : (some all : List A) (x : A) → IsPickOf some all → IsPickOf (some ++ x ∷ []) (all ++ x ∷ [])
  pick_one some all x h = record {
    marks = h.marks ++ true ∷ [];
    fit = (let f = h.fit in omega (arith, length-append h.marks (true ∷ []), length-append all (x ∷ [])));
    is = ap (λ l. l ++ x ∷ []) h.is ∙ sym (kept_push h.marks all true x h.fit);
  }

  pub pick_not : (some all : List A) (x : A) → IsPickOf some all → IsPickOf some (all ++ x ∷ [])
  pick_not some all x h = record {
    marks = h.marks ++ false ∷ [];
    fit = (let f = h.fit in omega (arith, length-append h.marks (false ∷ []), length-append all (x ∷ [])));
    is = h.is ∙ sym (append-nil (kept h.marks all)) ∙ sym (kept_push h.marks all false x h.fit);
  }

  pick_none : (all : List A) → IsPickOf [] all
  pick_none [] = record { marks = []; fit = refl; is = refl }
  pick_none (x ∷ all) = let h = pick_none all in record { marks = false ∷ h.marks; fit = ap suc h.fit; is = h.is }

  rest_of : List A → List A
  rest_of [] = []
  rest_of (x ∷ xs) = xs

  first_of : A → List A → A
  first_of x [] = x
  first_of x (y ∷ ys) = y

  front : (marks : List Bool) (some rest all : List A) → length marks ≡ length all → some ++ rest ≡ kept marks all → IsPickOf some all
  unfolding rest_of first_of
  front marks [] rest all fit e = pick_none all
  front [] (s ∷ some) rest all fit e = absurd (let f : s ∷ (some ++ rest) ≡ [] = e in cc)
  front (m ∷ marks) (s ∷ some) rest [] fit e = absurd (omega arith)
  front (true ∷ marks) (s ∷ some) rest (x ∷ all) fit e =
      let same : s ∷ (some ++ rest) ≡ x ∷ kept marks all = e in
      let h = front marks some rest all (omega arith) (ap rest_of same) in record { marks = true ∷ h.marks; fit = ap suc h.fit; is = (λ i. first_of s (same i) ∷ h.is i) }
  front (false ∷ marks) (s ∷ some) rest (x ∷ all) fit e = let h = front marks (s ∷ some) rest all (omega arith) e in record { marks = false ∷ h.marks; fit = ap suc h.fit; is = h.is }

  pub pick_front : (some rest all : List A) → IsPickOf (some ++ rest) all → IsPickOf some all
  pick_front some rest all h = front h.marks some rest all h.fit h.is
