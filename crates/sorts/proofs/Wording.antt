-- Words that stand once, by the place of each.
use Rattle.std.proofs.Common.{◌≡◌, ℕ, ◌+◌, Bool, not, ◌&&◌, ◌||◌, List, [], ◌∷◌, drop, sym, refl, ap, ◌∙◌, ap₂, Bor, Decides, rules}
use Rattle.std.proofs.lemmas.List.{drop-drop}
use Rattle.std.proofs.lemmas.Slice.Eq.{compares_Decides}
use Rattle.std.specs.Bool.{one_answer}
use Rattle.std.specs.List.{enumerate_from}
use Rattle.model.specs.Values.{any, every, same_bytes}
use Rattle.sorts.specs.Describing.{once}
use Rattle.sorts.specs.Offered.{words}

decide : (v w : List ℕ) → Decides (same_bytes v w) (v ≡ w)
decide = compares_Decides same_bytes (search rules)

either_way : (v w : List ℕ) → same_bytes v w ≡ same_bytes w v
either_way v w = let d = decide w v in one_answer (same_bytes v w) (same_bytes w v) (decide v w) ((λ t. sym (d.0 t)), λ e. d.1 (sym e))

-- no later word is the same as that at a place
abbrev pub last_so : List (Bor (List ℕ)) → ℕ × Bor (List ℕ) → Bool
last_so xs p = not (any (λ r. same_bytes r.now p.1.now) (drop (p.0 + 1) xs))

among : (w : Bor (List ℕ)) (l : List (Bor (List ℕ))) → any (λ r. same_bytes r.now w.now) l ≡ any (same_bytes w.now) (words l)
among w [] = refl
among w (r ∷ l) = ap₂ ◌||◌ (either_way r.now w.now) (among w l)

once_from : (xs l : List (Bor (List ℕ))) (i : ℕ) → drop i xs ≡ l → every (last_so xs) (enumerate_from i l) ≡ once (words l)
once_from xs [] i e = refl
once_from xs (r ∷ l) i e =
    let next : drop (i + 1) xs ≡ l = sym (drop-drop 1 i xs) ∙ ap (drop 1) e in
    ap₂ ◌&&◌ (ap (λ k. not (any (λ s. same_bytes s.now r.now) k)) next ∙ ap not (among r l)) (once_from xs l (i + 1) next)

pub once_each : (xs : List (Bor (List ℕ))) → every (last_so xs) (enumerate_from 0 xs) ≡ once (words xs)
once_each xs = once_from xs xs 0 refl
