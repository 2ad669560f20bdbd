-- A number by its digits.
use Rattle.std.proofs.Common.{◌≡◌, ℕ, ◌+◌, ◌-◌, ◌*◌, ◌<◌, ◌≤◌, Bool, true, false, leb, cond, List, [], ◌∷◌, Option, sym, refl, ap, subst, arith}
use Rattle.std.specs.Bool.{then_some}
use Rattle.std.specs.List.{fold}
use Rattle.std.proofs.lemmas.Bool.{le-leb, lt-leb, leb-true, leb-false}
use Rattle.grammar.specs.Signs.{decimal, decimal_after}
use Rattle.reader.specs.Judging.{Counted, one_digit}

-- n is m where m is not above the greatest number of a cell, and else n is above it too
record Reaches (n m : ℕ) : Type 0 where
  exact : m ≤ 268435455 → n ≡ m
  above : 268435455 < m → 268435455 < n

within : {n m : ℕ} → Reaches n m → n ≤ 268435455 → m ≤ 268435455
within {n} {m} h l = by (leb m 268435455) refl
  where
    by : (t : Bool) → leb m 268435455 ≡ t → m ≤ 268435455
    by true e = leb-true m 268435455 e
    by false e = let high = leb-false m 268435455 e in absurd (omega (arith, high, h.above high))

more : (n m d : ℕ) → Reaches n m → Reaches (one_digit n d) (m * 10 + (d - 0x30))
more n m d h = by (leb n 268435455) refl
  where
    by : (t : Bool) → leb n 268435455 ≡ t → Reaches (cond t (n * 10 + (d - 0x30)) n) (m * 10 + (d - 0x30))
    by true e =
        let low = leb-true n 268435455 e in
        let same : n ≡ m = h.exact (within h low) in
        record { exact = λ l. ap (λ k. k * 10 + (d - 0x30)) same; above = λ l. omega (arith, same) }
    by false e =
        let high = leb-false n 268435455 e in
        record { exact = λ l. absurd (omega (arith, high, l, h.exact (omega (arith, l)))); above = λ l. high }

reaches : (b : List ℕ) (n m : ℕ) → Reaches n m → Reaches (fold one_digit n b) (decimal_after m b)
reaches [] n m h = h
reaches (d ∷ b) n m h = reaches b (one_digit n d) (m * 10 + (d - 0x30)) (more n m d h)

beyond : {n m : ℕ} → Reaches n m → 268435455 < n → 268435455 < m
beyond {n} {m} h l = by (leb m 268435455) refl
  where
    by : (t : Bool) → leb m 268435455 ≡ t → 268435455 < m
    by true e = let low = leb-true m 268435455 e in absurd (omega (arith, low, h.exact low))
    by false e = leb-false m 268435455 e

pub counted : (b : List ℕ) (n : ℕ) (r : Option ℕ) → n ≡ fold one_digit 0 b → r ≡ then_some (leb n 268435455) n → Counted b r
counted b n r e i =
    let h : Reaches n (decimal b) = subst (λ n. Reaches n (decimal b)) (sym e) (reaches b 0 0 (record { exact = λ l. refl; above = λ l. absurd (omega arith) })) in
    subst (Counted b) (sym i) (by h (leb n 268435455) refl)
  where
    by : Reaches n (decimal b) → (t : Bool) → leb n 268435455 ≡ t → Counted b (then_some t n)
    by h true l = let low = within h (leb-true n 268435455 l) in (le-leb (decimal b) 268435455 low, h.exact low)
    by h false l = lt-leb (decimal b) 268435455 (beyond h (leb-false n 268435455 l))
