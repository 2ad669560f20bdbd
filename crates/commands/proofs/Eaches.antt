-- What a function gives for each item of a list.
use Rattle.std.proofs.Common.{◌≡◌, ℕ, zero, suc, ◌+◌, ◌<◌, List, [], ◌∷◌, ◌++◌, take, map, length, get_or, Some, None, Ok, Err, IfOk, Vec, Global, Option, Result, sym, refl, ap, ◌∙◌, arith, Bor}
use Rattle.std.specs.Fn.{Shared, FnReturnsAt}
use Rattle.std.specs.List.{AllZip, Any}
use Rattle.std.specs.Option.{option_map}
use Rattle.std.proofs.lemmas.List.{take_more}
use Rattle.std.proofs.lemmas.Slice.Zip.{all_zipped_more}
use Rattle.std.specs.Result.{IsErrOf}
use Rattle.commands.specs.declared.unread.Unread.{Unread}
use Rattle.commands.specs.declared.unread.Unread.TheVariants.{Malformed, Memory}
use Rattle.commands.specs.Lists.{and_then, each}
use Rattle.commands.specs.Readings.{ReadsAs}

pub and_then_none : {A B : Type 0} (o : Option A) → and_then {B = B} o (λ a. None) ≡ None
and_then_none None = refl
and_then_none (Some a) = refl

pub each-map : {A B C : Type 0} (p : B → Option C) (f : A → B) (xs : List A) → each p (map f xs) ≡ each (λ x. p (f x)) xs
each-map p f [] = refl
each-map p f (x ∷ xs) = ap (λ o. and_then (p (f x)) (λ b. option_map (λ bs. b ∷ bs) o)) (each-map p f xs)

pub map_same : {A : Type 0} (xs : List A) → map (λ x. x) xs ≡ xs
map_same [] = refl
map_same (x ∷ xs) = ap (λ l. x ∷ l) (map_same xs)

-- one more item
pub all_more : {X U : Type 0} (R : X → U → Type 0) (xs : List X) (i : ℕ) (x : X) (ys zs : List U) (u : U) → i < length xs → x ≡ get_or xs i x → AllZip R (take i xs) ys → R x u → zs ≡ ys ++ (u ∷ []) → AllZip R (take (i + 1) xs) zs
all_more R xs i x ys zs u lt e h r f =
    rw (take_more xs i x lt, ← e, f) (all_zipped_more R (take i xs) ys x u h r)

-- the results of a closure, seen by h, are what p gives
module _ {F X U B : Type 0} (calls : Shared F (Bor X × Unit {0}) (Option U)) (f : F) (p : X → Option B) (h : U → B) (says : (x : Bor X) (r : Option U) → calls.post f (x, tt) r → option_map h r ≡ p x.now) where
  gives : (x : X) (r : Option U) → FnReturnsAt calls f x r → option_map h r ≡ p x
  gives x r k = says k.shown r k.says.met ∙ ap p k.shows

  pub each_all : (xs : List X) (ys : List U) → AllZip (λ x u. FnReturnsAt calls f x (Some u)) xs ys → each p xs ≡ Some (map h ys)
  each_all [] [] z = refl
  each_all [] (y ∷ ys) z = absurd z
  each_all (x ∷ xs) [] z = absurd z
  each_all (x ∷ xs) (y ∷ ys) z =
      ap (λ o. and_then o (λ b. option_map (λ bs. b ∷ bs) (each p xs))) (sym (gives x (Some y) z.0)) ∙ ap (option_map (λ bs. h y ∷ bs)) (each_all xs ys z.1)

  none_at : (xs : List X) (k : ℕ) (x : X) → k < length xs → get_or xs k x ≡ x → FnReturnsAt calls f x None → each p xs ≡ None
  none_at [] k x lt e n = absurd (omega arith)
  none_at (y ∷ xs) zero x lt e n = ap (λ o. and_then o (λ b. option_map (λ bs. b ∷ bs) (each p xs))) (ap p e ∙ sym (gives x None n))
  none_at (y ∷ xs) (suc k) x lt e n =
      ap (λ o. and_then (p y) (λ b. option_map (λ bs. b ∷ bs) o)) (none_at xs k x (omega arith) e n) ∙ and_then_none (p y)

  pub each_none : (xs : List X) → Any (λ x. FnReturnsAt calls f x None) xs → each p xs ≡ None
  each_none xs (k, x, lt, e, n) = none_at xs k x lt e n

  pub reads_each : (xs : List X) (r : Result (Vec U Global) Unread) → IfOk r (λ v. AllZip (λ x u. FnReturnsAt calls f x (Some u)) xs v.items) → (IsErrOf r Malformed → Any (λ x. FnReturnsAt calls f x None) xs) → ReadsAs r (λ v. map h v.items) (each p xs)
  reads_each xs (Ok v) all malformed = sym (each_all xs v.items all)
  reads_each xs (Err Malformed) all malformed = sym (each_none xs (malformed refl))
  reads_each xs (Err (Memory e)) all malformed = tt
