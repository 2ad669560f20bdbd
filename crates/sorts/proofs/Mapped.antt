-- What `any` and `all` answer of the members of a slice, as a test of the list that the slice stands for.
use Rattle.std.proofs.Common.{◌≡◌, Bool, ◌||◌, List, [], ◌∷◌, map, sym, refl, ap, ◌∙◌, true, false, Option, MatchOption}
use denote.Param.Members.{Mut}
use Rattle.std.specs.Fn.{Called}
use Rattle.std.specs.Iterator.{YieldsThen}
use Rattle.std.specs.List.{FoldsTo}
use Rattle.std.proofs.lemmas.Iterator.{YieldsList}
use Rattle.std.proofs.lemmas.Iterator.Search.{any_from_yields_List, all_from_yields_List}
use Rattle.std.proofs.lemmas.List.Folds.{list_all-map}
use Rattle.model.specs.Values.{any, every}

pub any_map : {A B : Type 0} (p : B → Bool) (f : A → B) (l : List A) → any p (map f l) ≡ any (λ a. p (f a)) l
any_map p f [] = refl
any_map p f (a ∷ l) = ap (λ b. p (f a) || b) (any_map p f l)

module _ {S X A B F : Type 0} {steps : S → Option X → S → Type 0} {v : X → A} {g : Mut F (X × Unit {0}) Bool} {s : S} {xs : List A} (p : B → Bool) (h : A → B) (u : S) (f : F) (r : Bool) where
  pub any_of : (ys : List X) × (o : Option X) × (j : F) × YieldsThen steps s ys o u × FoldsTo (λ q x q'. Called g q (x, tt) false q') f ys j × MatchOption o (r ≡ false) (λ x. (r ≡ true) × ((k : F) × Called g j (x, tt) true k)) →
      YieldsList steps v s xs → ((x : X) (b : Bool) (q : F) → Called g f (x, tt) b q → (q ≡ f) × (b ≡ p (h (v x)))) → r ≡ any p (map h xs)
  any_of ran gives test = any_from_yields_List (λ a. p (h a)) u f r ran gives test ∙ sym (any_map p h xs)

  pub all_of : (ys : List X) × (o : Option X) × (j : F) × YieldsThen steps s ys o u × FoldsTo (λ q x q'. Called g q (x, tt) true q') f ys j × MatchOption o (r ≡ true) (λ x. (r ≡ false) × ((k : F) × Called g j (x, tt) false k)) →
      YieldsList steps v s xs → ((x : X) (b : Bool) (q : F) → Called g f (x, tt) b q → (q ≡ f) × (b ≡ p (h (v x)))) → r ≡ every p (map h xs)
  all_of ran gives test = all_from_yields_List (λ a. p (h a)) u f r ran gives test ∙ sym (list_all-map p h xs)
