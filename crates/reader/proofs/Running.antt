-- How reading goes on: one sign, one item, and what may follow but does not.
use Rattle.std.proofs.Common.{◌≡◌, ℕ, Bool, List, [], ◌∷◌, ◌++◌, length, sym, refl, ap, ◌∙◌, Bor}
use Rattle.std.proofs.lemmas.List.{append_assoc}
use Rattle.std.proofs.lemmas.Bool.{cond-true}
use Rattle.grammar.specs.Signs.{Sign, Token, AND, OR}
use Rattle.grammar.specs.Reading.{Item, Want, Taken, goes, stops, takes, after, go_on, Read, reads, following, run, complete, more_and, more_or, a_neg, an_and, an_or, is_key}
use Rattle.signs.specs.Reached.{Found}
use Rattle.reader.specs.Saying.{from}

-- the text behind equal references
pub same_text : {x y : Bor (List ℕ)} → x ≡ y → x.now ≡ y.now
same_text e = ap (λ (r : Bor (List ℕ)). r.now) e

pub following_all : (l m : List Item) (r : Read) → following l (following m r) ≡ following (l ++ m) r
following_all l m r = ap (λ i. reads i r.fault) (sym (append_assoc l m r.items))

-- an item that is complete comes first
complete_go : (i : Item) (T : Taken) (more : List Want → Read) → go_on (after i T) more ≡ following (i ∷ []) (go_on T more)
complete_go i (goes l K) more = refl
complete_go i (stops l f) more = refl

pub complete_run : (e : ℕ) (i : Item) (K : List Want) (l : List Token) → run e (complete i ∷ K) l ≡ following (i ∷ []) (run e K l)
complete_run e i K [] = refl
complete_run e i K (t ∷ l) = complete_go i (takes K t.place t.sign) (λ M. run e M l)

-- a sign that is found is taken
pub found_goes : (f : Sign → Bool) (b : List ℕ) (a p z : ℕ) (K M : List Want) (F : Found f b a p z) → takes K p F.sign ≡ goes [] M → from b a K ≡ from b z M
found_goes f b a p z K M F e = ap (run (length b) K) F.first ∙ ap (λ T. go_on T (from b z)) e

pub and_found : (b : List ℕ) (a p z d : ℕ) (K : List Want) → Found (is_key AND) b a p z → from b a (more_and d ∷ K) ≡ from b z (a_neg d ∷ complete an_and ∷ more_and d ∷ K)
and_found b a p z d K F = found_goes (is_key AND) b a p z (more_and d ∷ K) _ F (cond-true (is_key AND F.sign) _ _ F.is)

pub or_found : (b : List ℕ) (a p z d : ℕ) (K : List Want) → Found (is_key OR) b a p z → from b a (more_or d ∷ K) ≡ from b z (a_neg d ∷ more_and d ∷ complete an_or ∷ more_or d ∷ K)
or_found b a p z d K F = found_goes (is_key OR) b a p z (more_or d ∷ K) _ F (cond-true (is_key OR F.sign) _ _ F.is)
