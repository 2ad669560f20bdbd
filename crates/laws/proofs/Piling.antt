-- Every view is lawful and stands on its tables.
use Rattle.std.proofs.Common.{◌≡◌, ℕ, ◌<◌, List, [], ◌∷◌, ◌++◌, map, length, sym, refl, ◌∙◌, subst, ap₂, inl, inr, arith}
use Rattle.model.specs.Orders.{Order, Total}
use Rattle.model.specs.Piles.{Pile, Premises, View, dropping, joining, places, renaming, rules, selecting, source, stored, table_at}
use Rattle.model.specs.Sorts.{Meets}
use Rattle.model.specs.Tables.{Lawful, Store, Stored, first}
use Rattle.model.specs.TreeForm.{Formed}
use Rattle.model.specs.Values.{Relation, ◌∈◌}
use Rattle.laws.specs.Views.{Stands}
use Rattle.laws.proofs.Dropped.{drop_lawful}
use Rattle.laws.proofs.Joined.{join_lawful}
use Rattle.laws.proofs.Members.{map_append, of_append}
use Rattle.laws.proofs.Renamed.{rename_lawful}
use Rattle.laws.proofs.Selecting.{select_lawful}

module _ (o : Order) where
  one_store : (s : Store) (I : List Relation) → Stored o (s ∷ []) I → Meets o s.sort (first I)
  one_store s [] h = absurd h
  one_store s (R ∷ I) h = h.0

  same_store : (s : Store) (I : List Relation) → Stored o (s ∷ []) I → first I ∷ [] ≡ I
  same_store s [] h = absurd h
  same_store s (R ∷ []) h = refl
  same_store s (R ∷ Q ∷ I) h = absurd h.1

  pub stored_lawful : (s : Store) → Formed s.sort → Lawful o (stored s)
  stored_lawful s F = record {
    formed = F;
    shown_meets = λ I h. one_store s I h;
    put_meets = λ J I h M. (M, tt);
    put_shows = λ J I h M. refl;
    show_puts = λ I h. same_store s I h;
    no_more = λ I h. omega arith;
  }

module _ (o : Order) (O : Total o) where
  pub piles_lawful : (T : List Store) (v : Pile) → Premises o T v → Lawful o (rules o T v)
  piles_lawful T (source p) A = stored_lawful o (table_at T p) A.1
  piles_lawful T (selecting P v) A = select_lawful o O P (rules o T v) A.0 (piles_lawful T v A.1)
  piles_lawful T (dropping k a v) A = drop_lawful o O k a (rules o T v) A.0 (piles_lawful T v A.1)
  piles_lawful T (renaming k w v) A = rename_lawful o k w (rules o T v) A.0 (piles_lawful T v A.1)
  piles_lawful T (joining v w) A = join_lawful o O (rules o T v) (rules o T w) A.0 (piles_lawful T v A.1) (piles_lawful T w A.2)

  -- the stores of a pile are the tables at its places
  pile_stores : (T : List Store) (v : Pile) → (rules o T v).stores ≡ map (table_at T) (places v)
  pile_stores T (source p) = refl
  pile_stores T (selecting P v) = pile_stores T v
  pile_stores T (dropping k a v) = pile_stores T v
  pile_stores T (renaming k w v) = pile_stores T v
  pile_stores T (joining v w) = ap₂ {C = List Store} ◌++◌ (pile_stores T v) (pile_stores T w) ∙ sym (map_append (table_at T) (places v) (places w))

  pile_within : (T : List Store) (v : Pile) → Premises o T v → (p : ℕ) → p ∈ places v → p < length T
  pile_within T (source p) A q (inl e) = subst (λ x. x < length T) (sym e) A.0
  pile_within T (source p) A q (inr h) = absurd h
  pile_within T (selecting P v) A q h = pile_within T v A.1 q h
  pile_within T (dropping k a v) A q h = pile_within T v A.1 q h
  pile_within T (renaming k w v) A q h = pile_within T v A.1 q h
  pile_within T (joining v w) A q h = elim (of_append q (places v) (places w) h) [ inl g ↦ pile_within T v A.1 q g | inr g ↦ pile_within T w A.2 q g ]

  pub views_stand : (T : List Store) (v : Pile) → View o T v → Stands o T v
  views_stand T v V = record { lawful = piles_lawful T v V.premises; stores = pile_stores T v; within = pile_within T v V.premises }
