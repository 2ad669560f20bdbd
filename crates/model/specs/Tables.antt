-- What a table of any kind means: a kind number, a sort, stores, a show rule and a put rule, and the laws of the two.
use Rattle.std.specs.Prelude.{◌≡◌, ℕ, ◌<◌, ◌≤◌, ◌⊎◌, List, [], ◌∷◌, length}
use Rattle.model.specs.Values.{Relation}
use Rattle.model.specs.Orders.{Order}
use Rattle.model.specs.Sorts.{Sort, Meets}
use Rattle.model.specs.TreeForm.{Formed}

-- A store is where a stored table keeps its relation: the table's kind and sort, and its room, the greatest number of rows.
pub record Store : Type 0 where
  pub kind : ℕ
  pub sort : Sort
  pub room : ℕ

-- The rules of a table: what stores show, and what offered rows and stores give as new stores.
pub record Rules : Type 0 where
  pub kind : ℕ
  pub sort : Sort
  pub stores : List Store
  pub shows : List Relation → Relation
  pub puts : Relation → List Relation → List Relation

-- relations, one for each store, that meet the stores' sorts
abbrev pub Stored : Order → List Store → List Relation → Type 0
Stored o [] [] = Unit {0}
Stored o [] (R ∷ I) = ⊥
Stored o (s ∷ S) [] = ⊥
Stored o (s ∷ S) (R ∷ I) = Meets o s.sort R × Stored o S I

-- no store exceeds its room
abbrev pub Fits : List Store → List Relation → Type 0
Fits [] I = Unit {0}
Fits (s ∷ S) [] = Unit {0}
Fits (s ∷ S) (R ∷ I) = (length R ≤ s.room) × Fits S I

-- some store exceeds its room
abbrev pub Exceeds : List Store → List Relation → Type 0
Exceeds [] I = ⊥
Exceeds (s ∷ S) [] = ⊥
Exceeds (s ∷ S) (R ∷ I) = (s.room < length R) ⊎ Exceeds S I

abbrev pub first : List Relation → Relation
first [] = []
first (R ∷ I) = R

-- The laws of a table, of stores that meet their sorts.
pub record Lawful (o : Order) (K : Rules) : Type 0 where
  pub formed : Formed K.sort
  -- they show a relation that meets the table's sort
  pub shown_meets : (I : List Relation) → Stored o K.stores I → Meets o K.sort (K.shows I)
  -- offered rows that meet the table's sort give stores that meet theirs
  pub put_meets : (J : Relation) (I : List Relation) → Stored o K.stores I → Meets o K.sort J → Stored o K.stores (K.puts J I)
  -- PutGet: these show the offered rows
  pub put_shows : (J : Relation) (I : List Relation) → Stored o K.stores I → Meets o K.sort J → K.shows (K.puts J I) ≡ J
  -- GetPut: offering what is shown gives the same stores
  pub show_puts : (I : List Relation) → Stored o K.stores I → K.puts (K.shows I) I ≡ I
  -- no more rows are shown than the first store has
  pub no_more : (I : List Relation) → Stored o K.stores I → length (K.shows I) ≤ length (first I)
