-- What is claimed of the four layers: on a lawful table, each is a lawful table.
use Rattle.std.specs.Prelude.{◌≡◌, ℕ, ◌&&◌, List}
use Rattle.model.specs.Values.{Value, Tuple}
use Rattle.model.specs.Orders.{Order, Total}
use Rattle.model.specs.Sorts.{Shaped, admitted, Sort}
use Rattle.model.specs.TreeForm.{Formed}
use Rattle.model.specs.Tables.{Store, Rules, Lawful}
use Rattle.model.specs.Selecting.{Predicate, ReadsNoOutput, select_sort, select}
use Rattle.model.specs.Dropping.{without, add_at, drop_sort, drop, MayDrop}
use Rattle.model.specs.Renaming.{rename_sort, rename, Unused}
use Rattle.model.specs.Projecting.{project}
use Rattle.model.specs.Joining.{join_columns, join_sort, join, MayJoin}
use Rattle.model.specs.Piles.{stored}

abbrev pub StoredLawful : Type 0
StoredLawful = (o : Order) (s : Store) → Formed s.sort → Lawful o (stored s)

abbrev pub SelectLawful : Type 0
SelectLawful = (o : Order) → Total o → (P : Predicate) (K : Rules) → ReadsNoOutput K.sort → Lawful o K → Lawful o (select o P K)

abbrev pub DropLawful : Type 0
DropLawful = (o : Order) → Total o → (k : ℕ) (a : Value) (K : Rules) → MayDrop K.sort k a → Lawful o K → Lawful o (drop o k a K)

abbrev pub RenameLawful : Type 0
RenameLawful = (o : Order) (k : ℕ) (w : List ℕ) (K : Rules) → Unused w K.sort → Lawful o K → Lawful o (rename k w K)

abbrev pub JoinLawful : Type 0
JoinLawful = (o : Order) → Total o → (K L : Rules) → MayJoin K.sort L.sort → Lawful o K → Lawful o L → Lawful o (join o K L)

-- Whether a layer's sort admits a tuple can be asked of the sorts below: with the default in the dropped place, and projected to each side.
pub record AdmittedBelow : Type 0 where
  pub by_select : (P : Predicate) (S : Sort) (t : Tuple) → admitted (select_sort P S).parts t ≡ (admitted P.parts t && admitted S.parts t)
  pub by_drop : (k : ℕ) (a : Value) (S : Sort) → MayDrop S k a → (t : Tuple) → Shaped (without k S.columns) t → admitted (drop_sort k a S).parts t ≡ admitted S.parts (add_at k a t)
  pub by_rename : (k : ℕ) (w : List ℕ) (S : Sort) (t : Tuple) → admitted (rename_sort k w S).parts t ≡ admitted S.parts t
  pub by_join : (S T : Sort) (t : Tuple) →
      admitted (join_sort S T).parts t
      ≡ (let C = join_columns S.columns T.columns in admitted S.parts (project C S.columns t) && admitted T.parts (project C T.columns t))
