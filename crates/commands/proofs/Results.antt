-- What calls say of their results, and readings that go on from others.
use Rattle.std.proofs.Common.{◌≡◌, Some, None, Ok, Err, Option, Result, sym, refl, subst}
use Rattle.std.specs.Result.{MatchResult, result_ok}
use Rattle.std.proofs.lemmas.Option.{same_Some, none-some}
use Rattle.commands.specs.declared.unread.Unread.{Unread}
use Rattle.commands.specs.declared.unread.Unread.TheVariants.{Malformed, Memory}
use Rattle.commands.specs.Readings.{ReadsAs}

-- a reading that fails as another did
pub reads_on : {A B C D : Type 0} (e : Unread) (f : A → C) (g : B → D) (o : Option C) (u : Option D) → ReadsAs {A = A} (Err e) f o → (None ≡ o → None ≡ u) → ReadsAs {A = B} (Err e) g u
reads_on Malformed f g o u r k = k r
reads_on (Memory e) f g o u r k = tt

-- a reading that fails is malformed for a reason
pub reads_not : {A B : Type 0} (e : Unread) (f : A → B) (o : Option B) → (e ≡ Malformed → None ≡ o) → ReadsAs {A = A} (Err e) f o
reads_not Malformed f o k = k refl
reads_not (Memory e) f o k = tt

-- what a call says of the value that it gives, and of the error that it gives none for
pub ok_says : {T E : Type 0} (r : Result T E) (P : T → Type 0) (Q : E → Type 0) (x : T) → MatchResult r P Q → result_ok r ≡ Some x → P x
ok_says (Ok y) P Q x m e = subst P (same_Some y x e) m
ok_says (Err d) P Q x m e = absurd (none-some x e)

pub err_says : {T E : Type 0} (r : Result T E) (P : T → Type 0) (Q : E → Type 0) → MatchResult r P Q → result_ok r ≡ None → (d : E) × Q d
err_says (Ok y) P Q m e = absurd (none-some y (sym e))
err_says (Err d) P Q m e = (d, m)
