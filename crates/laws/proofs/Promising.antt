-- Faithful answers keep the promise.
use Rattle.std.proofs.Common.{◌≡◌, ℕ, cond, ◌⊎◌, ◌↔◌, List, [], ◌∷◌, ◌++◌, Some, None, Option, sym, refl, ap, ◌∙◌, subst, inl, inr}
use lib.Dec.{leb-zero}
use Rattle.model.specs.Decisions.{meets}
use Rattle.model.specs.Faults.{Fault, fault}
use Rattle.model.specs.Judging.{judge, show_fault}
use Rattle.model.specs.Ledger.{Answer, Call, Entry, History, State, answer, close_view, due, entry, ledger, memory, new_stores, ok, open_refused, open_view, put, record_entry, refused, relation_at, rows, set_view, show, show_answer, shown, step, stores_of, try, unless_due, unless_memory, verdict, view_stores}
use Rattle.model.specs.Orders.{Order, Total}
use Rattle.model.specs.Piles.{OneView, Pile, View, places, rules}
use Rattle.model.specs.Promise.{Answered, Faithful, LastAccepted, LastShown, Made, Offers, OnView, Promise, Quiet, Rightly, Share, Since}
use Rattle.model.specs.Sorts.{Meets}
use Rattle.model.specs.Tables.{Exceeds, Fits, Rules, Store, Stored}
use Rattle.model.specs.Values.{Relation}
use Rattle.laws.specs.Promise.{Recorded}
use Rattle.laws.proofs.Alike.{one_view_alike}
use Rattle.laws.proofs.Judging.{judge_due}
use Rattle.laws.proofs.Keeping.{call_stored, own_accepted, own_nothing, own_stored, put_shown, shown_none, stay}
use Rattle.laws.proofs.Meeting.{fits_not, fits_or, meets_exact}
use Rattle.laws.proofs.Members.{bool_cases, clash, map_cong}
use Rattle.laws.proofs.Refusing.{faults_exact}

-- answers are told apart
OkCode : Answer → Type 0
OkCode ok = Unit {0}
OkCode (rows R) = ⊥
OkCode (refused f) = ⊥
OkCode memory = ⊥

RowsCode : Answer → Type 0
RowsCode ok = ⊥
RowsCode (rows R) = Unit {0}
RowsCode (refused f) = ⊥
RowsCode memory = ⊥

not_refused : (f : Fault) → refused f ≡ ok → ⊥
unfolding OkCode
not_refused f e = subst OkCode (sym e) tt

not_rows : (R : Relation) → rows R ≡ ok → ⊥
unfolding OkCode
not_rows R e = subst OkCode (sym e) tt

rows_not_refused : (R : Relation) (f : Fault) → rows R ≡ refused f → ⊥
unfolding RowsCode
rows_not_refused R f e = subst RowsCode e tt

the_fault : Fault → Answer → Fault
the_fault d ok = d
the_fault d (rows R) = d
the_fault d (refused f) = f
the_fault d memory = d

same_fault : (f g : Fault) → refused f ≡ refused g → f ≡ g
unfolding the_fault
same_fault f g e = ap (the_fault f) e

the_rows : Answer → Relation
the_rows ok = []
the_rows (rows R) = R
the_rows (refused f) = []
the_rows memory = []

same_rows : (R Q : Relation) → rows R ≡ rows Q → R ≡ Q
unfolding the_rows
same_rows R Q e = ap the_rows e

-- what an answer says of the fault that was due
ok_none : (out : Option Fault) → ok ≡ verdict out ok → out ≡ None
ok_none None e = refl
ok_none (Some f) e = absurd (not_refused f (sym e))

refused_due : (f : Fault) (out : Option Fault) → refused f ≡ verdict out ok → out ≡ Some f
refused_due f None e = absurd (not_refused f e)
refused_due f (Some g) e = ap {B = Option Fault} Some (sym (same_fault f g e))

refused_old : (f : Fault) (out : Option Fault) (M L : State) → refused f ≡ verdict out ok → unless_due out M L ≡ L
refused_old f None M L e = absurd (not_refused f e)
refused_old f (Some g) M L e = refl

rows_never : (R : Relation) (out : Option Fault) → rows R ≡ verdict out ok → ⊥
rows_never R None e = not_rows R e
rows_never R (Some g) e = rows_not_refused R g e

rows_of : (R Q : Relation) (out : Option Fault) → rows R ≡ verdict out (rows Q) → R ≡ Q
rows_of R Q None e = same_rows R Q e
rows_of R Q (Some g) e = absurd (rows_not_refused R g e)

-- histories
append_assoc : (f g h : History) → (f ++ g) ++ h ≡ f ++ (g ++ h)
append_assoc [] g h = refl
append_assoc (e ∷ f) g h = ap {B = History} (λ x. e ∷ x) (append_assoc f g h)

module _ (o : Order) where
  ledger_append : (T : List Store) (L : State) (g h : History) → ledger o T L (g ++ h) ≡ ledger o T (ledger o T L g) h
  ledger_append T L [] h = refl
  ledger_append T L (e ∷ g) h = ledger_append T (record_entry o T L e) g h

  faithful_split : (T : List Store) (L : State) (g h : History) → Faithful o T L (g ++ h) → Faithful o T L g × Faithful o T (ledger o T L g) h
  faithful_split T L [] h F = (tt, F)
  faithful_split T L (e ∷ g) h F = let w = faithful_split T (record_entry o T L e) g h F.1 in ((F.0, w.0), w.1)

  faithful_more : (T : List Store) (L : State) (g : History) (e : Entry) → Faithful o T L g → Rightly o T (ledger o T L g) e → Faithful o T L (g ++ e ∷ [])
  faithful_more T L [] e F r = (r, tt)
  faithful_more T L (d ∷ g) e F r = (F.0, faithful_more T (record_entry o T L d) g e F.1 r)

  pub recording : (T : List Store) (start : State) (h : History) (e : Entry) → Faithful o T start h → Rightly o T (ledger o T start h) e → Recorded o T start h e
  recording T start h e F r = record { faithful = faithful_more T start h e F r; ledger_moves = ledger_append T start h (e ∷ []) }

  -- a point of a part of the history is a point of it
  later : (past future g : History) (c : Call) (a : Answer) → Answered past g c a → Answered (past ++ future) g c a
  later past future g c a p = (p.0 ++ future, ap (λ x. x ++ future) p.1 ∙ append_assoc g (entry c a ∷ p.0) future, p.2)

  pub every_point : (T : List Store) (start : State) (past future : History) (now : State) → Promise o T start (past ++ future) now → Promise o T start past (ledger o T start past)
  every_point T start past future now P = record {
    has_rows = refl;
    meets = λ g k e. P.meets g (k ++ future) (ap (λ x. x ++ future) e ∙ append_assoc g k future);
    within_room = λ g k e. P.within_room g (k ++ future) (ap (λ x. x ++ future) e ∙ append_assoc g k future);
    answers = λ g c a p. P.answers g c a (later past future g c a p);
    refuses = λ g c a v J p. P.refuses g c a v J (later past future g c a p);
    accepts = λ g c a v J p. P.accepts g c a v J (later past future g c a p);
    faults = λ g c x v J p. P.faults g c x v J (later past future g c (refused x) p);
    shows_last = λ g v n a J p. P.shows_last g v n a J (later past future g (show v n) a p);
    shows_first = λ g v n a p. P.shows_first g v n a (later past future g (show v n) a p);
    shows_none = λ g v n a p. P.shows_none g v n a (later past future g (show v n) a p);
    puts_back = λ g c a v J p. P.puts_back g c a v J (later past future g c a p);
  }

module _ (o : Order) (O : Total o) where
  still : (a : Answer) (L : State) → unless_memory a L L ≡ L
  still ok L = refl
  still (rows R) L = refl
  still (refused f) L = refl
  still memory L = refl

  if_made : (a : Answer) (P : State → Type 0) (M L : State) → (Made a → P M) → P L → P (unless_memory a M L)
  if_made ok P M L x y = x tt
  if_made (rows R) P M L x y = x tt
  if_made (refused f) P M L x y = x tt
  if_made memory P M L x y = y

  module _ (T : List Store) where
    after_stored : (L : State) → Stored o T L.relations → Fits T L.relations → (e : Entry) → Rightly o T L e → Stored o T (record_entry o T L e).relations × Fits T (record_entry o T L e).relations
    after_stored L h f e r = (
      if_made e.answer (λ z. Stored o T z.relations) (step o T L e.call) L (λ m. (call_stored o O T L h f e.call (r.on_view m)).0) h,
      if_made e.answer (λ z. Fits T z.relations) (step o T L e.call) L (λ m. (call_stored o O T L h f e.call (r.on_view m)).1) f,
    )

    ledger_stored : (L : State) → Stored o T L.relations → Fits T L.relations → (g : History) → Faithful o T L g → Stored o T (ledger o T L g).relations × Fits T (ledger o T L g).relations
    ledger_stored L h f [] F = (h, f)
    ledger_stored L h f (e ∷ g) F = let w = after_stored L h f e F.0 in ledger_stored (record_entry o T L e) w.0 w.1 g F.1

    -- a stretch without an accepted put on the view's tables leaves its stores
    put_spares : (L : State) (v w : Pile) (J : Relation) (a : Answer) → (Made a → a ≡ verdict (due o T w J L) ok) → (a ≡ ok → Share w v → ⊥) → view_stores v (unless_memory a (step o T L (put w J)) L) ≡ view_stores v L
    put_spares L v w J ok m q = map_cong (relation_at (step o T L (put w J)).relations) (relation_at L.relations) (places v) (λ p g. stay o O T L w J p (λ k. q refl (p, k, g)))
    put_spares L v w J (rows R) m q = absurd (rows_never R (due o T w J L) (m tt))
    put_spares L v w J (refused x) m q = ap (view_stores v) (refused_old x (due o T w J L) (set_view w (new_stores o T w J L) L) L (m tt))
    put_spares L v w J memory m q = refl

    call_spares : (L : State) (v : Pile) (c : Call) (a : Answer) → (Made a → a ≡ answer o T L c) → ((w : Pile) (J : Relation) → entry (put w J) ok ≡ entry c a → Share w v → ⊥) → view_stores v (unless_memory a (step o T L c) L) ≡ view_stores v L
    call_spares L v (open_refused x) a m q = ap (view_stores v) (still a L)
    call_spares L v (open_view w) a m q = ap (view_stores v) (still a L)
    call_spares L v (show w n) a m q = ap (view_stores v) (still a L)
    call_spares L v (try w J) a m q = ap (view_stores v) (still a L)
    call_spares L v (put w J) a m q = put_spares L v w J a m (λ e. q w J (ap (entry (put w J)) (sym e)))
    call_spares L v (close_view w) a m q = ap (view_stores v) (still a L)

    quiet_stores : (L : State) (v : Pile) (g : History) → Faithful o T L g → Quiet v g → view_stores v (ledger o T L g) ≡ view_stores v L
    quiet_stores L v [] F q = refl
    quiet_stores L v (e ∷ g) F q = quiet_stores (record_entry o T L e) v g F.1 (λ x J m. q x J (inr m)) ∙ call_spares L v e.call e.answer F.0.is_due (λ x J m. q x J (inl m))

    quiet_shown : (L : State) (v : Pile) (g : History) → Faithful o T L g → Quiet v g → shown o T v (ledger o T L g) ≡ shown o T v L
    quiet_shown L v g F q = ap (rules o T v).shows (quiet_stores L v g F q)

    -- openings of one view show the same
    one_shown : (v w : Pile) → View o T v → View o T w → OneView o T v w → (L : State) → Stored o T L.relations → Fits T L.relations → shown o T v L ≡ shown o T w L
    one_shown v w V W u L h f =
        let r = one_view_alike o O T v w V W u in
        r.same_rules.shows (view_stores v L) (own_stored o O T L h f v V) ∙ ap (λ ps. (rules o T w).shows (stores_of ps L.relations)) r.same_places

    offered : (L : State) (c : Call) (a : Answer) (v : Pile) (J : Relation) → Offers c v J → a ≡ answer o T L c → a ≡ verdict (due o T v J L) ok
    offered L c a v J (inl q) e = e ∙ ap (answer o T L) q
    offered L c a v J (inr q) e = e ∙ ap (answer o T L) q

    offered_view : (c : Call) (v : Pile) (J : Relation) → Offers c v J → OnView o T c → View o T v
    offered_view c v J (inl q) V = subst (OnView o T) q V
    offered_view c v J (inr q) V = subst (OnView o T) q V

    back_still : (L : State) → Stored o T L.relations → Fits T L.relations → (w : Pile) → View o T w → (J : Relation) → J ≡ shown o T w L → (c : Call) → Offers c w J → step o T L c ≡ L
    back_still L h f w W J e c (inl q) = ap (step o T L) q ∙ ap (λ R. step o T L (put w R)) e ∙ own_nothing o O T L h f w W
    back_still L h f w W J e c (inr q) = ap (step o T L) q

  -- a put is refused exactly when it is to be
  refused_exactly : (K : Rules) (J : Relation) (I : List Relation) (a : Answer) (out : Option Fault) → out ≡ judge o K J I → a ≡ verdict out ok → ((f : Fault) × (a ≡ refused f)) ↔ ((Meets o K.sort J → ⊥) ⊎ Exceeds K.stores (K.puts J I))
  refused_exactly K J I a None e d = (
    (λ w. absurd (not_refused w.0 (sym w.1 ∙ d))),
    (λ b. let m = (faults_exact o K J I).0 (sym e) in elim b [ inl n ↦ absurd (n m.0) | inr x ↦ absurd (fits_not K.stores (K.puts J I) m.1 x) ]),
  )
  refused_exactly K J I a (Some f) e d = (
    (λ w. bool_cases (meets o K.sort J)
        (λ t. elim (fits_or K.stores (K.puts J I)) [
          | inl r ↦ absurd (not_refused f (ap (λ out. verdict out ok) (e ∙ (faults_exact o K J I).1 ((meets_exact o K.sort J).1 t, r))))
          | inr x ↦ inr x
        ])
        (λ t. inl (λ m. clash (meets o K.sort J) ((meets_exact o K.sort J).0 m) t))),
    (λ b. (f, d)),
  )

  accepted_exactly : (K : Rules) (J : Relation) (I : List Relation) (a : Answer) → a ≡ verdict (judge o K J I) ok → (a ≡ ok) ↔ (Meets o K.sort J × Fits K.stores (K.puts J I))
  accepted_exactly K J I a d = (
    (λ e. (faults_exact o K J I).0 (ok_none (judge o K J I) (sym e ∙ d))),
    (λ m. d ∙ ap (λ out. verdict out ok) ((faults_exact o K J I).1 m)),
  )

  nothing_shown : (n : ℕ) → show_answer n [] ≡ rows []
  nothing_shown n = ap (λ b. verdict (cond b None (fault 22 0 0)) (rows [])) (leb-zero n)

  module _ (T : List Store) (start : State) (s : Stored o T start.relations) (f : Fits T start.relations) where
    -- a point of a faithful history
    record Point (past : History) (c : Call) (a : Answer) : Type 0 where
      faithful : Faithful o T start past
      on_view : OnView o T c
      is_due : a ≡ answer o T (ledger o T start past) c

    point : (h : History) → Faithful o T start h → (past : History) (c : Call) (a : Answer) → Answered h past c a → Point past c a
    point h F past c a p =
        let w = faithful_split o T start past (entry c a ∷ p.0) (subst (Faithful o T start) p.1 F) in
        record { faithful = w.0; on_view = w.1.0.on_view p.2; is_due = w.1.0.is_due p.2 }

    held : (past : History) → Faithful o T start past → Stored o T (ledger o T start past).relations × Fits T (ledger o T start past).relations
    held past F = ledger_stored T start s f past F

    -- what the tables held at an earlier answer through the view, and what it shows since
    module _ (v : Pile) (call : Pile → Call) (a : Answer) (past : History) (F : Faithful o T start past) (l : Since o T v call a past) where
      abbrev L : State
      L = ledger o T start l.before

      parts : Faithful o T start l.before × Faithful o T L (entry (call l.opening) a ∷ l.since)
      parts = faithful_split o T start l.before (entry (call l.opening) a ∷ l.since) (subst (Faithful o T start) l.split F)

      since_shown : shown o T v (ledger o T start past) ≡ shown o T v (record_entry o T L (entry (call l.opening) a))
      since_shown = ap (λ g. shown o T v (ledger o T start g)) l.split ∙ ap (shown o T v) (ledger_append o T start l.before (entry (call l.opening) a ∷ l.since))
          ∙ quiet_shown T (record_entry o T L (entry (call l.opening) a)) v l.since parts.1.1 l.quiet

    accepted_shown : (v : Pile) → View o T v → (J : Relation) (past : History) → Faithful o T start past → LastAccepted o T v J past → shown o T v (ledger o T start past) ≡ J
    accepted_shown v V J past F l =
        let u = l.opening in
        let M = ledger o T start l.before in
        let w = parts v (λ x. put x J) ok past F l in
        let U = w.1.0.on_view tt in
        let b = held l.before w.0 in
        since_shown v (λ x. put x J) ok past F l ∙ sym (one_shown T u v U V l.one_view (step o T M (put u J)) (call_stored o O T M b.0 b.1 (put u J) U).0 (call_stored o O T M b.0 b.1 (put u J) U).1) ∙ put_shown o O T M b.0 b.1 u U J (ok_none (due o T u J M) (w.1.0.is_due tt))

    shown_again : (v : Pile) → View o T v → (J : Relation) (past : History) → Faithful o T start past → LastShown o T v J past → J ≡ shown o T v (ledger o T start past)
    shown_again v V J past F (n, l) =
        let u = l.opening in
        let M = ledger o T start l.before in
        let w = parts v (λ x. show x n) (rows J) past F l in
        rows_of J (shown o T u M) (show_fault n (shown o T u M)) (w.1.0.is_due tt) ∙ one_shown T u v (w.1.0.on_view tt) V l.one_view M (held l.before w.0).0 (held l.before w.0).1 ∙ sym (since_shown v (λ x. show x n) (rows J) past F l)

    back : (past : History) (c : Call) (a : Answer) (v : Pile) (J : Relation) → Point past c a → Offers c v J → LastShown o T v J past → (a ≡ ok) × (ledger o T start (past ++ entry c a ∷ []) ≡ ledger o T start past)
    back past c a v J p off l =
        let M = ledger o T start past in
        let V = offered_view T c v J off p.on_view in
        let b = held past p.faithful in
        let e = shown_again v V J past p.faithful l in (
          offered T M c a v J off p.is_due ∙ ap (λ R. verdict (due o T v R M) ok) e ∙ ap (λ x. verdict x ok) (own_accepted o O T M b.0 b.1 v V),
          ledger_append o T start past (entry c a ∷ []) ∙ ap (λ N. unless_memory a N M) (back_still T M b.0 b.1 v V J e c off) ∙ still a M,
        )

  pub promise_kept : (T : List Store) (start : State) (h : History) (now : State) → Stored o T start.relations → Fits T start.relations → Faithful o T start h → now ≡ ledger o T start h → Promise o T start h now
  promise_kept T start h now s f F r = record {
    has_rows = r;
    meets = λ past future e. (held T start s f past (faithful_split o T start past future (subst (Faithful o T start) e F)).0).0;
    within_room = λ past future e. (held T start s f past (faithful_split o T start past future (subst (Faithful o T start) e F)).0).1;
    answers = λ past c a p. (point T start s f h F past c a p).is_due;
    refuses = λ past c a v J p off. refused_exactly (rules o T v) J (view_stores v (ledger o T start past)) a (due o T v J (ledger o T start past)) refl (offered T (ledger o T start past) c a v J off (point T start s f h F past c a p).is_due);
    accepts = λ past c a v J p off. accepted_exactly (rules o T v) J (view_stores v (ledger o T start past)) a (offered T (ledger o T start past) c a v J off (point T start s f h F past c a p).is_due);
    faults = λ past c x v J p off. (judge_due o (rules o T v) J (view_stores v (ledger o T start past)) x).0 (refused_due x (due o T v J (ledger o T start past)) (offered T (ledger o T start past) c (refused x) v J off (point T start s f h F past c (refused x) p).is_due));
    shows_last = λ past v n a J p l. let q = point T start s f h F past (show v n) a p in q.is_due ∙ ap (show_answer n) (accepted_shown T start s f v q.on_view J past q.faithful l);
    shows_first = λ past v n a p k. let q = point T start s f h F past (show v n) a p in q.is_due ∙ ap (show_answer n) (quiet_shown T start v past q.faithful k);
    shows_none = λ past v n a p k z. let q = point T start s f h F past (show v n) a p in q.is_due ∙ ap (show_answer n) (quiet_shown T start v past q.faithful k ∙ shown_none o O T start s f v q.on_view z) ∙ nothing_shown n;
    puts_back = λ past c a v J p off l. back T start s f past c a v J (point T start s f h F past c a p) off l;
  }
