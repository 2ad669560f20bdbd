-- What each call's outcome must show for its entry to be right.
use Rattle.std.proofs.Common.{◌≡◌, ℕ, ◌<◌, ◌≤◌, List, length, Some, None, sym, refl, ap, ◌∙◌, subst}
use Rattle.model.specs.Faults.{Fault}
use Rattle.model.specs.Judging.{show_fault}
use Rattle.model.specs.Ledger.{Call, State, close_view, due, entry, memory, new_stores, ok, open_refused, open_view, put, refused, rows, set_view, show, shown, try, unless_due, verdict}
use Rattle.model.specs.Orders.{Order}
use Rattle.model.specs.Piles.{Pile, View}
use Rattle.model.specs.Promise.{Performed}
use Rattle.model.specs.Tables.{Store}
use Rattle.model.specs.Values.{Relation}
use Rattle.laws.proofs.Refusing.{show_exact}

module _ (o : Order) where
  module _ (T : List Store) (L L' : State) where
    -- a call that ended for want of memory
    pub not_made : (c : Call) → L' ≡ L → Performed o T L (entry c memory) L'
    not_made c e = record { rightly = record { on_view = λ m. absurd m; is_due = λ m. absurd m }; moves = e }

    pub not_opened : (f : Fault) → L' ≡ L → Performed o T L (entry (open_refused f) (refused f)) L'
    not_opened f e = record { rightly = record { on_view = λ m. tt; is_due = λ m. refl }; moves = e }

    module _ (v : Pile) (V : View o T v) where
      pub opened : L' ≡ L → Performed o T L (entry (open_view v) ok) L'
      opened e = record { rightly = record { on_view = λ m. V; is_due = λ m. refl }; moves = e }

      pub closed : L' ≡ L → Performed o T L (entry (close_view v) ok) L'
      closed e = record { rightly = record { on_view = λ m. V; is_due = λ m. refl }; moves = e }

      pub rows_shown : (n : ℕ) (R : Relation) → R ≡ shown o T v L → length R ≤ n → L' ≡ L → Performed o T L (entry (show v n) (rows R)) L'
      rows_shown n R r l e = record { rightly = record { on_view = λ m. V; is_due = λ m. ap (λ out. verdict out (rows R)) (sym ((show_exact n R).0.1 l)) ∙ ap (λ Q. verdict (show_fault n Q) (rows Q)) r }; moves = e }

      pub few_slots : (n : ℕ) (k : ℕ) → k ≡ length (shown o T v L) → n < k → L' ≡ L → Performed o T L (entry (show v n) (refused (record { number = 22; kind = 0; place = k }))) L'
      few_slots n k r l e = record {
        rightly = record {
          on_view = λ m. V;
          is_due = λ m. ap (λ q. refused (record { number = 22; kind = 0; place = q })) r ∙ ap (λ out. verdict out (rows (shown o T v L))) (sym ((show_exact n (shown o T v L)).1.1 (subst (λ q. n < q) r l)));
        };
        moves = e;
      }

      module _ (J : Relation) where
        pub try_accepted : due o T v J L ≡ None → L' ≡ L → Performed o T L (entry (try v J) ok) L'
        try_accepted d e = record { rightly = record { on_view = λ m. V; is_due = λ m. ap (λ out. verdict out ok) (sym d) }; moves = e }

        pub try_refused : (f : Fault) → due o T v J L ≡ Some f → L' ≡ L → Performed o T L (entry (try v J) (refused f)) L'
        try_refused f d e = record { rightly = record { on_view = λ m. V; is_due = λ m. ap (λ out. verdict out ok) (sym d) }; moves = e }

        pub put_accepted : due o T v J L ≡ None → L' ≡ set_view v (new_stores o T v J L) L → Performed o T L (entry (put v J) ok) L'
        put_accepted d e = record { rightly = record { on_view = λ m. V; is_due = λ m. ap (λ out. verdict out ok) (sym d) }; moves = e ∙ ap (λ out. unless_due out (set_view v (new_stores o T v J L) L) L) (sym d) }

        pub put_refused : (f : Fault) → due o T v J L ≡ Some f → L' ≡ L → Performed o T L (entry (put v J) (refused f)) L'
        put_refused f d e = record { rightly = record { on_view = λ m. V; is_due = λ m. ap (λ out. verdict out ok) (sym d) }; moves = e ∙ ap (λ out. unless_due out (set_view v (new_stores o T v J L) L) L) (sym d) }
