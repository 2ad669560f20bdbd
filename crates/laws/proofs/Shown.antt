-- The worked examples hold, by computing.
use Rattle.std.proofs.Common.{◌≡◌, ℕ, ◌≤◌, true, false, ◌&&◌, leb, [], ◌∷◌, codes, sym, refl, ap, ◌∙◌, subst, inl, inr, arith, leb→le}
use mathlib.Core.Bool.{false≢true}
use Prim.Native.Nat.{compare, Ordering}
use Rattle.model.specs.Closures.{closure}
use Rattle.model.specs.ColumnSets.{Apart, Within, has, non_empty}
use Rattle.model.specs.Conditions.{Condition, at_least, at_most, both, bracket, holds, parts_of}
use Rattle.model.specs.Dropping.{MayDrop}
use Rattle.model.specs.Joining.{MayJoin, join_deps, shared_set}
use Rattle.model.specs.Orders.{by_bytes}
use Rattle.model.specs.Piles.{View, same_select, same_source, source}
use Rattle.model.specs.Sorts.{Column, Dependency, Shaped, admitted, all_columns, numbers}
use Rattle.model.specs.TreeForm.{Formed}
use Rattle.model.specs.Values.{Tuple, ◌∈◌, cell, num, same_bytes, text}
use Rattle.laws.specs.Examples.{Examples, OneViewShown, Pads, T₁, ViewsShown, a, authors, b, bank, c, d, from_to, is_glass, is_pads, pads, title, titles}
use Rattle.laws.proofs.Cells.{apart_is, is_bytes, test_is, within_is}
use Rattle.laws.proofs.Conditioned.{parts_whole}
use Rattle.laws.proofs.Testing.{tree_test}

pub examples : Examples
examples = record {
  closure_of_a = refl;
  closure_of_c = refl;
  right_set_twice = refl;
  circle = refl;
  overlap = refl;
  chain = refl;
  found = refl;
  unknown = refl;
  dropped = refl;
  dropped_deps = refl;
  dropped_parts = refl;
  joined = refl;
  emptied = refl;
  revised = refl;
  joined_deps = refl;
  united_once = refl;
  groups_of_128 = refl;
  padded = refl;
  written_bank = refl;
  read_bank = refl;
  hidden_revised = refl;
  admitted_gone = refl;
  renamed_found = refl;
  renamed_lost = refl;
  renamed_shows = refl;
  renamed_puts = refl;
  renamed_refuses = refl;
  reads_an_output = refl;
  no_such_column = refl;
  determining_column = refl;
  unlike_default = refl;
  unadmitted_default = refl;
  admitted_default = refl;
  keyword = refl;
  used_word = refl;
  undetermined = refl;
  no_tree = refl;
  opens = refl;
  narrow = refl;
  number_for_text = refl;
  empty_text = refl;
  not_above = refl;
  not_admitted = refl;
  two_banks = refl;
  no_room = refl;
  room = refl;
  ledger_holds = refl;
}

-- the tests compute, and their theorems turn them into the side conditions
one_dep : (P : Dependency → Type 0) (d : Dependency) → P d → (e : Dependency) → e ∈ (d ∷ []) → P e
one_dep P d p e (inl q) = subst P (sym q) p
one_dep P d p e (inr h) = absurd h

titles_formed : (n : ℕ) → Formed (titles n).sort
titles_formed n = record {
  words = ((λ e h p. elim h [ inl q ↦ absurd (false≢true (sym (ap (same_bytes title.word) (ap (λ x. x.word) q)) ∙ is_bytes title.word e.word p)) | inr g ↦ absurd g ]), ((λ e h p. absurd h), tt));
  sets_some = one_dep (λ e. (non_empty e.left ≡ true) × (non_empty e.right ≡ true)) (from_to a b) (refl, refl);
  sets_within = one_dep (λ e. Within e.left (all_columns (titles n).sort.columns) × Within e.right (all_columns (titles n).sort.columns)) (from_to a b) (within_is a (true ∷ true ∷ []) refl, within_is b (true ∷ true ∷ []) refl);
  sets_apart = one_dep (λ e. Apart e.left e.right) (from_to a b) (apart_is a b refl);
  tree = (tree_test (from_to a b ∷ [])).1 refl;
}

authors_formed : Formed authors.sort
authors_formed = record {
  words = ((λ e h p. elim h [ inl q ↦ absurd (false≢true (sym (ap (same_bytes bank.word) (ap (λ x. x.word) q)) ∙ is_bytes bank.word e.word p)) | inr g ↦ absurd g ]), ((λ e h p. absurd h), tt));
  sets_some = (titles_formed 0).sets_some;
  sets_within = (titles_formed 0).sets_within;
  sets_apart = (titles_formed 0).sets_apart;
  tree = (titles_formed 0).tree;
}

may_join : MayJoin (titles 128).sort authors.sort
may_join = record {
  some_shared = (bank, inl refl);
  equal_kinds = λ c e h g p. elim h [
    | inl q ↦ elim g [ inl r ↦ ap (λ x. x.kind) q ∙ sym (ap (λ x. x.kind) r) | inr k ↦ elim k [ inl r ↦ ap (λ x. x.kind) q ∙ sym (ap (λ x. x.kind) r) | inr z ↦ absurd z ] ]
    | inr k ↦ elim k [
      | inl q ↦ elim g [ inl r ↦ ap (λ x. x.kind) q ∙ sym (ap (λ x. x.kind) r) | inr m ↦ elim m [ inl r ↦ ap (λ x. x.kind) q ∙ sym (ap (λ x. x.kind) r) | inr z ↦ absurd z ] ]
      | inr z ↦ absurd z
    ]
  ];
  determined = within_is (true ∷ true ∷ []) (closure authors.sort.deps (shared_set (titles 128).sort.columns authors.sort.columns)) refl;
  left_parts = λ p h. absurd h;
  right_parts = λ p h. absurd h;
  tree = (tree_test (join_deps (titles 128).sort authors.sort)).1 refl;
}

may_drop : MayDrop (titles 2).sort 1 Pads
may_drop = record {
  column = (bank, refl, refl);
  in_right = (from_to a b, inl refl, refl);
  in_no_left = one_dep (λ e. has e.left 1 ≡ false) (from_to a b) refl;
  parts_alone = λ p h. absurd h;
}

titles_view : View by_bytes T₁ (source 0)
titles_view = record { premises = (omega arith, titles_formed 2); once = ((λ h. h), tt) }

pads_view : View by_bytes T₁ pads
pads_view = record { premises = ((λ p h. absurd h), (omega arith, titles_formed 2)); once = ((λ h. h), tt) }

unused : (c : Column) → c ∈ (title ∷ bank ∷ []) → c.word ≡ codes "name" → ⊥
unused c (inl q) p = false≢true (is_bytes title.word (codes "name") (ap (λ x. x.word) (sym q) ∙ p))
unused c (inr (inl q)) p = false≢true (is_bytes bank.word (codes "name") (ap (λ x. x.word) (sym q) ∙ p))
unused c (inr (inr h)) p = h

zero_one : ◌∈◌ {A = ℕ} 0 (1 ∷ []) → ⊥
zero_one (inl e) = omega arith
zero_one (inr h) = h

pub views_shown : ViewsShown
views_shown = record {
  of_titles = titles_view;
  of_pads = pads_view;
  of_names = record { premises = (unused, ((λ p h. absurd h), (omega arith, titles_formed 2))); once = ((λ h. h), tt) };
  of_unbanked = record { premises = (may_drop, (omega arith, titles_formed 2)); once = ((λ h. h), tt) };
  of_credits = record { premises = (may_join, (omega arith, titles_formed 128), (omega arith, authors_formed)); once = (zero_one, ((λ h. h), tt)) };
  faithful = (record { on_view = λ m. titles_view; is_due = λ m. refl }, (record { on_view = λ m. pads_view; is_due = λ m. refl }, (record { on_view = λ m. pads_view; is_due = λ m. refl }, (record { on_view = λ m. absurd m; is_due = λ m. absurd m }, (record { on_view = λ m. pads_view; is_due = λ m. refl }, (record { on_view = λ m. pads_view; is_due = λ m. refl }, (record { on_view = λ m. pads_view; is_due = λ m. refl }, (record { on_view = λ m. pads_view; is_due = λ m. refl }, (record { on_view = λ m. pads_view; is_due = λ m. refl }, (record { on_view = λ m. titles_view; is_due = λ m. refl }, tt))))))))));
}

-- every number is at least 0 and at most the greatest
not_less : (n : ℕ) → holds at_least (compare n 0) ≡ true
not_less n = go (compare n 0) refl
  where
    go : (r : Ordering) → compare n 0 ≡ r → holds at_least r ≡ true
    go Ordering.lt e = absurd (grind arith)
    go Ordering.eq e = refl
    go Ordering.gt e = refl

not_more : (n : ℕ) → n ≤ 268435455 → holds at_most (compare n 268435455) ≡ true
not_more n l = go (compare n 268435455) refl
  where
    go : (r : Ordering) → compare n 268435455 ≡ r → holds at_most r ≡ true
    go Ordering.lt e = refl
    go Ordering.eq e = refl
    go Ordering.gt e = absurd (grind arith)

every_number : (t : Tuple) → Shaped (record { word = codes "n"; kind = numbers } ∷ []) t → (holds at_least (by_bytes (cell t 0) (num 0)) && true) ≡ (holds at_most (by_bytes (cell t 0) (num 268435455)) && true)
every_number [] s = absurd s
every_number (num n ∷ t) s = ap (λ b. b && true) (not_less n ∙ sym (not_more n (leb→le n 268435455 (test_is (leb n 268435455) s.0))))
every_number (text b ∷ t) s = absurd (false≢true s.0)

one_part : (P : Condition) (t : Tuple) → admitted (parts_of by_bytes P) t ≡ admitted (parts_of by_bytes (bracket P)) t
one_part P t = parts_whole by_bytes P t ∙ sym (parts_whole by_bytes (bracket P) t)

pub one_view_shown : OneViewShown
one_view_shown = record {
  of_numbers = same_select (record { reads = ((λ i h. h), (λ i h. h)); admits = every_number }) (same_source 0);
  of_brackets = same_select (record { reads = (within_is (true ∷ true ∷ []) (true ∷ true ∷ []) refl, within_is (true ∷ true ∷ []) (true ∷ true ∷ []) refl); admits = λ t s. one_part (both is_glass is_pads) t }) (same_source 0);
}
