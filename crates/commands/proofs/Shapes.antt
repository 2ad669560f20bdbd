-- Words behind a command, by how many there are.
use Rattle.std.proofs.Common.{◌≡◌, ℕ, zero, suc, ◌-◌, ◌*◌, ◌%◌, ◌<◌, ◌≤◌, List, [], ◌∷◌, length, get_or, take, drop, None, Option, sym, refl, ap, ◌∙◌, arith, Bor}
use Rattle.std.specs.Option.{option_map}
use Rattle.std.proofs.lemmas.List.{take_rest}
use Rattle.commands.specs.Lines.{texts}
use Rattle.commands.specs.Forms.{Word, Asked, none_after, one_after, two_after, load_said, heading_said, headings_said, greatest_count, count_said, load}
use Rattle.commands.specs.Lists.{and_then, each}
use Rattle.std.specs.Simd.{first_chunks}
use Rattle.commands.proofs.Eaches.{and_then_none, each-map}
use Rattle.commands.specs.Spelling.{numeral, hex_pair}
use Rattle.model.specs.Sorts as model

-- what is read where no word is
abbrev pub no_ref : Bor Word
no_ref = record { ref_ptr = (0, 0); now = [] }

abbrev pub at : List (Bor Word) → ℕ → Word
at ws i = (get_or ws i no_ref).now

abbrev pub rest : {A : Type 0} → ℕ → List A → List A
rest k l = take (length l - k) (drop k l)

-- a number of words that does not fit a command
pub none_many : {A : Type 0} (a : A) (ws : List (Bor Word)) → 1 ≤ length ws → None ≡ none_after a (texts ws)
none_many a [] h = absurd (omega arith)
none_many a (w ∷ ws) h = refl

pub one_few : {A : Type 0} (f : Word → Option A) (ws : List (Bor Word)) → length ws < 1 → None ≡ one_after f (texts ws)
one_few f [] h = refl
one_few f (w ∷ ws) h = absurd (omega arith)

pub one_many : {A : Type 0} (f : Word → Option A) (ws : List (Bor Word)) → 2 ≤ length ws → None ≡ one_after f (texts ws)
one_many f [] h = absurd (omega arith)
one_many f (w ∷ []) h = absurd (omega arith)
one_many f (w ∷ v ∷ ws) h = refl

pub two_few : {A : Type 0} (f : Word → Word → Option A) (ws : List (Bor Word)) → length ws < 2 → None ≡ two_after f (texts ws)
two_few f [] h = refl
two_few f (w ∷ []) h = refl
two_few f (w ∷ v ∷ ws) h = absurd (omega arith)

pub two_many : {A : Type 0} (f : Word → Word → Option A) (ws : List (Bor Word)) → 3 ≤ length ws → None ≡ two_after f (texts ws)
two_many f [] h = absurd (omega arith)
two_many f (w ∷ []) h = absurd (omega arith)
two_many f (w ∷ v ∷ []) h = absurd (omega arith)
two_many f (w ∷ v ∷ u ∷ ws) h = refl

pub count_few : (f : ℕ → Asked) (ws : List (Bor Word)) → length ws < 1 → None ≡ option_map f (count_said (texts ws))
count_few f ws h = ap (option_map f) (one_few (numeral greatest_count) ws h)

pub count_many : (f : ℕ → Asked) (ws : List (Bor Word)) → 2 ≤ length ws → None ≡ option_map f (count_said (texts ws))
count_many f ws h = ap (option_map f) (one_many (numeral greatest_count) ws h)

pub one_more_is : (ws : List (Bor Word)) → 1 ≤ length ws → texts ws ≡ at ws 0 ∷ texts (rest 1 ws)
one_more_is [] h = absurd (omega arith)
one_more_is (w ∷ ws) h = ap (λ l. w.now ∷ texts l) (sym (take_rest (w ∷ ws) 1))

pub load_few : (ws : List (Bor Word)) → length ws < 1 → None ≡ load_said (texts ws)
load_few [] h = refl
load_few (w ∷ ws) h = absurd (omega arith)

pub load_is : (ws : List (Bor Word)) (o : Option (List ℕ)) → 1 ≤ length ws → each (λ w. hex_pair w.now) (rest 1 ws) ≡ o → load_said (texts ws) ≡ option_map (load (at ws 0)) o
load_is ws o some e =
    ap load_said (one_more_is ws some) ∙ ap (option_map (load (at ws 0))) (each-map hex_pair (λ w. w.now) (rest 1 ws) ∙ e)

-- what a word and a kind say
abbrev pub heading_of : List (Bor Word) → Option model.Column
heading_of pair = heading_said (at pair 0) (at pair 1)

pub headings_of_pairs : (k : ℕ) (ws : List (Bor Word)) → length ws ≡ k * 2 → headings_said (texts ws) ≡ each heading_of (first_chunks 2 k ws)
headings_of_pairs zero [] e = refl
headings_of_pairs zero (w ∷ ws) e = absurd (omega arith)
headings_of_pairs (suc k) [] e = absurd (omega arith)
headings_of_pairs (suc k) (w ∷ []) e = absurd (omega arith)
headings_of_pairs (suc k) (w ∷ v ∷ ws) e =
    ap (λ o. and_then (heading_said w.now v.now) (λ c. option_map (λ C. c ∷ C) o)) (headings_of_pairs k ws (omega arith))

pub headings_odd : (ws : List (Bor Word)) → length ws % 2 ≡ 1 → headings_said (texts ws) ≡ None
headings_odd [] e = absurd (omega arith)
headings_odd (w ∷ []) e = refl
headings_odd (w ∷ v ∷ ws) e =
    ap (λ o. and_then (heading_said w.now v.now) (λ c. option_map (λ C. c ∷ C) o)) (headings_odd ws (omega arith)) ∙ and_then_none (heading_said w.now v.now)
