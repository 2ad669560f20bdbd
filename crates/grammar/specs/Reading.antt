-- What reading a text gives: the signs are taken one after the other, with a list of what is wanted next.
use Rattle.std.specs.Prelude.{ℕ, zero, suc, Bool, true, false, cond, List, [], ◌∷◌, ◌++◌, length, Some, None, Option, ◌==◌, nat_le}
use Rattle.model.specs.Values.{Value, num, text}
use Rattle.model.specs.Sorts.{is_text, greatest}
use Rattle.model.specs.Conditions.{Comparison}
use Rattle.model.specs.Faults.{Fault, fault}
use Rattle.grammar.specs.Signs.{Sign, word, number, quoted, key, comparing, opening, closing, stray, broken, decimal, Keyword, AND, AS, DEFAULT, DROP, JOIN, NOT, OR, RENAME, SELECT, Token, signs}
use Rattle.grammar.specs.Phrases.{Term, named, given, Phrase, compared, negated, bracket, both, either, source, select, drop, rename, join, Placed, placed}

-- What is complete, in the order in which it becomes so: a comparison; a not, a bracket, an and, an or, after what they stand over; a
-- step, and of a select the condition before it.
pub data Item : Type 0 where
  leaf : List ℕ → Comparison → Term → Item
  a_not a_bracket an_and an_or : Item
  a_select : ℕ → Item
  a_step : Placed → Item

-- What is wanted: a neg, the rest of a comparison, an `and` or an `or` with what follows it if there is one, a closing bracket, a
-- source, a further step if there is one, the rest of a drop or of a rename from the place p. Last, nothing: an item is complete.
pub data Want : Type 0 where
  a_neg more_and more_or a_source more_steps : (d : ℕ) → Want
  an_op : (w : List ℕ) → Want
  an_operand : (w : List ℕ) → (c : Comparison) → Want
  a_closing : Want
  drop_column rename_column : (p : ℕ) → Want
  drop_default drop_cell rename_as rename_word : (p : ℕ) → (w : List ℕ) → Want
  complete : Item → Want

-- A sign is taken, and this is wanted then; or it is at fault. Either way some items may be complete before.
pub data Taken : Type 0 where
  goes : List Item → List Want → Taken
  stops : List Item → Fault → Taken

abbrev pub after : Item → Taken → Taken
after i (goes l K) = goes (i ∷ l) K
after i (stops l f) = stops (i ∷ l) f

abbrev pub stop : ℕ → ℕ → Taken
stop n p = stops [] (record { number = n; kind = 0; place = p })

-- the grammar lacks the sign there
abbrev pub lacks : ℕ → Taken
lacks p = stop 1 p

-- a word, of at most 12 letters
abbrev pub if_short : ℕ → List ℕ → Taken → Taken
if_short p w k = cond (nat_le (length w) 12) k (stop 3 p)

abbrev pub on_word : ℕ → Sign → (List ℕ → Taken) → Taken
on_word p (word w) k = if_short p w (k w)
on_word p (number b) k = lacks p
on_word p (quoted b) k = lacks p
on_word p (key j) k = lacks p
on_word p (comparing c) k = lacks p
on_word p opening k = lacks p
on_word p closing k = lacks p
on_word p stray k = lacks p
on_word p (broken q) k = lacks p

-- a number or a text, within the limits of cells
abbrev pub on_cell : ℕ → Sign → (Value → Taken) → Taken
on_cell p (word w) k = lacks p
on_cell p (number b) k = cond (nat_le (decimal b) greatest) (k (num (decimal b))) (stop 3 p)
on_cell p (quoted b) k = cond (is_text b) (k (text b)) (stop 3 p)
on_cell p (key j) k = lacks p
on_cell p (comparing c) k = lacks p
on_cell p opening k = lacks p
on_cell p closing k = lacks p
on_cell p stray k = lacks p
on_cell p (broken q) k = lacks q

abbrev pub on_operand : ℕ → Sign → (Term → Taken) → Taken
on_operand p (word w) k = if_short p w (k (named w))
on_operand p (number b) k = on_cell p (number b) (λ v. k (given v))
on_operand p (quoted b) k = on_cell p (quoted b) (λ v. k (given v))
on_operand p (key j) k = lacks p
on_operand p (comparing c) k = lacks p
on_operand p opening k = lacks p
on_operand p closing k = lacks p
on_operand p stray k = lacks p
on_operand p (broken q) k = lacks q

abbrev pub on_comparing : ℕ → Sign → (Comparison → Taken) → Taken
on_comparing p (word w) k = lacks p
on_comparing p (number b) k = lacks p
on_comparing p (quoted b) k = lacks p
on_comparing p (key j) k = lacks p
on_comparing p (comparing c) k = k c
on_comparing p opening k = lacks p
on_comparing p closing k = lacks p
on_comparing p stray k = lacks p
on_comparing p (broken q) k = lacks p

-- the tests by which reading goes
abbrev pub index : Keyword → ℕ
index AND = 0
index AS = 1
index DEFAULT = 2
index DROP = 3
index JOIN = 4
index NOT = 5
index OR = 6
index RENAME = 7
index SELECT = 8

abbrev pub is_key : Keyword → Sign → Bool
is_key k (word w) = false
is_key k (number b) = false
is_key k (quoted b) = false
is_key k (key j) = index k == index j
is_key k (comparing c) = false
is_key k opening = false
is_key k closing = false
is_key k stray = false
is_key k (broken q) = false

abbrev pub is_opening : Sign → Bool
is_opening (word w) = false
is_opening (number b) = false
is_opening (quoted b) = false
is_opening (key j) = false
is_opening (comparing c) = false
is_opening opening = true
is_opening closing = false
is_opening stray = false
is_opening (broken q) = false

abbrev pub is_closing : Sign → Bool
is_closing (word w) = false
is_closing (number b) = false
is_closing (quoted b) = false
is_closing (key j) = false
is_closing (comparing c) = false
is_closing opening = false
is_closing closing = true
is_closing stray = false
is_closing (broken q) = false

-- a bracket or a not is opened, of which d more may be
abbrev pub deeper : ℕ → ℕ → (ℕ → Taken) → Taken
deeper p zero k = stop 2 p
deeper p (suc d) k = k d

-- a condition, and a definition, with what is wanted after it
abbrev pub a_condition : ℕ → List Want → List Want
a_condition d K = a_neg d ∷ more_and d ∷ more_or d ∷ K

abbrev pub a_definition : ℕ → List Want → List Want
a_definition d K = a_source d ∷ more_steps d ∷ K

abbrev pub take_neg : ℕ → ℕ → Sign → List Want → Taken
take_neg d p s K =
    cond (is_key NOT s) (deeper p d (λ e. goes [] (a_neg e ∷ complete a_not ∷ K)))
    (cond (is_opening s) (deeper p d (λ e. goes [] (a_condition e (a_closing ∷ complete a_bracket ∷ K))))
    (on_word p s (λ w. goes [] (an_op w ∷ K))))

abbrev pub take_source : ℕ → ℕ → Sign → List Want → Taken
take_source d p s K =
    cond (is_opening s) (deeper p d (λ e. goes [] (a_definition e (a_closing ∷ K))))
    (on_word p s (λ w. goes (a_step (placed p (source w)) ∷ []) K))

-- a further step, or what comes after the definition
abbrev pub take_step : ℕ → ℕ → Sign → List Want → Taken → Taken
take_step d p s K past =
    cond (is_key JOIN s) (goes [] (a_source d ∷ complete (a_step (placed p join)) ∷ more_steps d ∷ K))
    (cond (is_key SELECT s) (goes [] (a_condition d (complete (a_select p) ∷ more_steps d ∷ K)))
    (cond (is_key DROP s) (goes [] (drop_column p ∷ more_steps d ∷ K))
    (cond (is_key RENAME s) (goes [] (rename_column p ∷ more_steps d ∷ K)) past)))

-- how a sign s at the place p is taken
abbrev pub takes : List Want → ℕ → Sign → Taken
takes [] p s = lacks p
takes (a_neg d ∷ K) p s = take_neg d p s K
takes (an_op w ∷ K) p s = on_comparing p s (λ c. goes [] (an_operand w c ∷ K))
takes (an_operand w c ∷ K) p s = on_operand p s (λ x. goes (leaf w c x ∷ []) K)
takes (more_and d ∷ K) p s = cond (is_key AND s) (goes [] (a_neg d ∷ complete an_and ∷ more_and d ∷ K)) (takes K p s)
takes (more_or d ∷ K) p s = cond (is_key OR s) (goes [] (a_neg d ∷ more_and d ∷ complete an_or ∷ more_or d ∷ K)) (takes K p s)
takes (a_closing ∷ K) p s = cond (is_closing s) (goes [] K) (lacks p)
takes (a_source d ∷ K) p s = take_source d p s K
takes (more_steps d ∷ K) p s = take_step d p s K (takes K p s)
takes (drop_column q ∷ K) p s = on_word p s (λ w. goes [] (drop_default q w ∷ K))
takes (drop_default q w ∷ K) p s = cond (is_key DEFAULT s) (goes [] (drop_cell q w ∷ K)) (lacks p)
takes (drop_cell q w ∷ K) p s = on_cell p s (λ v. goes (a_step (placed q (drop w v)) ∷ []) K)
takes (rename_column q ∷ K) p s = on_word p s (λ w. goes [] (rename_as q w ∷ K))
takes (rename_as q w ∷ K) p s = cond (is_key AS s) (goes [] (rename_word q w ∷ K)) (lacks p)
takes (rename_word q w ∷ K) p s = on_word p s (λ v. goes (a_step (placed q (rename w v)) ∷ []) K)
takes (complete i ∷ K) p s = after i (takes K p s)

-- What reading gives: the items that are complete, and the fault that stopped it, if any.
pub record Read : Type 0 where
  pub items : List Item
  pub fault : Option Fault

abbrev pub reads : List Item → Option Fault → Read
reads l f = record { items = l; fault = f }

abbrev pub following : List Item → Read → Read
following l r = reads (l ++ r.items) r.fault

-- at the end e of the text nothing more may be wanted
abbrev pub at_end : ℕ → List Want → Read
at_end e [] = reads [] None
at_end e (a_neg d ∷ K) = reads [] (fault 1 0 e)
at_end e (an_op w ∷ K) = reads [] (fault 1 0 e)
at_end e (an_operand w c ∷ K) = reads [] (fault 1 0 e)
at_end e (more_and d ∷ K) = at_end e K
at_end e (more_or d ∷ K) = at_end e K
at_end e (a_closing ∷ K) = reads [] (fault 1 0 e)
at_end e (a_source d ∷ K) = reads [] (fault 1 0 e)
at_end e (more_steps d ∷ K) = at_end e K
at_end e (drop_column q ∷ K) = reads [] (fault 1 0 e)
at_end e (drop_default q w ∷ K) = reads [] (fault 1 0 e)
at_end e (drop_cell q w ∷ K) = reads [] (fault 1 0 e)
at_end e (rename_column q ∷ K) = reads [] (fault 1 0 e)
at_end e (rename_as q w ∷ K) = reads [] (fault 1 0 e)
at_end e (rename_word q w ∷ K) = reads [] (fault 1 0 e)
at_end e (complete i ∷ K) = following (i ∷ []) (at_end e K)

abbrev pub go_on : Taken → (List Want → Read) → Read
go_on (goes l K) more = following l (more K)
go_on (stops l f) more = reads l (Some f)

-- the signs, one after the other, up to the end e of the text
abbrev pub run : ℕ → List Want → List Token → Read
run e K [] = at_end e K
run e K (t ∷ l) = go_on (takes K t.place t.sign) (λ M. run e M l)

-- the trees of conditions, and the steps, that items make; K holds the trees that are not used yet, the latest first
abbrev pub pair_up : (Phrase → Phrase → Phrase) → List Phrase → List Phrase
pair_up f [] = []
pair_up f (k ∷ []) = k ∷ []
pair_up f (l ∷ k ∷ K) = f k l ∷ K

abbrev pub over : (Phrase → Phrase) → List Phrase → List Phrase
over f [] = []
over f (k ∷ K) = f k ∷ K

abbrev pub chosen : ℕ → List Phrase → List Placed
chosen p [] = []
chosen p (k ∷ K) = placed p (select k) ∷ []

abbrev pub used : List Phrase → List Phrase
used [] = []
used (k ∷ K) = K

abbrev pub trees : List Item → List Phrase → List Phrase
trees [] K = K
trees (leaf w c x ∷ l) K = trees l (compared w c x ∷ K)
trees (a_not ∷ l) K = trees l (over negated K)
trees (a_bracket ∷ l) K = trees l (over bracket K)
trees (an_and ∷ l) K = trees l (pair_up both K)
trees (an_or ∷ l) K = trees l (pair_up either K)
trees (a_select p ∷ l) K = trees l (used K)
trees (a_step s ∷ l) K = trees l K

abbrev pub steps : List Item → List Phrase → List Placed
steps [] K = []
steps (leaf w c x ∷ l) K = steps l (compared w c x ∷ K)
steps (a_not ∷ l) K = steps l (over negated K)
steps (a_bracket ∷ l) K = steps l (over bracket K)
steps (an_and ∷ l) K = steps l (pair_up both K)
steps (an_or ∷ l) K = steps l (pair_up either K)
steps (a_select p ∷ l) K = chosen p K ++ steps l (used K)
steps (a_step s ∷ l) K = s ∷ steps l K

-- A text has at most 256 bytes, and at most 8 brackets and nots are open.
abbrev pub within_256 : List ℕ → Read → Read
within_256 b r = cond (nat_le (length b) 256) r (reads [] (fault 3 0 256))

abbrev pub read_condition : List ℕ → Read
read_condition b = within_256 b (run (length b) (a_condition 8 []) (signs b))

abbrev pub read_definition : List ℕ → Read
read_definition b = within_256 b (run (length b) (a_definition 8 []) (signs b))

-- the condition that a text is, where it has no fault
abbrev pub condition_trees : List ℕ → List Phrase
condition_trees b = trees (read_condition b).items []

abbrev pub condition_fault : List ℕ → Option Fault
condition_fault b = (read_condition b).fault

-- the steps of a definition that are complete, up to its end or to its fault
abbrev pub definition_steps : List ℕ → List Placed
definition_steps b = steps (read_definition b).items []

abbrev pub definition_fault : List ℕ → Option Fault
definition_fault b = (read_definition b).fault
