use Rattle.std.proofs.Common.{◌≡◌, Some, None, Err, vec_items, sym, ap, ◌∙◌, rules, arith}
use Rattle.std.proofs.lemmas.Result.{err_from_is_err_and}
use Rattle.commands.specs.declared.unread.Unread.TheVariants.{Malformed}
use Rattle.commands.specs.Lines.{texts}
use Rattle.commands.specs.Spelling.{hex_pair}
use Rattle.commands.specs.Forms.{asked, says}
use Rattle.commands.proofs.Eaches.{each_all, each_none, map_same}
use Rattle.commands.proofs.Results.{reads_not}
use Rattle.commands.proofs.Shapes.{none_many, one_few, one_many, two_few, two_many, count_few, count_many, load_few, load_is, rest}
use Rattle.commands.proofs.parsing.arguments.Goals as goal
use Rattle.commands.proofs.parsing.arguments.Goals.{in_default-via-in-Help+else-words-lt1, in_default-via-in-Fresh+else-this-lt1, in_default-via-in-Column+then-this-lt2, in_default-via-in-Column+else-this-lt2+else-this-lt3, in_default-via-in-Seal+else-this-lt1-2, in_default-via-in-Load+then-this-lt1-3, in_default-via-in-Bank+then-this-lt2-2, in_default-via-in-Bank+else-this-lt2-2+else-this-lt3-2, in_default-via-in-Rows+then-this-lt1-4, in_default-via-in-Rows+else-this-lt1-4+else-this-lt2-3, in_default-via-in-Read+then-this-lt2-4, in_default-via-in-Read+else-this-lt2-4+else-this-lt3-3, in_default-via-in-Write+then-this-lt2-5, in_default-via-in-Write+else-this-lt2-5+else-this-lt3-4, in_default-via-in-Try+then-this-lt1-5, in_default-via-in-Try+else-this-lt1-5+else-this-lt2-6, in_default-via-in-Put+then-this-lt1-6, in_default-via-in-Put+else-this-lt1-6+else-this-lt2-7}

pub returns-in_err-bytes-in-Load-len1-up : goal.returns-in_err-bytes-in-Load-len1-up
returns-in_err-bytes-in-Load-len1-up c =
    let p = err_from_is_err_and c.from_residual-in_err-bytes-in-Load-len1-up.result c.from_residual-in_err-bytes-in-Load-len1-up.ensures.1 in
    let ws = c.args.words.now in
    let none = λ (m : c.in_err-bytes-in-Load-len1-up.field-0.0 ≡ Malformed). each_none _ _ (λ w. hex_pair w.now) (λ b. b) (λ x r k. search rules) (rest 1 ws) (c.in_err-bytes-in-Load-len1-up.ensures.malformed (ap Err m)) in
    rw (p.1, p.2) (reads_not c.in_err-bytes-in-Load-len1-up.field-0.0 asked (says c.args.verb (texts ws)) (λ m. sym (ap (λ v. says v (texts ws)) c.in-Load-len1-up.is-0 ∙ load_is ws None (omega (arith, c.in-Load-len1-up.len_at_least)) (none m))))

pub returns-in_ok-bytes-in-Load-len1-up : goal.returns-in_ok-bytes-in-Load-len1-up
returns-in_ok-bytes-in-Load-len1-up c =
    let ws = c.args.words.now in
    let bytes = vec_items c.in_ok-bytes-in-Load-len1-up.bytes in
    let each = each_all _ _ (λ w. hex_pair w.now) (λ b. b) (λ x r k. search rules) (rest 1 ws) bytes c.in_ok-bytes-in-Load-len1-up.ensures.all ∙ ap Some (map_same bytes) in
    sym (ap (λ v. says v (texts ws)) c.in-Load-len1-up.is-0 ∙ load_is ws _ (omega (arith, c.in-Load-len1-up.len_at_least)) each)

pub returns-in_default : goal.returns-in_default
returns-in_default c =
    elim c.in_default.branch [
      | in_default-via-in-Help+else-words-lt1 w ↦ search (rules, none_many, one_few, one_many, two_few, two_many, count_few, count_many, load_few)
      | in_default-via-in-Fresh+else-this-lt1 w ↦ search (rules, none_many, one_few, one_many, two_few, two_many, count_few, count_many, load_few)
      | in_default-via-in-Column+then-this-lt2 w ↦ search (rules, none_many, one_few, one_many, two_few, two_many, count_few, count_many, load_few)
      | in_default-via-in-Column+else-this-lt2+else-this-lt3 w ↦ search (rules, none_many, one_few, one_many, two_few, two_many, count_few, count_many, load_few)
      | in_default-via-in-Seal+else-this-lt1-2 w ↦ search (rules, none_many, one_few, one_many, two_few, two_many, count_few, count_many, load_few)
      | in_default-via-in-Load+then-this-lt1-3 w ↦ search (rules, none_many, one_few, one_many, two_few, two_many, count_few, count_many, load_few)
      | in_default-via-in-Bank+then-this-lt2-2 w ↦ search (rules, none_many, one_few, one_many, two_few, two_many, count_few, count_many, load_few)
      | in_default-via-in-Bank+else-this-lt2-2+else-this-lt3-2 w ↦ search (rules, none_many, one_few, one_many, two_few, two_many, count_few, count_many, load_few)
      | in_default-via-in-Rows+then-this-lt1-4 w ↦ search (rules, none_many, one_few, one_many, two_few, two_many, count_few, count_many, load_few)
      | in_default-via-in-Rows+else-this-lt1-4+else-this-lt2-3 w ↦ search (rules, none_many, one_few, one_many, two_few, two_many, count_few, count_many, load_few)
      | in_default-via-in-Read+then-this-lt2-4 w ↦ search (rules, none_many, one_few, one_many, two_few, two_many, count_few, count_many, load_few)
      | in_default-via-in-Read+else-this-lt2-4+else-this-lt3-3 w ↦ search (rules, none_many, one_few, one_many, two_few, two_many, count_few, count_many, load_few)
      | in_default-via-in-Write+then-this-lt2-5 w ↦ search (rules, none_many, one_few, one_many, two_few, two_many, count_few, count_many, load_few)
      | in_default-via-in-Write+else-this-lt2-5+else-this-lt3-4 w ↦ search (rules, none_many, one_few, one_many, two_few, two_many, count_few, count_many, load_few)
      | in_default-via-in-Try+then-this-lt1-5 w ↦ search (rules, none_many, one_few, one_many, two_few, two_many, count_few, count_many, load_few)
      | in_default-via-in-Try+else-this-lt1-5+else-this-lt2-6 w ↦ search (rules, none_many, one_few, one_many, two_few, two_many, count_few, count_many, load_few)
      | in_default-via-in-Put+then-this-lt1-6 w ↦ search (rules, none_many, one_few, one_many, two_few, two_many, count_few, count_many, load_few)
      | in_default-via-in-Put+else-this-lt1-6+else-this-lt2-7 w ↦ search (rules, none_many, one_few, one_many, two_few, two_many, count_few, count_many, load_few)
    ]
