use Rattle.std.proofs.Common.{◌≡◌, [], ◌∷◌, length, Err, sym, refl, ap, ◌∙◌}
use lib.ListN.{length-map}
use Rattle.std.proofs.lemmas.Result.{err_from_is_err_and}
use Rattle.model.specs.Banks.{read_header, header, found, bad}
use Rattle.columns.specs.Named.{named_column, named_columns}
use Rattle.banks.specs.Fields.{kind_bytes}
use Rattle.banks.proofs.Texts.{answered, passed_on}
use Rattle.banks.proofs.Loops.{byte_of}
use Rattle.banks.proofs.cursor.Cursor.header.Goals as goal

pub returns-in_err-byte-2 : goal.returns-in_err-byte-2
returns-in_err-byte-2 c =
    let was = c.args.self.now in
    let next = c.byte.new.self in
    let C = named_columns c.args.columns.now in
    let first = c.in_ok-byte.ensures in
    let p = err_from_is_err_and c.from_residual-in_err-byte-2.result c.from_residual-in_err-byte-2.ensures.1 in
    let wide : length c.args.columns.now ≡ length C = sym (length-map c.args.columns.now named_column) in
    let start : read_header was.size (1 ∷ []) was.rest.now ≡ found tt next.rest.now = ap (λ n. read_header was.size (n ∷ []) was.rest.now) (sym c.from.ensures) ∙ first.0 in
    let opens : read_header was.size (header C) was.rest.now ≡ read_header next.size (length c.args.columns.now ∷ kind_bytes C) next.rest.now =
    byte_of was.size 1 (length C ∷ kind_bytes C) was.rest.now (found tt next.rest.now) start ∙ rw (first.1, wide) refl in
    passed_on (λ (u : Unit {0}). u) next.kind was.size was.kind c.byte-2.new.self (read_header next.size (length c.args.columns.now ∷ []) next.rest.now) (read_header was.size (header C) was.rest.now) c.in_err-byte-2.field-0.0 c.from_residual-in_err-byte-2.result
    c.in_err-byte-2.ensures
    (λ n q e. opens ∙ byte_of next.size (length c.args.columns.now) (kind_bytes C) next.rest.now (bad n q) e) first.2 (p.1 ∙ ap Err p.2)

pub returns : goal.returns
returns c =
    let was = c.args.self.now in
    let next = c.byte.new.self in
    let last = c.byte-2.new.self in
    let C = named_columns c.args.columns.now in
    let first = c.in_ok-byte.ensures in
    let second = c.in_ok-byte-2.ensures in
    let wide : length c.args.columns.now ≡ length C = sym (length-map c.args.columns.now named_column) in
    let start : read_header was.size (1 ∷ []) was.rest.now ≡ found tt next.rest.now = ap (λ n. read_header was.size (n ∷ []) was.rest.now) (sym c.from.ensures) ∙ first.0 in
    let opens : read_header was.size (header C) was.rest.now ≡ read_header next.size (length c.args.columns.now ∷ kind_bytes C) next.rest.now =
    byte_of was.size 1 (length C ∷ kind_bytes C) was.rest.now (found tt next.rest.now) start ∙ rw (first.1, wide) refl in
    answered (λ (u : Unit {0}). u) was.size last.size was.kind last.kind c.kinds.new.self (read_header last.size (kind_bytes C) last.rest.now) _ c.kinds.result c.kinds.ensures (second.1 ∙ first.1) (second.2 ∙ first.2)
    (opens ∙ byte_of next.size (length c.args.columns.now) (kind_bytes C) next.rest.now (found tt last.rest.now) second.0 ∙ ap (λ n. read_header n (kind_bytes C) last.rest.now) (sym second.1))
