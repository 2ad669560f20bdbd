use Rattle.std.proofs.Common.{◌≡◌, ◌++◌, None, vec_items, refl, ◌∙◌, arith}
use Rattle.std.proofs.lemmas.Grind.{common_steps}
use Rattle.std.proofs.lemmas.Result.{err_from_is_err_and}
use Rattle.columns.specs.Members.{dependency, dependencies}
use Rattle.columns.specs.Named.{named_columns}
use Rattle.sorts.specs.Describing.{unknown_fault, twice_fault, sizes_fault, form_fault, named_dependency}
use Rattle.sorts.specs.Offered.{words}
use Rattle.sorts.proofs.Refusing.{passes, due_second}
use Rattle.sorts.proofs.description.Description.dependency.Goals as goal

pub returns-in_err-check_form : goal.returns-in_err-check_form
returns-in_err-check_form c =
    let C = named_columns (vec_items c.args.self.now.columns) in
    let D = dependencies (vec_items c.args.self.now.deps) in
    let L = words c.args.left.now in
    let R = words c.args.right.now in
    let known : unknown_fault C (L ++ R) ≡ None = grind (arith, common_steps) in
    let once : twice_fault (L ++ R) ≡ None = grind (arith, common_steps) in
    let sizes : sizes_fault D L R ≡ None = grind (arith, common_steps) in
    let e = err_from_is_err_and c.from_residual-in_err-check_form.result c.from_residual-in_err-check_form.ensures.1 in
    let same : form_fault D (named_dependency C L R) ≡ form_fault (dependencies c.deref-7.result.now) (dependency (record { left = c.named_set.result; right = c.named_set-2.result })) = rw (c.deref-7.ensures.value, c.named_set.ensures, c.named_set-2.ensures, c.deref-5.ensures.value, c.deref-6.ensures.value) refl in
    rw (e.1, e.2) (passes _ _ _ (λ f due. due_second _ _ _ known (due_second _ _ _ once (due_second _ _ _ sizes (same ∙ due)))) c.in_err-check_form.ensures)
