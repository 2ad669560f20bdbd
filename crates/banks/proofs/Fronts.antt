-- The groups of a number, one after another. Assumes nothing.
use Rattle.std.proofs.Common.{◌≡◌, ℕ, suc, ◌+◌, ◌-◌, ◌*◌, ◌%◌, ◌<◌, ◌≤◌, cond, ltb, List, ◌∷◌, Some, None, ap, ◌∙◌, arith, lt-ltb, le-ltb}
use Rattle.model.specs.Banks.{read_groups}

-- a group that others follow
pub next_group : (more n x : ℕ) (b : List ℕ) → 128 ≤ x → x < 256 → read_groups (suc more) n (x ∷ b) ≡ read_groups more (n * 128 + x % 128) b
next_group more n x b h f =
    let e : x - 128 ≡ x % 128 = omega arith in
    ap (λ t. cond t (Some (n * 128 + x, b)) (cond (ltb x 256) (read_groups more (n * 128 + (x - 128)) b) None)) (le-ltb x 128 h)
    ∙ ap (λ t. cond t (read_groups more (n * 128 + (x - 128)) b) None) (lt-ltb x 256 f)
    ∙ ap (λ y. read_groups more (n * 128 + y) b) e
