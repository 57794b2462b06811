-- Cells that are put back: a row is as it was.
use Rattle.std.proofs.Common.{◌≡◌, ◌≢◌, ℕ, inl, inr, List, get_or, set, Option, Some, None, sym, ◌∙◌, ap, subst}
use Rattle.std.proofs.lemmas.Bool.{cases_eq}
use Rattle.std.proofs.lemmas.List.{set-set, set-get_or, get_or-set_other}
use Rattle.tree_relations.specs.declared.prepared.SidePlace.{SidePlace}
use Rattle.multiway_join.specs.steps.Binding.{cell_at, with_cell}

-- the one cell that was written is put back
pub restored_cell : (v cell : ℕ) (row : List ℕ) → set (set row v cell) v (get_or row v 0) ≡ row
restored_cell v cell row = set-set row v cell (get_or row v 0) ∙ set-get_or row v 0

-- the same cell twice
one_cell : (v : ℕ) (row once both : List ℕ) → set once v (get_or row v 0) ≡ row → set both v (get_or once v 0) ≡ once → set (set both v (get_or row v 0)) v (get_or row v 0) ≡ row
one_cell v row once both first second =
    set-set both v (get_or row v 0) (get_or row v 0) ∙ sym (set-set both v (get_or once v 0) (get_or row v 0)) ∙ ap (λ cells. set cells v (get_or row v 0)) second ∙ first

two_cells : (v w : ℕ) (row once both : List ℕ) → w ≢ v → set once v (get_or row v 0) ≡ row → set both w (get_or once w 0) ≡ once → set (set both w (get_or row w 0)) v (get_or row v 0) ≡ row
two_cells v w row once both other first second =
    let same : get_or row w 0 ≡ get_or once w 0 = ap (λ cells. get_or cells w 0) (sym first) ∙ get_or-set_other once v w (get_or row v 0) 0 other in
    ap (λ cell. set (set both w cell) v (get_or row v 0)) same ∙ ap (λ cells. set cells v (get_or row v 0)) second ∙ first

restored_cells : (v w : ℕ) (row once both : List ℕ) → set once v (get_or row v 0) ≡ row → set both w (get_or once w 0) ≡ once → set (set both w (get_or row w 0)) v (get_or row v 0) ≡ row
restored_cells v w row once both first second = elim (cases_eq w v) as (λ _. set (set both w (get_or row w 0)) v (get_or row v 0) ≡ row) [
  | inl same ↦ subst (λ w. set (set both w (get_or row w 0)) v (get_or row v 0) ≡ row) (sym same) (one_cell v row once both first (subst (λ w. set both w (get_or once w 0) ≡ once) same second))
  | inr other ↦ two_cells v w row once both other first second
]

-- the cells at both sides are put back, where each was put back alone
pub restored_sides : (first second : Option SidePlace) (row once both : List ℕ) → with_cell first (cell_at first row) once ≡ row → with_cell second (cell_at second once) both ≡ once →
    with_cell first (cell_at first row) (with_cell second (cell_at second row) both) ≡ row
restored_sides None None row once both one two = two ∙ one
restored_sides None (Some b) row once both one two = subst (λ row. set both b.var.0 (get_or row b.var.0 0) ≡ row) one two
restored_sides (Some a) None row once both one two = ap (λ cells. set cells a.var.0 (get_or row a.var.0 0)) two ∙ one
restored_sides (Some a) (Some b) row once both one two = restored_cells a.var.0 b.var.0 row once both one two
