use Rattle.merges.proofs.Heads.{head_less, head_equal, head_greater}
use Rattle.merges.proofs.chosen.first_key.Goals.{in-Less, in-Equal, in-Greater}
use Rattle.merges.proofs.chosen.first_key.Goals as goal

pub returns-after-order : goal.returns-after-order
returns-after-order g c =
    elim c.match-order.branch [
      | in-Less w ↦ rw w.result-is (head_less g.K.Key.kind g.K.Coded.bytes g.V.Coded.bytes _ _ _ _ _ c.in-Some-Some.ensures _ _ c.in-Some-Some.ensures' w.in-Less.ensures)
      | in-Equal w ↦ rw w.result-is (head_equal g.K.Key.kind g.K.Coded.bytes g.V.Coded.bytes _ _ _ _ _ c.in-Some-Some.ensures _ _ c.in-Some-Some.ensures' w.in-Equal.ensures)
      | in-Greater w ↦ rw w.result-is (head_greater g.K.Key.kind g.K.Coded.bytes g.V.Coded.bytes _ _ _ _ _ c.in-Some-Some.ensures _ _ c.in-Some-Some.ensures' w.in-Greater.ensures)
    ]
