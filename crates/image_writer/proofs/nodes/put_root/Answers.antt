use Rattle.image_writer.proofs.Roots.{root_fits, root_put}
use Rattle.image_writer.proofs.nodes.put_root.Goals as goal

pub put_node-requires : goal.put_node-requires
put_node-requires g c = root_fits _ _ _ _ _ _ c.in-Child.is _ _ c.requires

pub returns-in-Child : goal.returns-in-Child
returns-in-Child g c = root_put _ _ _ _ _ _ c.in-Child.is _ _ _ _ c.put_node.ensures
