use Rattle.model.proofs.Images.Rows.{row_image}
use Rattle.model.proofs.Images.Round.{round_trip, same_image}
use Rattle.model.proofs.Images.Exact.{exact}
use Rattle.model.proofs.images_stand.Goals as goal

pub returns : goal.returns
returns g c =
    let K = g.K.Key.kind in
    let V = g.V.Value.kind in
    record { read_back = λ m law. (row_image K V m law, round_trip K V m law); only_images = exact K V; one_map = same_image K V }
