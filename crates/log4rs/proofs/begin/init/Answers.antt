use Rattle.log4rs.proofs.Lives.{both, none}
use Rattle.log4rs.proofs.begin.init.Goals as goal

pub begin-requires-static-S : goal.begin-requires-static-S
begin-requires-static-S g c κs within =
    let given = c.type_bounds in
    let x = given.static-X in
    let file = given.static-X-File in
    let dir = given.static-X-Dir in
    both _ _ (both _ _ x (both _ _ file (both _ _ dir none))) (both _ _ x none)

pub begin-requires-static-M-Made : goal.begin-requires-static-M-Made
begin-requires-static-M-Made g c κs within =
    let given = c.type_bounds in
    let x = given.static-X in
    let file = given.static-X-File in
    let dir = given.static-X-Dir in
    let files = both _ _ file (both _ _ dir none) in
    let one = both _ _ file none in
    let two = both _ _ (both _ _ one one) none in
    let open_file = both _ _ (both _ _ two (both _ _ two none)) none in
    let store = both _ _ (both _ _ (both _ _ x files) (both _ _ x open_file)) none in
    let once = both _ _ (both _ _ store store) none in
    both _ _ (both _ _ x once) (both _ _ x once)
