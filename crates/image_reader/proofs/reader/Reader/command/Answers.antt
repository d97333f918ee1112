use Rattle.std.proofs.Common.{◌+◌, ◌^◌, ◌<◌, length, refl, sym, ap, arith}
use Rattle.std.proofs.lemmas.List.{take_rest, length-drop}
use Rattle.image_reader.proofs.Commands.{none_left, not_due, too_short, stands}
use Rattle.image_reader.proofs.reader.Reader.command.Goals as goal

pub returns-in_default : goal.returns-in_default
returns-in_default g c =
    let none = rw take_rest at c.in_default.ensures.cases in
    none_left _ _ _ _ _ c.self.view_is none

pub returns-in_default-due_width : goal.returns-in_default-due_width
returns-in_default-due_width g c =
    let bytes = rw take_rest at c.in-Some.ensures.cases.0 in
    not_due _ _ _ _ _ c.self.view_is _ _ bytes (sym c.in_default-due_width.ensures)

pub returns-then-rest-width : goal.returns-then-rest-width
returns-then-rest-width g c =
    let bytes = rw take_rest at c.in-Some.ensures.cases.0 in
    too_short _ _ _ _ _ c.self.view_is _ _ bytes _
    (sym c.in-Some-due_width.ensures) c.if-rest-width.true

pub returns : goal.returns
returns g c =
    let bytes = rw take_rest at c.in-Some.ensures.cases.0 in
    let fits : c.self.inside.at + 1 + c.in-Some-due_width.width < 2 ^ 64 =
    omega (arith, ap length bytes, length-drop c.self.inside.at c.self.inside.image.now) in
    stands _ _ _ _ _ c.self.view_is _ _ bytes _
    (sym c.in-Some-due_width.ensures) _ _ c.if-rest-width.false refl refl refl refl refl fits
