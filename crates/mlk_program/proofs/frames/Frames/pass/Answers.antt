use Rattle.std.proofs.Common.{◌∙◌, sym}
use Rattle.mlk_program.proofs.KeyTables.{same_keys, learns_passed}
use Rattle.mlk_program.proofs.frames.Frames.pass.Goals as goal

pub returns : goal.returns
returns c =
    let none = sym c.has_passed.ensures ∙ c.if-has_passed.false in
    rw (← c.self.view_is) (learns_passed _ same_keys c.self.inside.filled.keys c.self.inside.passed.entries c.insert.new.self.entries _
    c.args.part.left (rw (← c.self.view_is) at none) c.in-Ok.ensures.entries)
