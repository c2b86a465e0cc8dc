use Rattle.std.proofs.Common.{◌≡◌, true, inr, rules, ◌∙◌}
use Rattle.sessions.specs.Files.{file_of}
use Rattle.editors.specs.Saving.{is_saveable}
use Rattle.editors.proofs.save.save.Goals as goal

pub returns : goal.returns
returns g c =
    let ls = c.args.lines.now in
    let is : (is_saveable ls ≡ true) × (c.in-Some.bytes.items ≡ file_of ls) = search rules in
    inr (is.0, (c.write.result, (c.deref.result, c.write.ensures, c.deref.ensures.value ∙ is.1), search rules))
