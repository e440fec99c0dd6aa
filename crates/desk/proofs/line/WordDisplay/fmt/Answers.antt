-- The digits are text. Assumes nothing.
use Rattle.std.proofs.Common.{arith}
use Rattle.std.proofs.lemmas.Grind.{common_steps}
use Rattle.desk.proofs.Laws.Hex.{word_is_text}
use Rattle.desk.proofs.line.WordDisplay.fmt.Goals as goal

pub unwrap-requires : goal.unwrap-requires
unwrap-requires g c =
    let text = word_is_text c.args.self.now.0 in
    let read = c.from_utf8.ensures.cases in
    grind (arith, common_steps)
