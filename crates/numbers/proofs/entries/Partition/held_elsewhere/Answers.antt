-- By the chain over the four slots. Assumes nothing.
use Rattle.std.proofs.Common.{rules, refl, ◌∙◌}
use borrow.Author.Tests.{tests}
use Rattle.std.proofs.lemmas.Iterator.{YieldsList-from_range}
use Rattle.std.proofs.lemmas.Iterator.Search.{any_from_yields_List}
use Rattle.ground.proofs.Laws.Chain.{any_first}
use Rattle.numbers.specs.Entries.{other_holds}
use Rattle.numbers.proofs.entries.Partition.held_elsewhere.Goals as goal

pub returns : goal.returns
returns c =
    let a = c.args in
    let test = other_holds a.self.numbers.now a.self.p a.slot a.id in
    any_from_yields_List test _ _ _ c.any.ensures.ran (YieldsList-from_range 0 4 4 refl refl) (λ x b q k. (search rules, search (rules, tests)))
    ∙ any_first test 0 4 4 refl
